-- What a release answers.
use Rattle.std.specs.Prelude.{◌≡◌, ◌≢◌, ℕ, ◌≤◌, ◌==◌, nat_lt, if◌then◌else◌, List, [], ◌∷◌}
use Rattle.mem_num.specs.Least.{IsLeast}
use Rattle.mem_num.specs.declared.alloc_id.AllocId.{AllocId}
use Rattle.mem_model.specs.declared.ledger.Ledger.{Ledger}
use Rattle.ledger_map.specs.declared.after.After.{After}
use Rattle.ledger_map.specs.declared.after.After.TheVariants.{Same, Gone, Moved, Freed}
use Rattle.mem_model.specs.Ledgers.{count_of}
use Rattle.ledger_map.specs.LedgerState.{LedgerState}

-- what the release of a reference of the allocator n answers, by the owner before and the ledgers that remain
abbrev pub after_of : ℕ → AllocId → List Ledger → After
after_of n owner [] = Freed
after_of n owner (first ∷ rest) =
    if nat_lt 0 (count_of (first ∷ rest) n) then Same
    else if owner.0 == n then Moved first.at
    else Gone

-- the owner stays, unless the answer names another
abbrev pub new_owner : AllocId → After → AllocId
new_owner owner Same = owner
new_owner owner Gone = owner
new_owner owner (Moved next) = next
new_owner owner Freed = owner

-- the same in the rule's own words, from the state before to the state after
abbrev pub IsAfter : ℕ → LedgerState → LedgerState → After → Type 0
IsAfter n old new Same = (1 ≤ count_of new.ledgers n) × (new.owner ≡ old.owner)
IsAfter n old new Gone = (count_of new.ledgers n ≡ 0) × (old.owner.0 ≢ n) × (new.owner ≡ old.owner)
IsAfter n old new (Moved next) = (count_of new.ledgers n ≡ 0) × (old.owner.0 ≡ n) × (new.owner ≡ next) × IsLeast (λ m. 1 ≤ count_of new.ledgers m) next.0
IsAfter n old new Freed = (new.ledgers ≡ []) × (new.owner ≡ old.owner)
