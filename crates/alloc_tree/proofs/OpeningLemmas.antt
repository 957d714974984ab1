-- A tree with its root alone.
use Rattle.std.proofs.Common.{◌≡◌, ℕ, zero, suc, ◌≤◌, ◌-◌, List, [], ◌∷◌, get_or, replicate}
use Rattle.std.proofs.Common.{Option, Some, None, refl}
use Rattle.std.proofs.Common.{sym, ap, subst, ◌∙◌}
use Rattle.mem_num.specs.declared.bounds.TheConstants.{MAX_LIMIT, MOST_ALLOCATORS}
use Rattle.mem_model.specs.Chunk.{Chunk}
use Rattle.mem_model.specs.LawfulState.{IsLawfulState}
use Rattle.mem_model.specs.TreeState.{TreeState, root_node, opened}
use Rattle.mem_model.proofs.LawfulLemmas.{opened_lawful}
use Rattle.alloc_tree.specs.declared.row.Row.{Row}
use Rattle.alloc_tree.specs.Fields.{KeepsNumbers, state_with}
use Rattle.alloc_tree.specs.Placed.{root_row, opened_rows}
use Rattle.alloc_tree.specs.Rows.{nodes_from, nodes_in, kept_of, held_by, uses_in, peaks_in, peaks_of}
use Rattle.alloc_tree.proofs.OpenLemmas.{peaks_of-at}

-- rows without an allocator
nodes_none : (first n : ℕ) → nodes_from first (replicate n None) ≡ []
unfolding nodes_from
nodes_none first zero = refl
nodes_none first (suc n) = nodes_none (suc first) n

pub nodes_opened : (limit : ℕ) → nodes_in (opened_rows limit) ≡ root_node limit ∷ []
unfolding nodes_from
nodes_opened limit = ap (λ xs. root_node limit ∷ xs) (nodes_none 1 (MOST_ALLOCATORS - 1))

kept_none : (field : Row → ℕ) (n m : ℕ) → kept_of field (replicate n None) m ≡ 0
kept_none field zero m = refl
kept_none field (suc n) zero = refl
kept_none field (suc n) (suc m) = kept_none field n m

-- what is 0 for the root is 0 for all
pub kept_opened : (field : Row → ℕ) (limit n : ℕ) → field (root_row limit) ≡ 0 → kept_of field (opened_rows limit) n ≡ 0
kept_opened field limit zero none = none
kept_opened field limit (suc n) none = kept_none field (MOST_ALLOCATORS - 1) n

opened_held : (limit n : ℕ) → held_by (opened_rows limit) n ≡ 0
opened_held limit n = kept_opened (λ r. r.held) limit n refl

opened_uses : (limit n : ℕ) → uses_in (opened_rows limit) n ≡ 0
opened_uses limit n = kept_opened (λ r. r.uses) limit n refl

-- where no `Some` is related, what is related is `None`
pub only_none : {X : Type 0} (R : Option X → Type 0) → ((x : X) → R (Some x) → ⊥) → (y : Option X) → R y → y ≡ None
only_none R none None h = refl
only_none R none (Some x) h = absurd (none x h)

pub opened_is : (limit : ℕ) (rows : List (Option Row)) (chunks : List Chunk) → rows ≡ opened_rows limit → chunks ≡ []
    → state_with rows chunks 1 0 ≡ opened limit
opened_is limit rows chunks rows_are chunks_are =
    let nodes = ap nodes_in rows_are ∙ nodes_opened limit in
    λ i. record { nodes = nodes i; chunks = chunks_are i; next = 1; drawn = 0 }

-- such a tree is sound
pub opened_sound : (limit : ℕ) (rows : List (Option Row)) (chunks : List Chunk) → limit ≤ MAX_LIMIT → rows ≡ opened_rows limit
    → chunks ≡ [] → IsLawfulState (state_with rows chunks 1 0) × KeepsNumbers rows (state_with rows chunks 1 0)
opened_sound limit rows chunks limited rows_are chunks_are =
    let state : state_with rows chunks 1 0 ≡ opened limit = opened_is limit rows chunks rows_are chunks_are in (
      subst IsLawfulState (sym state) (opened_lawful limit limited),
      subst (λ (s : TreeState). KeepsNumbers rows s) (sym state) (subst (λ rs. KeepsNumbers rs (opened limit)) (sym rows_are) (record {
        held = λ n. opened_held limit n;
        uses = λ n. opened_uses limit n;
      })),
    )

-- and no peak was measured on it
pub opened_peaks : (limit : ℕ) (rows : List (Option Row)) (n : ℕ) → rows ≡ opened_rows limit → get_or (peaks_of rows) n 0 ≡ 0
opened_peaks limit rows n rows_are = peaks_of-at rows n ∙ ap (λ rs. peaks_in rs n) rows_are ∙ kept_opened (λ r. r.peak) limit n refl
