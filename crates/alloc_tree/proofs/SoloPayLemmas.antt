-- What a tree of one thread can pay for, shown as a token.
use Rattle.std.proofs.Common.{◌≤◌, ◌==◌, ℕ, arith}
use Rattle.std.proofs.lemmas.Bool.{cond_both}
use Rattle.mem_num.specs.Rounded.{rounded_size}
use Rattle.mem_num.specs.declared.alloc_id.AllocId.{AllocId}
use Rattle.mem_num.specs.declared.buffer_ref.Ref.{Ref}
use Rattle.mem_num.specs.declared.rounding.Rounding.TheVariants.{Power}
use Rattle.mem_model.specs.MeasuredTree.{MeasuredTree}
use Rattle.mem_buf.proofs.PayLemmas.{charged_few}
use Rattle.mem_buf.specs.TokenView.{is_empty, bytes_for, turns_for, turns_to_share}
use Rattle.alloc_tree.specs.Counting.{HasCallsLeft}
use Rattle.alloc_tree.specs.SoloView.{solo_view}

-- the bytes of any request
pub pays_bytes : (tree : MeasuredTree) (at : AllocId) (request : ℕ) → bytes_for (solo_view tree) at request ≤ (solo_view tree).bytes
pays_bytes tree at request = omega (arith, charged_few (rounded_size Power request))

-- and its turn, while calls are left
pub pays_turn : (tree : MeasuredTree) (at : AllocId) (request : ℕ) → HasCallsLeft tree
    → turns_for (solo_view tree) at request ≤ (solo_view tree).turns
pays_turn tree at request left =
    cond_both (bytes_for (solo_view tree) at request == 0) 0 1 (λ turns. turns ≤ (solo_view tree).turns) (λ _. omega arith)
    (λ _. omega (arith, left))

-- and that of a further reference
pub pays_to_share : (tree : MeasuredTree) (of : Ref) → HasCallsLeft tree → turns_to_share of ≤ (solo_view tree).turns
pays_to_share tree of left =
    cond_both (is_empty of) 0 1 (λ turns. turns ≤ (solo_view tree).turns) (λ _. omega arith) (λ _. omega (arith, left))
