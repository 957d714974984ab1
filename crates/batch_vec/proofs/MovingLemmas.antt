-- A batch that moves keeps its bytes, and its calls are those of its buffers.
use Rattle.std.proofs.Common.{◌≡◌, ℕ, ◌≤◌, List, map, sym, ◌∙◌, ap, subst}
use Rattle.std.proofs.lemmas.Simd.{map-map}
use Rattle.std.specs.Prelude.{Err}
use Rattle.mem_num.specs.declared.alloc_id.AllocId.{AllocId}
use Rattle.mem_num.specs.declared.closed.Closed.{Closed as ClosedAt}
use Rattle.mem_num.specs.declared.ref_refused.RefRefused.{RefRefused}
use Rattle.mem_num.specs.declared.ref_refused.RefRefused.TheVariants.{Closed}
use Rattle.mem_buf.specs.declared.arrow_buf.ArrowBuf.{ArrowBuf}
use Rattle.mem_buf.specs.Callers.{CanShare}
use Rattle.mem_buf.specs.Chain.{MemoryModel, Runs}
use Rattle.mem_buf.specs.Moving.{AreMoved, IsRefusedMove}
use Rattle.mem_buf.specs.TokenView.{TokenView}
use Rattle.mem_buf.specs.View.{bytes_in}
use Rattle.mem_buf.proofs.MovingLemmas.{move_never_closed}
use Rattle.query_model.specs.declared.kind.Kind.{Kind}
use Rattle.batch_vec.specs.Batches.{bytes_of}
use Rattle.batch_vec.specs.Columns.{IsStored, rows_in}

-- buffers with the same views have the same bytes
pub bytes_kept : {H : Type 0} (moved buffers : List (ArrowBuf H)) → map (λ buf. buf.view) moved ≡ map (λ buf. buf.view) buffers
    → bytes_of moved ≡ bytes_of buffers
bytes_kept moved buffers same =
    sym (map-map bytes_in (λ buf. buf.view) moved) ∙ ap (map bytes_in) same ∙ map-map bytes_in (λ buf. buf.view) buffers

-- and hold the same rows
pub stored_kept : (count : ℕ) (kinds : List Kind) (moved buffers : List (List ℕ)) → moved ≡ buffers
    → IsStored count kinds buffers (rows_in count kinds buffers) → IsStored count kinds moved (rows_in count kinds moved)
stored_kept count kinds moved buffers same stored =
    subst (λ list. IsStored count kinds list (rows_in count kinds list)) (sym same) stored

module _ {Token Hold : Type 0} (memory : MemoryModel Token Hold) (target : AllocId) (buffers : List (ArrowBuf Hold)) (holds : List Hold)
    (are : map (λ buf. buf.hold) buffers ≡ holds) where
  -- the references of the buffers are those of their holds
  named_as : map (λ buf. memory.reference buf.hold) buffers ≡ map memory.reference holds
  named_as = sym (map-map memory.reference (λ buf. buf.hold) buffers) ∙ ap (map memory.reference) are

  -- who can pay for the holds can pay for the buffers
  pub can_share : (view : TokenView) → CanShare view target (map memory.reference holds)
      → CanShare view target (map (λ buf. memory.reference buf.hold) buffers)
  can_share view pays = subst (CanShare view target) (sym named_as) pays

  -- all moved
  pub moved_as : (moved : List (ArrowBuf Hold)) (old new : Token)
      → Runs memory (AreMoved target (map (λ buf. memory.reference buf.hold) buffers) (map (λ buf. memory.reference buf.hold) moved)) old new
      → Runs memory (AreMoved target (map memory.reference holds) (map memory.reference (map (λ buf. buf.hold) moved))) old new
  moved_as moved old new runs =
      subst (λ sources. Runs memory (AreMoved target sources (map memory.reference (map (λ buf. buf.hold) moved))) old new) named_as
      (subst (λ targets. Runs memory (AreMoved target (map (λ buf. memory.reference buf.hold) buffers) targets) old new)
      (sym (map-map memory.reference (λ buf. buf.hold) moved)) runs)

  -- one was refused
  pub unmoved_as : (told refused : RefRefused) (old new : Token) → told ≡ refused
      → Runs memory (IsRefusedMove target (map (λ buf. memory.reference buf.hold) buffers) told) old new
      → Runs memory (IsRefusedMove target (map memory.reference holds) refused) old new
  unmoved_as told refused old new same runs =
      subst (λ sources. Runs memory (IsRefusedMove target sources refused) old new) named_as
      (subst (λ r. Runs memory (IsRefusedMove target (map (λ buf. memory.reference buf.hold) buffers) r) old new) same runs)

  -- and none as closed
  pub unmoved_closed : (told : RefRefused) (closed : ClosedAt) (old new : Token) → told ≡ Closed closed
      → 1 ≤ (memory.view old).pins target.0
      → Runs memory (IsRefusedMove target (map (λ buf. memory.reference buf.hold) buffers) told) old new → ⊥
  unmoved_closed told closed old new same pinned runs =
      move_never_closed memory target (map memory.reference holds) closed old new pinned (unmoved_as told (Closed closed) old new same runs)
