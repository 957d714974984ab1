-- What a token can pay for, once it has paid for some of it.
use Rattle.std.proofs.Common.{◌≡◌, ℕ, ◌+◌, ◌*◌, ◌≤◌, List, ◌∷◌, length, get_or, ap, sym, ◌∙◌, arith, tests}
use Rattle.std.proofs.lemmas.Bool.{cases_lt, cond_both}
use Rattle.std.proofs.lemmas.Bool.Decides.{nat_tests}
use Rattle.std.proofs.lemmas.List.Sums.{sum_by-cons, sum_by-le}
use Rattle.std.specs.Prelude.{◌==◌, if◌then◌else◌, sum_by, Result}
use Rattle.std.specs.Option.{unwrap_or}
use Rattle.mem_num.specs.Rounded.{rounded_size}
use Rattle.mem_num.specs.declared.bounds.TheConstants.{LARGEST}
use Rattle.mem_num.specs.declared.rounding.Rounding.TheVariants.{Power}
use Rattle.mem_num.specs.declared.alloc_id.AllocId.{AllocId}
use Rattle.mem_num.specs.declared.buffer_ref.Ref.{Ref}
use Rattle.mem_num.specs.declared.buffer_refused.BufferRefused.{BufferRefused}
use Rattle.mem_buf.specs.TokenView.{TokenView, CanName, size_for, bytes_for, turns_for, charged_for, is_empty, turns_to_share}
use Rattle.mem_buf.specs.MemoryCall.{Grant}
use Rattle.mem_buf.specs.Changes.{ChangesView, KeepsNames}
use Rattle.mem_buf.specs.Callers.{CanPay, CanShare}

-- no buffer is charged more than the largest
pub charged_few : (size : ℕ) → charged_for size ≤ LARGEST
charged_few size = grind (arith, nat_tests, tests, cases_lt LARGEST size)

-- few enough requests can be paid for, whatever their sizes
pub CanPay-few : (view : TokenView) (at : AllocId) (requests : List ℕ) → CanName view at → length requests * LARGEST ≤ view.bytes
    → length requests ≤ view.turns → CanPay view at requests
CanPay-few view at requests named bytes turns = record {
  named = named;
  bytes = omega (
    arith,
    sum_by-le (bytes_for view at) LARGEST requests (λ k d within. charged_few (size_for view at (get_or requests k d))),
  );
  turns = omega (
    arith,
    sum_by-le (turns_for view at) 1 requests (λ k d within.
        cond_both (bytes_for view at (get_or requests k d) == 0) 0 1 (λ turns. turns ≤ 1) (λ _. omega arith) (λ _. omega arith)),
  );
}

-- as many further references as there are turns can be paid for
pub CanShare-few : (view : TokenView) (target : AllocId) (references : List Ref) → CanName view target
    → length references ≤ view.turns → CanShare view target references
CanShare-few view target references named turns = record {
  named = named;
  turns = omega (
    arith,
    sum_by-le turns_to_share 1 references (λ k d within.
        cond_both (is_empty (get_or references k d)) 0 1 (λ turns. turns ≤ 1) (λ _. omega arith) (λ _. omega arith)),
  );
}

-- an allocator that could be named has its rounding still
pub rounding_kept : (at : AllocId) (old new : TokenView) → CanName old at → KeepsNames old new
    → new.rounding at.0 ≡ old.rounding at.0
rounding_kept at old new named kept = kept.rounding at.0 Power named ∙ sym named

module _ (at : AllocId) (request : ℕ) (left : List ℕ) where
  -- the first request can be paid for
  pub CanPay-bytes : (view : TokenView) → CanPay view at (request ∷ left) → bytes_for view at request ≤ view.bytes
  CanPay-bytes view pays = let all = pays.bytes in omega (arith, sum_by-cons (bytes_for view at) request left)

  pub CanPay-turns : (view : TokenView) → CanPay view at (request ∷ left) → turns_for view at request ≤ view.turns
  CanPay-turns view pays = let all = pays.turns in omega (arith, sum_by-cons (turns_for view at) request left)

  -- and after it those that are left
  pub CanPay-rest : (answer : Result Ref BufferRefused) (old new : TokenView) → CanPay old at (request ∷ left)
      → ChangesView (Grant at request answer) old new → CanPay new at left
  CanPay-rest answer old new pays changes =
      let spent = pays.bytes in
      let turned = pays.turns in
      let bytes : old.bytes ≤ new.bytes + bytes_for old at request = changes.bytes in
      let turns : old.turns ≤ new.turns + turns_for old at request = changes.turns in
      let same : new.rounding at.0 ≡ old.rounding at.0 = rounding_kept at old new pays.named changes.names in
      let same_bytes : sum_by (bytes_for new at) left ≡ sum_by (bytes_for old at) left =
      ap (λ policy. sum_by (λ r. charged_for (rounded_size (unwrap_or policy Power) r)) left) same in
      let same_turns : sum_by (turns_for new at) left ≡ sum_by (turns_for old at) left =
      ap (λ policy. sum_by (λ r. if charged_for (rounded_size (unwrap_or policy Power) r) == 0 then 0 else 1) left) same in
      record {
        named = same ∙ pays.named;
        bytes = omega (arith, sum_by-cons (bytes_for old at) request left);
        turns = omega (arith, sum_by-cons (turns_for old at) request left);
      }
