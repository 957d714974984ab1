-- The causes of each answer, one by one, as `Memory` states them: each follows from the answer that a call may have.
use Rattle.std.proofs.Common.{◌≡◌, ◌≢◌, ℕ, ◌<◌, ◌≤◌, Bool, true, subst, ap, ◌∙◌, arith, refl}
use Rattle.std.specs.Prelude.{◌↔◌, IfOk, IsOk, Result, Ok, Err}
use Rattle.mem_num.specs.declared.bounds.TheConstants.{LARGEST, MOST_ALLOCATORS}
use Rattle.mem_num.specs.declared.alloc_id.AllocId.{AllocId}
use Rattle.mem_num.specs.declared.buffer_ref.Ref.{Ref}
use Rattle.mem_num.specs.declared.closed.Closed.{Closed}
use Rattle.mem_num.specs.declared.full.Full.{Full}
use Rattle.mem_num.specs.declared.buffer_refused.BufferRefused.{BufferRefused}
use Rattle.mem_num.specs.declared.buffer_refused.BufferRefused.TheVariants as buffer
use Rattle.mem_num.specs.declared.child_refused.ChildRefused.{ChildRefused}
use Rattle.mem_num.specs.declared.child_refused.ChildRefused.TheVariants as child
use Rattle.mem_num.specs.declared.not_closed.NotClosed.{NotClosed}
use Rattle.mem_num.specs.declared.not_closed.NotClosed.TheVariants as closing
use Rattle.mem_num.specs.declared.ref_refused.RefRefused.{RefRefused}
use Rattle.mem_num.specs.declared.ref_refused.RefRefused.TheVariants as sharing
use Rattle.mem_buf.specs.Answers.{IsPastLimit, IsGranted, IsFurther, IsChildAnswer, IsCloseAnswer, IsGrantAnswer, IsRetainAnswer}
use Rattle.mem_buf.specs.Answers.{IsTransferAnswer}
use Rattle.mem_buf.specs.MemoryCall.{named, named_fit}
use Rattle.mem_buf.specs.TokenView.{TokenView, is_empty}

-- what the making of a child is answered
pub record HasChildCauses (view : TokenView) (parent : AllocId) (reservation limit : ℕ)
    (result : Result AllocId ChildRefused) : Type 0 where
  pub above : result ≡ Err (child.ReserveAboveLimit reservation limit) ↔ limit < reservation
  pub closed : (closed : Closed) → result ≡ Err (child.Closed closed) → closed.node ≡ parent
  pub nodes : (next : ℕ) → result ≡ Err (child.Nodes next) → MOST_ALLOCATORS ≤ next
  pub full : (full : Full) → result ≡ Err (child.Full full) → IsPastLimit view full

pub child-causes : (view : TokenView) (parent : AllocId) (reservation limit : ℕ) (result : Result AllocId ChildRefused)
    → IsChildAnswer view parent reservation limit result → HasChildCauses view parent reservation limit result
child-causes view parent reservation limit (Ok made) is = record {
  above = (λ e. absurd cc, λ above. absurd (omega (arith, is, above)));
  closed = λ closed e. absurd cc;
  nodes = λ next e. absurd cc;
  full = λ full e. absurd cc;
}
child-causes view parent reservation limit (Err (child.ReserveAboveLimit asked most)) is = record {
  above = (
    λ e. is.0,
    λ above. ap (λ n. Err (child.ReserveAboveLimit n most)) is.1 ∙ ap (λ n. Err (child.ReserveAboveLimit reservation n))
        is.2,
  );
  closed = λ closed e. absurd cc;
  nodes = λ next e. absurd cc;
  full = λ full e. absurd cc;
}
child-causes view parent reservation limit (Err (child.Closed refused)) is = record {
  above = (λ e. absurd cc, λ above. absurd (omega (arith, is.0, above)));
  closed = λ closed e. let same : refused ≡ closed = cc in subst (λ (c : Closed). c.node ≡ parent) same is.1;
  nodes = λ next e. absurd cc;
  full = λ full e. absurd cc;
}
child-causes view parent reservation limit (Err (child.Nodes found)) is = record {
  above = (λ e. absurd cc, λ above. absurd (omega (arith, is.0, above)));
  closed = λ closed e. absurd cc;
  nodes = λ next e. let same : found ≡ next = cc in subst (λ n. MOST_ALLOCATORS ≤ n) same is.1;
  full = λ full e. absurd cc;
}
child-causes view parent reservation limit (Err (child.Full refused)) is = record {
  above = (λ e. absurd cc, λ above. absurd (omega (arith, is.0, above)));
  closed = λ closed e. absurd cc;
  nodes = λ next e. absurd cc;
  full = λ full e. let same : refused ≡ full = cc in subst (IsPastLimit view) same is.1;
}

-- what a closing is answered
pub close-in_use : (result : Result (Unit {0}) NotClosed) → IsCloseAnswer result → (uses : ℕ) → result ≡ Err (closing.InUse uses) → 1 ≤ uses
close-in_use (Ok done) is uses e = absurd cc
close-in_use (Err (closing.InUse found)) is uses e = let same : found ≡ uses = cc in subst (λ n. 1 ≤ n) same is
close-in_use (Err (closing.Closed found)) is uses e = absurd cc

module _ {Hold : Type 0} (reference : Hold → Ref) (view : TokenView) where
  -- what a request for a buffer is answered
  pub record HasGrantCauses (at : AllocId) (request size : ℕ) (result : Result Hold BufferRefused) : Type 0 where
    pub granted : IfOk result (λ hold. IsGranted at size (reference hold))
    pub too_large : result ≢ Err buffer.NoMemory → (result ≡ Err (buffer.TooLarge (record { request = request })) ↔ LARGEST < size)
    pub closed : (closed : Closed) → result ≡ Err (buffer.Closed closed) → closed.node ≡ at
    pub unpinned : (closed : Closed) → result ≡ Err (buffer.Closed closed) → view.pins at.0 ≡ 0
    pub full : (full : Full) → result ≡ Err (buffer.Full full) → IsPastLimit view full

  pub grant-causes : (at : AllocId) (request size : ℕ) (result : Result Hold BufferRefused)
      → IsGrantAnswer view at request size (named reference result) → HasGrantCauses at request size result
  grant-causes at request size (Ok hold) is = record {
    granted = is.1;
    too_large = λ _. (λ e. absurd cc, λ large. absurd (omega (arith, is.0, large)));
    closed = λ closed e. absurd cc;
    unpinned = λ closed e. absurd cc;
    full = λ full e. absurd cc;
  }
  grant-causes at request size (Err (buffer.TooLarge refused)) is = record {
    granted = tt;
    too_large = λ _. (λ e. is.0, λ large. ap (λ n. Err (buffer.TooLarge (record { request = n }))) is.1);
    closed = λ closed e. absurd cc;
    unpinned = λ closed e. absurd cc;
    full = λ full e. absurd cc;
  }
  grant-causes at request size (Err (buffer.Closed refused)) is = record {
    granted = tt;
    too_large = λ _. (λ e. absurd cc, λ large. absurd (omega (arith, is.0, large)));
    closed = λ closed e. let same : refused ≡ closed = cc in subst (λ (c : Closed). c.node ≡ at) same is.1;
    unpinned = λ closed e. is.2;
    full = λ full e. absurd cc;
  }
  grant-causes at request size (Err (buffer.Full refused)) is = record {
    granted = tt;
    too_large = λ _. (λ e. absurd cc, λ large. absurd (omega (arith, is.0, large)));
    closed = λ closed e. absurd cc;
    unpinned = λ closed e. absurd cc;
    full = λ full e. let same : refused ≡ full = cc in subst (IsPastLimit view) same is.2;
  }
  grant-causes at request size (Err buffer.NoMemory) is = record {
    granted = tt;
    too_large = λ other. absurd (other refl);
    closed = λ closed e. absurd cc;
    unpinned = λ closed e. absurd cc;
    full = λ full e. absurd cc;
  }

  -- what retaining is answered
  pub record HasRetainCauses (of : Ref) (target : AllocId) (result : Result Hold RefRefused) : Type 0 where
    pub further : IfOk result (λ hold. IsFurther of target (reference hold))
    pub empty : is_empty of ≡ true → IsOk result
    pub closed : (closed : Closed) → result ≡ Err (sharing.Closed closed) → closed.node ≡ target
    pub unpinned : (closed : Closed) → result ≡ Err (sharing.Closed closed) → view.pins target.0 ≡ 0

  pub retain-causes : (of : Ref) (target : AllocId) (result : Result Hold RefRefused)
      → IsRetainAnswer view of target (named reference result) → HasRetainCauses of target result
  retain-causes of target (Ok hold) is =
      record { further = is; empty = λ _. refl; closed = λ closed e. absurd cc; unpinned = λ closed e. absurd cc }
  retain-causes of target (Err (sharing.Closed refused)) is = record {
    further = tt;
    empty = λ e. absurd cc;
    closed = λ closed e. let same : refused ≡ closed = cc in subst (λ (c : Closed). c.node ≡ target) same is.1;
    unpinned = λ closed e. is.2;
  }
  retain-causes of target (Err sharing.NoMemory) is =
      record { further = tt; empty = λ e. absurd cc; closed = λ closed e. absurd cc; unpinned = λ closed e. absurd cc }

  -- what transferring is answered
  pub record HasTransferCauses (of : Ref) (target : AllocId) (result : Result (Hold × Bool) RefRefused) : Type 0 where
    pub further : IfOk result (λ moved. IsFurther of target (reference moved.0))
    pub empty : is_empty of ≡ true → IsOk result
    pub fits : is_empty of ≡ true → IfOk result (λ moved. moved.1 ≡ true)
    pub closed : (closed : Closed) → result ≡ Err (sharing.Closed closed) → closed.node ≡ target
    pub unpinned : (closed : Closed) → result ≡ Err (sharing.Closed closed) → view.pins target.0 ≡ 0

  pub transfer-causes : (of : Ref) (target : AllocId) (result : Result (Hold × Bool) RefRefused)
      → IsTransferAnswer view of target (named_fit reference result) → HasTransferCauses of target result
  transfer-causes of target (Ok moved) is = record {
    further = is.0;
    empty = λ _. refl;
    fits = is.1;
    closed = λ closed e. absurd cc;
    unpinned = λ closed e. absurd cc;
  }
  transfer-causes of target (Err (sharing.Closed refused)) is = record {
    further = tt;
    empty = λ e. absurd cc;
    fits = λ e. tt;
    closed = λ closed e. let same : refused ≡ closed = cc in subst (λ (c : Closed). c.node ≡ target) same is.1;
    unpinned = λ closed e. is.2;
  }
  transfer-causes of target (Err sharing.NoMemory) is = record {
    further = tt;
    empty = λ e. absurd cc;
    fits = λ e. tt;
    closed = λ closed e. absurd cc;
    unpinned = λ closed e. absurd cc;
  }
