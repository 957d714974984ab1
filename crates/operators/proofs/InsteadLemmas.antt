-- What it comes to that rows are stored in the place of batches.
use Rattle.std.proofs.Common.{◌≡◌, ℕ, List, [], ◌∷◌, ◌++◌, map, refl, sym, ◌∙◌, subst, append_assoc}
use Rattle.std.specs.Prelude.{Result, Err}
use Rattle.std.proofs.lemmas.List.{append-nil, map-append}
use Rattle.mem_num.specs.declared.alloc_id.AllocId.{AllocId}
use Rattle.mem_num.specs.declared.buffer_ref.Ref.{Ref}
use Rattle.mem_buf.specs.Callers.{GivesBack}
use Rattle.mem_buf.specs.Chain.{MemoryModel, Runs}
use Rattle.mem_buf.proofs.ChainLemmas.{MakesCalls-append}
use Rattle.mem_buf.proofs.StoringLemmas.{HasStored-unasked}
use Rattle.batch_vec.specs.Batches.{BatchView, IsStoreRows}
use Rattle.batch_vec.specs.declared.refused.OpRefused.{OpRefused}
use Rattle.batch_vec.specs.declared.refused.OpRefused.TheVariants.{NoMemory}
use Rattle.operators.specs.Instead.{IsStoreInstead, references_of}

module _ {Token Hold : Type 0} (memory : MemoryModel Token Hold) where
  -- a storing, and then what is given back
  pub stored-instead : (at : AllocId) (lengths : List ℕ) (references : List Ref) (answer : Result (BatchView Hold) OpRefused)
      (old middle new : Token) → Runs memory (IsStoreRows memory.reference (memory.view old) at lengths answer) old middle
      → Runs memory (GivesBack references) middle new
      → Runs memory (IsStoreInstead memory.reference (memory.view old) at lengths references answer) old new
  stored-instead at lengths references answer old middle new stored back = (
    stored.0 ++ back.0,
    MakesCalls-append memory stored.0 back.0 old middle new stored.1 back.1,
    record { stored = stored.0; returned = back.0; storing = stored.2; given_back = back.2; order = refl },
  )

  -- want of memory before anything was asked for
  pub unstored-instead : (at : AllocId) (lengths : List ℕ) (references : List Ref) (old new : Token)
      → Runs memory (GivesBack references) old new
      → Runs memory (IsStoreInstead memory.reference (memory.view old) at lengths references (Err NoMemory)) old new
  unstored-instead at lengths references old new back =
      stored-instead at lengths references (Err NoMemory) old old new (HasStored-unasked memory at lengths old) back

  -- what is given back after something else
  pub gives-more : (first second : List Ref) (old middle new : Token) → Runs memory (GivesBack first) old middle
      → Runs memory (GivesBack second) middle new → Runs memory (GivesBack (first ++ second)) old new
  gives-more first second old middle new one two = (
    one.0 ++ two.0,
    MakesCalls-append memory one.0 two.0 old middle new one.1 two.1,
    (
      one.2.0 ++ two.2.0,
      (λ k. one.2.1 k ++ two.2.1 k) ∙ sym (map-append _ one.2.0 two.2.0),
      map-append _ one.2.0 two.2.0 ∙ (λ k. one.2.2 k ++ two.2.2 k),
    ),
  )

  -- the holds of some batches were given back, when others are left
  pub record HasReleased (all left : List (BatchView Hold)) (old new : Token) : Type 0 where
    pub done : List Ref
    pub back : Runs memory (GivesBack done) old new
    pub rest : done ++ references_of memory.reference left ≡ references_of memory.reference all

  pub HasReleased-none : (all : List (BatchView Hold)) (token : Token) → HasReleased all all token token
  HasReleased-none all token = record { done = []; back = ([], refl, ([], refl, refl)); rest = refl }

  pub HasReleased-one : (all left : List (BatchView Hold)) (one : BatchView Hold) (old middle new : Token) → HasReleased all
      (one ∷ left) old middle
      → Runs memory (GivesBack (map memory.reference one.holds)) middle new → HasReleased all left old new
  HasReleased-one all left one old middle new before back =
      let these : List Ref = map memory.reference one.holds in
      record {
        done = before.done ++ these;
        back = gives-more before.done these old middle new before.back back;
        rest = append_assoc before.done these (references_of memory.reference left) ∙ before.rest;
      }

  pub HasReleased-all : (all : List (BatchView Hold)) (old new : Token) → HasReleased all [] old new
      → Runs memory (GivesBack (references_of memory.reference all)) old new
  HasReleased-all all old new done =
      subst (λ references. Runs memory (GivesBack references) old new) (sym (append-nil done.done) ∙ done.rest) done.back
