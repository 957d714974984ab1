-- Giving back one after the other.
use Rattle.std.proofs.Common.{◌≡◌, List, [], ◌∷◌, ◌++◌, refl, sym, ◌∙◌, ap, subst, append_assoc}
use Rattle.std.proofs.lemmas.List.{map-append, append-nil}
use Rattle.std.specs.Prelude.{Bool, map}
use Rattle.mem_num.specs.declared.buffer_ref.Ref.{Ref}
use Rattle.mem_buf.specs.MemoryCall.{Release}
use Rattle.mem_buf.specs.Chain.{MemoryModel, MakesCall, MakesCalls, Runs}
use Rattle.mem_buf.specs.Callers.{releases, GivesBack}
use Rattle.mem_buf.proofs.ChainLemmas.{MakesCalls-snoc}

module _ {Token Hold X : Type 0} (memory : MemoryModel Token Hold) (reference : X → Ref) where
  -- what was given back so far, when some of all are left
  pub record HasGivenBack (all left : List X) (old new : Token) : Type 0 where
    pub returned : List (Ref × Bool)
    pub calls : MakesCalls memory (releases returned) old new
    pub rest : map (λ one. one.0) returned ++ map reference left ≡ map reference all

  pub HasGivenBack-none : (all : List X) (token : Token) → HasGivenBack all all token token
  HasGivenBack-none all token = record { returned = []; calls = refl; rest = refl }

  pub HasGivenBack-one : (all left : List X) (one : X) (gone : Bool) (old middle new : Token) → HasGivenBack all (one ∷ left) old middle
      → MakesCall memory (Release (reference one) gone) middle new → HasGivenBack all left old new
  HasGivenBack-one all left one gone old middle new done made =
      let last : List (Ref × Bool) = (reference one, gone) ∷ [] in
      record {
        returned = done.returned ++ last;
        calls = subst (λ calls. MakesCalls memory calls old new) (sym (map-append _ done.returned last))
            (MakesCalls-snoc memory (releases done.returned) (Release (reference one) gone) old middle new done.calls made);
        rest = ap (λ front. front ++ map reference left) (map-append _ done.returned last)
            ∙ append_assoc (map (λ pair. pair.0) done.returned) (reference one ∷ []) (map reference left) ∙ done.rest;
      }

  pub HasGivenBack-all : (all : List X) (old new : Token) → HasGivenBack all [] old new
      → Runs memory (GivesBack (map reference all)) old new
  HasGivenBack-all all old new done =
      (releases done.returned, done.calls, (done.returned, refl, sym (append-nil _) ∙ done.rest))

-- nothing to give back
pub GivesBack-none : {Token Hold : Type 0} (memory : MemoryModel Token Hold) (token : Token) → Runs memory (GivesBack []) token token
GivesBack-none memory token = ([], refl, ([], refl, refl))
