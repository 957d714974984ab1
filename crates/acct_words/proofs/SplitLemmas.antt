-- A split and a join keep the rule.
use Rattle.std.proofs.Common.{◌≡◌, ℕ, List, [], ◌∷◌, ◌++◌, length, set, refl, sym, ap, ◌∙◌, subst, arith, All, ⊎_elim}
use mathlib.Core.Option.{some}
use lib.ListN.{get_elem?}
use Rattle.std.proofs.lemmas.List.Elements.{All-append, All-nil}
use Rattle.atomic_table.specs.Table.{State, Splits, Joins}
use Rattle.atomic_table.proofs.Lists.{at_set, at_snoc, set_else}
use Rattle.acct_core.specs.Claims.{Claim}
use Rattle.acct_words.specs.Views.{Start, Chunk, Body, View}
use Rattle.acct_words.specs.declared.rule.Said.{Said}
use Rattle.acct_words.specs.Entries.{InHistory}
use Rattle.acct_words.specs.Bodies.{plus, left, right, both, spent, total, IsWeight, made, bytes_left, turns_left, charging, chunk_sizes}
use Rattle.acct_words.specs.Bodies.{numbered}
use Rattle.acct_words.specs.Rows.{charges_of, claims_of, rows_of}
use Rattle.acct_words.specs.Rule.{IsGoodView, IsKnown, IsSoundTable}
use Rattle.acct_words.proofs.ViewLemmas.{total_cut, total_join, made_weighs, bytes_weigh, turns_weigh, charges_weigh, sizes_weigh}
use Rattle.acct_words.proofs.ViewLemmas.{numbers_weigh}
use Rattle.acct_core.proofs.SameClaimsLemmas.{same_fixed, same_from, All-left, All-right}
use Rattle.acct_words.proofs.ClaimLemmas.{claims_of-sum, its_charges, all_at, all_from}
use Rattle.acct_words.proofs.KeptLemmas.{good_nothing, good_plus}

-- what the bodies have may lie in other views, if each weight stays as it was
regrouped : (start : Start) (s t : State Said View) (k : IsSoundTable start s) → t.words ≡ s.words →
    ((f : Body → ℕ) → IsWeight f → total f t.views ≡ total f s.views)
    → ((P : Claim → Type 0) → ((j : ℕ) (v : View) → get_elem? s.views j ≡ some v → All P (its_charges v)) → (j : ℕ) (v : View) →
    get_elem? t.views j ≡ some v → All P (its_charges v))
    → ((id : ℕ) (v : View) → get_elem? t.views id ≡ some v → IsGoodView k.history v)
    → ((id : ℕ) (v : View) → get_elem? t.views id ≡ some v → All (IsKnown start) v.known) → IsSoundTable start t
regrouped start s t k w same all good known = record {
  history = k.history;
  layout = record { small = k.layout.small; wide = ap length w ∙ k.layout.wide; fixed = λ n h. rw w (k.layout.fixed n h) };
  accounts = rw w (same_fixed (rows_of start.tree 0 s.words) (claims_of s.views) (claims_of t.views)
      (same_from (claims_of s.views) (claims_of t.views)
      (λ f. (let a = claims_of-sum f s.views in let b = claims_of-sum f t.views in let c = same (charging f) (charges_weigh f) in
      omega arith))
      (λ P h. all_from P t.views (all P (all_at P s.views h)))) k.accounts);
  steps = record { placed = λ f. same (made f) (made_weighs f) ∙ k.steps.placed f; legal = k.steps.legal };
  tokens = good;
  known = known;
  budget = record {
    bytes = (let e = same bytes_left bytes_weigh in let p = k.budget.bytes in omega arith);
    turns = (let e = same turns_left turns_weigh in let p = k.budget.turns in omega arith);
    sizes = (let e = same chunk_sizes sizes_weigh in let p = k.budget.sizes in omega arith);
  };
  peaks = record {
    reached = λ n h. rw w (k.peaks.reached n h);
    bounded = λ n h. rw w (k.peaks.bounded n h);
  };
  numbers = record {
    next = rw w k.numbers.next;
    drawn = λ n. (let e = same (numbered n) (numbers_weigh n) in let p = k.numbers.drawn n in omega arith);
    fresh = λ n h. k.numbers.fresh n (rw (← w) h);
  };
}

-- the charges of two lists of chunks
charges_of-append : (P : Claim → Type 0) (xs ys : List Chunk) → All P (charges_of xs) → All P (charges_of ys) →
    All P (charges_of (xs ++ ys))
charges_of-append P [] ys h g = g
charges_of-append P (k ∷ xs) ys h g = All-append P k.charges (charges_of (xs ++ ys)) (All-left P k.charges (charges_of xs) h)
    (charges_of-append P xs ys (All-right P k.charges (charges_of xs) h) g)

-- what a view offers goes to a new token
pub cuts : (start : Start) (id : ℕ) (v : View) → Splits (IsSoundTable {S = Said} start) id v (left v) (right v)
cuts start id v s k at = regrouped start s (record { words = s.words; homes = s.homes; views = set s.views id (left v) ++ right v ∷ [] })
    k refl
    (λ f h. total_cut f h s.views id v at)
    (λ P h j x g. (let mine = h id v at in ⊎_elim
    (λ g'. ⊎_elim (λ q. subst (λ (y : View). All P (its_charges y)) q.1 (All-append P (charges_of v.own.chunks) []
    (All-left P (charges_of v.own.chunks) (charges_of v.offer.chunks) mine) (All-nil P))) (λ q. h j x q.1)
    (at_set s.views id j (left v) x g'))
    (λ e. subst (λ (y : View). All P (its_charges y)) e (All-append P (charges_of v.offer.chunks) []
    (All-right P (charges_of v.own.chunks) (charges_of v.offer.chunks) mine) (All-nil P)))
    (at_snoc (set s.views id (left v)) (right v) x j g)))
    (λ j x g. (let mine = k.tokens id v at in let none = good_nothing k.history in ⊎_elim
    (λ g'. ⊎_elim (λ q. subst (IsGoodView k.history) q.1 (mine.0, none)) (λ q. k.tokens j x q.1) (at_set s.views id j (left v) x g'))
    (λ e. subst (IsGoodView k.history) e (
      record {
        own_steps = mine.1.own_steps;
        observed = All-append (InHistory k.history) v.offer.observed (v.own.own_steps ++ v.own.observed) mine.1.observed
            (All-append (InHistory k.history) v.own.own_steps v.own.observed mine.0.own_steps mine.0.observed);
        chunks = mine.1.chunks;
      },
      none,
    ))
    (at_snoc (set s.views id (left v)) (right v) x j g)))
    (λ j x g. ⊎_elim
    (λ g'. ⊎_elim (λ q. subst (λ (y : View). All (IsKnown start) y.known) q.1 (k.known id v at)) (λ q. k.known j x q.1)
    (at_set s.views id j (left v) x g'))
    (λ e. subst (λ (y : View). All (IsKnown start) y.known) e (All-nil (IsKnown start)))
    (at_snoc (set s.views id (left v)) (right v) x j g))

-- a token takes in another
pub joins : (start : Start) (id other : ℕ) (v w : View) → Joins (IsSoundTable {S = Said} start) id v other w (both v w) spent
joins start id other v w s k at ne at' =
    let was : get_elem? s.views other ≡ some w = sym (set_else s.views id other (both v w) ne) ∙ at' in
    let mine = k.tokens id v at in let its = k.tokens other w was in let none = good_nothing k.history in
    regrouped start s (record { words = s.words; homes = s.homes; views = set (set s.views id (both v w)) other spent }) k refl
    (λ f h. total_join f h s.views id other v w at at')
    (λ P h j x g. ⊎_elim
    (λ q. subst (λ (y : View). All P (its_charges y)) q.1 (All-nil P))
    (λ q. ⊎_elim (λ r. subst (λ (y : View). All P (its_charges y)) r.1 (joined P (h id v at) (h other w was))) (λ r. h j x r.1)
    (at_set s.views id j (both v w) x q.1))
    (at_set (set s.views id (both v w)) other j spent x g))
    (λ j x g. ⊎_elim
    (λ q. subst (IsGoodView k.history) q.1 (none, none))
    (λ q. ⊎_elim
    (λ r. subst (IsGoodView k.history) r.1 (
      good_plus k.history v.own (plus w.own w.offer) mine.0
          (good_plus k.history w.own w.offer its.0 its.1),
      mine.1,
    ))
    (λ r. k.tokens j x r.1)
    (at_set s.views id j (both v w) x q.1))
    (at_set (set s.views id (both v w)) other j spent x g))
    (λ j x g. ⊎_elim
    (λ q. subst (λ (y : View). All (IsKnown start) y.known) q.1 (All-nil (IsKnown start)))
    (λ q. ⊎_elim (λ r. subst (λ (y : View). All (IsKnown start) y.known) r.1 (k.known id v at)) (λ r. k.known j x r.1)
    (at_set s.views id j (both v w) x q.1))
    (at_set (set s.views id (both v w)) other j spent x g))
  where
    joined : (P : Claim → Type 0) → All P (its_charges v) → All P (its_charges w) → All P (its_charges (both v w))
    joined P a b = All-append P (charges_of (v.own.chunks ++ (w.own.chunks ++ w.offer.chunks))) (charges_of v.offer.chunks)
        (charges_of-append P v.own.chunks (w.own.chunks ++ w.offer.chunks) (All-left P (charges_of v.own.chunks)
        (charges_of v.offer.chunks) a)
        (charges_of-append P w.own.chunks w.offer.chunks (All-left P (charges_of w.own.chunks) (charges_of w.offer.chunks) b)
        (All-right P (charges_of w.own.chunks) (charges_of w.offer.chunks) b)))
        (All-right P (charges_of v.own.chunks) (charges_of v.offer.chunks) a)
