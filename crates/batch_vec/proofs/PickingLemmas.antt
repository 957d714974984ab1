-- Things that stand two a column, of which those of some columns are taken out.
use Rattle.std.proofs.Common.{◌≡◌, ℕ, zero, suc, ◌+◌, ◌*◌, ◌<◌, ◌≤◌, Bool, true, false, List, [], ◌∷◌, ◌++◌, length, take, drop, get_or, refl, sym, ◌∙◌, ap}
use Rattle.std.proofs.Common.{arith, append_assoc, subst, All}
use Rattle.std.proofs.Math.ListN.{get_or-append}
use Rattle.std.proofs.Math.Numerals.{add-one}
use Rattle.std.proofs.Math.Seq.{drop-cons, drop-append-add, get_or-append_seam, take-add, take-append_seam, take-length}
use Rattle.std.proofs.lemmas.Grind.{flat_map-append}
use Rattle.std.proofs.lemmas.List.{drop-drop, length-append, length-drop, length-take-le, take-append-drop, append-nil}
use Rattle.std.proofs.lemmas.List.Elements.{All-head, All-tail}
use Rattle.std.specs.Prelude.{filter, nat_eq, not, ◌==◌}
use Rattle.std.specs.List.{flat_map, list_any, range_with_len}
use Rattle.query_model.specs.Fit.{are_different}
use Rattle.query_model.specs.SequentialCalls.{unpicked}
use Rattle.batch_vec.specs.Moving.{of_columns, two_of}
use Rattle.batch_vec.proofs.UnpickedLemmas.{pick_fresh, unpicked_none, unpicked_there, unpicked_more, unpicked_rise, unpicked_within, without_one, Rises}

-- what holds of all holds of the first
all_before : {X : Type 0} (P : X → Type 0) (xs ys : List X) → All P (xs ++ ys) → All P xs
all_before P xs ys all k d within =
    let both = length-append xs ys in
    subst P (get_or-append xs ys d k within) (all k d (omega (arith, within, both)))

-- one is taken out
removed : {X : Type 0} (front : List X) (x : X) (back old new : List X) (n : ℕ) (taken : X) → old ≡ front ++ x ∷ back → length front ≡ n
    → taken ≡ get_or old n taken → new ≡ take n old ++ drop (n + 1) old → (taken ≡ x) × (new ≡ front ++ back)
removed front x back old new n taken is long there rest =
    let one : length front + 1 ≡ n + 1 = omega (arith, long) in (
      there ∙ ap (λ list. get_or list n taken) is ∙ ap (λ k. get_or (front ++ x ∷ back) k taken) (sym long)
          ∙ get_or-append_seam front x back taken,
      rest ∙ ap (λ list. take n list ++ drop (n + 1) list) is
          ∙ ap (λ k. take k (front ++ x ∷ back) ++ drop (n + 1) (front ++ x ∷ back)) (sym long)
          ∙ ap (λ k. take (length front) (front ++ x ∷ back) ++ drop k (front ++ x ∷ back)) (sym one)
          ∙ (λ k. take-append_seam front (x ∷ back) k ++ drop-append-add front (x ∷ back) 1 k),
    )

-- of things that stand two a column
module _ {X : Type 0} (all : List X) (columns : ℕ) (many : length all ≡ 2 * columns) where
  -- those of a column are two
  pub two_are : (c : ℕ) (d : X) → c < columns → two_of all c ≡ get_or all (2 * c) d ∷ get_or all (2 * c + 1) d ∷ []
  two_are c d within =
      let first = drop-cons all (2 * c) d (omega (arith, within, many)) in
      let second = drop-cons all (suc (2 * c)) d (omega (arith, within, many)) in
      ap (take 2) (first ∙ ap (λ rest. get_or all (2 * c) d ∷ rest) second)
      ∙ ap (λ n. get_or all (2 * c) d ∷ get_or all n d ∷ []) (sym (add-one (2 * c)))

  -- so those of some columns are twice as many
  columns_long : (cs : List ℕ) → All (λ c. c < columns) cs → length (of_columns all cs) ≡ 2 * length cs
  columns_long [] within = omega arith
  columns_long (c ∷ cs) within =
      let rest = columns_long cs (All-tail (λ n. n < columns) c cs within) in
      let first : length (two_of all c) ≡ 2 =
      length-take-le 2 (drop (2 * c) all) (let lower = All-head (λ n. n < columns) c cs within in
      let left = length-drop (2 * c) all in omega (arith, left, lower, many)) in
      length-append (two_of all c) (of_columns all cs) ∙ omega (arith, first, rest)

  -- some columns were taken out, and the others are left
  pub record HasTaken (done left : List ℕ) (picked rest : List X) : Type 0 where
    pub left_are : left ≡ unpicked columns done
    pub rest_are : rest ≡ of_columns all left
    pub picked_are : picked ≡ of_columns all done

  -- a column is in their midst
  split_at : (left : List ℕ) (place p : ℕ) → place < length left → get_or left place p ≡ p
      → left ≡ take place left ++ p ∷ drop (suc place) left
  split_at left place p within there =
      sym (take-append-drop place left)
      ∙ ap (λ list. take place left ++ list) (drop-cons left place p within ∙ ap (λ n. n ∷ drop (suc place) left) there)

  -- one more was taken out
  pub HasTaken-one : (done left left2 : List ℕ) (picked rest rest1 rest2 : List X) (p place : ℕ) (a b : X)
      → HasTaken done left picked rest → p < columns → place < length left → get_or left place p ≡ p
      → left2 ≡ take place left ++ drop (place + 1) left
      → a ≡ get_or rest (2 * place) a → rest1 ≡ take (2 * place) rest ++ drop (2 * place + 1) rest
      → b ≡ get_or rest1 (2 * place) b → rest2 ≡ take (2 * place) rest1 ++ drop (2 * place + 1) rest1
      → HasTaken (done ++ p ∷ []) left2 ((picked ++ a ∷ []) ++ b ∷ []) rest2
  HasTaken-one done left left2 picked rest rest1 rest2 p place a b has below within there left_is a_there rest1_is b_there rest2_is =
      let front = take place left in
      let back = drop (suc place) left in
      let split = split_at left place p within there in
      let each = unpicked_within columns done in
      let each_left : All (λ c. c < columns) left = subst (All (λ c. c < columns)) (sym has.left_are) each in
      let each_front : All (λ c. c < columns) front =
      all_before (λ c. c < columns) front (p ∷ back) (subst (All (λ c. c < columns)) split each_left) in
      let long : length (of_columns all front) ≡ 2 * place =
      columns_long front each_front ∙ ap (λ n. 2 * n) (length-take-le place left (omega (arith, within))) in
      let x = get_or all (2 * p) a in
      let y = get_or all (2 * p + 1) a in
      let two = two_are p a below in
      let rest_is : rest ≡ of_columns all front ++ x ∷ (y ∷ of_columns all back) =
      has.rest_are ∙ ap (of_columns all) split ∙ flat_map-append (two_of all) front (p ∷ back)
      ∙ ap (λ list. of_columns all front ++ (list ++ of_columns all back)) two in
      let first = removed (of_columns all front) x (y ∷ of_columns all back) rest rest1 (2 * place) a rest_is long a_there rest1_is in
      let second = removed (of_columns all front) y (of_columns all back) rest1 rest2 (2 * place) b first.1 long b_there rest2_is in
      let fewer : left2 ≡ unpicked columns (done ++ p ∷ []) =
      left_is ∙ ap (λ n. front ++ drop n left) (add-one place)
      ∙ sym (without_one p 0 left place within there (subst (λ ns. Rises 0 ns) (sym has.left_are) (unpicked_rise columns done)))
      ∙ ap (filter (λ n. not (p == n))) has.left_are ∙ sym (unpicked_more done p columns) in
      record {
        left_are = fewer;
        rest_are = second.1 ∙ sym (flat_map-append (two_of all) front back)
            ∙ ap (of_columns all) (sym (left_is ∙ ap (λ n. front ++ drop n left) (add-one place)));
        picked_are = append_assoc picked (a ∷ []) (b ∷ []) ∙ (λ k. has.picked_are k ++ (first.0 k ∷ second.0 k ∷ []))
            ∙ ap (λ list. of_columns all done ++ list) (sym two)
            ∙ ap (λ list. of_columns all done ++ list) (sym (append-nil (two_of all p)))
            ∙ sym (flat_map-append (two_of all) done (p ∷ []));
      }

  -- all columns one after the other are all
  part_is : (a k : ℕ) → of_columns all (range_with_len a k) ≡ take (2 * k) (drop (2 * a) all)
  part_is a zero = refl
  part_is a (suc k) =
      let next : 2 * a + 2 ≡ 2 * (a + 1) = omega arith in
      let both : 2 + 2 * k ≡ 2 * suc k = omega arith in
      ap (λ list. two_of all a ++ list) (part_is (a + 1) k ∙ ap (λ n. take (2 * k) (drop n all)) (sym next)
      ∙ ap (take (2 * k)) (sym (drop-drop 2 (2 * a) all)))
      ∙ sym (take-add 2 (2 * k) (drop (2 * a) all)) ∙ ap (λ n. take n (drop (2 * a) all)) both

  whole_is : all ≡ of_columns all (range_with_len 0 columns)
  whole_is =
      let none : 0 ≡ 2 * 0 = omega arith in
      sym (part_is 0 columns ∙ ap (λ n. take (2 * columns) (drop n all)) (sym none) ∙ ap (λ n. take n all) (sym many) ∙ take-length all)

  -- none was taken out
  pub HasTaken-none : (left : List ℕ) (picked rest : List X) → left ≡ range_with_len 0 columns → picked ≡ [] → rest ≡ all
      → HasTaken [] left picked rest
  HasTaken-none left picked rest is none same = record {
    left_are = is ∙ unpicked_none columns;
    rest_are = same ∙ whole_is ∙ ap (of_columns all) (sym is);
    picked_are = none;
  }

  -- there are two for each column that is left
  pub rest_long : (done left : List ℕ) (picked rest : List X) → HasTaken done left picked rest → length rest ≡ 2 * length left
  rest_long done left picked rest has =
      ap length has.rest_are
      ∙ columns_long left (subst (All (λ c. c < columns)) (sym has.left_are) (unpicked_within columns done))

  -- and the next pick is one of those
  pub pick_there : (picks left : List ℕ) (picked rest : List X) (i : ℕ) → HasTaken (take i picks) left picked rest
      → are_different nat_eq picks ≡ true → All (λ c. c < columns) picks → i < length picks
      → list_any (nat_eq (get_or picks i 0)) left ≡ true
  pick_there picks left picked rest i has different within below =
      subst (λ list. list_any (nat_eq (get_or picks i 0)) list ≡ true) (sym has.left_are)
      (unpicked_there columns (take i picks) (get_or picks i 0) (within i 0 below) (pick_fresh picks i different below))
