-- Walks that add an amount: how far they have come after each level, and where they end.
use Rattle.std.proofs.Common.{◌≡◌, ℕ, ◌+◌, ◌<◌, max, List, [], ◌∷◌, Bool, false, cond, eqb, Option, Some, None, refl}
use Rattle.std.proofs.Common.{sym, ap, ◌∙◌, arith, add-zero, inl, inr, ◌⊎◌, ne_eqb, eq-eqb}
use Rattle.std.specs.List.{Contains}
use Rattle.std.proofs.lemmas.Bool.{cases_lt, cases_Bool, cases_order}
use Rattle.std.proofs.lemmas.List.Sums.{sum_by-cons}
use Rattle.mem_num.specs.declared.alloc_id.AllocId.{AllocId}
use Rattle.mem_num.specs.declared.full.Full.{Full}
use Rattle.mem_model.specs.declared.charge.Charge.{Charge}
use Rattle.mem_model.specs.declared.tree_node.TreeNode.{TreeNode}
use Rattle.mem_model.specs.Charge.{amount_at}
use Rattle.mem_model.specs.Balance.{Balances, LacksAmount, raised}
use Rattle.mem_model.specs.Held.{held_of}
use Rattle.mem_model.specs.MeasuredTree.{raised_peaks}
use Rattle.mem_model.specs.PeakSample.{PeakSample, is_counted, held_in}
use Rattle.mem_model.specs.Reservation.{beyond_reservation}
use Rattle.mem_model.specs.TreeNode.{IsAllocatorTree}
use Rattle.mem_model.proofs.BalanceLemmas.{balanced_is_held, raise_passes_on}
use Rattle.alloc_tree.specs.Walk.{IsRefusal, charge_sample, peak_refusal}
use Rattle.alloc_tree.proofs.WalkLemmas.{IsAhead, IsPassed, IsOpenNext, peak_with, IsRaising, IsOpenNode, next_open_of, ahead_of}
use Rattle.alloc_tree.proofs.WalkLemmas.{passed_is_held, next_is_held, refusal_at, peak_at, not_refusing, peak_of_none, peak_behind_by}
use Rattle.alloc_tree.proofs.WalkLemmas.{counts_by, sample_holds, refusal_ends, IsAtLevel, refused_after, peak_here_by}

-- peaks that one sample raises
raised_once : (peaks : ℕ → ℕ) (sample : PeakSample) (m : ℕ)
    → raised_peaks peaks (sample ∷ []) m ≡ cond (is_counted m sample) (max (peaks m) (held_in m sample)) (peaks m)
raised_once peaks sample m = elim (cases_Bool (is_counted m sample)) [ inl counts ↦ rw counts refl | inr skips ↦ rw skips refl ]

passed_or_ahead : (next : Option AllocId) (m : ℕ) → IsPassed next m ⊎ IsAhead next m
passed_or_ahead None m = inl tt
passed_or_ahead (Some p) m = elim (cases_lt p.0 m) [ inl passed ↦ inl passed | inr ahead ↦ inr ahead ]

-- where a walk ends, the numbers balance with the request, and its sample has raised the peaks
pub record IsRaised (is_forced : Bool) (nodes : List TreeNode) (charges : List Charge) (request : Charge)
    (peaks new_held new_peaks : ℕ → ℕ) (answer : Option Full) : Type 0 where
  pub held : Balances nodes (request ∷ charges) new_held
  pub refusal : IsRefusal nodes charges request answer
  pub measured : new_peaks ≡ raised_peaks peaks (charge_sample is_forced nodes charges request ∷ [])

module _ (is_forced : Bool) (nodes : List TreeNode) (charges : List Charge) (request : Charge)
    (held peaks : ℕ → ℕ) (tree : IsAllocatorTree nodes) (balance : Balances nodes charges held) where
  abbrev Rising : (ℕ → ℕ) → (ℕ → ℕ) → Option AllocId → ℕ → Option Full → Type 0
  Rising = IsRaising is_forced nodes charges request held peaks

  -- before the first level
  pub raising_starts : (e : TreeNode) → Contains nodes e → e.closed ≡ false → e.number ≡ request.at
      → Rising held peaks (Some request.at) request.amount None
  raising_starts e place is_open number =
      let lacks : LacksAmount nodes (request ∷ charges) held (Some request.at) request.amount = λ n. omega (
        arith,
        balance n,
        sum_by-cons (amount_at n) request charges,
      ) in
      let next : IsOpenNext nodes (Some request.at) = (e, place, is_open, number) in
      let same : (m : ℕ) → request.at.0 < m → held_of nodes (request ∷ charges) m ≡ held_of nodes charges m =
      λ m behind. passed_is_held nodes (request ∷ charges) held tree (Some request.at) request.amount next lacks m behind
      ∙ balanced_is_held nodes charges held tree balance m in
      record {
        lacks = lacks;
        next_open = next;
        held_ahead = λ m ahead. refl;
        peaks_ahead = λ m ahead. refl;
        refused = λ x among behind. not_refusing nodes charges request x (same x.number.0 behind);
        peaks_passed = λ m behind. peak_of_none nodes charges request None peaks m (same m behind);
      }

  module _ (g q : ℕ → ℕ) {e : TreeNode} (node : IsOpenNode nodes e) (amount : ℕ) (refusal : Option Full) (some : 0 < amount)
      (h : Rising g q (Some e.number) amount refusal) where
    passed : LacksAmount nodes (request ∷ charges) (raised g e.number.0 amount) e.parent
        (beyond_reservation e.reservation (g e.number.0) (g e.number.0 + amount))
    passed = raise_passes_on nodes (request ∷ charges) g amount e tree.ordered node.place node.is_open h.lacks

    at_level : IsAtLevel nodes charges request g e amount
    at_level =
        let c = e.number.0 in
        record {
          node = node;
          with_request = next_is_held nodes (request ∷ charges) g tree e amount node.place node.is_open h.lacks;
          before = sym (balanced_is_held nodes charges held tree balance c) ∙ sym (h.held_ahead c (omega arith));
          some = some;
          between = λ m below behind. (
              let off : eqb m c ≡ false = ne_eqb m c (λ same. omega (arith, same, below)) in
              passed_is_held nodes (request ∷ charges) (raised g c amount) tree e.parent _
              (next_open_of node e.parent refl) passed m behind
              ∙ rw off (add-zero (g m)) ∙ h.held_ahead m (omega (arith, below)) ∙ balanced_is_held nodes charges held tree balance m);
        }

    -- one level
    pub raising_goes_on : (q' : ℕ → ℕ)
        → ((m : ℕ) → q' m ≡ cond (eqb m e.number.0)
        (peak_at (q e.number.0) (g e.number.0 + amount)
        (peak_refusal is_forced (refusal_at request.at e (g e.number.0) amount refusal))) (q m))
        → Rising (raised g e.number.0 amount) q' e.parent (beyond_reservation e.reservation (g e.number.0) (g e.number.0 + amount))
        (refusal_at request.at e (g e.number.0) amount refusal)
    raising_goes_on q' set_peak =
        let c = e.number.0 in
        let heeded = peak_refusal is_forced (refusal_at request.at e (g c) amount refusal) in
        let off : (m : ℕ) → (m ≡ c → ⊥) → q' m ≡ q m = λ m other. set_peak m ∙ rw (ne_eqb m c other) refl in
        record {
          lacks = passed;
          next_open = next_open_of node e.parent refl;
          held_ahead = λ m ahead. (
              let below : m < c = ahead_of node e.parent refl m ahead in
              rw (ne_eqb m c (λ same. omega (arith, same, below))) (add-zero (g m)) ∙ h.held_ahead m (omega (arith, below)));
          peaks_ahead = λ m ahead. (
              let below : m < c = ahead_of node e.parent refl m ahead in
              off m (λ same. omega (arith, same, below)) ∙ h.peaks_ahead m (omega (arith, below)));
          refused = refused_after at_level refusal h.refused;
          peaks_passed = λ m behind. elim (cases_order m c) [
            | inl same ↦ set_peak m ∙ rw (eq-eqb m c same)
                (peak_here_by at_level is_forced peaks q refusal (h.peaks_ahead c (omega arith)) h.refused
                ∙ ap (peak_with nodes charges request heeded peaks) (sym same))
            | inr (inl less) ↦ off m (λ same. omega (arith, same, less)) ∙ h.peaks_ahead m (omega (arith, less))
                ∙ peak_of_none nodes charges request heeded peaks m (at_level.between m less behind)
            | inr (inr more) ↦ off m (λ same. omega (arith, same, more)) ∙ h.peaks_passed m more
                ∙ peak_behind_by nodes charges request is_forced peaks e (g c) amount refusal m more
          ];
        }

  pub raising_ends : {g q : ℕ → ℕ} {next : Option AllocId} {amount : ℕ} {refusal : Option Full}
      → Balances nodes (request ∷ charges) g → Rising g q next amount refusal
      → IsRaised is_forced nodes charges request peaks g q refusal
  raising_ends {g = g} {q = q} {next = next} {refusal = refusal} trial h =
      let where_is : (m : ℕ) → IsPassed next m ⊎ IsAhead next m = passed_or_ahead next in
      let same : (m : ℕ) → IsAhead next m → held_of nodes (request ∷ charges) m ≡ held_of nodes charges m =
      λ m ahead. sym (balanced_is_held nodes (request ∷ charges) g tree trial m) ∙ h.held_ahead m ahead
      ∙ balanced_is_held nodes charges held tree balance m in
      let answered : IsRefusal nodes charges request refusal =
      refusal_ends nodes charges request next refusal
      (λ x. elim (where_is x.number.0) [ inl passed ↦ inl passed | inr ahead ↦ inr (same x.number.0 ahead) ]) h.refused in
      let sample = charge_sample is_forced nodes charges request in
      let heeded = peak_refusal is_forced refusal in
      let seen : (m : ℕ) → q m ≡ raised_peaks peaks (sample ∷ []) m =
      λ m. elim (where_is m) [
        | inl passed ↦ h.peaks_passed m passed
        | inr ahead ↦ h.peaks_ahead m ahead ∙ peak_of_none nodes charges request heeded peaks m (same m ahead)
      ]
      ∙ ap (λ b. cond b (max (peaks m) (held_of nodes (request ∷ charges) m)) (peaks m))
      (sym (counts_by nodes charges request is_forced refusal m answered))
      ∙ ap (λ n. cond (is_counted m sample) (max (peaks m) n) (peaks m)) (sym (sample_holds nodes charges request is_forced m))
      ∙ sym (raised_once peaks sample m) in
      record { held = trial; refusal = answered; measured = λ i m. seen m i }
