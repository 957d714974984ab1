use Rattle.std.proofs.Common.{◌≡◌, ◌<◌, ◌∙◌, ◌+◌, ◌++◌, ◌∷◌, [], List, ℕ, arith, length, sym, subst}
use Rattle.std.proofs.lemmas.Bool.{eq-eqb, false≢true}
use Rattle.row_text.specs.Lines.{IsFirstRecord}
use Rattle.row_text.proofs.LineLemmas.{IsScanned, scan-begins, scan-comma, scan-copies, scan-end, scan-line}
use Rattle.row_text.proofs.lines.cut_record.Goals as goal
use Rattle.row_text.proofs.lines.cut_record.Goals.{then-byte-eq44+in_ok-push, else-byte-eq44+else-byte-eq10+else-byte-eq34+else-byte-eq13}

pub bytes-init : goal.bytes-init
bytes-init c =
    let any : length c.args.text.now ≡ 0 → ⊥ = (λ e. false≢true (sym c.if-is_empty.false ∙ c.is_empty.ensures ∙ eq-eqb _ _ e)) in
    let some : 0 < length c.args.text.now = omega (arith, any) in
    subst (λ (ends : List ℕ). IsScanned c.args.text.now ends 0) (sym c.clear.ensures.items)
    (scan-begins c.args.text.now some c.if-text-eq13.false c.if-text-eq10.false)

pub returns-then-byte-eq10 : goal.returns-then-byte-eq10
returns-then-byte-eq10 c =
    let inside : c.bytes.i < length c.args.text.now = omega (arith, c.bytes-test.true, c.bytes.auto.i-end) in
    subst (λ (ends : List ℕ). IsFirstRecord c.args.text.now ends (c.bytes.i + 1)) (sym c.in_ok-push-2.ensures.items)
    (scan-line c.args.text.now c.bytes.ends.items c.bytes.i c.bytes.invariant inside c.if-byte-eq10.true)

pub bytes-preserved : goal.bytes-preserved
bytes-preserved c =
    let inside : c.bytes.i < length c.args.text.now = omega (arith, c.bytes-test.true, c.bytes.auto.i-end) in
    elim c.if-byte-eq44.branch [
      | then-byte-eq44+in_ok-push w ↦ rw (w.ends-is, w.in_ok-push.ensures.items)
          (scan-comma c.args.text.now c.bytes.ends.items c.bytes.i c.bytes.invariant inside w.if-byte-eq44.true)
      | else-byte-eq44+else-byte-eq10+else-byte-eq34+else-byte-eq13 w ↦ rw w.ends-is
          (scan-copies c.args.text.now c.bytes.ends.items c.bytes.i c.bytes.invariant inside
          w.if-byte-eq44.false w.if-byte-eq13.false w.if-byte-eq10.false w.if-byte-eq34.false)
    ]

pub returns : goal.returns
returns c =
    let any : length c.args.text.now ≡ 0 → ⊥ = (λ e. false≢true (sym c.if-is_empty.false ∙ c.is_empty.ensures ∙ eq-eqb _ _ e)) in
    let some : 0 < length c.args.text.now = omega (arith, any) in
    let all : c.bytes.i ≡ length c.args.text.now = omega (arith, c.bytes-test.false, c.bytes.auto.i-end) in
    subst (λ (ends : List ℕ). IsFirstRecord c.args.text.now ends (length c.args.text.now)) (sym c.in_ok-push-3.ensures.items)
    (subst (λ (n : ℕ). IsFirstRecord c.args.text.now (c.bytes.ends.items ++ n ∷ []) n) all
    (scan-end c.args.text.now c.bytes.ends.items c.bytes.i c.bytes.invariant all some))
