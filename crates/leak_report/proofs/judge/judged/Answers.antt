-- The text is compared with that of the report that it was read as, once this is lawful.
use Rattle.std.proofs.Common.{◌∙◌, ap, sym, subst, arith}
use Rattle.leak_report.specs.LawfulReport.{IsLawful}
use Rattle.leak_report.specs.ReadReport.{report_with}
use Rattle.leak_report.specs.Report.{printed_text}
use Rattle.mem_model.specs.Chunk.{references_of}
use Rattle.leak_report.proofs.ReadReportLemmas.{read-lawful}
use Rattle.leak_report.proofs.judge.judged.Goals as goal

pub returns-in_default : goal.returns-in_default
returns-in_default c = (
  λ never. absurd (cc),
  λ lawful.
      let own = read-lawful c.args.text.now c.in_ok-allocators.allocators.items c.in_ok-allocators.chunks.items c.in_ok-allocators.ensures lawful in
      absurd (omega (arith, own.0.numbers.references, c.in_default.ensures.none, ap references_of c.deref.ensures.value)),
)

pub returns-then-not-branch : goal.returns-then-not-branch
returns-then-not-branch c = (
  λ never. absurd (cc),
  λ lawful.
      let own = read-lawful c.args.text.now c.in_ok-allocators.allocators.items c.in_ok-allocators.chunks.items c.in_ok-allocators.ensures lawful in
      let passed = c.in_ok-is_lawful.ensures.1 (subst IsLawful (λ i. report_with (sym c.deref-2.ensures.value i) (sym c.deref-3.ensures.value i)) own.0) in
      sym c.if-not-branch.true ∙ passed,
)

pub returns : goal.returns
returns c =
    let printed = c.deref-6.ensures.value ∙ c.in_ok-printed.ensures ∙ ap printed_text (λ i. report_with (c.deref-4.ensures.value i) (c.deref-5.ensures.value i)) in (
      λ same. (
        report_with c.in_ok-allocators.allocators.items c.in_ok-allocators.chunks.items,
        subst IsLawful (λ i. report_with (c.deref-2.ensures.value i) (c.deref-3.ensures.value i)) (c.in_ok-is_lawful.ensures.0 c.if-not-branch.false),
        sym (c.are_same.ensures.0 same) ∙ printed,
      ),
      λ lawful.
          let own = read-lawful c.args.text.now c.in_ok-allocators.allocators.items c.in_ok-allocators.chunks.items c.in_ok-allocators.ensures lawful in
          c.are_same.ensures.1 (printed ∙ own.1),
    )
