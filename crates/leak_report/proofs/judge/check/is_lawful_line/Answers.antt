-- Each part is tested.
use Rattle.std.proofs.Common.{◌∙◌, sym, arith}
use Rattle.std.proofs.lemmas.List.Sums.{AllPass-from_list_all, list_all-from_AllPass}
use Rattle.leak_report.proofs.ReadReportLemmas.{some_counted}
use Rattle.leak_report.proofs.judge.check.is_lawful_line.Goals as goal

pub returns : goal.returns
returns c = (
  λ open_. record {
    some = omega arith;
    some_bytes = omega arith;
    few_bytes = omega arith;
    in_order = c.are_in_order.ensures.0 c.if-not-are_in_order.false;
    owner = some_counted _ (sym c.has_ledger.ensures ∙ c.if-not-has_ledger.false);
    open_ = AllPass-from_list_all _ _ (sym c.are_open.ensures ∙ open_);
  },
  λ lawful. c.are_open.ensures ∙ list_all-from_AllPass _ _ lawful.open_,
)
