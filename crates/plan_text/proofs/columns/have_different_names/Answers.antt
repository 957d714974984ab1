use Rattle.std.proofs.Common.{◌≡◌, ◌∙◌, sym, ap, true, false, List, ℕ}
use Rattle.std.specs.List.{list_any}
use Rattle.query_model.specs.declared.column.Column.{Column}
use Rattle.query_model.specs.Fit.{have_one_name, is_named}
use Rattle.plan_text.proofs.DifferentLemmas.{are_different-found, are_different-more, are_different-none}
use Rattle.plan_text.proofs.columns.have_different_names.Goals as goal

pub returns-then-has_name : goal.returns-then-has_name
returns-then-has_name c =
    let found : list_any (λ (other : Column). have_one_name other c.in-Some.first.now) c.in-Some.more.now ≡ true =
    ap (λ (name : List ℕ). list_any (is_named name) c.in-Some.more.now) (sym c.as_str.ensures.value)
    ∙ sym c.has_name.ensures ∙ c.if-has_name.true in
    let split = c.in-Some.ensures.cases.0 in
    sym (c.rest.invariant
    ∙ are_different-found have_one_name c.rest.rest.now c.in-Some.first.now c.in-Some.more.now split found)

pub rest-preserved : goal.rest-preserved
rest-preserved c =
    let none : list_any (λ (other : Column). have_one_name other c.in-Some.first.now) c.in-Some.more.now ≡ false =
    ap (λ (name : List ℕ). list_any (is_named name) c.in-Some.more.now) (sym c.as_str.ensures.value)
    ∙ sym c.has_name.ensures ∙ c.if-has_name.false in
    let split = c.in-Some.ensures.cases.0 in
    c.rest.invariant
    ∙ are_different-more have_one_name c.rest.rest.now c.in-Some.first.now c.in-Some.more.now split none

pub returns : goal.returns
returns c = sym (c.rest.invariant ∙ are_different-none have_one_name c.rest.rest.now c.in_default.ensures.cases)
