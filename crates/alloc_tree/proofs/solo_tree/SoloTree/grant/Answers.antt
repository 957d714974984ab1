use Rattle.std.proofs.Common.{◌∙◌, sym, ap, subst, arith, rules}
use Rattle.mem_num.specs.Rounded.{rounded_size}
use Rattle.mem_num.specs.declared.rounding.Rounding.TheVariants.{Power}
use Rattle.mem_model.specs.MeasuredTree.{IsAfterCall}
use Rattle.mem_model.proofs.CallResultLemmas.{grant-too_large, grant-closed, grant-empty, grant-charge}
use Rattle.alloc_tree.proofs.CallLemmas.{too_large, fits_rounded, refused_as, empty_as}
use Rattle.alloc_tree.proofs.DoneLemmas.{unchanged_told}
use Rattle.alloc_tree.proofs.solo_tree.SoloTree.grant.Goals as goal

pub returns-in_err-size : goal.returns-in_err-size
returns-in_err-size c =
    let large = too_large (rounded_size Power c.args.request) c.in_err-size.was c.rounded.ensures.size in
    let cause = rw c.in_err-size.was at c.rounded.ensures.refused in
    let is = unchanged_told c.args.self.now
    (grant-too_large c.args.self.now.state c.args.at c.args.request c.in_err-size.field-0.0 cause large) in
    record {
      answer = λ _. refused_as c.from_residual.result c.in_err-size.field-0.0 c.from_residual.ensures.1 ∙ is.told;
      after = λ _. is.after;
      no_memory = search rules;
      counted = search rules;
    }

pub returns-then-not-is_open : goal.returns-then-not-is_open
returns-then-not-is_open c =
    let fits = fits_rounded (rounded_size Power c.args.request) c.in_ok-size.was c.rounded.ensures.size in
    let is = unchanged_told c.args.self.now (grant-closed c.args.self.now.state c.args.at c.args.request c.in_ok-size.size fits.1 fits.0
    (sym c.is_open.ensures ∙ c.if-not-is_open.true)) in
    record { answer = λ _. is.told; after = λ _. is.after; no_memory = search rules; counted = search rules }

pub returns-then-size-eq0 : goal.returns-then-size-eq0
returns-then-size-eq0 c =
    let fits = fits_rounded (rounded_size Power c.args.request) c.in_ok-size.was c.rounded.ensures.size in
    let open_ = sym c.is_open.ensures ∙ c.if-not-is_open.false in
    let is = unchanged_told c.args.self.now
    (grant-empty c.args.self.now.state c.args.at c.args.request c.in_ok-size.size fits.1 fits.0 open_ c.if-size-eq0.true) in
    record {
      answer = λ _. empty_as c.args.at c.in_ok-size.size c.if-size-eq0.true ∙ is.told;
      after = λ _. is.after;
      no_memory = search rules;
      counted = search rules;
    }

-- a number is asked for only where bytes are charged
pub charge-requires-clause-numbers : goal.charge-requires-clause-numbers
charge-requires-clause-numbers c =
    let fits = fits_rounded (rounded_size Power c.args.request) c.in_ok-size.was c.rounded.ensures.size in
    c.requires.numbers (record { some = omega (arith, fits.1, c.if-size-eq0.false); few = fits.0 })

pub returns : goal.returns
returns c =
    let fits = fits_rounded (rounded_size Power c.args.request) c.in_ok-size.was c.rounded.ensures.size in
    let open_ = sym c.is_open.ensures ∙ c.if-not-is_open.false in
    let is = grant-charge c.args.self.now.state c.args.at c.args.request c.in_ok-size.size fits.1 fits.0 open_ c.if-size-eq0.false in
    record {
      answer = λ told. c.charge.ensures.answer told ∙ sym (ap (λ call. call.answer) is);
      after = λ told. subst (λ call. IsAfterCall c.args.self.now call c.charge.new.self) (sym is) (c.charge.ensures.after told);
      no_memory = search rules;
      counted = search rules;
    }
