-- Digits that don't parse are no number.
use Rattle.std.proofs.Common.{rules, sym}
use Rattle.command_line.proofs.NumberLemmas.{number_in-unparsed}
use Rattle.command_line.proofs.number.number_in.Goals as goal

pub returns-in_default : goal.returns-in_default
returns-in_default c =
    let digits = sym c.if-not-are_digits.ensures.digits in
    record {
      number = number_in-unparsed c.args.least c.args.most c.args.word.now c.in_default.field-0 (search rules) (search rules)
          (search rules)
          c.in_default.ensures.value.0;
    }
