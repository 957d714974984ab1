-- A number that is known.
use Rattle.std.proofs.Common.{◌∙◌, ap, pos, get_or, FitsSigned, rules}
use Rattle.std.specs.Int.{w64}
use Rattle.std.proofs.lemmas.Int.{to_z-of_z}
use Rattle.query_model.specs.Bytes.{number_bytes}
use Rattle.query_model.specs.declared.cell.Cell.TheVariants.{Int}
use Rattle.batch_vec.proofs.NumberLemmas.{known_int}
use Rattle.batch_vec.proofs.numbers.bytes_of_int.Goals as goal

pub returns-then-known-place : goal.returns-then-known-place
returns-then-known-place c =
    let fits : FitsSigned w64 (get_or c.args.values.now c.args.place (pos 0)) = search rules in
    record {
      value = c.bytes_of_known_int.ensures.value
          ∙ ap (λ n. number_bytes w64 (Int n)) (to_z-of_z w64 (get_or c.args.values.now c.args.place (pos 0)) fits)
          ∙ known_int c.args.values.now c.args.known.now c.args.place c.requires.marked c.requires.within (pos 0) c.if-known-place.true;
    }
