-- An answer doesn't depend on where its rows are cut.
use Rattle.std.specs.Prelude.{◌≡◌, ◌≤◌, List, map, flat_map, refl}
use Rattle.std.specs.List.{list_all}
use Rattle.std.proofs.Common.{sym, ap, ◌∙◌}
use Rattle.std.proofs.lemmas.List.{map-append}
use Rattle.std.proofs.lemmas.List.Elements.{filter-append}
use Rattle.std.proofs.lemmas.List.Folds.{flat_map-map}
use Rattle.query_model.specs.declared.cell.Cell.{Cell}
use Rattle.query_model.specs.declared.output.Output.{Output}
use Rattle.query_model.specs.declared.output.Output.TheVariants.{Select, Group}
use Rattle.query_model.specs.declared.plan.Plan.{Plan}
use Rattle.query_model.specs.declared.test.Test.{Test}
use Rattle.query_model.specs.Answer.{picked, output_of, answer_of, merged}
use Rattle.query_model.specs.Filter.{meets, meeting}
use Rattle.query_model.specs.Requests.{batches_of}
use Rattle.query_model.proofs.BatchLemmas.{batches_whole}
use Rattle.query_model.proofs.GroupLemmas.{each-part, groups_cut}

-- rows that met the tests, part by part
pub output_cut : (output : Output) (parts : List (List (List Cell))) →
    merged output (flat_map (output_of output) parts) ≡ output_of output (flat_map (λ part. part) parts)
output_cut (Select picks) parts = sym (each-part (map (picked picks)) (λ part. part) refl (map-append (picked picks)) parts)
output_cut (Group key sums) parts = groups_cut key sums parts

-- the rows that meet tests, part by part
meeting_cut : (tests : List Test) (parts : List (List (List Cell))) →
    meeting tests (flat_map (λ part. part) parts) ≡ flat_map (meeting tests) parts
meeting_cut tests parts = each-part (meeting tests) (λ part. part) refl (filter-append (λ row. list_all (meets row) tests)) parts

-- answers of parts, merged, are the answer of the whole
pub answers_cut : (plan : Plan) (parts : List (List (List Cell))) →
    merged plan.output (flat_map (answer_of plan) parts) ≡ answer_of plan (flat_map (λ part. part) parts)
answers_cut plan parts =
    let met : List (List Cell) → List (List Cell) = meeting plan.tests in
    ap (merged plan.output) (sym (flat_map-map (output_of plan.output) met parts))
    ∙ output_cut plan.output (map met parts)
    ∙ ap (output_of plan.output) (flat_map-map (λ part. part) met parts ∙ sym (meeting_cut plan.tests parts))

-- so those of batches are the answer of the rows
pub batches_cut : (plan : Plan) (rows : List (List Cell)) → 1 ≤ plan.batch →
    merged plan.output (flat_map (answer_of plan) (batches_of plan rows)) ≡ answer_of plan rows
batches_cut plan rows some = answers_cut plan (batches_of plan rows) ∙ ap (answer_of plan) (batches_whole plan rows some)
