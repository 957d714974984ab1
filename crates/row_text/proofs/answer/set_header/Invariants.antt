-- The fields are the names so far.
use Rattle.std.proofs.Common.{◌≡◌, [], take}
use Rattle.csv.specs.Records.{fields_of, partial_of}
use Rattle.row_text.proofs.answer.set_header.Given as goal

abbrev pub invariant-names : goal.invariant-names
invariant-names l = record {
  fields : fields_of l.fields ≡ take l.name-index l.header;
  whole : partial_of l.fields ≡ [];
}
