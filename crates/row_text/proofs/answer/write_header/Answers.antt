use Rattle.std.proofs.Common.{◌≡◌, ◌∙◌, [], List, ℕ, Some, OnOk, ap, subst, sym}
use Rattle.std.proofs.lemmas.List.{append-nil}
use Rattle.csv.specs.Records.{fields_of}
use Rattle.csv.specs.Writing.{default_writer, row_text}
use Rattle.row_text.specs.Answer.{table_text}
use Rattle.row_text.specs.Written.{HasWritten}
use Rattle.row_text.proofs.answer.write_header.Goals as goal

pub returns : goal.returns
returns c written =
    let same : row_text default_writer (fields_of c.set_header.new.fields) ≡ table_text c.args.header.now [] =
    ap (row_text default_writer) c.in_ok-set_header.ensures ∙ sym (append-nil (row_text default_writer c.args.header.now)) in
    subst (λ (t : List ℕ). OnOk c.write.result (HasWritten (λ v. Some v.items) c.write.new.writer t)) same (c.write.ensures [] written)
