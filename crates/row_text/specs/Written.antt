-- What a writer of records has written.
use Rattle.std.specs.Prelude.{◌≡◌, ℕ, List, Option, Some, false}
use Rattle.csv.specs.Writing.{default_writer, fields_written, has_written, text_written, writer_setup}
use Rattle.csv.specs.declared.writer.Writer.{Writer}

-- a writer with csv's defaults has written this text, whole records all of it
pub record HasWritten {W : Type 0} (contents : W → Option (List ℕ)) (writer : Writer W) (whole : List ℕ) : Type 0 where
  pub setup : writer_setup writer ≡ default_writer
  pub fields : fields_written writer ≡ 0
  pub clean : has_written writer ≡ false
  pub text : text_written contents writer ≡ Some whole
