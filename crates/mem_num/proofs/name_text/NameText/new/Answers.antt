-- A name is text.
use Rattle.std.proofs.Common.{sym}
use Rattle.mem_num.proofs.NameLemmas.{name_utf8}
use Rattle.mem_num.proofs.name_text.NameText.new.Goals as goal

pub returns-in-Err : goal.returns-in-Err
returns-in-Err c = absurd (c.in-Err.ensures.cases.0 (name_utf8 _ (sym c.if-not-is_name.ensures)))
