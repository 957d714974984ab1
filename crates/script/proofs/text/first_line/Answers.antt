-- The first line feed ends the first line.
use Rattle.std.proofs.Common.{◌+◌}
use Rattle.script.proofs.TextLemmas.{lines-at, lines-none, take-drop}
use Rattle.script.proofs.text.first_line.Goals as goal

pub returns-in-None-clause-line : goal.returns-in-None-clause-line
returns-in-None-clause-line c = lines-none _ c.requires c.in-None.ensures

pub returns-in-Some-clause-line : goal.returns-in-Some-clause-line
returns-in-Some-clause-line c =
    rw (c.without_return.ensures, take-drop (c.in-Some.end + 1) c.args.text.now) (lines-at _ _ c.in-Some.ensures)
