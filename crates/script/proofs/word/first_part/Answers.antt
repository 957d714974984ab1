-- The first blank ends the first part.
use Rattle.std.proofs.Common.{◌+◌}
use Rattle.script.proofs.TextLemmas.{take-drop}
use Rattle.script.proofs.WordLemmas.{words-at, words-none}
use Rattle.script.proofs.word.first_part.Goals as goal

pub returns-in-None-clause-words : goal.returns-in-None-clause-words
returns-in-None-clause-words c = words-none _ c.in-None.ensures

pub returns-in-Some-clause-words : goal.returns-in-Some-clause-words
returns-in-Some-clause-words c =
    rw (take-drop (c.in-Some.end + 1) c.args.line.now) (words-at _ _ c.in-Some.ensures)
