-- No word was passed.
use Rattle.std.proofs.Common.{◌≡◌, length}
use Rattle.script.specs.Words.{words_of}
use Rattle.script.proofs.word.first_word.Given as goal

abbrev pub invariant-loop-rest : goal.invariant-loop-rest
invariant-loop-rest l = words_of l.fn.line ≡ words_of l.rest

abbrev pub decreases-loop-rest : goal.decreases-loop-rest
decreases-loop-rest l = length l.rest
