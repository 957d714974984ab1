-- Arguments that are no text are run as no words at all.
use Rattle.std.proofs.Common.{◌≡◌, ◌≢◌, [], Some, ap, ◌∙◌, rules}
use Rattle.std.specs.IoError.{error_kind}
use Rattle.std.specs.declared.io.ErrorKind.TheVariants.{OutOfMemory}
use Rattle.arrowmem.specs.Words as spec
use Rattle.arrowmem.proofs.WordLemmas.{words_without-text, at_words}
use Rattle.arrowmem.proofs.program.run.Goals as goal

pub returns-in-Err-2-clause-runs : goal.returns-in-Err-2-clause-runs
returns-in-Err-2-clause-runs g c =
    let other : error_kind c.in-Err.error ≢ OutOfMemory = search rules in
    let none : spec.words_of c.args.arguments ≡ Some [] = ap spec.words_of c.in-Err.is ∙ words_without-text _ other in
    at_words _ _ _ none (rw c.from-in-Err-2.ensures c.arrowmem-in-Err-2.ensures.runs)

pub returns-in-Ok-clause-no_reading : goal.returns-in-Ok-clause-no_reading
returns-in-Ok-clause-no_reading g c =
    at_words _ _ _ (ap spec.words_of c.in-Ok.is) (rw c.from.ensures (rw c.deref.ensures.value at c.arrowmem.ensures.no_reading))
