use Rattle.std.proofs.Common.{map, string_bytes}
use Rattle.arrowmem.proofs.TopLemmas.{asked_anyway, delivered, lawful_run, no_memory_answers}
use Rattle.arrowmem.proofs.top.arrowmem.Goals as goal

pub returns-in_default-clause-runs : goal.returns-in_default-clause-runs
returns-in_default-clause-runs g c = delivered _ _ _ _ _ _ _ _
    (no_memory_answers _ _) c.code.ensures c.end_without_memory.ensures.delivers

pub returns-clause-runs : goal.returns-clause-runs
returns-clause-runs g c = delivered _ _ _ _ _ _ _ _ c.in-Ok.ensures.answers c.code-2.ensures
    (rw c.deref.ensures.value at c.deliver.ensures.delivers)

pub returns-clause-lawful : goal.returns-clause-lawful
returns-clause-lawful g c = lawful_run _ _ _ _ _ _ _ c.deliver.ensures.ends c.code-2.ensures c.in-Ok.ensures.lawful

pub returns-clause-table_asked : goal.returns-clause-table_asked
returns-clause-table_asked g c = asked_anyway (map string_bytes c.args.words.now) _ _ _ c.in-Ok.ensures.table_asked
