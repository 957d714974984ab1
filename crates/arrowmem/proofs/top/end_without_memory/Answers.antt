use Rattle.arrowmem.proofs.top.end_without_memory.Goals as goal

pub returns-clause-delivers : goal.returns-clause-delivers
returns-clause-delivers g c = rw c.as_bytes.ensures.value at c.deliver.ensures.delivers
