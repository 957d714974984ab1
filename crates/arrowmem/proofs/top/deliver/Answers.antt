use Rattle.arrowmem.specs.RunsTo.{whole}
use Rattle.arrowmem.proofs.TopLemmas.{wrote_all, wrote_some, cut_short}
use Rattle.arrowmem.proofs.top.deliver.Goals as goal

pub returns-in-Ok-clause-delivers : goal.returns-in-Ok-clause-delivers
returns-in-Ok-clause-delivers g c = (c.args.output.now, whole, wrote_all _ _ _ c.in-Ok.ensures.bytes)

pub returns-in-Err-Failed-clause-delivers : goal.returns-in-Err-Failed-clause-delivers
returns-in-Err-Failed-clause-delivers g c = let wrote = wrote_some _ _ _ _ c.in-Err-Failed.ensures.bytes in
    (_, cut_short _ _ _ wrote.0 tt, wrote.1)

pub returns-in-Err-NoMemory-clause-delivers : goal.returns-in-Err-NoMemory-clause-delivers
returns-in-Err-NoMemory-clause-delivers g c = let wrote = wrote_some _ _ _ _ c.in-Err-NoMemory.ensures.bytes in
    (_, cut_short _ _ _ wrote.0 tt, wrote.1)
