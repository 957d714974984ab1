-- What was written so far is a front of the bytes.
use Rattle.std.proofs.Common.{◌++◌, take, refl}
use Rattle.std.proofs.KnownBytes.{Appends-trans, Appends-kept}
use Rattle.mem_io.proofs.PutLemmas.{Appends-front, split-moved}
use Rattle.mem_io.proofs.std_sink.put.Goals as goal

pub returns-in_err-count : goal.returns-in_err-count
returns-in_err-count g c =
    let (done, split, appended) = c.loop-rest.invariant in
    Appends-front _ _ _ done _ _ c.from_residual.ensures.0 split (Appends-kept _ _ _ _ appended c.in_err-count.ensures.bytes)

pub returns-then-count-eq0 : goal.returns-then-count-eq0
returns-then-count-eq0 g c =
    let (done, split, appended) = c.loop-rest.invariant in
    Appends-front _ _ _ (done ++ take c.in_ok-count.count c.loop-rest.rest.now) _ _ refl (split-moved _ done _ c.in_ok-count.count split) (Appends-trans _ _ _ _ _ appended c.in_ok-count.ensures.bytes)

pub loop-rest-preserved : goal.loop-rest-preserved
loop-rest-preserved g c =
    let (done, split, appended) = c.loop-rest.invariant in
    (done ++ take c.in_ok-count.count c.loop-rest.rest.now, split-moved _ done _ c.in_ok-count.count split, Appends-trans _ _ _ _ _ appended c.in_ok-count.ensures.bytes)

pub returns-in_err-flush : goal.returns-in_err-flush
returns-in_err-flush g c =
    let (done, split, appended) = c.loop-rest.invariant in
    Appends-front _ _ _ done _ _ c.from_residual-in_err-flush.ensures.0 split (Appends-kept _ _ _ _ appended c.flush.ensures.bytes)
