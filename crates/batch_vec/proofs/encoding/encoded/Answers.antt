-- One column more.
use Rattle.std.proofs.Common.{◌≡◌, length, rules}
use Rattle.batch_vec.proofs.StoredLemmas.{HasEncoded-pushed}
use Rattle.batch_vec.proofs.encoding.encoded.Goals as goal

pub columns-preserved : goal.columns-preserved
columns-preserved c =
    let size : c.len.result ≡ length c.columns.kinds.items = search rules in
    HasEncoded-pushed c.args.rows.now c.columns.kinds.items c.push.new.self.items c.columns.buffers.items
    c.push-in-Some.new.self.items c.push-in-Some-2.new.self.items c.in-Some.column c.slice_kind.result c.in_ok-both.both.first
    c.in_ok-both.both.second c.len.result c.columns.invariant size c.in-Some.ensures.some c.slice_kind.ensures.value
    c.in_ok-both.ensures.value c.in_ok-push.ensures.items c.in_ok-push-2.ensures.items c.in_ok-push-3.ensures.items
