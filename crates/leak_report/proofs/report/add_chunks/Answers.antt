use Rattle.std.proofs.Common.{◌∙◌, ℕ, map, ap, arith}
use Rattle.std.specs.Map.Iter.{deref_pair}
use Rattle.std.proofs.lemmas.Map.Iter.{rest_more}
use Rattle.ledger_map.specs.LedgerState.{LedgerState}
use Rattle.alloc_tree.specs.Chunks.{chunk_of}
use Rattle.leak_report.proofs.WriteLemmas.{written_none, written_more, count_fits}
use Rattle.leak_report.proofs.report.add_chunks.Goals as goal

pub loop-number-init : goal.loop-number-init
loop-number-init c =
    written_none _ _ _ (ap (map chunk_of) c.into_iter-number-iterator.ensures.into_iter_gives ∙ c.chunks-number-items.ensures) c.requires.in_order

pub overflow_add-references : goal.overflow_add-references
overflow_add-references c =
    let first = ap (map chunk_of) (rest_more (deref_pair {K = ℕ} {X = LedgerState}) c.loop-number.number-iterator c.next.new.self c.next.result (c.in-Some.number, c.in-Some.ledgers) c.in-Some.is c.next.ensures.steps) in
    let fits = count_fits _ _ _ c.loop-number.references c.total.result _ _ _ c.loop-number.invariant first (omega arith) (omega (arith, c.total.ensures.few, c.total.ensures.value)) in
    omega (arith, fits, c.from.ensures)

pub loop-number-preserved : goal.loop-number-preserved
loop-number-preserved c =
    let first = ap (map chunk_of) (rest_more (deref_pair {K = ℕ} {X = LedgerState}) c.loop-number.number-iterator c.next.new.self c.next.result (c.in-Some.number, c.in-Some.ledgers) c.in-Some.is c.next.ensures.steps) in
    written_more _ _ _ _ c.loop-number.references c.from.result _ _ _ c.loop-number.invariant first c.in_ok-add_chunk.ensures (c.from.ensures ∙ c.total.ensures.value) (omega (arith, c.total.ensures.few, c.total.ensures.value, c.from.ensures))
