-- The count is written at the place of its ledger, or a new ledger stands there.
use Rattle.std.proofs.Common.{◌+◌, ap, arith, refl}
use Rattle.std.proofs.lemmas.Bool.{false≢true}
use Rattle.mem_model.proofs.LedgerCountLemmas.{count-read, with_count-written, with_count-inserted}
use Rattle.mem_model.specs.Ledgers.{count_of}
use Rattle.ledger_map.proofs.counts.add_one.Goals as goal

pub returns-in-Ok-clause-items : goal.returns-in-Ok-clause-items
returns-in-Ok-clause-items c =
    let at = rw c.as_slice.ensures at c.in-Ok.ensures in
    let read = count-read c.args.entries.now.items c.deref_mut.result.now c.args.at.0 c.in-Ok.place (record { at = record { 0 = 0 }; count = 0 }) c.deref_mut.ensures.value at.ledger in
    with_count-written c.args.entries.now.items c.deref_mut.result.now c.args.at.0 c.in-Ok.place _ (count_of c.args.entries.now.items c.args.at.0 + 1) (record { at = record { 0 = 0 }; count = 0 })
    c.deref_mut.ensures.value c.requires.order at.place at.ledger (at.found.0 refl) (ap (λ k. k + 1) read) (omega arith)

pub returns-in-Err-clause-items : goal.returns-in-Err-clause-items
returns-in-Err-clause-items c =
    let at = rw c.as_slice.ensures at c.in-Err.ensures in
    let inserted = rw c.unwrap.ensures at c.insert.ensures.ok in
    with_count-inserted c.args.entries.now.items c.insert.new.self.items c.args.at.0 c.in-Err.place c.requires.order at.place (λ there. absurd (false≢true (at.found.1 there))) inserted
