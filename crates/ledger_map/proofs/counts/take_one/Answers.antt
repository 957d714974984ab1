-- The last reference takes its ledger with it; else one less is written at the ledger's place.
use Rattle.std.proofs.Common.{◌≢◌, ◌-◌, ap, arith, refl, sym, ◌∙◌}
use Rattle.mem_model.proofs.LedgerCountLemmas.{count-read, with_count-written, with_count-removed}
use Rattle.mem_model.specs.Ledgers.{count_of}
use Rattle.ledger_map.proofs.counts.take_one.Goals as goal

pub returns-then-left-eq0-clause-items : goal.returns-then-left-eq0-clause-items
returns-then-left-eq0-clause-items c =
    let at = rw c.as_slice.ensures at c.in-Ok.ensures in
    let read = count-read c.args.entries.now.items c.deref.result.now c.args.at.0 c.in-Ok.place (record { at = record { 0 = 0 }; count = 0 }) c.deref.ensures at.ledger in
    with_count-removed c.args.entries.now.items c.remove.new.self.items c.args.at.0 c.in-Ok.place c.requires.order at.place (at.found.0 refl) (sym (ap (λ k. k - 1) read) ∙ c.if-left-eq0.true) c.remove.ensures.items

pub returns-else-left-eq0-clause-items : goal.returns-else-left-eq0-clause-items
returns-else-left-eq0-clause-items c =
    let at = rw c.as_slice.ensures at c.in-Ok.ensures in
    let read = count-read c.args.entries.now.items c.deref.result.now c.args.at.0 c.in-Ok.place (record { at = record { 0 = 0 }; count = 0 }) c.deref.ensures at.ledger in
    let left = count_of c.args.entries.now.items c.args.at.0 - 1 in
    let some : left ≢ 0 = λ none. c.if-left-eq0.false (ap (λ k. k - 1) read ∙ none) in
    with_count-written c.args.entries.now.items c.deref_mut.result.now c.args.at.0 c.in-Ok.place _ left (record { at = record { 0 = 0 }; count = 0 })
    c.deref_mut.ensures.value c.requires.order at.place at.ledger (at.found.0 refl) (ap (λ k. k - 1) read) (omega (arith, some))
