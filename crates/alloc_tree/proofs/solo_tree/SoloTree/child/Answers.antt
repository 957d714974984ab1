use Rattle.std.proofs.Common.{◌+◌, ◌∙◌, sym, arith, Ok, Err, rules}
use Rattle.mem_num.specs.declared.child_refused.ChildRefused.TheVariants.{Nodes, Full as NoRoom}
use Rattle.mem_model.specs.Child.{child_result}
use Rattle.mem_model.specs.Chunk.{charges_of}
use Rattle.mem_model.proofs.CallResultLemmas.{child-above, child-closed}
use Rattle.alloc_tree.proofs.ChildLemmas.{past_the_last, reservation_refused, child_was_made, parent_beside}
use Rattle.alloc_tree.proofs.CountLemmas.{child_counted}
use Rattle.alloc_tree.proofs.DoneLemmas.{IsDone, seen, unchanged_told}
use Rattle.alloc_tree.proofs.StateLemmas.{room_for, few_uses, open_in, open_here}
use Rattle.alloc_tree.proofs.solo_tree.SoloTree.child.Goals as goal

pub returns-then-reservation-limit : goal.returns-then-reservation-limit
returns-then-reservation-limit c =
    let is = unchanged_told c.args.self.now
    (child-above c.args.self.now.state c.args.parent c.args.reservation c.args.limit c.if-reservation-limit.true) in
    record { answer = is.told; after = is.after; counted = search rules }

pub returns-then-not-is_open : goal.returns-then-not-is_open
returns-then-not-is_open c =
    let shut = sym c.is_open.ensures ∙ c.if-not-is_open.true in
    let is = unchanged_told c.args.self.now
    (child-closed c.args.self.now.state c.args.parent c.args.reservation c.args.limit c.if-reservation-limit.false shut) in
    record { answer = is.told; after = is.after; counted = search rules }

past : (c : goal.After-into) → IsDone c.args.self.now (child_result c.args.self.now.state c.args.parent c.args.reservation c.args.limit)
    (record c.self.inside { next = c.self.inside.next + 1; calls = c.one_more-self-inside.result }) (Err (Nodes c.self.inside.next))
past c =
    let open_ = open_here c.self.inside c.args.parent.0 c.self.view_is ∙ sym c.is_open.ensures ∙ c.if-not-is_open.false in
    seen (λ s. child_result s c.args.parent c.args.reservation c.args.limit) c.self.view_is
    (past_the_last c.self.invariant.sound c.args.parent c.args.reservation c.args.limit _ c.if-reservation-limit.false open_
    c.if-number-ge-MOST_ALLOCATORS.true)

pub returns-then-number-ge-MOST_ALLOCATORS-clause-answer : goal.returns-then-number-ge-MOST_ALLOCATORS-clause-answer
returns-then-number-ge-MOST_ALLOCATORS-clause-answer c = rw c.into.ensures (past c).told

pub returns-then-number-ge-MOST_ALLOCATORS-clause-after : goal.returns-then-number-ge-MOST_ALLOCATORS-clause-after
returns-then-number-ge-MOST_ALLOCATORS-clause-after c = (past c).after

pub request-requires-clause-open : goal.request-requires-clause-open
request-requires-clause-open c =
    open_in c.self.inside c.args.parent.0 (open_here c.self.inside c.args.parent.0 c.self.view_is ∙ sym c.is_open.ensures
    ∙ c.if-not-is_open.false)

pub request-requires-clause-fits : goal.request-requires-clause-fits
request-requires-clause-fits c = room_for c.self.invariant.sound c.args.reservation (omega arith) c.requires.reservation

refused : (c : goal.In-Err) → IsDone c.args.self.now (child_result c.args.self.now.state c.args.parent c.args.reservation c.args.limit)
    (record c.self.inside { rows = c.request.new.self; next = c.self.inside.next + 1; calls = c.one_more-self-inside.result })
    (Err (NoRoom c.in-Err.full))
refused c =
    let open_ = open_here c.self.inside c.args.parent.0 c.self.view_is ∙ sym c.is_open.ensures ∙ c.if-not-is_open.false in
    let answers = rw c.in-Err.is at c.request.ensures.answers in
    seen (λ s. child_result s c.args.parent c.args.reservation c.args.limit) c.self.view_is
    (reservation_refused c.self.invariant.sound c.args.parent c.args.reservation c.args.limit _ c.if-reservation-limit.false open_
    c.request.new.self c.in-Err.full
    c.if-number-ge-MOST_ALLOCATORS.false c.request.ensures.kept
    (answers (charges_of c.self.inside.chunks) c.self.invariant.sound.numbers.held))

pub invariant_of-self-in-Err : goal.invariant_of-self-in-Err
invariant_of-self-in-Err c =
    child_counted c.self.invariant c.self.view_is c.args.parent c.args.reservation c.args.limit (refused c) c.one_more-self-inside.ensures

pub returns-in-Err-clause-answer : goal.returns-in-Err-clause-answer
returns-in-Err-clause-answer c = (refused c).told

pub returns-in-Err-clause-after : goal.returns-in-Err-clause-after
returns-in-Err-clause-after c = (refused c).after

pub add_use-requires : goal.add_use-requires
add_use-requires c =
    let open_ = open_here c.self.inside c.args.parent.0 c.self.view_is ∙ sym c.is_open.ensures ∙ c.if-not-is_open.false in
    let both = parent_beside c.self.invariant.sound c.request.new.self c.args.parent.0 c.child.result open_ c.request.ensures.kept in
    rw c.put.ensures (record { made = both.0; fits = omega (arith, both.1, few_uses c.self.invariant.sound c.args.parent.0 (omega arith)) })

made : (c : goal.After-add_use)
    → IsDone c.args.self.now (child_result c.args.self.now.state c.args.parent c.args.reservation c.args.limit)
    (record c.self.inside { rows = c.add_use.new.self; next = c.self.inside.next + 1; calls = c.one_more-self-inside.result })
    (Ok (record { 0 = c.self.inside.next }))
made c =
    let open_ = open_here c.self.inside c.args.parent.0 c.self.view_is ∙ sym c.is_open.ensures ∙ c.if-not-is_open.false in
    let answers = rw c.in_default.is at c.request.ensures.answers in
    let uses = rw (c.put.ensures, c.child.ensures) at c.add_use.ensures.uses in
    seen (λ s. child_result s c.args.parent c.args.reservation c.args.limit) c.self.view_is
    (child_was_made c.self.invariant.sound c.args.parent c.args.reservation c.args.limit _ c.if-reservation-limit.false open_
    c.request.new.self
    c.add_use.new.self
    c.requires.reservation c.requires.limit c.if-number-ge-MOST_ALLOCATORS.false c.request.ensures.kept
    (answers (charges_of c.self.inside.chunks) c.self.invariant.sound.numbers.held) uses)

pub invariant_of-self-2 : goal.invariant_of-self-2
invariant_of-self-2 c =
    child_counted c.self.invariant c.self.view_is c.args.parent c.args.reservation c.args.limit (made c) c.one_more-self-inside.ensures

pub returns-clause-answer : goal.returns-clause-answer
returns-clause-answer c = (made c).told

pub returns-clause-after : goal.returns-clause-after
returns-clause-after c = (made c).after
