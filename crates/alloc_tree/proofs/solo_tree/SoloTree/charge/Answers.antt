use Rattle.std.proofs.Common.{ℕ, ◌+◌, ◌∙◌, ap, arith, Ok, Err}
use Rattle.mem_num.specs.declared.buffer_refused.BufferRefused.TheVariants.{Full as NoRoom}
use Rattle.mem_model.specs.Chunk.{charges_of}
use Rattle.mem_model.specs.Grant.{charge_result}
use Rattle.mem_model.specs.Release.{without_chunk}
use Rattle.alloc_tree.proofs.CountLemmas.{charge_counted}
use Rattle.alloc_tree.proofs.DoneLemmas.{IsDone, seen}
use Rattle.alloc_tree.proofs.GrantLemmas.{granted, grant_refused}
use Rattle.alloc_tree.proofs.LowerLemmas.{stays_open}
use Rattle.alloc_tree.proofs.StateLemmas.{room_for, few_uses, open_in, made_in, open_here, drawn_here}
use Rattle.alloc_tree.proofs.solo_tree.SoloTree.charge.Goals as goal

pub request-requires-clause-open : goal.request-requires-clause-open
request-requires-clause-open c = open_in c.self.inside c.args.at.0 (open_here c.self.inside c.args.at.0 c.self.view_is ∙ c.requires.open)

pub request-requires-clause-fits : goal.request-requires-clause-fits
request-requires-clause-fits c =
    room_for c.self.invariant.sound c.args.size (omega (arith, drawn_here c.self.inside c.self.view_is, c.requires.numbers))
    (omega (arith, c.requires.few_bytes))

pub request-requires-clause-balanced : goal.request-requires-clause-balanced
request-requires-clause-balanced c = (charges_of c.self.inside.chunks, c.self.invariant.sound.numbers.held)

-- the request was refused
refused : (c : goal.After-remove)
    → IsDone c.args.self.now (charge_result c.args.self.now.state (record { at = c.args.at; amount = c.args.size }))
    (record c.self.inside {
      rows = c.request.new.self;
      chunks = c.remove.new.self;
      drawn = c.self.inside.drawn + 1;
      calls = c.one_more-self-inside.result;
    }) (Err (NoRoom c.in-Err.full))
refused c =
    let f = c.self.inside in
    let answers = rw c.in-Err.is at c.request.ensures.answers in
    let left = c.remove.ensures ∙ ap (without_chunk (f.drawn + 1)) c.in_ok-push.ensures.pushed in
    seen (λ s. charge_result s (record { at = c.args.at; amount = c.args.size })) c.self.view_is
    (grant_refused c.self.invariant.sound c.args.at c.args.size c.request.new.self c.request.ensures.kept c.remove.new.self _ c.in-Err.full
    (answers (charges_of f.chunks) c.self.invariant.sound.numbers.held) left)

pub invariant_of-self-in-Err : goal.invariant_of-self-in-Err
invariant_of-self-in-Err c =
    charge_counted c.self.invariant c.self.view_is (record { at = c.args.at; amount = c.args.size }) (refused c)
    c.one_more-self-inside.ensures

pub returns-in-Err-clause-answer : goal.returns-in-Err-clause-answer
returns-in-Err-clause-answer c = λ _. (refused c).told

pub returns-in-Err-clause-after : goal.returns-in-Err-clause-after
returns-in-Err-clause-after c = λ _. (refused c).after

-- it was granted
pub add_use-requires-clause-made : goal.add_use-requires-clause-made
add_use-requires-clause-made c =
    let f = c.self.inside in
    let open_ = open_in f c.args.at.0 (open_here f c.args.at.0 c.self.view_is ∙ c.requires.open) in
    made_in c.request.new.self c.args.at.0 (stays_open f.rows c.request.new.self c.args.at.0 c.request.ensures.kept open_)

pub add_use-requires-clause-fits : goal.add_use-requires-clause-fits
add_use-requires-clause-fits c =
    let same = ap (λ (uses : ℕ → ℕ). uses c.args.at.0) c.request.ensures.kept.uses in
    omega (
      arith,
      same,
      few_uses c.self.invariant.sound c.args.at.0
          (omega (arith, drawn_here c.self.inside c.self.view_is, c.requires.numbers)),
    )

given : (c : goal.After-add_use)
    → IsDone c.args.self.now (charge_result c.args.self.now.state (record { at = c.args.at; amount = c.args.size }))
    (record c.self.inside {
      rows = c.add_use.new.self;
      chunks = c.push.new.self;
      drawn = c.self.inside.drawn + 1;
      calls = c.one_more-self-inside.result;
    })
    (Ok (record { chunk = c.self.inside.drawn + 1; alloc = c.args.at; size = c.args.size }))
given c =
    let open_ = open_here c.self.inside c.args.at.0 c.self.view_is ∙ c.requires.open in
    let answers = rw c.in_default.is at c.request.ensures.answers in
    seen (λ s. charge_result s (record { at = c.args.at; amount = c.args.size })) c.self.view_is
    (rw c.in_ok-push.ensures.pushed
    (granted c.self.invariant.sound c.args.at c.args.size c.request.new.self c.request.ensures.kept c.add_use.new.self _ open_
    c.requires.some_bytes c.requires.few_bytes
    (answers (charges_of c.self.inside.chunks) c.self.invariant.sound.numbers.held) c.add_use.ensures.uses))

pub invariant_of-self-2 : goal.invariant_of-self-2
invariant_of-self-2 c =
    charge_counted c.self.invariant c.self.view_is (record { at = c.args.at; amount = c.args.size }) (given c)
    c.one_more-self-inside.ensures

pub returns-clause-answer : goal.returns-clause-answer
returns-clause-answer c = λ _. (given c).told

pub returns-clause-after : goal.returns-clause-after
returns-clause-after c = λ _. (given c).after
