use Rattle.std.proofs.Common.{◌∙◌, sym, ap, arith, Ok, rules}
use Rattle.mem_model.specs.Ledgers.{count_of}
use Rattle.mem_model.specs.MeasuredTree.{MeasuredTree}
use Rattle.mem_model.specs.References.{referred_chunk, reference_to}
use Rattle.mem_model.specs.Retain.{retain_result}
use Rattle.mem_model.proofs.CallResultLemmas.{retain-nothing, retain-closed}
use Rattle.alloc_tree.specs.Chunks.{chunk_of}
use Rattle.alloc_tree.proofs.CountLemmas.{retain_counted}
use Rattle.alloc_tree.proofs.DoneLemmas.{IsDone, seen, unchanged_told, referred, numbered_lawful}
use Rattle.alloc_tree.proofs.RetainLemmas.{retained_again, retained_anew, reference_is}
use Rattle.alloc_tree.proofs.StateLemmas.{few_uses, open_in, made_in, open_here}
use Rattle.alloc_tree.proofs.solo_tree.SoloTree.retain.Goals as goal

-- the reference was given back
pub returns-in_default : goal.returns-in_default
returns-in_default c =
    let none = ap (λ (t : MeasuredTree). referred_chunk t.state c.args.of) (sym c.self.view_is) ∙ sym c.in_default.ensures in
    let is = unchanged_told c.args.self.now (retain-nothing c.args.self.now.state c.args.of c.args.target none) in
    record { answer = λ _. is.told; after = λ _. is.after; no_memory = search rules; counted = search rules }

-- the target is closed
pub returns-then-not-is_open : goal.returns-then-not-is_open
returns-then-not-is_open c =
    let found = ap (λ (t : MeasuredTree). referred_chunk t.state c.args.of) (sym c.self.view_is) ∙ sym c.in-Some.ensures in
    let is = unchanged_told c.args.self.now
    (retain-closed c.args.self.now.state c.args.of c.args.target _ found (sym c.is_open.ensures ∙ c.if-not-is_open.true)) in
    record { answer = λ _. is.told; after = λ _. is.after; no_memory = search rules; counted = search rules }

pub retain-requires-clause-live : goal.retain-requires-clause-live
retain-requires-clause-live c = λ chunk is none.
    let lawful = (numbered_lawful c.args.of.chunk chunk c.self.invariant.sound.lawful is).0 in
    omega (arith, lawful.owner, ap (λ ledgers. count_of ledgers chunk.owner.0) none)

-- the target had a ledger
again : (c : goal.Then-count-gt0) → IsDone c.args.self.now (retain_result c.args.self.now.state c.args.of c.args.target)
    (record c.self.inside { chunks = c.retain.new.self; calls = c.one_more-self-inside.result })
    (Ok (reference_to (chunk_of (c.args.of.chunk, c.in-Some.ledgers.now)) c.args.target))
again c =
    let h = referred c.args.of (chunk_of (c.args.of.chunk, c.in-Some.ledgers.now)) c.self.invariant.sound.lawful (sym c.in-Some.ensures) in
    let open_ = open_here c.self.inside c.args.target.0 c.self.view_is ∙ sym c.is_open.ensures ∙ c.if-not-is_open.false in
    seen (λ s. retain_result s c.args.of c.args.target) c.self.view_is
    (retained_again c.self.invariant.sound h c.args.target open_ c.retain.new.self _
    (omega (arith, c.count-count.ensures, c.if-count-gt0.true))
    c.in-Ok.ensures.retained)

pub invariant_of-self-then-count-gt0 : goal.invariant_of-self-then-count-gt0
invariant_of-self-then-count-gt0 c =
    retain_counted c.self.invariant c.self.view_is c.args.of c.args.target (again c) c.one_more-self-inside.ensures

pub returns-then-count-gt0-clause-answer : goal.returns-then-count-gt0-clause-answer
returns-then-count-gt0-clause-answer c =
    λ _. reference_is (chunk_of (c.args.of.chunk, c.in-Some.ledgers.now)) c.args.target _ c.size.ensures ∙ (again c).told

pub returns-then-count-gt0-clause-after : goal.returns-then-count-gt0-clause-after
returns-then-count-gt0-clause-after c = λ _. (again c).after

-- it had none
pub add_use-requires-clause-made : goal.add_use-requires-clause-made
add_use-requires-clause-made c =
    let f = c.self.inside in
    let open_ = open_here f c.args.target.0 c.self.view_is ∙ sym c.is_open.ensures ∙ c.if-not-is_open.false in
    made_in f.rows c.args.target.0 (open_in f c.args.target.0 open_)

pub add_use-requires-clause-fits : goal.add_use-requires-clause-fits
add_use-requires-clause-fits c = few_uses c.self.invariant.sound c.args.target.0 (omega arith)

anew : (c : goal.After-add_use) → IsDone c.args.self.now (retain_result c.args.self.now.state c.args.of c.args.target)
    (record c.self.inside { rows = c.add_use.new.self; chunks = c.retain.new.self; calls = c.one_more-self-inside.result })
    (Ok (reference_to (chunk_of (c.args.of.chunk, c.in-Some.ledgers.now)) c.args.target))
anew c =
    let h = referred c.args.of (chunk_of (c.args.of.chunk, c.in-Some.ledgers.now)) c.self.invariant.sound.lawful (sym c.in-Some.ensures) in
    let open_ = open_here c.self.inside c.args.target.0 c.self.view_is ∙ sym c.is_open.ensures ∙ c.if-not-is_open.false in
    seen (λ s. retain_result s c.args.of c.args.target) c.self.view_is
    (retained_anew c.self.invariant.sound h c.args.target open_ c.add_use.new.self c.retain.new.self _
    (omega (arith, c.count-count.ensures, c.if-count-gt0.false)) c.in-Ok.ensures.retained c.add_use.ensures.uses)

pub invariant_of-self-2 : goal.invariant_of-self-2
invariant_of-self-2 c =
    retain_counted c.self.invariant c.self.view_is c.args.of c.args.target (anew c) c.one_more-self-inside.ensures

pub returns-clause-answer : goal.returns-clause-answer
returns-clause-answer c = λ _. reference_is (chunk_of (c.args.of.chunk, c.in-Some.ledgers.now)) c.args.target _ c.size.ensures
    ∙ (anew c).told

pub returns-clause-after : goal.returns-clause-after
returns-clause-after c = λ _. (anew c).after
