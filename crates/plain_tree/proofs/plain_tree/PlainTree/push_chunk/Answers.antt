use Rattle.std.proofs.Common.{◌∙◌}
use Rattle.plain_tree.specs.Fields.{sampled_tree}
use Rattle.plain_tree.proofs.SoundLemmas.{chunks-pushed, sound-push_chunk}
use Rattle.plain_tree.proofs.plain_tree.PlainTree.push_chunk.Goals as goal

pub invariant_of-self-2 : goal.invariant_of-self-2
invariant_of-self-2 c =
    let room = rw (← c.self.view_is) at c.requires.numbers in
    let chargeable = rw (← c.self.view_is) at c.requires.chargeable in
    sound-push_chunk (sampled_tree c.self.inside) c.args.request c.args.sample c.push.new.self.items c.push-2.new.self.items c.self.invariant room chargeable c.requires.sound
    (chunks-pushed _ _ _ _ _ c.in_ok-push.ensures.items (c.in_ok-chunks.ensures ∙ c.deref.ensures.value) c.in_ok-new.ensures) c.in_ok-push-2.ensures.items
