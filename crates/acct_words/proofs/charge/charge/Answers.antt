use Rattle.std.proofs.Common.{◌∙◌, sym}
use Rattle.acct_words.proofs.ChargeLemmas.{drawn_empty, charged_has, charged_turns, released_empty, charge_done, charge_refused}
use Rattle.acct_words.proofs.RefusalLemmas.{refused_within}
use Rattle.acct_words.proofs.charge.charge.Goals as goal

pub climb-requires-clause-chunk : goal.climb-requires-clause-chunk
climb-requires-clause-chunk c = drawn_empty _ _ _ c.draw-number.ensures.view

pub part-requires-clause-chunk : goal.part-requires-clause-chunk
part-requires-clause-chunk c = let d = c.draw-number.ensures.view in let h = c.climb.ensures.climbed in
    charged_has c.args.at c.args.size _ _ _ _ h.0 d h.1

pub release-requires-clause-charge : goal.release-requires-clause-charge
release-requires-clause-charge c = let d = c.draw-number.ensures.view in let h = c.climb.ensures.climbed in
    charged_turns c.args.at c.args.size _ _ _ _ h.0 d h.1

pub forget-requires-clause-chunk : goal.forget-requires-clause-chunk
forget-requires-clause-chunk c =
    let d = c.draw-number.ensures.view in let h = c.climb.ensures.climbed in let r = c.release.ensures.released in
    released_empty c.args.at c.args.size _ _ _ _ _ h.0 r.0 d h.1 r.1

pub returns-in-None-clause-ok : goal.returns-in-None-clause-ok
returns-in-None-clause-ok c =
    let d = c.draw-number.ensures.view in let h = c.climb.ensures.climbed in
    charge_done c.args.at c.args.size _ _ _ _ _ _ h.0 c.requires.whole d h.1 (sym h.2 ∙ c.in-None.is) c.part.ensures.views

pub returns-in-Some-clause-bound : goal.returns-in-Some-clause-bound
returns-in-Some-clause-bound c =
    let d = c.draw-number.ensures.view in let h = c.climb.ensures.climbed in let r = c.release.ensures.released in let f =
    c.forget.ensures.view in
    refused_within c.args.at c.args.size _ _ _ (charge_refused c.args.at c.args.size _ _ _ _ _ _ h.0 r.0 _ f.0 d h.1 (sym h.2
    ∙ c.in-Some.is) r.1 f.1) c.forget.ensures.history
