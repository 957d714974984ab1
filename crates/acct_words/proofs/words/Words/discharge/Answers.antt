use Rattle.std.proofs.Common.{ap, ◌∙◌, sym, subst}
use Rattle.std.specs.Prelude.{IsTrue}
use Rattle.acct_words.specs.Tokens.{ChunkToken, is_charged, without}
use Rattle.acct_words.proofs.TokenLemmas.{can_turn_back, left_charged, left_one}
use Rattle.acct_words.proofs.words.Words.discharge.Goals as goal

pub release-requires-clause-charge : goal.release-requires-clause-charge
release-requires-clause-charge c = can_turn_back c.args.at.0 c.seat.inside.token.me c.seat.inside.number c.seat.inside.size c.seat.invariant
    (subst (λ (s : ChunkToken). IsTrue (is_charged c.args.at.0 s.charged)) (sym c.seat.view_is) c.requires.charge)

pub invariant_of-seat : goal.invariant_of-seat
invariant_of-seat c =
    let r = c.release.ensures.released in
    left_one c.args.at.0 c.seat.inside.token.me c.seat.inside.number c.seat.inside.size c.seat.invariant
    (subst (λ (s : ChunkToken). IsTrue (is_charged c.args.at.0 s.charged)) (sym c.seat.view_is) c.requires.charge)
    c.release.new.token.me r.0 r.1 c.release.ensures.table.1

pub returns-clause-charged : goal.returns-clause-charged
returns-clause-charged c =
    let r = c.release.ensures.released in
    left_charged c.args.at.0 c.seat.inside.token.me c.seat.inside.number c.seat.inside.size c.seat.invariant
    (subst (λ (s : ChunkToken). IsTrue (is_charged c.args.at.0 s.charged)) (sym c.seat.view_is) c.requires.charge)
    c.release.new.token.me r.0 r.1 c.release.ensures.table.1
    ∙ ap (λ (s : ChunkToken). without c.args.at.0 s.charged) c.seat.view_is
