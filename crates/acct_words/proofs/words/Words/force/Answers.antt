use Rattle.std.proofs.Common.{subst}
use Rattle.acct_words.specs.Tokens.{ChunkToken, history_of}
use Rattle.acct_words.specs.CallHistories.{HasForced}
use Rattle.acct_words.proofs.TokenLemmas.{of_chunk, forced_history}
use Rattle.acct_words.proofs.ClimbLemmas.{none_is}
use Rattle.acct_words.proofs.words.Words.force.Goals as goal

pub returns-clause-forced : goal.returns-clause-forced
returns-clause-forced c =
    let f = c.force.ensures.forced in
    subst (λ (s : ChunkToken). HasForced c.args.at.0 s.size c.args.seat.now.history
    (history_of c.force.new.token.me.0) c.is_none.result) c.seat.view_is
    (of_chunk (λ old. HasForced c.args.at.0 c.seat.inside.size old (history_of c.force.new.token.me.0) c.is_none.result)
    c.seat.inside.token.table_id c.seat.inside.token.me.0 c.seat.inside.number c.seat.inside.size c.args.seat.now
    c.seat.view_is
    (forced_history c.args.at.0 c.seat.inside.size c.seat.inside.token.me.0 c.force.new.token.me.0 c.force.result c.is_none.result f.0 f.1
    f.2 (none_is c.force.result c.is_none.result c.is_none.ensures)))
