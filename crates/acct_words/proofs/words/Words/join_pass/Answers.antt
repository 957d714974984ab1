use Rattle.std.proofs.Common.{subst}
use Rattle.acct_words.specs.Entries.StepKind.{LoadWord}
use Rattle.acct_words.specs.Tokens.{CallerToken, history_of}
use Rattle.acct_words.specs.CallHistories.{TakesIn}
use Rattle.acct_words.proofs.TokenLemmas.{joined_history}
use Rattle.acct_words.proofs.words.Words.join_pass.Goals as goal

pub returns-clause-history : goal.returns-clause-history
returns-clause-history c =
    let v = c.join.ensures.view in
    let old = c.pass.inside.token.me.0 in
    let other = c.other.inside.token.me.0 in
    let new = c.join.new.token.me.0 in
    subst (λ (p : CallerToken). TakesIn LoadWord p.history c.args.other.history (history_of new)) c.pass.view_is
    (subst (λ (p : CallerToken). TakesIn LoadWord (history_of old) p.history (history_of new)) c.other.view_is
    (joined_history LoadWord old other new v.0 c.other.invariant.whole v.1))
