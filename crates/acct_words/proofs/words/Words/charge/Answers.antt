use Rattle.std.proofs.Common.{◌+◌, ◌<◌, sym, subst}
use Rattle.std.specs.Prelude.{IfOk, IfErr}
use Rattle.acct_words.specs.Tokens.{history_of}
use Rattle.acct_words.specs.CallHistories.{HasCharged, HasBeenRefused}
use Rattle.acct_words.proofs.TokenLemmas.{of_caller, charged_history, refused_history, refusal_past}
use Rattle.acct_words.proofs.words.Words.charge.Goals as goal
use Rattle.acct_words.proofs.words.Words.charge.Goals.{in-Ok, in-Err}

pub returns-clause-charged : goal.returns-clause-charged
returns-clause-charged c = elim c.match-charged.branch [
  | in-Ok w ↦ subst (λ (r : _). IfOk r (λ chunk. HasCharged c.args.at.0 c.args.size chunk.number
      c.args.pass.now.history (history_of c.charge-charged.new.token.me.0))) (sym w.result-is)
      (of_caller (λ old. HasCharged c.args.at.0 c.args.size w.in-Ok.number old (history_of c.charge-charged.new.token.me.0))
      c.pass.inside.token.table_id c.pass.inside.token.me.0 c.pass.inside.budget c.args.pass.now c.pass.view_is
      (charged_history c.args.at.0 c.args.size c.pass.inside.token.me.0 c.charge-charged.new.token.me.0 w.in-Ok.number w.in-Ok.token.me.0
      w.in-Ok.ensures.ok))
  | in-Err w ↦ subst (λ (r : _). IfOk r (λ chunk. HasCharged c.args.at.0 c.args.size chunk.number
      c.args.pass.now.history (history_of c.charge-charged.new.token.me.0))) (sym w.result-is) tt
]

pub returns-clause-full : goal.returns-clause-full
returns-clause-full c = elim c.match-charged.branch [
  | in-Ok w ↦ subst (λ (r : _). IfErr r (λ full. HasBeenRefused c.args.at.0 c.args.size c.args.pass.now.history
      (history_of c.charge-charged.new.token.me.0) full)) (sym w.result-is) tt
  | in-Err w ↦ subst (λ (r : _). IfErr r (λ full. HasBeenRefused c.args.at.0 c.args.size
      c.args.pass.now.history (history_of c.charge-charged.new.token.me.0) full)) (sym w.result-is)
      (of_caller (λ old. HasBeenRefused c.args.at.0 c.args.size old (history_of c.charge-charged.new.token.me.0) w.in-Err.full)
      c.pass.inside.token.table_id c.pass.inside.token.me.0 c.pass.inside.budget c.args.pass.now c.pass.view_is
      (refused_history c.args.at.0 c.args.size c.pass.inside.token.me.0 c.charge-charged.new.token.me.0 w.in-Err.full
      w.in-Err.ensures.full))
]

pub returns-clause-past : goal.returns-clause-past
returns-clause-past c = elim c.match-charged.branch [
  | in-Ok w ↦ subst (λ (r : _). IfErr r (λ full. full.limit < full.held + full.amount)) (sym w.result-is) tt
  | in-Err w ↦ subst (λ (r : _). IfErr r (λ full. full.limit < full.held + full.amount)) (sym w.result-is)
      (let r = w.in-Err.ensures.full in refusal_past c.args.at.0 r.steps w.in-Err.full r.refusal)
]
