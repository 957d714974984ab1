use Rattle.std.proofs.Common.{arith, ap, ◌∙◌, sym, subst}
use Rattle.acct_words.specs.Views.{View}
use Rattle.acct_words.specs.Entries.StepKind.{ForgetChunk}
use Rattle.acct_words.specs.Places.{still_word}
use Rattle.acct_words.specs.Moves.{parting}
use Rattle.acct_words.specs.Tokens.{AccountsTable, CallerToken, ChunkToken, history_of}
use Rattle.acct_words.specs.CallHistories.{TakesIn}
use Rattle.acct_words.specs.Calls.{HasEmptyChunk}
use Rattle.acct_words.specs.Plays.{Steps, first_size}
use Rattle.acct_words.proofs.SplitLemmas.{joins}
use Rattle.acct_words.proofs.TokenLemmas.{joined_empty, joined_size, retired_history}
use Rattle.acct_words.proofs.words.Words.retire.Goals as goal

pub join_seat-requires : goal.join_seat-requires
join_seat-requires c =
    let same = sym (ap (λ (t : AccountsTable). t.id) c.self.view_is) in (
      ap (λ (p : CallerToken). p.table.id) c.pass.view_is ∙ ap (λ (t : AccountsTable). t.id) c.requires.tables.0 ∙ same,
      ap (λ (s : ChunkToken). s.table.id) c.seat.view_is ∙ ap (λ (t : AccountsTable). t.id) c.requires.tables.1 ∙ same,
      c.seat.invariant.slots,
      (let w = c.self.invariant.1 in omega arith),
      joins _ _ _ _ _,
    )

pub forget-requires-clause-chunk : goal.forget-requires-clause-chunk
forget-requires-clause-chunk c = subst HasEmptyChunk (sym (ap (λ (m : _). m.0) c.join_seat.ensures.2))
    (joined_empty c.pass.inside.token.me.0 c.seat.inside.token.me c.seat.inside.number c.seat.inside.size c.pass.invariant.chunks
    c.seat.invariant
    (ap (λ (s : ChunkToken). s.charged) c.seat.view_is ∙ c.requires.bare))

pub returns-clause-history : goal.returns-clause-history
returns-clause-history c =
    let v = c.forget.ensures.view in
    let old = c.pass.inside.token.me.0 in
    let seat = c.seat.inside in
    let new = c.forget.new.token.me.0 in
    subst (λ (p : CallerToken). TakesIn (ForgetChunk c.args.seat.size) p.history c.args.seat.history (history_of new)) c.pass.view_is
    (subst (λ (p : ChunkToken). TakesIn (ForgetChunk p.size) (history_of old) p.history (history_of new)) c.seat.view_is
    (retired_history old seat.token.me.0 new v.0 seat.size c.seat.invariant.whole
    (joined_size old seat.token.me seat.number seat.size c.pass.invariant.chunks c.seat.invariant)
    (subst (λ (x : View). Steps (ForgetChunk (first_size x.own.chunks)) parting still_word v.0 x new)
    (ap (λ (m : _). m.0) c.join_seat.ensures.2) v.1)))
