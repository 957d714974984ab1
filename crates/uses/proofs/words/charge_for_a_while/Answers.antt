use Rattle.std.proofs.Common.{ℕ, ◌∙◌, subst}
use Rattle.acct_words.specs.Entries.StepKind.{ForgetChunk}
use Rattle.acct_words.specs.CallHistories.{HasDischarged, TakesIn}
use Rattle.acct_words.proofs.ReturnLemmas.{charge_gives_back, refused_gives_back}
use Rattle.uses.proofs.words.charge_for_a_while.Goals as goal

pub returns-in_err-seat-clause-given_back : goal.returns-in_err-seat-clause-given_back
returns-in_err-seat-clause-given_back c = refused_gives_back c.args.words.now.start c.args.at.0 c.args.size c.args.pass.now
    c.charge.new.pass c.in_err-seat.field-0.0 c.in_err-seat.ensures.full c.charge.ensures.spent.0

pub returns-clause-given_back : goal.returns-clause-given_back
returns-clause-given_back c =
    let start = c.args.words.now.start in
    let at = c.args.at.0 in
    let seat = c.in_ok-seat.seat in
    let bare = c.discharge.new.seat in
    let between = c.charge.new.pass in
    let same = c.in_ok-seat.ensures.chunk.1 in
    charge_gives_back start at c.args.size c.args.pass.now c.retire.new.pass (record {
      number = seat.number;
      between = between;
      chunk = seat;
      bare = bare;
      charged = c.in_ok-seat.ensures.charged;
      spent = c.charge.ensures.spent.0;
      shown = c.in_ok-seat.ensures.chunk.3;
      released = subst (λ (size : ℕ). HasDischarged at size seat.history bare.history) same c.discharge.ensures.released;
      taken_in = subst (λ (size : ℕ). TakesIn (ForgetChunk size) between.history bare.history c.retire.new.pass.history)
          (c.discharge.ensures.chunk.2 ∙ same) c.retire.ensures.history;
      kept = c.retire.ensures.pass.1;
    })
