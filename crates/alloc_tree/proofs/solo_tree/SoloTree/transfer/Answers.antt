use Rattle.std.proofs.Common.{◌∙◌, sym, ap, subst, rules}
use Rattle.mem_model.specs.MeasuredTree.{MeasuredTree}
use Rattle.mem_model.specs.LawfulState.{IsLawfulState}
use Rattle.alloc_tree.proofs.TransferLemmas.{are_refused, passed_on, not_memory, after_refused, is_retained, target_refers, both_done}
use Rattle.alloc_tree.proofs.solo_tree.SoloTree.transfer.Goals as goal

-- the reference was refused
pub returns-in_err-reference-clause-answer : goal.returns-in_err-reference-clause-answer
returns-in_err-reference-clause-answer c = λ other.
    let is = passed_on c.from_residual.result c.in_err-reference.field-0.0 c.from_residual.ensures.1 in
    let told = c.in_err-reference.ensures.answer (not_memory c.from_residual.result c.in_err-reference.field-0.0 is other) in
    is ∙ sym (ap (λ call. call.answer)
    (are_refused c.args.self.now.state c.args.of c.args.target c.in_err-reference.field-0.0 told).transfer)

pub returns-in_err-reference-clause-after : goal.returns-in_err-reference-clause-after
returns-in_err-reference-clause-after c = λ other.
    let is = passed_on c.from_residual.result c.in_err-reference.field-0.0 c.from_residual.ensures.1 in
    let memory = not_memory c.from_residual.result c.in_err-reference.field-0.0 is other in
    let refused = are_refused c.args.self.now.state c.args.of c.args.target c.in_err-reference.field-0.0
    (c.in_err-reference.ensures.answer memory) in
    after_refused c.args.self.now c.retain.new.self _ _ _ _ refused.retain refused.transfer (c.in_err-reference.ensures.after memory)

-- it was given, and the charge taken over
pub take_over-fits-requires : goal.take_over-fits-requires
take_over-fits-requires c =
    let lawful = subst (λ (t : MeasuredTree). IsLawfulState t.state) c.self.view_is c.self.invariant.sound.lawful in
    let told = c.in_ok-reference.ensures in
    let given = is_retained c.args.self.now.state c.args.of c.args.target c.in_ok-reference.reference (told.answer (λ same. absurd cc)) in
    record {
      refers = target_refers c.args.self.now c.retain.new.self c.args.of c.args.target c.in_ok-reference.reference lawful given
          (told.after (λ same. absurd cc));
    }

pub returns : goal.returns
returns c =
    let lawful = subst (λ (t : MeasuredTree). IsLawfulState t.state) c.self.view_is c.self.invariant.sound.lawful in
    let told = c.in_ok-reference.ensures in
    let given = is_retained c.args.self.now.state c.args.of c.args.target c.in_ok-reference.reference (told.answer (λ same. absurd cc)) in
    let take = c.take_over-fits in
    let both = both_done c.args.self.now c.retain.new.self c.args.of c.args.target c.in_ok-reference.reference lawful given
    (told.after (λ same. absurd cc)) take.new.self take.result take.ensures.answer take.ensures.after in
    record { answer = λ _. both.0; after = λ _. both.1; no_memory = search rules; counted = search rules }
