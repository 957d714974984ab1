-- One name more.
use Rattle.std.proofs.Common.{[], ◌∷◌, ◌++◌, sym, ap, ◌∙◌}
use Rattle.std.proofs.lemmas.List.{append-nil}
use Rattle.pipeline.specs.Query.{name_at}
use Rattle.pipeline.proofs.PrintLemmas.{mapped-all, mapped-more}
use Rattle.pipeline.proofs.printing.add_names.Goals as goal

pub picks-init : goal.picks-init
picks-init c = sym (append-nil c.args.names.now.items)

pub picks-preserved : goal.picks-preserved
picks-preserved c =
    mapped-more (λ pick. c.args.prefix.now ++ name_at c.args.columns.now pick) c.args.names.now.items c.args.picks.now c.picks.pick-index 0
    c.picks.names.items c.push.new.self.items c.picks-test.true c.picks.invariant
    (c.in_ok-push.ensures.items
    ∙ ap (λ name. c.picks.names.items ++ name ∷ []) (c.in_ok-new.ensures ∙ (c.deref.ensures ∙ (c.in_ok-text.ensures.ok
    ∙ ap (λ name. c.args.prefix.now ++ name) c.name_at-name.ensures.value))))

pub returns : goal.returns
returns c = record {
  names = mapped-all (λ pick. c.args.prefix.now ++ name_at c.args.columns.now pick) c.args.names.now.items c.args.picks.now c.picks.pick-index
      c.picks.names.items c.picks-test.false c.picks.invariant;
}
