-- One text more.
use Rattle.std.proofs.Common.{◌≡◌, ◌++◌, ◌∷◌, [], subst}
use Rattle.std.specs.Prelude.{OnOk}
use Rattle.query_model.specs.declared.cell.Cell.TheVariants as cell
use Rattle.row_text.specs.Stored.{texts}
use Rattle.operators.proofs.texts.Texts.push.Goals as goal

pub invariant_of-self : goal.invariant_of-self
invariant_of-self c = c.push_text.ensures.stored

pub returns : goal.returns
returns c = record {
  value = subst (λ seen. OnOk c.push_text.result (texts c.push_text.new.bytes.items c.push_text.new.ends.items
      ≡ seen ++ cell.Text c.args.text.now ∷ [])) c.self.view_is c.push_text.ensures.value;
}
