-- As many sums as there are numbers.
use Rattle.std.proofs.Common.{◌≡◌, ◌-◌, ◌++◌, ap, arith, length, sym, subst}
use Rattle.std.specs.Prelude.{OnOk}
use Rattle.std.proofs.Math.ListN.{replicate}
use Rattle.query_model.specs.declared.cell.Cell.TheVariants as cell
use Rattle.row_text.specs.Stored.{numbers}
use Rattle.row_text.proofs.SliceLemmas.{numbers-length}
use Rattle.operators.proofs.sums.Sums.grow.Goals as goal

pub grow_both-requires-clause-more : goal.grow_both-requires-clause-more
grow_both-requires-clause-more c =
    let seen = ap length c.self.view_is in
    let long = numbers-length cell.Sum c.self.inside.values.items c.self.inside.known.items c.self.invariant in
    omega (arith, seen, long, c.requires.more)

pub returns : goal.returns
returns c =
    let long : length (numbers cell.Sum c.self.inside.values.items c.self.inside.known.items) ≡ length c.self.inside.values.items =
    numbers-length cell.Sum c.self.inside.values.items c.self.inside.known.items c.self.invariant in
    record {
      value = subst (λ seen. OnOk c.grow_both.result (numbers cell.Sum c.grow_both.new.values.items c.grow_both.new.known.items
          ≡ seen ++ replicate (c.args.count - length seen) cell.Null)) c.self.view_is
          (subst (λ n. OnOk c.grow_both.result (numbers cell.Sum c.grow_both.new.values.items c.grow_both.new.known.items
          ≡ numbers cell.Sum c.self.inside.values.items c.self.inside.known.items ++ replicate (c.args.count - n) cell.Null))
          (sym long) c.grow_both.ensures.value);
    }
