-- One column more.
use Rattle.std.proofs.Common.{◌≡◌, ◌≤◌, arith, length, rules}
use Rattle.operators.proofs.GatherLemmas.{gathered-all, gathered-more, slice-long, slice-typed}
use Rattle.operators.proofs.gathering.columns_gathered.Goals as goal

pub column_gathered-requires : goal.column_gathered-requires
column_gathered-requires c = record {
  slices = c.in-Some.ensures.some.slices;
  typed = slice-typed c.args.rows.now c.len.result c.in-Some.column c.len-count.ensures.typed c.in-Some.ensures.some;
  within = λ k d inside.
      let small = c.requires.within k d inside in
      let long = slice-long c.args.rows.now c.len.result c.in-Some.column c.in-Some.ensures.some in
      omega (arith, small, long);
}

pub columns-preserved : goal.columns-preserved
columns-preserved c =
    let size : c.len.result ≡ length c.columns.columns.items = search rules in
    gathered-more c.args.rows.now c.args.places.now c.requires.within c.columns.columns.items c.push.new.self.items c.in-Some.column
    c.len.result _ size c.in-Some.ensures.some c.columns.invariant c.in_ok-push.ensures.items c.in_ok-column_gathered.ensures.value

pub returns : goal.returns
returns c =
    let size : c.len.result ≡ length c.columns.columns.items = search rules in
    let behind : length c.args.rows.now.kinds ≤ c.len.result = c.in_default.ensures.none in
    record {
      columns = gathered-all c.args.rows.now c.args.places.now c.requires.within c.columns.columns.items c.columns.invariant
          (omega (arith, size, behind));
    }
