-- The rows of the batch are added.
use Rattle.std.proofs.Common.{◌++◌, ◌∙◌, ap, sym, subst}
use Rattle.std.specs.Prelude.{OnOk}
use Rattle.operators.specs.Groups.{AreGroups, HaveRoom}
use Rattle.operators.proofs.MergeLemmas.{behind-within, key-within}
use Rattle.operators.proofs.merging.add_batch.Goals as goal

pub add-requires : goal.add-requires
add-requires g c =
    let kinds_are = ap (λ table. table.kinds) c.as_slice.ensures ∙ c.in-Ok.ensures.kinds ∙ c.requires.groups in
    let rows_are = ap (λ table. table.rows) c.as_slice.ensures ∙ c.in-Ok.ensures.rows in
    record {
      key = key-within c.as_slice.result.kinds c.args.columns.now kinds_are c.requires.behind;
      within = behind-within c.as_slice.result.kinds c.args.columns.now kinds_are c.requires.behind;
      room = (
        c.requires.room.0,
        c.requires.room.1,
        subst (λ list. HaveRoom 0 c.args.columns.now (c.requires.room.0 ++ list)) (sym rows_are) c.requires.room.2,
      );
    }

pub returns : goal.returns
returns g c = record {
  groups = λ before are.
      let rows_are = ap (λ table. table.rows) c.as_slice.ensures ∙ c.in-Ok.ensures.rows in
      subst (λ list. OnOk c.add.result (AreGroups 0 c.args.columns.now (before ++ list) c.add.new.self)) rows_are
      (c.add.ensures.groups before are);
}
