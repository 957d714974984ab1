-- A child, and those behind it.
use Rattle.std.proofs.Common.{[], ◌∷◌, refl, subst, sym, Err}
use Rattle.mem_buf.specs.Chain.{Runs}
use Rattle.alloc_tree.specs.SoloMeaning.{solo_model}
use Rattle.pipeline.specs.Opening.{OpensChildren}
use Rattle.pipeline.specs.declared.refused.QueryRefused.TheVariants.{Full}
use Rattle.mem_buf.specs.MemoryCall.{Child}
use Rattle.query_model.specs.Requests.{root_id}
use Rattle.std.specs.Prelude.{slice_index_or}
use Rattle.pipeline.proofs.OpeningLemmas.{adds-behind, opens-behind, opens-none}
use Rattle.pipeline.proofs.opening.+open_each.Goals as goal

pub returns-in-Ok-clause-calls : goal.returns-in-Ok-clause-calls
returns-in-Ok-clause-calls t c =
    opens-behind c.args.tree.now c.child.new.token c.args.limits.now c.args.reserves.now c.in-len1-up-limits.len_at_least
    c.in-len1-up.len_at_least c.in-Ok.field-0 c.open_each.result c.open_each.new.tree c.in-Ok.ensures.makes c.open_each.ensures.calls

pub returns-in-Ok-clause-children : goal.returns-in-Ok-clause-children
returns-in-Ok-clause-children t c =
    adds-behind c.args.tree.now c.child.new.token c.args.limits.now c.args.reserves.now c.in-len1-up-limits.len_at_least
    c.in-len1-up.len_at_least c.in-Ok.field-0 c.open_each.result c.open_each.new.tree c.in-Ok.ensures.makes c.open_each.ensures.children

pub returns-in-Err-Full-clause-calls : goal.returns-in-Err-Full-clause-calls
returns-in-Err-Full-clause-calls t c =
    subst (λ told. Runs solo_model (OpensChildren c.args.limits.now c.args.reserves.now (Err (Full told 0))) c.args.tree.now
    c.child.new.token) (sym c.in-Err-Full.full-is)
    (opens-none c.args.tree.now c.child.new.token c.args.limits.now c.args.reserves.now c.in-len1-up-limits.len_at_least
    c.in-len1-up.len_at_least c.in-Err-Full.field-0 c.in-Err-Full.full c.in-Err-Full.field-0-is c.in-Err-Full.ensures.makes)

pub returns-in-Err : goal.returns-in-Err
returns-in-Err t c = record {
  calls = (
    Child root_id (slice_index_or c.args.reserves.now 0 0) (slice_index_or c.args.limits.now 0 0) (Err c.in-Err.field-0) ∷ [],
    (c.child.new.token, c.in-Err.ensures.makes, refl),
    tt,
  );
  children = tt;
  turns = tt;
}
