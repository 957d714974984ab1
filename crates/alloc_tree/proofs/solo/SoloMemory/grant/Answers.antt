-- The clauses of the tree's own call are those of a memory.
use Rattle.mem_num.specs.Rounded.{rounded_size}
use Rattle.mem_num.specs.declared.rounding.Rounding.TheVariants.{Power}
use Rattle.mem_buf.proofs.CauseLemmas.{grant-causes}
use Rattle.alloc_tree.specs.SoloView.{solo_view}
use Rattle.alloc_tree.proofs.SoloCallLemmas.{makes-grant}
use Rattle.alloc_tree.proofs.solo.SoloMemory.grant.Goals as goal

pub returns : goal.returns
returns c =
    let made = makes-grant c.args.at c.args.request c.grant.result c.args.token.now c.grant.new.self c.every_tree_is_lawful.ensures
    (record { told = c.grant.ensures.answer; after = c.grant.ensures.after; same = c.grant.ensures.no_memory }) c.grant.ensures.counted in
    let causes = grant-causes (λ hold. hold) (solo_view c.args.token.now) c.args.at c.args.request (rounded_size Power c.args.request)
    c.grant.result made.answer in
    record {
      granted = causes.granted;
      too_large = causes.too_large;
      closed = causes.closed;
      unpinned = causes.unpinned;
      full = causes.full;
      makes = made;
    }
