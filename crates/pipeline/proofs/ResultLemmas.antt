-- The end of a query: its result is given back, and each of its allocators closes.
use Rattle.std.proofs.Common.{◌≡◌, ℕ, List, [], ◌∷◌, length, ◌∙◌, subst}
use Rattle.std.proofs.lemmas.List.{append-nil}
use Rattle.mem_num.specs.declared.buffer_ref.Ref.{Ref}
use Rattle.mem_model.specs.LawfulState.{IsLawfulState}
use Rattle.mem_model.specs.MeasuredTree.{MeasuredTree, peak_at}
use Rattle.mem_model.specs.PeakSample.{peak_of}
use Rattle.leak_report.specs.ReportText.{report_text}
use Rattle.query_model.specs.SequentialCalls.{sequential_run}
use Rattle.query_model.specs.declared.cell.Cell.{Cell}
use Rattle.query_model.specs.declared.plan.Plan.{Plan}
use Rattle.pipeline.specs.Query.{query_names, query_report}
use Rattle.mem_buf.specs.Callers.{GivesBack}
use Rattle.mem_buf.specs.Chain.{Runs}
use Rattle.alloc_tree.specs.SoloMeaning.{solo_model}
use Rattle.pipeline.specs.Closing.{AreCounted, closing_order, closings_done, query_nodes}
use Rattle.pipeline.specs.Holding.{Leaves}
use Rattle.pipeline.proofs.ClosingLemmas.{all-close}
use Rattle.pipeline.proofs.CountedLemmas.{counted-kept, nodes-kept}
use Rattle.pipeline.proofs.StoredLemmas.{returned-part}

-- where all references that are left were given back, all allocators close
pub all-closed : (root_limit : ℕ) (limits reserves : List ℕ) (held : List Ref) (old new : MeasuredTree)
    → length limits ≡ 5 → length reserves ≡ 5 → old.state.nodes ≡ query_nodes root_limit limits reserves
    → IsLawfulState old.state → IsLawfulState new.state → AreCounted held old.state → Runs solo_model (GivesBack held) old new
    → closings_done new.state closing_order ≡ 6
all-closed root_limit limits reserves held old new limits_five reserves_five nodes before after counted runs =
    let calls = runs.0 in
    let back = returned-part held calls runs.2 in
    let leaves = subst (λ list. Leaves list calls []) (append-nil held) (back.leaves []) in
    all-close root_limit limits reserves new.state limits_five reserves_five (nodes-kept calls old new back.buffers runs.1 ∙ nodes) after
    (counted-kept calls held [] old new back.buffers before counted runs.1 leaves)

-- the report of a tree that the calls of one worker left
pub report-is : (plan : Plan) (rows : List (List Cell)) (tree : MeasuredTree) → tree.state ≡ (sequential_run plan rows).state
    → ((n : ℕ) → peak_at tree n ≡ peak_of (sequential_run plan rows).samples n)
    → report_text (query_names ∷ []) (peak_at tree) tree.state ≡ query_report plan rows
report-is plan rows tree state peaks i = report_text (query_names ∷ []) (λ n. peaks n i) (state i)
