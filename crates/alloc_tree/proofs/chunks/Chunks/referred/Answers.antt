use Rattle.std.proofs.Common.{◌∙◌, sym}
use Rattle.alloc_tree.proofs.ReferenceLemmas.{refers_to_none, refers_without_count, refers_with_count}
use Rattle.alloc_tree.proofs.chunks.Chunks.referred.Goals as goal

pub returns-in_err-ledgers : goal.returns-in_err-ledgers
returns-in_err-ledgers c =
    rw c.from_residual.ensures (sym (refers_to_none c.args.of _ c.get.ensures.ordered (sym c.in_err-ledgers.ensures.chunk)))

pub returns-then-count-eq0 : goal.returns-then-count-eq0
returns-then-count-eq0 c =
    sym (refers_without_count c.args.of _ c.get.ensures.ordered (sym c.in_ok-ledgers.ensures.chunk)
    (sym c.count.ensures ∙ c.if-count-eq0.true))

pub returns : goal.returns
returns c = sym (refers_with_count c.args.of _ c.get.ensures.ordered (sym c.in_ok-ledgers.ensures.chunk)
    (λ none. c.if-count-eq0.false (c.count.ensures ∙ none)))
