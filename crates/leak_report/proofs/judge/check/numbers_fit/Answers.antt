-- Each part is tested.
use Rattle.leak_report.proofs.judge.check.numbers_fit.Goals as goal

pub returns : goal.returns
returns c = (
  λ counts. record {
    allocators = c.allocators_fit.ensures.0 c.if-not-allocators_fit.false;
    chunks = c.chunks_fit.ensures.0 c.if-not-chunks_fit.false;
    counts = c.counts_fit.ensures.0 counts;
    references = c.requires;
  },
  λ fits. c.counts_fit.ensures.1 fits.counts,
)
