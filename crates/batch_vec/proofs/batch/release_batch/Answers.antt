-- The holds that are seen are those of the buffers.
use Rattle.std.proofs.Common.{◌≡◌, map, sym, ◌∙◌, ap, subst}
use Rattle.std.proofs.lemmas.Simd.{map-map}
use Rattle.mem_buf.specs.Callers.{GivesBack}
use Rattle.mem_buf.specs.Chain.{Runs}
use Rattle.batch_vec.proofs.batch.release_batch.Goals as goal

pub returns : goal.returns
returns g c =
    let memory = g.M.Memory.model in
    let same : map (λ buffer. memory.reference buffer.hold) c.batch.inside.buffers.items ≡ map memory.reference c.args.batch.holds =
    sym (map-map memory.reference (λ buffer. buffer.hold) c.batch.inside.buffers.items)
    ∙ ap (λ batch. map memory.reference batch.holds) c.batch.view_is in
    record {
      calls = subst (λ references. Runs memory (GivesBack references) c.args.token.now c.give_back.new.token) same
          c.give_back.ensures.calls;
    }
