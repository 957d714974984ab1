-- The refusal of a memory is handed on.
use Rattle.std.proofs.Common.{◌≡◌, ◌≤◌, length, [], ◌∷◌, rules}
use Rattle.std.specs.Prelude.{Err}
use Rattle.mem_num.specs.declared.bounds.TheConstants.{LARGEST}
use Rattle.mem_buf.specs.TokenView.{size_for}
use Rattle.mem_buf.specs.MemoryCall.{Grant}
use Rattle.mem_buf.proofs.ChainLemmas.{MakesCalls-one}
use Rattle.mem_buf.proofs.StoreLemmas.{IsStore-asked}
use Rattle.mem_buf.proofs.store.store_vec.Goals as goal

pub returns-in-Err-clause-calls : goal.returns-in-Err-clause-calls
returns-in-Err-clause-calls g c =
    let same : c.len-len.result ≡ length c.args.bytes.items = search rules in
    let made = rw same at c.in-Err.ensures.makes in
    let few : size_for (g.M.Memory.model.view c.args.token.now) c.args.at (length c.args.bytes.items) ≤ LARGEST = search rules in (
      Grant c.args.at (length c.args.bytes.items) (Err c.in-Err.refused) ∷ [],
      MakesCalls-one g.M.Memory.model _ _ _ made,
      IsStore-asked (g.M.Memory.model.view c.args.token.now) _ _ _ (Err c.in-Err.refused) few made.answer,
    )
