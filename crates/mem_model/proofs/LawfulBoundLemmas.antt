-- How much a lawful tree can hold.
use Rattle.std.proofs.Common.{◌≡◌, ℕ, ◌+◌, ◌*◌, ◌<◌, ◌≤◌, ◌^◌, ◌∷◌, length, get_or, arith}
use Rattle.std.proofs.lemmas.List.{length-map}
use Rattle.std.proofs.lemmas.List.Elements.{All-map}
use Rattle.std.proofs.lemmas.List.Sums.{sum_by-le}
use Rattle.mem_num.specs.declared.bounds.TheConstants.{LARGEST, MAX_RESERVATION, MOST_ALLOCATORS}
use Rattle.mem_model.specs.declared.charge.Charge.{Charge}
use Rattle.mem_model.specs.Chunk.{Chunk}
use Rattle.mem_model.specs.declared.tree_node.TreeNode.{TreeNode}
use Rattle.mem_model.specs.Bound.{all_of}
use Rattle.mem_model.specs.Chunk.{charge_of}
use Rattle.mem_model.specs.Held.{held_of}
use Rattle.mem_model.specs.TreeState.{TreeState, charges_in}
use Rattle.mem_model.specs.LawfulState.{IsLawfulState}
use Rattle.mem_model.proofs.BoundLemmas.{held_of_bound, all_of_cons}
use Rattle.mem_model.proofs.OpenLemmas.{length-rising}

-- there are as many chunks at most as numbers were drawn
pub chunks_few : (state : TreeState) → IsLawfulState state → length state.chunks ≤ state.drawn
chunks_few state h =
    let few = length-rising (λ (chunk : Chunk). chunk.number) 1 (state.drawn + 1) state.chunks h.in_order (λ k d within. (h.chunks k d within).some)
    (λ k d within. let given : (get_or state.chunks k d).number ≤ state.drawn = h.given k d within in omega arith) (omega arith) in
    omega (arith, few)

-- and at most 64 nodes
pub nodes_few : (state : TreeState) → IsLawfulState state → length state.nodes ≤ 64
nodes_few state h =
    let few = length-rising (λ (node : TreeNode). node.number.0) 0 64 state.nodes h.tree.ordered (λ k d within. omega arith) (λ k d within. (h.nodes k d within).few) (omega arith) in
    omega (arith, few)

-- so 64 bits hold all charges and all reservations together
pub all_of-lawful : (state : TreeState) → IsLawfulState state → state.drawn < 2 ^ 32 → all_of state.nodes (charges_in state) ≤ 2 ^ 62 + MOST_ALLOCATORS * MAX_RESERVATION
all_of-lawful state h drawn =
    let charges = sum_by-le (λ (charge : Charge). charge.amount) (2 ^ 30) (charges_in state) (All-map (λ (charge : Charge). charge.amount ≤ LARGEST) charge_of state.chunks (λ k d within. (h.chunks k d within).few_bytes)) in
    let reservations = sum_by-le (λ (node : TreeNode). node.reservation) (2 ^ 40) state.nodes (λ k d within. (h.nodes k d within).small) in
    let count : length (charges_in state) ≡ length state.chunks = length-map state.chunks charge_of in
    omega (arith, charges, reservations, count, chunks_few state h, nodes_few state h)

-- also with a request on trial
pub all_of-trial : (state : TreeState) (request : Charge) → IsLawfulState state → state.drawn < 2 ^ 32 → request.amount ≤ MAX_RESERVATION → all_of state.nodes (request ∷ charges_in state) < 2 ^ 63
all_of-trial state request h drawn small =
    omega (arith, all_of-lawful state h drawn, all_of_cons state.nodes (charges_in state) request)

-- nobody holds more
pub held_of-trial : (state : TreeState) (request : Charge) (n : ℕ) → IsLawfulState state → state.drawn < 2 ^ 32 → request.amount ≤ MAX_RESERVATION → held_of state.nodes (request ∷ charges_in state) n < 2 ^ 63
held_of-trial state request n h drawn small =
    omega (arith, all_of-trial state request h drawn small, held_of_bound state.nodes (request ∷ charges_in state) n h.tree)
