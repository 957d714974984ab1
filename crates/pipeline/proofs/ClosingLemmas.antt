-- When each allocator of a query closes.
use Rattle.std.proofs.Common.{◌≡◌, ℕ, zero, suc, ◌≤◌, List, [], ◌∷◌, length, true, refl, sym, ap, ◌∙◌, subst, arith, All}
use Rattle.std.proofs.lemmas.Bool.{eq-eqb}
use Rattle.std.proofs.lemmas.List.Elements.{All-head}
use Rattle.std.proofs.lemmas.List.Sums.{sum_by-cons}
use Rattle.mem_model.specs.declared.tree_node.TreeNode.{TreeNode}
use Rattle.mem_model.specs.Chunk.{Chunk}
use Rattle.mem_model.specs.Close.{close_result}
use Rattle.mem_model.specs.CountedReferences.{count_on, references_to}
use Rattle.mem_model.specs.LawfulChunk.{IsLawfulChunk}
use Rattle.mem_model.specs.LawfulState.{IsLawfulState}
use Rattle.mem_model.specs.Ledgers.{count_of}
use Rattle.mem_model.specs.TreeState.{TreeState, is_open}
use Rattle.pipeline.specs.Closing.{AreCounted, closing_order, closings_done, query_nodes}

-- a lawful chunk has a reference of its owner, so where none is counted, there is no chunk
no_chunks : (state : TreeState) (chunks : List Chunk) → All (IsLawfulChunk (is_open state)) chunks
    → ((k n : ℕ) → 1 ≤ k → references_to (record state { chunks = chunks }) k n ≡ 0) → chunks ≡ []
no_chunks state [] lawful none = refl
no_chunks state (chunk ∷ chunks) lawful none =
    let first = All-head (IsLawfulChunk (is_open state)) chunk chunks lawful in
    let k = chunk.number in
    let n = chunk.owner.0 in
    let own : count_on k n chunk ≡ count_of chunk.ledgers n = rw (eq-eqb k k refl) refl in
    absurd (omega (arith, first.owner, own, none k n first.some, sum_by-cons (count_on k n) chunk chunks))

-- where no reference is held, no chunk is live
pub no-chunks : (state : TreeState) → IsLawfulState state → AreCounted [] state → state.chunks ≡ []
no-chunks state lawful counted = no_chunks state state.chunks lawful.chunks counted

-- allocators of a query with these limits and reservations
module _ (root_limit scan filter project sums result : ℕ) (scan_least filter_least project_least sums_least result_least : ℕ) where
  abbrev five : List TreeNode
  five = query_nodes root_limit (scan ∷ filter ∷ project ∷ sums ∷ result ∷ [])
      (scan_least ∷ filter_least ∷ project_least ∷ sums_least ∷ result_least ∷ [])

  -- each closes, where there is no chunk
  five-close : (next drawn : ℕ)
      → closings_done (record { nodes = five; chunks = []; next = next; drawn = drawn }) closing_order ≡ 6
  unfolding close_result
  five-close next drawn = refl

  -- and is open before
  five-open : (state : TreeState) (k : ℕ) → k ≤ 5 → is_open (record state { nodes = five }) k ≡ true
  five-open state zero within = refl
  five-open state (suc zero) within = refl
  five-open state (suc (suc zero)) within = refl
  five-open state (suc (suc (suc zero))) within = refl
  five-open state (suc (suc (suc (suc zero)))) within = refl
  five-open state (suc (suc (suc (suc (suc zero))))) within = refl
  five-open state (suc (suc (suc (suc (suc (suc k)))))) within = absurd (omega (arith, within))

-- five numbers, one by one
record AreFive (numbers : List ℕ) : Type 0 where
  pub first : ℕ
  pub second : ℕ
  pub third : ℕ
  pub fourth : ℕ
  pub fifth : ℕ
  pub are : numbers ≡ first ∷ second ∷ third ∷ fourth ∷ fifth ∷ []

are-five : (numbers : List ℕ) → length numbers ≡ 5 → AreFive numbers
are-five [] e = absurd (omega (arith, e))
are-five (a ∷ []) e = absurd (omega (arith, e))
are-five (a ∷ b ∷ []) e = absurd (omega (arith, e))
are-five (a ∷ b ∷ c ∷ []) e = absurd (omega (arith, e))
are-five (a ∷ b ∷ c ∷ d ∷ []) e = absurd (omega (arith, e))
are-five (a ∷ b ∷ c ∷ d ∷ f ∷ []) e = record { first = a; second = b; third = c; fourth = d; fifth = f; are = refl }
are-five (a ∷ b ∷ c ∷ d ∷ f ∷ g ∷ more) e = absurd (omega (arith, e))

-- the allocators of a query, by the five limits and the five reservations of the root's children
module _ (root_limit : ℕ) (limits reserves : List ℕ) (state : TreeState)
    (limits_five : length limits ≡ 5) (reserves_five : length reserves ≡ 5)
    (nodes : state.nodes ≡ query_nodes root_limit limits reserves) where
  by-five : (P : List TreeNode → Type 0)
      → ((a b c d e : ℕ) (f g h i j : ℕ) → P (five root_limit a b c d e f g h i j)) → P state.nodes
  by-five P each =
      let l = are-five limits limits_five in
      let r = are-five reserves reserves_five in
      let is : state.nodes ≡ five root_limit l.first l.second l.third l.fourth l.fifth r.first r.second r.third r.fourth r.fifth =
      nodes ∙ (ap (λ numbers. query_nodes root_limit numbers reserves) l.are
      ∙ ap (query_nodes root_limit (l.first ∷ l.second ∷ l.third ∷ l.fourth ∷ l.fifth ∷ [])) r.are) in
      subst P (sym is) (each l.first l.second l.third l.fourth l.fifth r.first r.second r.third r.fourth r.fifth)

  -- each closes, where no reference is counted
  pub all-close : IsLawfulState state → AreCounted [] state → closings_done state closing_order ≡ 6
  all-close lawful counted =
      ap (λ chunks. closings_done (record state { chunks = chunks }) closing_order) (no-chunks state lawful counted)
      ∙ by-five (λ all. closings_done (record state { nodes = all; chunks = [] }) closing_order ≡ 6)
      (λ a b c d e f g h i j. five-close root_limit a b c d e f g h i j state.next state.drawn)

  -- each is open
  pub open-queries : (k : ℕ) → k ≤ 5 → is_open state k ≡ true
  open-queries k within =
      by-five (λ all. is_open (record state { nodes = all }) k ≡ true)
      (λ a b c d e f g h i j. five-open root_limit a b c d e f g h i j state k within)
