-- Each step of the plain tree leaves it sound.
use Rattle.std.proofs.Common.{◌≡◌, ℕ, ◌+◌, ◌<◌, ◌≤◌, ◌^◌, List, [], ◌∷◌, ◌++◌, sym, ap, subst, ◌∙◌, arith, All, append-nil}
use Rattle.std.proofs.lemmas.List.Elements.{All-push}
use Rattle.mem_num.specs.declared.bounds.TheConstants.{MAX_RESERVATION}
use Rattle.mem_num.specs.declared.alloc_id.AllocId.{AllocId}
use Rattle.mem_model.specs.declared.charge.Charge.{Charge}
use Rattle.mem_model.specs.Chunk.{Chunk, new_chunk}
use Rattle.mem_model.specs.declared.tree_node.TreeNode.{TreeNode}
use Rattle.mem_model.specs.Bound.{all_of}
use Rattle.mem_model.specs.TreeNode.{IsAllocatorTree}
use Rattle.mem_model.specs.PeakSample.{PeakSample, IsSoundSample, request_sample}
use Rattle.mem_model.specs.TreeState.{TreeState, CallResult, unchanged, charges_in, uses_of}
use Rattle.mem_model.specs.Child.{child_node}
use Rattle.mem_model.specs.Close.{with_closed}
use Rattle.mem_model.specs.LawfulState.{IsLawfulState}
use Rattle.plain_tree.specs.PlainTree.{SampledTree, MeetsCall, HasFewReferences, IsSoundTree, IsChargeable, IsNewChild}
use Rattle.mem_model.proofs.LawfulLemmas.{lawful-spend_chunk, lawful-push_chunk, lawful-spend_number, lawful-push_child}
use Rattle.mem_model.proofs.LawfulCloseLemmas.{lawful-close}
use Rattle.mem_model.proofs.LawfulBoundLemmas.{all_of-lawful, all_of-trial}

-- 64 bits hold what a request makes of it
pub sound-fits : (tree : SampledTree) (request : Charge) → IsSoundTree tree → request.amount ≤ MAX_RESERVATION → all_of tree.state.nodes (request ∷ charges_in tree.state) < 2 ^ 64
sound-fits tree request h small = omega (arith, all_of-trial tree.state request h.lawful h.drawn small)

-- the same, at lists that are the tree's
pub sound-fits_at : (tree shown : SampledTree) (nodes : List TreeNode) (charges : List Charge) (request : Charge) → IsSoundTree tree → tree ≡ shown → request.amount ≤ MAX_RESERVATION → nodes ≡ tree.state.nodes → charges ≡ charges_in shown.state
    → all_of nodes (request ∷ charges) < 2 ^ 64
sound-fits_at tree shown nodes charges request h view small is_nodes is_charges =
    let same : charges ≡ charges_in tree.state = is_charges ∙ ap (λ t. charges_in t.state) (sym view) in
    subst (λ (ns : List TreeNode). all_of ns (request ∷ charges) < 2 ^ 64) (sym is_nodes)
    (subst (λ (cs : List Charge). all_of tree.state.nodes (request ∷ cs) < 2 ^ 64) (sym same) (sound-fits tree request h small))

-- and its nodes are a tree
pub sound-tree_at : (tree : SampledTree) (nodes : List TreeNode) → IsSoundTree tree → nodes ≡ tree.state.nodes → IsAllocatorTree nodes
sound-tree_at tree nodes h is = subst IsAllocatorTree (sym is) h.lawful.tree

-- and all that is held without one
pub sound-all_of_at : (tree shown : SampledTree) (nodes : List TreeNode) (charges : List Charge) → IsSoundTree tree → tree ≡ shown → nodes ≡ tree.state.nodes → charges ≡ charges_in shown.state → all_of nodes charges < 2 ^ 63
sound-all_of_at tree shown nodes charges h view is_nodes is_charges =
    let same : charges ≡ charges_in tree.state = is_charges ∙ ap (λ t. charges_in t.state) (sym view) in
    subst (λ (ns : List TreeNode). all_of ns charges < 2 ^ 63) (sym is_nodes)
    (subst (λ (cs : List Charge). all_of tree.state.nodes cs < 2 ^ 63) (sym same) (omega (arith, all_of-lawful tree.state h.lawful h.drawn)))

-- so its sample is sound
pub sound-sample : (tree : SampledTree) (request : Charge) → IsSoundTree tree → request.amount ≤ MAX_RESERVATION → IsSoundSample (request_sample tree.state.nodes (charges_in tree.state) request)
sound-sample tree request h small = (h.lawful.tree, sound-fits tree request h small)

-- samples with a sound one more
samples-push : (earlier samples : List PeakSample) (sample : PeakSample) → All IsSoundSample earlier → IsSoundSample sample → samples ≡ earlier ++ sample ∷ [] → All IsSoundSample samples
samples-push earlier samples sample h sound is = subst (All IsSoundSample) (sym is) (All-push IsSoundSample earlier sample h sound)

-- a chunk number is spent
pub sound-spend_chunk : (tree : SampledTree) (sample : PeakSample) (samples : List PeakSample) → IsSoundTree tree → tree.state.drawn < 4294967295 → IsSoundSample sample → samples ≡ tree.samples ++ sample ∷ []
    → IsSoundTree (record { state = record tree.state { drawn = tree.state.drawn + 1 }; samples = samples })
sound-spend_chunk tree sample samples h room sound is = record {
  lawful = lawful-spend_chunk tree.state h.lawful;
  drawn = omega arith;
  samples = samples-push tree.samples samples sample h.samples sound is;
  references = h.references;
}

-- what is pushed to a copy
pub chunks-pushed : (chunks copies pushed : List Chunk) (chunk made : Chunk) → pushed ≡ copies ++ chunk ∷ [] → copies ≡ chunks → chunk ≡ made → pushed ≡ chunks ++ made ∷ []
chunks-pushed chunks copies pushed chunk made is same new = cc

-- the moment of a forced charge is measured
pub sound-measure : (tree : SampledTree) (sample : PeakSample) (samples : List PeakSample) → IsSoundTree tree → IsSoundSample sample → samples ≡ tree.samples ++ sample ∷ [] → IsSoundTree (record tree { samples = samples })
sound-measure tree sample samples h sound is = record {
  lawful = h.lawful;
  drawn = h.drawn;
  samples = samples-push tree.samples samples sample h.samples sound is;
  references = h.references;
}

-- other chunks stand there
pub sound-chunks : (tree : SampledTree) (chunks : List Chunk) → IsSoundTree tree → IsLawfulState (record tree.state { chunks = chunks }) → All HasFewReferences chunks → IsSoundTree (record tree { state = record tree.state { chunks = chunks } })
sound-chunks tree chunks h lawful few = record { lawful = lawful; drawn = h.drawn; samples = h.samples; references = few }

-- a chunk is made
pub sound-push_chunk : (tree : SampledTree) (request : Charge) (sample : PeakSample) (chunks : List Chunk) (samples : List PeakSample) → IsSoundTree tree → tree.state.drawn < 4294967295 → IsChargeable tree.state request → IsSoundSample sample
    → chunks ≡ tree.state.chunks ++ new_chunk (tree.state.drawn + 1) request.amount request.at ∷ [] → samples ≡ tree.samples ++ sample ∷ []
    → IsSoundTree (record { state = record tree.state { chunks = chunks; drawn = tree.state.drawn + 1 }; samples = samples })
sound-push_chunk tree request sample chunks samples h room can sound made is = record {
  lawful = subst (λ (cs : List Chunk). IsLawfulState (record tree.state { chunks = cs; drawn = tree.state.drawn + 1 })) (sym made)
      (lawful-push_chunk tree.state request.amount request.at h.lawful can.some can.few can.open_);
  drawn = omega arith;
  samples = samples-push tree.samples samples sample h.samples sound is;
  references = subst (All HasFewReferences) (sym made) (All-push HasFewReferences tree.state.chunks (new_chunk (tree.state.drawn + 1) request.amount request.at) h.references (omega arith));
}

-- an allocator's number is spent for a reservation that was refused
pub sound-spend_number : (tree : SampledTree) (sample : PeakSample) (samples : List PeakSample) → IsSoundTree tree → IsSoundSample sample → samples ≡ tree.samples ++ sample ∷ []
    → IsSoundTree (record { state = record tree.state { next = tree.state.next + 1 }; samples = samples })
sound-spend_number tree sample samples h sound is = record {
  lawful = lawful-spend_number tree.state h.lawful;
  drawn = h.drawn;
  samples = samples-push tree.samples samples sample h.samples sound is;
  references = h.references;
}

-- and one past the last that an allocator may have
pub sound-past_nodes : (tree : SampledTree) → IsSoundTree tree → IsSoundTree (record tree { state = record tree.state { next = tree.state.next + 1 } })
sound-past_nodes tree h = record { lawful = lawful-spend_number tree.state h.lawful; drawn = h.drawn; samples = h.samples; references = h.references }

-- a child is made
pub sound-push_child : (tree : SampledTree) (parent : AllocId) (reservation limit : ℕ) (sample : PeakSample) (nodes : List TreeNode) (samples : List PeakSample) → IsSoundTree tree → IsNewChild tree.state parent reservation limit → IsSoundSample sample
    → nodes ≡ tree.state.nodes ++ child_node tree.state parent reservation limit ∷ [] → samples ≡ tree.samples ++ sample ∷ []
    → IsSoundTree (record { state = record tree.state { nodes = nodes; next = tree.state.next + 1 }; samples = samples })
sound-push_child tree parent reservation limit sample nodes samples h can sound made is = record {
  lawful = subst (λ (ns : List TreeNode). IsLawfulState (record tree.state { nodes = ns; next = tree.state.next + 1 })) (sym made)
      (lawful-push_child tree.state parent reservation limit h.lawful can.open_ can.room can.reserves can.small can.limited);
  drawn = h.drawn;
  samples = samples-push tree.samples samples sample h.samples sound is;
  references = h.references;
}

-- an allocator is closed
pub sound-close : (tree : SampledTree) (n : ℕ) (nodes : List TreeNode) → IsSoundTree tree → uses_of tree.state n ≡ 0 → nodes ≡ with_closed n tree.state.nodes
    → IsSoundTree (record tree { state = record tree.state { nodes = nodes } })
sound-close tree n nodes h unused made = record {
  lawful = subst (λ (ns : List TreeNode). IsLawfulState (record tree.state { nodes = ns })) (sym made) (lawful-close tree.state n h.lawful unused);
  drawn = h.drawn;
  samples = h.samples;
  references = h.references;
}

-- a call that changed nothing
pub answers-unchanged : {A : Type 0} (call : CallResult A) (tree : SampledTree) (told : A) → call ≡ unchanged tree.state told → MeetsCall call tree tree told
answers-unchanged call tree told is = record {
  answer = sym (ap (λ c. c.answer) is);
  state = sym (ap (λ c. c.state) is);
  samples = sym (ap (λ c. tree.samples ++ c.samples) is ∙ append-nil tree.samples);
}

-- a call that measured nothing
pub answers-quiet : {A : Type 0} (call : CallResult A) (old new : SampledTree) (told : A) (state : TreeState) → call ≡ record { answer = told; state = state; samples = [] } → new ≡ record old { state = state } → MeetsCall call old new told
answers-quiet call old new told state is after = record {
  answer = sym (ap (λ c. c.answer) is);
  state = ap (λ t. t.state) after ∙ sym (ap (λ c. c.state) is);
  samples = ap (λ t. t.samples) after ∙ sym (ap (λ c. old.samples ++ c.samples) is ∙ append-nil old.samples);
}
