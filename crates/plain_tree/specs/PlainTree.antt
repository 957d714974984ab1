-- What the plain tree of one thread shows: its state, and every moment at which peaks were measured.
use Rattle.std.specs.Prelude.{◌≡◌, ℕ, ◌<◌, ◌≤◌, true, List, [], ◌++◌, All, Some}
use Rattle.mem_num.specs.declared.bounds.TheConstants.{LARGEST, MAX_LIMIT, MAX_RESERVATION, MOST_ALLOCATORS, MOST_NUMBERS}
use Rattle.mem_num.specs.declared.alloc_id.AllocId.{AllocId}
use Rattle.mem_num.specs.declared.buffer_ref.Ref.{Ref}
use Rattle.mem_model.specs.declared.charge.Charge.{Charge}
use Rattle.mem_model.specs.PeakSample.{PeakSample, IsSoundSample}
use Rattle.mem_model.specs.Chunk.{Chunk}
use Rattle.mem_model.specs.Ledgers.{count_of, total_of}
use Rattle.mem_model.specs.References.{referred_chunk}
use Rattle.mem_model.specs.TreeState.{TreeState, CallResult, opened, is_open}
use Rattle.mem_model.specs.LawfulChunk.{IsLawfulChunk}
use Rattle.mem_model.specs.LawfulState.{IsLawfulState}

-- a tree, and the moments at which its peaks were measured, the oldest first
pub record SampledTree : Type 0 where
  pub state : TreeState
  pub samples : List PeakSample

-- a tree with its root alone, on which nothing was measured
abbrev pub opened_sampled : ℕ → SampledTree
opened_sampled limit = record { state = opened limit; samples = [] }

-- a call was answered as its definition says: it left that state, and measured those moments
pub record MeetsCall {A : Type 0} (call : CallResult A) (old new : SampledTree) (told : A) : Type 0 where
  pub answer : told ≡ call.answer
  pub state : new.state ≡ call.state
  pub samples : new.samples ≡ old.samples ++ call.samples

-- 32 bits hold how many references a chunk has
abbrev pub HasFewReferences : Chunk → Type 0
HasFewReferences chunk = total_of chunk.ledgers < MOST_NUMBERS

-- what holds of every plain tree: 32 bits hold chunk numbers and how many references a chunk has, and no number of a sample wraps
pub record IsSoundTree (tree : SampledTree) : Type 0 where
  pub lawful : IsLawfulState tree.state
  pub drawn : tree.state.drawn < MOST_NUMBERS
  pub samples : All IsSoundSample tree.samples
  pub references : All HasFewReferences tree.state.chunks

-- the chunk of a reference that wasn't given back
pub record IsReferred (state : TreeState) (of : Ref) (chunk : Chunk) : Type 0 where
  pub is : referred_chunk state of ≡ Some chunk
  pub lawful : IsLawfulChunk (is_open state) chunk
  pub some : 1 ≤ count_of chunk.ledgers of.alloc.0
  pub few : HasFewReferences chunk

-- a charge that can become a chunk, if no limit stops it
pub record IsChargeable (state : TreeState) (request : Charge) : Type 0 where
  pub open_ : is_open state request.at.0 ≡ true
  pub some : 1 ≤ request.amount
  pub few : request.amount ≤ LARGEST

-- a child that can be made, if no limit stops its reservation
pub record IsNewChild (state : TreeState) (parent : AllocId) (reservation limit : ℕ) : Type 0 where
  pub open_ : is_open state parent.0 ≡ true
  pub room : state.next < MOST_ALLOCATORS
  pub reserves : reservation ≤ limit
  pub small : reservation ≤ MAX_RESERVATION
  pub limited : limit ≤ MAX_LIMIT
