-- Which calls of a memory the moving of buffers to another allocator comes to.
use Rattle.std.specs.Prelude.{◌≡◌, Bool, List, [], ◌∷◌, ◌++◌, map, flat_map, Result, Ok, Err, Vec}
use Rattle.std.specs.declared.alloc.Global.{Global}
use Rattle.mem_num.specs.declared.alloc_id.AllocId.{AllocId}
use Rattle.mem_num.specs.declared.buffer_ref.Ref.{Ref}
use Rattle.mem_num.specs.declared.ref_refused.RefRefused.{RefRefused}
use Rattle.mem_num.specs.declared.ref_refused.RefRefused.TheVariants.{NoMemory}
use Rattle.mem_buf.specs.declared.arrow_buf.ArrowBuf.{ArrowBuf}
use Rattle.mem_buf.specs.MemoryCall.{MemoryCall, Transfer, Release}
use Rattle.mem_buf.specs.Callers.{GivesBack}

-- a reference that moved to another allocator: what it was and is, whether the charge fitted, and whether the old ledger went
pub record Move : Type 0 where
  pub from : Ref
  pub to : Ref
  pub fits : Bool
  pub gone : Bool

-- a transfer, and the release of its source
abbrev pub move_calls : AllocId → Move → List MemoryCall
move_calls target move = Transfer move.from target (Ok (move.to, move.fits)) ∷ Release move.from move.gone ∷ []

-- the first of the references that are left wasn't transferred, or memory ran out before it
abbrev pub IsMoveRefusal : AllocId → List Ref → RefRefused → List MemoryCall → Type 0
IsMoveRefusal target left refused [] = refused ≡ NoMemory
IsMoveRefusal target [] refused (call ∷ calls) = ⊥
IsMoveRefusal target (first ∷ left) refused (call ∷ calls) = (call ≡ Transfer first target (Err refused)) × (calls ≡ [])

-- some references moved, the next one was refused, and both those that are left and those that moved were given back
pub record IsRefusedMove (target : AllocId) (sources : List Ref) (refused : RefRefused) (calls : List MemoryCall) : Type 0 where
  pub moves : List Move
  pub left : List Ref
  pub asked : List MemoryCall
  pub returned : List MemoryCall
  pub all : sources ≡ map (λ move. move.from) moves ++ left
  pub refusal : IsMoveRefusal target left refused asked
  pub given_back : GivesBack (left ++ map (λ move. move.to) moves) returned
  pub order : calls ≡ flat_map (move_calls target) moves ++ (asked ++ returned)

-- these references moved, and became those
pub record AreMoved (target : AllocId) (sources targets : List Ref) (calls : List MemoryCall) : Type 0 where
  pub moves : List Move
  pub from : map (λ move. move.from) moves ≡ sources
  pub to : map (λ move. move.to) moves ≡ targets
  pub order : calls ≡ flat_map (move_calls target) moves

-- all references moved, and are those of these buffers; or one was refused
abbrev pub IsMoveAll : {H : Type 0} → (H → Ref) → AllocId → List Ref → Result (Vec (ArrowBuf H) Global) RefRefused
    → List MemoryCall → Type 0
IsMoveAll reference target sources (Ok bufs) calls = AreMoved target sources (map (λ buf. reference buf.hold) bufs.items) calls
IsMoveAll reference target sources (Err refused) calls = IsRefusedMove target sources refused calls

-- one buffer moved, with its bytes; or it is handed back
abbrev pub IsMoveOne : {H : Type 0} → (H → Ref) → AllocId → ArrowBuf H → Result (ArrowBuf H) (ArrowBuf H × RefRefused)
    → List MemoryCall → Type 0
IsMoveOne reference target source (Ok moved) calls =
    (fits : Bool) × (gone : Bool)
    × (calls ≡ move_calls target (record { from = reference source.hold; to = reference moved.hold; fits = fits; gone = gone }))
    × (moved.view ≡ source.view)
IsMoveOne reference target source (Err handed) calls =
    (calls ≡ Transfer (reference source.hold) target (Err handed.1) ∷ []) × (reference handed.0.hold ≡ reference source.hold)
