-- What a walk from an allocator towards the root does to the rows.
use Rattle.std.specs.Prelude.{◌≡◌, ℕ, ◌+◌, max, nat_lt, ◌==◌, Bool, true, false, not, is_some, if◌then◌else◌, List}
use Rattle.std.specs.Prelude.{◌∷◌, [], length, Option, Some, None, Result, Ok, Err}
use Rattle.mem_num.specs.declared.alloc_id.AllocId.{AllocId}
use Rattle.mem_num.specs.declared.full.Full.{Full}
use Rattle.mem_model.specs.declared.charge.Charge.{Charge}
use Rattle.mem_model.specs.declared.tree_node.TreeNode.{TreeNode}
use Rattle.mem_model.specs.Balance.{Balances, amount_for}
use Rattle.mem_model.specs.Charge.{charged_at}
use Rattle.mem_model.specs.Force.{force_sample_of}
use Rattle.mem_model.specs.Request.{refusing_level, refusal_of}
use Rattle.mem_model.specs.PeakSample.{PeakSample, request_sample}
use Rattle.mem_model.specs.MeasuredTree.{raised_peaks}
use Rattle.alloc_tree.specs.declared.row.Row.{Row}
use Rattle.alloc_tree.specs.Rows.{nodes_in, held_by, peaks_in, uses_in}

-- the allocators are the same ones, with as many uses
pub record KeepsNodes (old new : List (Option Row)) : Type 0 where
  pub nodes : nodes_in new ≡ nodes_in old
  pub uses : uses_in new ≡ uses_in old
  pub length : length new ≡ length old

-- this is what a request is refused with, or None where it isn't
abbrev pub IsRefusal : List TreeNode → List Charge → Charge → Option Full → Type 0
IsRefusal nodes charges request None = refusing_level nodes charges request ≡ None
IsRefusal nodes charges request (Some full) = (level : TreeNode) × (refusing_level nodes charges request ≡ Some level)
    × (full ≡ refusal_of nodes charges request level)

-- the moment of a charge that is forced, or of one on trial
abbrev pub charge_sample : Bool → List TreeNode → List Charge → Charge → PeakSample
charge_sample true nodes charges charge = force_sample_of nodes charges charge
charge_sample false nodes charges charge = request_sample nodes charges charge

-- the rows hold a charge besides, also where it is refused, and its sample has raised the peaks
pub record AddsCharge (is_forced : Bool) (charges : List Charge) (charge : Charge) (old new : List (Option Row))
    (answer : Option Full) : Type 0 where
  pub held : Balances (nodes_in old) (charge ∷ charges) (held_by new)
  pub refusal : IsRefusal (nodes_in old) charges charge answer
  pub peaks : peaks_in new ≡ raised_peaks (peaks_in old) (charge_sample is_forced (nodes_in old) charges charge ∷ [])

-- the rows hold a forced charge besides, its sample has raised the peaks, and the answer tells whether no level is past its limit
pub record ForcesCharge (charges : List Charge) (force : Charge) (old new : List (Option Row)) (answer : Bool) : Type 0 where
  pub held : Balances (nodes_in old) (force ∷ charges) (held_by new)
  pub fits : answer ≡ not (is_some (refusing_level (nodes_in old) charges force))
  pub peaks : peaks_in new ≡ raised_peaks (peaks_in old) (force_sample_of (nodes_in old) charges force ∷ [])

-- the charges after are those before, but for an amount that went from one allocator to another
abbrev pub MovesAmount : List Charge → List Charge → AllocId → AllocId → ℕ → Type 0
MovesAmount before after from to amount = (n : ℕ) → charged_at before n + amount_for (Some to) amount n
    ≡ charged_at after n + amount_for (Some from) amount n

-- the rows hold an amount at another allocator than before, onto which it was forced first
pub record MovesCharge (before after : List Charge) (force : Charge) (old new : List (Option Row)) (answer : Bool) : Type 0 where
  pub held : Balances (nodes_in old) after (held_by new)
  pub fits : answer ≡ not (is_some (refusing_level (nodes_in old) before force))
  pub peaks : peaks_in new ≡ raised_peaks (peaks_in old) (force_sample_of (nodes_in old) before force ∷ [])

-- what is charged after a request: its charge besides, unless it was refused
abbrev pub charges_after : Charge → List Charge → Result (Unit {0}) Full → List Charge
charges_after request charges (Ok done) = request ∷ charges
charges_after request charges (Err full) = charges

-- what a request was refused with
abbrev pub refusal_in : Result (Unit {0}) Full → Option Full
refusal_in (Ok done) = None
refusal_in (Err full) = Some full

-- the rows answer a request, and its sample has raised the peaks
pub record AnswersRequest (charges : List Charge) (request : Charge) (old new : List (Option Row))
    (answer : Result (Unit {0}) Full) : Type 0 where
  pub held : Balances (nodes_in old) (charges_after request charges answer) (held_by new)
  pub refusal : IsRefusal (nodes_in old) charges request (refusal_in answer)
  pub peaks : peaks_in new ≡ raised_peaks (peaks_in old) (request_sample (nodes_in old) charges request ∷ [])

-- the refusal of a request at some allocator, once an amount was added at a level: the one before, or else that of this level
abbrev pub refusal_after : AllocId → AllocId → Row → ℕ → Option Full → Option Full
refusal_after at level row amount (Some full) = Some full
refusal_after at level row amount None =
    if nat_lt row.limit (row.held + amount)
    then Some (record { node = level; held = row.held; amount = amount; limit = row.limit; local = level.0 == at.0 })
    else None

-- a row with an amount more, whose peak sees it where nothing was refused up to there
abbrev pub with_charge : Row → ℕ → Option Full → Row
with_charge row amount None = record row { held = row.held + amount; peak = max row.peak (row.held + amount) }
with_charge row amount (Some full) = record row { held = row.held + amount }

-- a refusal as a level's peak heeds it: a forced charge heeds none
abbrev pub peak_refusal : Bool → Option Full → Option Full
peak_refusal is_forced None = None
peak_refusal is_forced (Some full) = if is_forced then None else Some full
