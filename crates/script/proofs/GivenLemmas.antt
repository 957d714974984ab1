-- References that were given, as a list in which each is marked once it is given back.
use Rattle.std.proofs.Common.{◌≡◌, ℕ, ◌+◌, ◌≤◌, List, [], ◌∷◌, ◌++◌, Bool, true, false, not, ◌==◌, get_or, set, cond, refl, sym, ap, subst, ◌∙◌, arith, count_by, if◌then◌else◌, nat_lt, Option, Some, None, Result, Ok, Err}
use Rattle.std.specs.List.{slice_get}
use Rattle.std.specs.Option.{option_map, option_map_or}
use Rattle.std.proofs.lemmas.Bool.{cond_both, cond-false, cond-true, ne_eqb, eqb-false}
use Rattle.std.proofs.lemmas.List.Sums.{get_or-le-sum_by, sum_by-set, sum_by_push}
use Rattle.std.proofs.lemmas.Option.{get_or_from_slice_get, slice_get_within}
use Rattle.mem_num.specs.Rounded.{rounded_size}
use Rattle.mem_num.specs.declared.bounds.TheConstants.{LARGEST}
use Rattle.mem_num.specs.declared.alloc_id.AllocId.{AllocId}
use Rattle.mem_num.specs.declared.buffer_ref.Ref.{Ref}
use Rattle.mem_num.specs.declared.buffer_refused.BufferRefused.{BufferRefused}
use Rattle.mem_num.specs.declared.solo_refused.SoloRefused.{SoloRefused}
use Rattle.mem_num.specs.declared.solo_refused.SoloRefused.TheVariants.{Released as RefusedRelease}
use Rattle.mem_model.specs.declared.charge.Charge.{Charge}
use Rattle.mem_model.specs.declared.tree_node.TreeNode.{TreeNode}
use Rattle.mem_model.specs.Calls.{granted_by, one_if_ok}
use Rattle.mem_model.specs.Chunk.{Chunk}
use Rattle.mem_model.specs.CountedReferences.{one_to, one_taken}
use Rattle.mem_model.specs.Grant.{charge_answer, grant_result}
use Rattle.mem_model.specs.LawfulState.{IsLawfulState}
use Rattle.mem_model.specs.References.{reference_to, referred_chunk, released_at}
use Rattle.mem_model.specs.Release.{release_from, release_result}
use Rattle.mem_model.specs.Request.{refusing_level}
use Rattle.mem_model.specs.Retain.{retain_from, retain_result}
use Rattle.mem_model.specs.Transfer.{moves_charge, transfer_from, transfer_result}
use Rattle.mem_model.specs.TreeState.{TreeState, CallResult, rounding_at, unchanged, charges_in, is_open}
use Rattle.mem_model.proofs.ReferenceLemmas.{referred_lawful}
use Rattle.script.specs.declared.buffer.Buffer.{Buffer}
use Rattle.script.specs.declared.buffer.GivenRef.{GivenRef}
use Rattle.script.specs.Buffers.{BufferNames, buffer_of, source_in, source_of}

-- the buffer of a name has a reference that was given
source_mapped : (given : List GivenRef) (buffer : Buffer) (found : Option GivenRef) (source : Buffer × GivenRef) → slice_get given buffer.place ≡ found
    → option_map (λ reference. (buffer, reference)) found ≡ Some source → slice_get given source.0.place ≡ Some source.1
source_mapped given buffer None source there is = absurd cc
source_mapped given buffer (Some reference) source there is =
    let same : (buffer, reference) ≡ source = cc in
    subst (λ (s : Buffer × GivenRef). slice_get given s.0.place ≡ Some s.1) same there

source_placed : (given : List GivenRef) (found : Option Buffer) (source : Buffer × GivenRef) → source_in given found ≡ Some source → slice_get given source.0.place ≡ Some source.1
source_placed given None source is = absurd cc
source_placed given (Some buffer) source is = source_mapped given buffer (slice_get given buffer.place) source refl is

pub source_given : (names : BufferNames) (name : List ℕ) (source : Buffer × GivenRef) → source_of names name ≡ Some source → slice_get names.given source.0.place ≡ Some source.1
source_given names name source is = source_placed names.given (buffer_of names.bound name) source is

-- a reference that was just given
abbrev pub just_given : Ref → GivenRef
just_given reference = record { reference = reference; given_back = false }

-- a reference to a chunk, counted
abbrev pub one_live : Ref → ℕ
one_live reference = if not (reference.chunk == 0) then 1 else 0

-- one given last is counted
pub count_given : (p : GivenRef → Bool) (given : List GivenRef) (reference : Ref) → count_by p (given ++ just_given reference ∷ []) ≡ count_by p given + cond (p (just_given reference)) 1 0
count_given p given reference = sum_by_push (λ g. cond (p g) 1 0) given (just_given reference)

-- one that is given back is counted no more, where what was given back isn't
pub count_given_back : (p : GivenRef → Bool) (given : List GivenRef) (place : ℕ) (one : GivenRef) → slice_get given place ≡ Some one → p (record one { given_back = true }) ≡ false
    → count_by p (set given place (record one { given_back = true })) + cond (p one) 1 0 ≡ count_by p given
count_given_back p given place one there gone =
    let f : GivenRef → ℕ = λ g. cond (p g) 1 0 in
    let back : GivenRef = record one { given_back = true } in
    let was : f (get_or given place one) ≡ f one = ap f (get_or_from_slice_get given place one one there) in
    let none : f back ≡ 0 = cond-false (p back) 1 0 gone in
    omega (arith, was, none, sum_by-set f given place back one (slice_get_within given place one there))

-- one that is there is counted
pub counted_there : (p : GivenRef → Bool) (given : List GivenRef) (place : ℕ) (one : GivenRef) → slice_get given place ≡ Some one → p one ≡ true → 1 ≤ count_by p given
counted_there p given place one there passes =
    let f : GivenRef → ℕ = λ g. cond (p g) 1 0 in
    let was : f (get_or given place one) ≡ 1 = ap f (get_or_from_slice_get given place one one there) ∙ cond-true (p one) 1 0 passes in
    omega (arith, was, get_or-le-sum_by f given place one (slice_get_within given place one there))

-- what a request for a buffer gives is to a chunk where it has bytes
abbrev GivesLive : CallResult (Result Ref BufferRefused) → Type 0
GivesLive result = (reference : Ref) → result.answer ≡ Ok reference → granted_by result.answer ≡ one_live reference

none_given : {A : Type 0} {E : Type 0} {P : Type 0} (e : E) (x : A) → ◌≡◌ {A = Result A E} (Err e) (Ok x) → P
none_given e x is = absurd cc

charge_live : (state : TreeState) (request : Charge) (refusing : Option TreeNode) (reference : Ref) → 1 ≤ request.amount → charge_answer state request refusing ≡ Ok reference → granted_by (charge_answer state request refusing) ≡ one_live reference
charge_live state request None reference some is =
    let given : Ref = record { chunk = state.drawn + 1; alloc = request.at; size = request.amount } in
    let same : given ≡ reference = cc in
    let bytes : granted_by (Ok given) ≡ 1 = cond-false (request.amount == 0) 0 1 (ne_eqb request.amount 0 (λ e. omega (arith, some, e))) in
    let one : one_live given ≡ 1 = cond-true (not (state.drawn + 1 == 0)) 1 0 (ap not (ne_eqb (state.drawn + 1) 0 (λ e. omega (arith, e)))) in
    bytes ∙ sym one ∙ ap one_live same
charge_live state request (Some level) reference some is = absurd cc

pub grant_live : (state : TreeState) (at : AllocId) (request : ℕ) → GivesLive (grant_result state at request)
unfolding grant_result
grant_live state at request =
    let size = rounded_size (rounding_at state at.0) request in
    cond_both (nat_lt LARGEST size) _ _ GivesLive (λ _ reference is. absurd cc) (λ _.
    cond_both (not (is_open state at.0)) _ _ GivesLive (λ _ reference is. absurd cc) (λ _.
    cond_both (size == 0) _ _ GivesLive (λ _ reference is. (
    let empty : Ref = record { chunk = 0; alloc = at; size = 0 } in
    let same : empty ≡ reference = cc in
    ap one_live same
    ))
    (λ some reference is. charge_live state (record { at = at; amount = size }) (refusing_level state.nodes (charges_in state) (record { at = at; amount = size })) reference (omega (arith, eqb-false size 0 some)) is)))

-- a reference to a lawful chunk is to a chunk
chunk_live : (number : ℕ) (reference : Ref) → reference.chunk ≡ number → 1 ≤ number → one_live reference ≡ 1
chunk_live number reference is some = cond-true (not (reference.chunk == 0)) 1 0 (ap not (ne_eqb reference.chunk 0 (λ e. omega (arith, some, is, e))))

-- a further reference is to a chunk
retained_live : (state : TreeState) (of : Ref) (target : AllocId) (found : Option Chunk) (reference : Ref) → IsLawfulState state → referred_chunk state of ≡ found
    → (option_map_or (retain_from state target) found (unchanged state (Err (RefusedRelease (released_at of))))).answer ≡ Ok reference → one_live reference ≡ 1
retained_live state of target None reference h is told = absurd cc
retained_live state of target (Some chunk) reference h is told =
    let lawful = (referred_lawful state of chunk h is).0 in
    cond_both (not (is_open state target.0)) _ _ (λ (result : CallResult (Result Ref _)). result.answer ≡ Ok reference → one_live reference ≡ 1)
    (λ _ refused. absurd cc) (λ _ given. (let number : chunk.number ≡ reference.chunk = cc in chunk_live chunk.number reference (sym number) lawful.some)) told

pub retain_live : (state : TreeState) (of : Ref) (target : AllocId) (reference : Ref) → IsLawfulState state → (retain_result state of target).answer ≡ Ok reference → one_live reference ≡ 1
unfolding retain_result
retain_live state of target reference h told = retained_live state of target (referred_chunk state of) reference h refl told

moved_number : (reference : Ref) (fits : Bool) (moved : Ref × Bool) → ◌≡◌ {A = Result (Ref × Bool) SoloRefused} (Ok (reference, fits)) (Ok moved) → moved.0.chunk ≡ reference.chunk
moved_number reference fits moved told =
    let same : (reference, fits) ≡ moved = cc in
    sym (ap (λ (m : Ref × Bool). m.0.chunk) same)

transferred_live : (state : TreeState) (of : Ref) (target : AllocId) (found : Option Chunk) (moved : Ref × Bool) → IsLawfulState state → referred_chunk state of ≡ found
    → (option_map_or (transfer_from state of.alloc target) found (unchanged state (Err (RefusedRelease (released_at of))))).answer ≡ Ok moved → one_live moved.0 ≡ 1
transferred_live state of target None moved h is told = absurd cc
transferred_live state of target (Some chunk) moved h is told =
    let lawful = (referred_lawful state of chunk h is).0 in
    let Live : CallResult (Result (Ref × Bool) _) → Type 0 = λ result. result.answer ≡ Ok moved → one_live moved.0 ≡ 1 in
    cond_both (not (is_open state target.0)) _ _ Live (λ _ refused. absurd cc) (λ _.
    cond_both (moves_charge of.alloc target chunk) _ _ Live
    (λ _ given. chunk_live chunk.number moved.0 (moved_number (reference_to chunk target) _ moved given) lawful.some)
    (λ _ given. chunk_live chunk.number moved.0 (moved_number (reference_to chunk target) _ moved given) lawful.some)) told

pub transfer_live : (state : TreeState) (of : Ref) (target : AllocId) (moved : Ref × Bool) → IsLawfulState state → (transfer_result state of target).answer ≡ Ok moved → one_live moved.0 ≡ 1
unfolding transfer_result
transfer_live state of target moved h told = transferred_live state of target (referred_chunk state of) moved h refl told

-- a reference to a live chunk is taken back
pub release_taken : (state : TreeState) (of : Ref) (chunk : Chunk) (k n : ℕ) → referred_chunk state of ≡ Some chunk → one_taken k n of (release_result state of).answer ≡ one_to k n of
unfolding release_result
release_taken state of chunk k n is = ap (λ found. one_taken k n of (option_map_or (release_from state of) found (unchanged state (Err (released_at of)))).answer) is

pub release_is_ok : (state : TreeState) (of : Ref) (chunk : Chunk) → referred_chunk state of ≡ Some chunk → one_if_ok (release_result state of).answer ≡ 1
unfolding release_result
release_is_ok state of chunk is = ap (λ found. one_if_ok (option_map_or (release_from state of) found (unchanged state (Err (released_at of)))).answer) is
