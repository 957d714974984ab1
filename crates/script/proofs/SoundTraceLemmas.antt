-- What holds of every state that a trace comes to.
use Rattle.std.proofs.Common.{◌≡◌, ℕ, ◌+◌, ◌<◌, ◌≤◌, ◌^◌, Bool, true, false, not, ◌&&◌, List, [], ◌∷◌, ◌++◌, length, cond, count_by, Option, Some, None, All, Result, Ok, Err, if◌then◌else◌, refl, sym, ap, subst, ◌∙◌, arith, add-zero, inl, inr}
use Rattle.std.specs.Bool.{◌==◌, nat_lt}
use Rattle.std.specs.List.{slice_get}
use Rattle.std.specs.Option.{option_map_or}
use Rattle.std.specs.Prelude.{is_some}
use Rattle.std.proofs.lemmas.Bool.{and_from, and_parts, cases_lt, cond-true, eq-eqb, false≢true}
use Rattle.std.proofs.lemmas.List.Elements.{All-append, All-head, All-nil, All-push, All-tail}
use Rattle.mem_num.specs.declared.bounds.TheConstants.{MAX_LIMIT}
use Rattle.mem_num.specs.Name.{is_name}
use Rattle.mem_num.specs.declared.alloc_id.AllocId.{AllocId}
use Rattle.mem_num.specs.declared.buffer_ref.Ref.{Ref}
use Rattle.mem_num.specs.declared.buffer_refused.BufferRefused.{BufferRefused}
use Rattle.mem_num.specs.declared.child_refused.ChildRefused.{ChildRefused}
use Rattle.mem_num.specs.declared.solo_refused.SoloRefused.{SoloRefused}
use Rattle.mem_model.specs.Calls.{TreeCall, Child as ChildCall, Close as CloseCall, Grant as GrantCall, Retain as RetainCall, Transfer as TransferCall, Release as ReleaseCall, IsBoundedCall, call_result, given_by, granted_by, one_if_ok, references_in, returned_by}
use Rattle.mem_model.specs.Chunk.{Chunk}
use Rattle.mem_model.specs.CountedReferences.{given_to, is_reference_to, one_given, one_moved, one_to, references_to, taken_from}
use Rattle.mem_model.specs.DrawnNumbers.{HaveReferences}
use Rattle.mem_model.specs.Grant.{grant_result}
use Rattle.mem_model.specs.LawfulState.{IsLawfulState}
use Rattle.mem_model.specs.Ledgers.{total_of}
use Rattle.mem_model.specs.References.{referred_chunk}
use Rattle.mem_model.specs.Retain.{retain_result}
use Rattle.mem_model.specs.Transfer.{transfer_result}
use Rattle.mem_model.specs.TreeState.{TreeState}
use Rattle.mem_model.proofs.CallBalanceLemmas.{references-call}
use Rattle.mem_model.proofs.CallsLemmas.{lawful-after_call}
use Rattle.mem_model.proofs.CountedLemmas.{counted-call, referred-counted}
use Rattle.mem_model.proofs.DrawnLemmas.{call_draws}
use Rattle.mem_model.proofs.LawfulLemmas.{opened_lawful}
use Rattle.mem_model.proofs.SampleLemmas.{AreSmall, IsSmall, call_small}
use Rattle.alloc_tree.specs.Names.{AreNames, allocator_of, is_bound}
use Rattle.alloc_tree.proofs.NamesLemmas.{AreLawful-root}
use Rattle.script.specs.declared.buffer.Buffer.{Buffer}
use Rattle.script.specs.declared.buffer.GivenRef.{GivenRef}
use Rattle.script.specs.declared.line.Line.{Line}
use Rattle.script.specs.declared.line.Line.TheVariants.{Root, Child, Buffer as NewBuffer, Retain, Transfer, Slice, Release, Close, Headroom, Tree, Report}
use Rattle.script.specs.Buffers.{BufferNames, buffer_of, source_of, with_given_back}
use Rattle.script.specs.Grammar.{HasBounds}
use Rattle.script.specs.References.{is_live, is_live_to}
use Rattle.script.specs.Trace.{TraceState, LineResult, buffers_after, line_result, names_after, opened_trace, release_line, retain_line, retained_after, slice_line, trace_after, transfer_line, transferred_after}
use Rattle.script.proofs.GivenLemmas.{count_given, count_given_back, counted_there, grant_live, release_is_ok, release_taken, retain_live, source_given, transfer_live}

-- a trace that has come to a state by so many lines
pub record IsSoundTrace (lines : ℕ) (state : TraceState) : Type 0 where
  pub lawful : IsLawfulState state.tree
  pub names : AreNames state.names
  pub drawn : state.tree.drawn ≤ lines
  pub references : HaveReferences lines state.tree.chunks
  pub samples : AreSmall state.samples
  pub counts : (k n : ℕ) → 1 ≤ k → references_to state.tree k n ≡ count_by (is_live_to k n) state.buffers.given
  pub all : references_in state.tree ≡ count_by is_live state.buffers.given

-- a line leaves such a state, one line further
abbrev Leaves : ℕ → LineResult → Type 0
Leaves lines result = IsSoundTrace (lines + 1) result.state

-- so does a line that changes nothing but which bytes names are for
kept : (lines : ℕ) (state new : TraceState) → IsSoundTrace lines state → new.tree ≡ state.tree → new.samples ≡ state.samples → new.names ≡ state.names → new.buffers.given ≡ state.buffers.given
    → IsSoundTrace (lines + 1) new
kept lines state new sound tree samples names given = record {
  lawful = subst IsLawfulState (sym tree) sound.lawful;
  names = subst AreNames (sym names) sound.names;
  drawn = omega (arith, sound.drawn, ap (λ (t : TreeState). t.drawn) tree);
  references = subst (λ (t : TreeState). HaveReferences (lines + 1) t.chunks) (sym tree) (λ k d within. omega (arith, sound.references k d within));
  samples = subst AreSmall (sym samples) sound.samples;
  counts = λ k n some. ap (λ (t : TreeState). references_to t k n) tree ∙ sound.counts k n some ∙ ap (count_by (is_live_to k n)) (sym given);
  all = ap references_in tree ∙ sound.all ∙ ap (count_by is_live) (sym given);
}

same : (lines : ℕ) (state : TraceState) → IsSoundTrace lines state → IsSoundTrace (lines + 1) state
same lines state sound = kept lines state state sound refl refl refl refl

-- the references that were given are those before, with what a call gives and without what it takes back
record Follows (state : TraceState) (call : TreeCall) (buffers : BufferNames) : Type 0 where
  counts : (k n : ℕ) → 1 ≤ k → count_by (is_live_to k n) buffers.given + taken_from state.tree call k n ≡ count_by (is_live_to k n) state.buffers.given + given_to state.tree call k n
  all : count_by is_live buffers.given + returned_by state.tree call ≡ count_by is_live state.buffers.given + given_by state.tree call

-- what a call on the tree leaves
called : (lines : ℕ) (state : TraceState) (call : TreeCall) (names : List (List ℕ × AllocId)) (buffers : BufferNames) → IsSoundTrace lines state → lines < 2 ^ 32 → IsBoundedCall call → AreNames names → Follows state call buffers
    → IsSoundTrace (lines + 1) (record { tree = (call_result state.tree call).state; samples = state.samples ++ (call_result state.tree call).samples; names = names; buffers = buffers })
called lines state call names buffers sound few bounds named follows =
    let draws = call_draws state.tree call in
    record {
      lawful = lawful-after_call state.tree call sound.lawful bounds;
      names = named;
      drawn = omega (arith, sound.drawn, draws.chunks);
      references = draws.references lines sound.references;
      samples = All-append IsSmall state.samples (call_result state.tree call).samples sound.samples (call_small state.tree call sound.lawful (omega (arith, sound.drawn, few)) bounds);
      counts = λ k n some. omega (arith, sound.counts k n some, counted-call state.tree call k n sound.lawful some, follows.counts k n some);
      all = omega (arith, sound.all, references-call state.tree call sound.lawful, follows.all);
    }

-- a line that goes by a test leaves a sound state where it does either way
by_test : (lines : ℕ) (test : Bool) (x y : LineResult) → (test ≡ true → Leaves lines x) → (test ≡ false → Leaves lines y) → Leaves lines (if test then x else y)
by_test lines true x y px py = px refl
by_test lines false x y px py = py refl

-- and a line that goes by what may be there
by_look : {A : Type 0} (lines : ℕ) (line : A → LineResult) (found : Option A) (none : LineResult) → ((x : A) → found ≡ Some x → Leaves lines (line x)) → Leaves lines none
    → Leaves lines (option_map_or line found none)
by_look lines line None none some other = other
by_look lines line (Some x) none some other = some x refl

-- a child that was made has a name
named_child : (names : List (List ℕ × AllocId)) (name : List ℕ) (answer : Result AllocId ChildRefused) → AreNames names → is_name name ≡ true → AreNames (names_after names name answer)
named_child names name (Ok number) all is = All-push (λ (binding : List ℕ × AllocId). is_name binding.0 ≡ true) names (name, number) all is
named_child names name (Err refused) all is = all

-- calls that give and take no reference
follows_none : (state : TraceState) (call : TreeCall) → ((k n : ℕ) → taken_from state.tree call k n ≡ given_to state.tree call k n) → returned_by state.tree call ≡ given_by state.tree call → Follows state call state.buffers
follows_none state call counts all = record {
  counts = λ k n some. ap (λ m. count_by (is_live_to k n) state.buffers.given + m) (counts k n);
  all = ap (λ m. count_by is_live state.buffers.given + m) all;
}

-- a buffer that was given is counted
follows_grant : (state : TraceState) (name : List ℕ) (at : AllocId) (request : ℕ) (answer : Result Ref BufferRefused) → (grant_result state.tree at request).answer ≡ answer → Follows state (GrantCall at request) (buffers_after state.buffers name answer)
follows_grant state name at request (Ok reference) is = record {
  counts = λ k n some. omega (arith, count_given (is_live_to k n) state.buffers.given reference, ap (one_given k n) is);
  all = omega (arith, count_given is_live state.buffers.given reference, grant_live state.tree at request reference is);
}
follows_grant state name at request (Err refused) is = record {
  counts = λ k n some. ap (λ m. count_by (is_live_to k n) state.buffers.given + m) (sym (ap (one_given k n) is));
  all = ap (λ m. count_by is_live state.buffers.given + m) (sym (ap granted_by is));
}

-- and so is a further reference
follows_retain : (state : TraceState) (name : List ℕ) (source : Buffer) (of : Ref) (target : AllocId) (answer : Result Ref SoloRefused) → IsLawfulState state.tree → (retain_result state.tree of target).answer ≡ answer
    → Follows state (RetainCall of target) (retained_after state.buffers name source answer)
follows_retain state name source of target (Ok reference) h is = record {
  counts = λ k n some. omega (arith, count_given (is_live_to k n) state.buffers.given reference, ap (one_given k n) is);
  all = omega (arith, count_given is_live state.buffers.given reference, retain_live state.tree of target reference h is, ap one_if_ok is);
}
follows_retain state name source of target (Err refused) h is = record {
  counts = λ k n some. ap (λ m. count_by (is_live_to k n) state.buffers.given + m) (sym (ap (one_given k n) is));
  all = ap (λ m. count_by is_live state.buffers.given + m) (sym (ap one_if_ok is));
}

follows_transfer : (state : TraceState) (name : List ℕ) (source : Buffer) (of : Ref) (target : AllocId) (answer : Result (Ref × Bool) SoloRefused) → IsLawfulState state.tree → (transfer_result state.tree of target).answer ≡ answer
    → Follows state (TransferCall of target) (transferred_after state.buffers name source answer)
follows_transfer state name source of target (Ok moved) h is = record {
  counts = λ k n some. omega (arith, count_given (is_live_to k n) state.buffers.given moved.0, ap (one_moved k n) is);
  all = omega (arith, count_given is_live state.buffers.given moved.0, transfer_live state.tree of target moved h is, ap one_if_ok is);
}
follows_transfer state name source of target (Err refused) h is = record {
  counts = λ k n some. ap (λ m. count_by (is_live_to k n) state.buffers.given + m) (sym (ap (one_moved k n) is));
  all = ap (λ m. count_by is_live state.buffers.given + m) (sym (ap one_if_ok is));
}

-- a number that isn't 0
positive : (k : ℕ) → not (k == 0) ≡ true → 1 ≤ k
positive k is = elim (cases_lt k 1) [
  | inl less ↦ absurd (let none : (k == 0) ≡ true = eq-eqb k 0 (omega arith) in false≢true (sym (ap not none) ∙ is))
  | inr more ↦ more
]

-- a reference to a chunk that wasn't given back is to a live chunk
pub live_referred : (lines : ℕ) (state : TraceState) (place : ℕ) (given : GivenRef) → IsSoundTrace lines state → slice_get state.buffers.given place ≡ Some given → is_live given ≡ true
    → (chunk : Chunk) × (referred_chunk state.tree given.reference ≡ Some chunk)
live_referred lines state place given sound there live =
    let k = given.reference.chunk in
    let n = given.reference.alloc.0 in
    let parts = and_parts (not given.given_back) (not (k == 0)) live in
    let some : 1 ≤ k = positive k parts.1 in
    let own : is_live_to k n given ≡ true = and_from (not given.given_back) (is_reference_to k n given.reference) parts.0 (and_from (k == k) (n == n) (eq-eqb k k refl) (eq-eqb n n refl)) in
    referred-counted state.tree given.reference (omega (arith, sound.counts k n some, counted_there (is_live_to k n) state.buffers.given place given there own))

-- giving it back takes it from those that are counted
follows_release : (lines : ℕ) (state : TraceState) (place : ℕ) (given : GivenRef) → IsSoundTrace lines state → slice_get state.buffers.given place ≡ Some given → given.given_back ≡ false → (given.reference.chunk == 0) ≡ false
    → Follows state (ReleaseCall given.reference) (with_given_back state.buffers place given)
follows_release lines state place given sound there kept' some =
    let live : is_live given ≡ true = and_from (not given.given_back) (not (given.reference.chunk == 0)) (ap not kept') (ap not some) in
    let chunk = live_referred lines state place given sound there live in
    record {
      counts = λ k n more. (
          let one : ◌≡◌ {A = ℕ} (cond (is_live_to k n given) 1 0) (one_to k n given.reference) = ap (λ b. cond (not b && is_reference_to k n given.reference) 1 0) kept' in
          omega (arith, one, release_taken state.tree given.reference chunk.0 k n chunk.1, count_given_back (is_live_to k n) state.buffers.given place given there refl));
      all = (
          let one : ◌≡◌ {A = ℕ} (cond (is_live given) 1 0) 1 = cond-true (is_live given) 1 0 live in
          omega (arith, one, release_is_ok state.tree given.reference chunk.0 chunk.1, count_given_back is_live state.buffers.given place given there refl));
    }

-- each line leaves a sound state
retain_sound : (lines : ℕ) (state : TraceState) (name : List ℕ) (source : Buffer) (given : GivenRef) (at : AllocId) → IsSoundTrace lines state → lines < 2 ^ 32 → Leaves lines (retain_line state name source given at)
retain_sound lines state name source given at sound few =
    by_test lines (given.reference.chunk == 0) _ _ (λ _. kept lines state _ sound refl refl refl refl) (λ _.
    by_test lines given.given_back _ _ (λ _. same lines state sound) (λ _.
    called lines state (RetainCall given.reference at) state.names (retained_after state.buffers name source (retain_result state.tree given.reference at).answer) sound few tt sound.names
    (follows_retain state name source given.reference at (retain_result state.tree given.reference at).answer sound.lawful refl)))

transfer_sound : (lines : ℕ) (state : TraceState) (name : List ℕ) (source : Buffer) (given : GivenRef) (at : AllocId) → IsSoundTrace lines state → lines < 2 ^ 32 → Leaves lines (transfer_line state name source given at)
transfer_sound lines state name source given at sound few =
    by_test lines (given.reference.chunk == 0) _ _ (λ _. kept lines state _ sound refl refl refl refl) (λ _.
    by_test lines given.given_back _ _ (λ _. same lines state sound) (λ _.
    called lines state (TransferCall given.reference at) state.names (transferred_after state.buffers name source (transfer_result state.tree given.reference at).answer) sound few tt sound.names
    (follows_transfer state name source given.reference at (transfer_result state.tree given.reference at).answer sound.lawful refl)))

slice_sound : (lines : ℕ) (state : TraceState) (name : List ℕ) (source : Buffer) (given : GivenRef) (start len : ℕ) → IsSoundTrace lines state → Leaves lines (slice_line state name source given start len)
slice_sound lines state name source given start len sound =
    by_test lines given.given_back _ _ (λ _. same lines state sound) (λ _.
    by_test lines (nat_lt source.len (start + len)) _ _ (λ _. same lines state sound) (λ _. kept lines state _ sound refl refl refl refl))

release_sound : (lines : ℕ) (state : TraceState) (name : List ℕ) (source : Buffer) (given : GivenRef) → IsSoundTrace lines state → lines < 2 ^ 32 → slice_get state.buffers.given source.place ≡ Some given → Leaves lines (release_line state name source given)
release_sound lines state name source given sound few there =
    by_test lines (given.reference.chunk == 0) _ _ (λ _. same lines state sound) (λ some.
    by_test lines given.given_back _ _ (λ _. same lines state sound) (λ kept'.
    called lines state (ReleaseCall given.reference) state.names (with_given_back state.buffers source.place given) sound few tt sound.names (follows_release lines state source.place given sound there kept' some)))

line_sound : (lines : ℕ) (state : TraceState) (line : Line) → HasBounds line → lines < 2 ^ 32 → IsSoundTrace lines state → Leaves lines (line_result state line)
line_sound lines state (Root limit) bounds few sound = same lines state sound
line_sound lines state (Child name parent reservation limit) bounds few sound =
    by_test lines (is_bound state.names name) _ _ (λ _. same lines state sound) (λ _.
    by_look lines _ (allocator_of state.names parent) _ (λ at found.
    called lines state (ChildCall at reservation limit) (names_after state.names name _) state.buffers sound few (bounds.0, bounds.1) (named_child state.names name _ sound.names bounds.2)
    (follows_none state (ChildCall at reservation limit) (λ k n. refl) refl)) (same lines state sound))
line_sound lines state (NewBuffer name at size) bounds few sound =
    by_test lines (is_some (buffer_of state.buffers.bound name)) _ _ (λ _. same lines state sound) (λ _.
    by_look lines _ (allocator_of state.names at) _ (λ id found.
    called lines state (GrantCall id size) state.names (buffers_after state.buffers name (grant_result state.tree id size).answer) sound few tt sound.names
    (follows_grant state name id size (grant_result state.tree id size).answer refl)) (same lines state sound))
line_sound lines state (Retain name source at) bounds few sound =
    by_test lines (is_some (buffer_of state.buffers.bound name)) _ _ (λ _. same lines state sound) (λ _.
    by_look lines _ (source_of state.buffers source) _ (λ s found.
    by_look lines _ (allocator_of state.names at) _ (λ id there. retain_sound lines state name s.0 s.1 id sound few) (same lines state sound)) (same lines state sound))
line_sound lines state (Transfer name source at) bounds few sound =
    by_test lines (is_some (buffer_of state.buffers.bound name)) _ _ (λ _. same lines state sound) (λ _.
    by_look lines _ (source_of state.buffers source) _ (λ s found.
    by_look lines _ (allocator_of state.names at) _ (λ id there. transfer_sound lines state name s.0 s.1 id sound few) (same lines state sound)) (same lines state sound))
line_sound lines state (Slice name source start len) bounds few sound =
    by_test lines (is_some (buffer_of state.buffers.bound name)) _ _ (λ _. same lines state sound) (λ _.
    by_look lines _ (source_of state.buffers source) _ (λ s found. slice_sound lines state name s.0 s.1 start len sound) (same lines state sound))
line_sound lines state (Release name) bounds few sound =
    by_look lines _ (source_of state.buffers name) _ (λ s found. release_sound lines state name s.0 s.1 sound few (source_given state.buffers name s found)) (same lines state sound)
line_sound lines state (Close at) bounds few sound =
    by_look lines _ (allocator_of state.names at) _ (λ id found.
    called lines state (CloseCall id) state.names state.buffers sound few tt sound.names (follows_none state (CloseCall id) (λ k n. refl) refl)) (same lines state sound)
line_sound lines state (Headroom at) bounds few sound = by_look lines _ (allocator_of state.names at) _ (λ id found. same lines state sound) (same lines state sound)
line_sound lines state Tree bounds few sound = same lines state sound
line_sound lines state Report bounds few sound = same lines state sound

-- and so do some lines
pub lines_sound : (lines : ℕ) (state : TraceState) (said : List Line) → All HasBounds said → lines + length said < 2 ^ 32 → IsSoundTrace lines state → IsSoundTrace (lines + length said) (trace_after state said)
lines_sound lines state [] all few sound = subst (λ n. IsSoundTrace n state) (sym (add-zero lines)) sound
lines_sound lines state (line ∷ said) all few sound =
    let after = (line_result state line).state in
    subst (λ n. IsSoundTrace n (trace_after after said)) (omega arith)
    (lines_sound (lines + 1) after said (All-tail HasBounds line said all) (omega (arith, few)) (line_sound lines state line (All-head HasBounds line said all) (omega (arith, few)) sound))

-- a trace opens in one
pub opened_sound : (limit : ℕ) → limit ≤ MAX_LIMIT → IsSoundTrace 0 (opened_trace limit)
opened_sound limit small = record {
  lawful = opened_lawful limit small;
  names = AreLawful-root.names;
  drawn = omega arith;
  references = All-nil (λ (chunk : Chunk). total_of chunk.ledgers ≤ 0);
  samples = All-nil IsSmall;
  counts = λ k n some. refl;
  all = refl;
}
