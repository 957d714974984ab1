-- What a trace prints: the answers of its lines, one after another.
use Rattle.std.specs.Prelude.{ℕ, ◌+◌, ◌==◌, nat_lt, codes, Bool, List, [], ◌∷◌, ◌++◌, if◌then◌else◌, is_some, Result, Ok, Err}
use Rattle.std.specs.Option.{option_map_or}
use Rattle.mem_num.specs.declared.alloc_id.AllocId.{AllocId}
use Rattle.mem_num.specs.declared.buffer_ref.Ref.{Ref}
use Rattle.mem_num.specs.declared.buffer_refused.BufferRefused.{BufferRefused}
use Rattle.mem_num.specs.declared.child_refused.ChildRefused.{ChildRefused}
use Rattle.mem_num.specs.declared.solo_refused.SoloRefused.{SoloRefused}
use Rattle.mem_num.specs.declared.not_closed.NotClosed.{NotClosed}
use Rattle.mem_model.specs.PeakSample.{PeakSample, peak_of}
use Rattle.mem_model.specs.TreeState.{TreeState, CallResult, opened}
use Rattle.mem_model.specs.Child.{child_result}
use Rattle.mem_model.specs.Grant.{grant_result}
use Rattle.mem_model.specs.Release.{release_result}
use Rattle.mem_model.specs.Retain.{retain_result}
use Rattle.mem_model.specs.Transfer.{transfer_result}
use Rattle.mem_model.specs.Close.{close_result}
use Rattle.mem_model.specs.Headroom.{headroom_answer}
use Rattle.alloc_tree.specs.Names.{allocator_of, is_bound, root_binding}
use Rattle.leak_report.specs.ReportText.{report_text}
use Rattle.leak_report.specs.TreeText.{tree_text}
use Rattle.script.specs.declared.buffer.Buffer.{Buffer}
use Rattle.script.specs.declared.line.Line.{Line}
use Rattle.script.specs.declared.line.Line.TheVariants.{Root, Child, Buffer as NewBuffer, Retain, Transfer, Slice, Release, Close, Headroom, Tree, Report}
use Rattle.script.specs.Answers.{taken_text, unknown_text, child_text, buffer_text, empty_text, empty_transfer_text, given_back_text, retain_text, transfer_text, slice_text, outside_text, release_text, close_text, headroom_text}
use Rattle.script.specs.declared.buffer.GivenRef.{GivenRef}
use Rattle.script.specs.Buffers.{BufferNames, no_buffers, buffer_of, source_of, with_part, with_reference, with_given_back}
use Rattle.script.specs.Grammar.{ScriptParts, lines_of}

-- what a trace has come to: its tree, the moments at which peaks were measured, and what the names of allocators and those of
-- buffers are bound to, in order of binding
pub record TraceState : Type 0 where
  pub tree : TreeState
  pub samples : List PeakSample
  pub names : List (List ℕ × AllocId)
  pub buffers : BufferNames

-- before the first line
abbrev pub opened_trace : ℕ → TraceState
opened_trace limit = record { tree = opened limit; samples = []; names = root_binding ∷ []; buffers = no_buffers }

-- what a line prints, and what it leaves
pub record LineResult : Type 0 where
  pub text : List ℕ
  pub state : TraceState

-- a text after which nothing has changed
abbrev pub says : TraceState → List ℕ → LineResult
says state text = record { text = text; state = state }

-- a text after a call on the tree, with the names that are bound then
abbrev pub calls : {A : Type 0} → TraceState → CallResult A → List ℕ
    → List (List ℕ × AllocId) → BufferNames → LineResult
calls state call text names buffers = record {
  text = text;
  state = record { tree = call.state; samples = state.samples ++ call.samples; names = names; buffers = buffers };
}

-- what a line does at the allocator of this name, if there is one
abbrev pub at_allocator : TraceState → List ℕ → (AllocId → LineResult) → LineResult
at_allocator state name line = option_map_or line (allocator_of state.names name) (says state (unknown_text name))

-- what a line does with the buffer of this name and its reference, if there is one
abbrev pub with_source : TraceState → List ℕ → (Buffer → GivenRef → LineResult) → LineResult
with_source state name line = option_map_or (λ source. line source.0 source.1) (source_of state.buffers name) (says state (unknown_text name))

-- a child that was made has its name from then on
abbrev pub names_after : List (List ℕ × AllocId) → List ℕ → Result AllocId ChildRefused → List (List ℕ × AllocId)
names_after names name (Ok number) = names ++ (name, number) ∷ []
names_after names name (Err refused) = names

-- a buffer that was given has its name from then on, over all its bytes
abbrev pub buffers_after : BufferNames → List ℕ → Result Ref BufferRefused → BufferNames
buffers_after buffers name (Ok reference) = with_reference buffers name reference 0 reference.size
buffers_after buffers name (Err refused) = buffers

-- a reference that was given has its name, over the bytes of its source
abbrev pub retained_after : BufferNames → List ℕ → Buffer → Result Ref SoloRefused → BufferNames
retained_after buffers name source (Ok reference) = with_reference buffers name reference source.start source.len
retained_after buffers name source (Err refused) = buffers

abbrev pub transferred_after : BufferNames → List ℕ → Buffer → Result (Ref × Bool) SoloRefused → BufferNames
transferred_after buffers name source (Ok moved) = with_reference buffers name moved.0 source.start source.len
transferred_after buffers name source (Err refused) = buffers

abbrev pub child_line : TraceState → List ℕ → CallResult (Result AllocId ChildRefused) → LineResult
child_line state name call =
    calls state call (child_text name call.answer) (names_after state.names name call.answer) state.buffers

-- what a request for a buffer prints and leaves
abbrev pub buffer_line : TraceState → List ℕ → CallResult (Result Ref BufferRefused) → LineResult
buffer_line state name call =
    calls state call (buffer_text name call.answer) state.names (buffers_after state.buffers name call.answer)

-- a name for some bytes of a source, which shares its reference
abbrev pub part_line : TraceState → List ℕ → Buffer → List ℕ → LineResult
part_line state name part text = record { text = text; state = record state { buffers = with_part state.buffers name part } }

-- the empty buffer is retained as itself, also at a closed allocator
abbrev pub retain_line : TraceState → List ℕ → Buffer → GivenRef → AllocId → LineResult
retain_line state name source given at =
    if given.reference.chunk == 0 then part_line state name source (empty_text (codes "retain") name)
    else if given.given_back then says state (given_back_text given.reference)
    else let call = retain_result state.tree given.reference at in calls state call (retain_text name call.answer) state.names (retained_after state.buffers name source call.answer)

-- and so it is transferred
abbrev pub transfer_line : TraceState → List ℕ → Buffer → GivenRef → AllocId → LineResult
transfer_line state name source given at =
    if given.reference.chunk == 0 then part_line state name source (empty_transfer_text name)
    else if given.given_back then says state (given_back_text given.reference)
    else let call = transfer_result state.tree given.reference at in calls state call (transfer_text name call.answer) state.names (transferred_after state.buffers name source call.answer)

-- some bytes of a source, counted from its first one
abbrev pub slice_line : TraceState → List ℕ → Buffer → GivenRef → ℕ → ℕ → LineResult
slice_line state name source given start len =
    if given.given_back then says state (given_back_text given.reference)
    else if nat_lt source.len (start + len) then says state (outside_text source.len)
    else part_line state name (record source { start = source.start + start; len = len }) (slice_text name (source.start + start) len)

-- the empty buffer is never given back, and any other once
abbrev pub release_line : TraceState → List ℕ → Buffer → GivenRef → LineResult
release_line state name source given =
    if given.reference.chunk == 0 then says state (empty_text (codes "release") name)
    else if given.given_back then says state (given_back_text given.reference)
    else let call = release_result state.tree given.reference in calls state call (release_text name call.answer) state.names (with_given_back state.buffers source.place given)

abbrev pub close_line : TraceState → List ℕ → AllocId → CallResult (Result (Unit {0}) NotClosed) → LineResult
close_line state name at call = calls state call (close_text name at call.answer) state.names state.buffers

-- a line with a new name for a buffer, if the name is free
abbrev pub with_new_buffer : TraceState → List ℕ → LineResult → LineResult
with_new_buffer state name line = if is_some (buffer_of state.buffers.bound name) then says state (taken_text name) else line

-- a new name is tested first, then the names that the line mentions, from left to right, then whether the source was given back;
-- then the tree is asked. A name stays bound, also that of a closed allocator or of a buffer that was given back
abbrev pub line_result : TraceState → Line → LineResult
line_result state (Root limit) = says state []
line_result state (Child name parent reservation limit) =
    if is_bound state.names name then says state (taken_text name)
    else at_allocator state parent (λ at. child_line state name (child_result state.tree at reservation limit))
line_result state (NewBuffer name at size) = with_new_buffer state name (at_allocator state at (λ id. buffer_line state name (grant_result state.tree id size)))
line_result state (Retain name source at) = with_new_buffer state name (with_source state source (λ buffer given. at_allocator state at (retain_line state name buffer given)))
line_result state (Transfer name source at) = with_new_buffer state name (with_source state source (λ buffer given. at_allocator state at (transfer_line state name buffer given)))
line_result state (Slice name source start len) = with_new_buffer state name (with_source state source (λ buffer given. slice_line state name buffer given start len))
line_result state (Release name) = with_source state name (release_line state name)
line_result state (Close at) = at_allocator state at (λ id. close_line state at id (close_result state.tree id))
line_result state (Headroom at) = at_allocator state at (λ id. says state (headroom_text at (headroom_answer state.tree id)))
line_result state Tree = says state (tree_text (state.names ∷ []) (peak_of state.samples) state.tree)
line_result state Report = says state (report_text (state.names ∷ []) (peak_of state.samples) state.tree)

-- what some lines print, one after another
abbrev pub text_of : TraceState → List Line → List ℕ
text_of state [] = []
text_of state (line ∷ lines) = (line_result state line).text ++ text_of (line_result state line).state lines

-- what some lines leave
abbrev pub trace_after : TraceState → List Line → TraceState
trace_after state [] = state
trace_after state (line ∷ lines) = trace_after (line_result state line).state lines

-- what a script prints as a trace
abbrev pub trace_text : ScriptParts → List ℕ
trace_text script = text_of (opened_trace script.limit) (lines_of script)
