-- What the lines of a trace are answered. Want of memory ends the run, and prints nothing.
use Rattle.std.specs.Prelude.{ℕ, ℤ, ◌==◌, Bool, true, false, List, [], ◌++◌, if◌then◌else◌, Result, Ok, Err, codes, decimal}
use Rattle.std.specs.Fmt.{signed_decimal}
use Rattle.mem_num.specs.Text.{alloc_id_text, child_refused_text, closed_text, full_text, released_text, too_large_text}
use Rattle.mem_num.specs.declared.alloc_id.AllocId.{AllocId}
use Rattle.mem_num.specs.declared.buffer_ref.Ref.{Ref}
use Rattle.mem_num.specs.declared.buffer_refused.BufferRefused.{BufferRefused}
use Rattle.mem_num.specs.declared.buffer_refused.BufferRefused.TheVariants.{TooLarge, Closed, Full, NoMemory}
use Rattle.mem_num.specs.declared.child_refused.ChildRefused.{ChildRefused}
use Rattle.mem_num.specs.declared.closed.Closed.{Closed as ClosedCall}
use Rattle.mem_num.specs.declared.not_closed.NotClosed.{NotClosed}
use Rattle.mem_num.specs.declared.not_closed.NotClosed.TheVariants.{InUse, Closed as ClosedBefore}
use Rattle.mem_num.specs.declared.released.Released.{Released as ReleasedCall}
use Rattle.mem_num.specs.declared.solo_refused.SoloRefused.{SoloRefused}
use Rattle.mem_num.specs.declared.solo_refused.SoloRefused.TheVariants.{Released, Closed as ClosedTarget, NoMemory as NoMemoryLeft}

-- a new name that is bound
abbrev pub taken_text : List ℕ → List ℕ
taken_text name = codes "taken " ++ (name ++ codes "\n")

-- a mentioned name that isn't bound
abbrev pub unknown_text : List ℕ → List ℕ
unknown_text name = codes "unknown " ++ (name ++ codes "\n")

-- what a child of this name is answered
abbrev pub child_text : List ℕ → Result AllocId ChildRefused → List ℕ
child_text name (Ok number) = codes "child " ++ (name ++ (codes " is " ++ (alloc_id_text number.0 ++ codes "\n")))
child_text name (Err refused) = child_refused_text refused ++ codes "\n"

-- what a request for a buffer of this name is answered
abbrev pub buffer_text : List ℕ → Result Ref BufferRefused → List ℕ
buffer_text name (Ok buffer) =
    if buffer.size == 0 then codes "buffer " ++ (name ++ codes " empty\n")
    else codes "buffer " ++ (name ++ (codes " chunk " ++ (decimal buffer.chunk ++ (codes " size " ++ (decimal buffer.size ++ codes "\n")))))
buffer_text name (Err (TooLarge refused)) = too_large_text refused.request ++ codes "\n"
buffer_text name (Err (Closed refused)) = closed_text refused.node.0 ++ codes "\n"
buffer_text name (Err (Full refused)) = full_text refused ++ codes "\n"
buffer_text name (Err NoMemory) = []

-- the empty buffer is retained and released any number of times
abbrev pub empty_text : List ℕ → List ℕ → List ℕ
empty_text call name = call ++ (codes " " ++ (name ++ codes " empty\n"))

-- and transferred
abbrev pub empty_transfer_text : List ℕ → List ℕ
empty_transfer_text name = codes "transfer " ++ (name ++ codes " empty fit\n")

-- a reference that was given back before
abbrev pub given_back_text : Ref → List ℕ
given_back_text reference = released_text reference.chunk reference.alloc.0 ++ codes "\n"

-- what a refusal of one thread's tree says
abbrev pub refused_text : SoloRefused → List ℕ
refused_text (Released refused) = released_text refused.chunk refused.alloc.0 ++ codes "\n"
refused_text (ClosedTarget refused) = closed_text refused.node.0 ++ codes "\n"
refused_text NoMemoryLeft = []

-- which chunk a name refers to, and where
abbrev pub at_text : Ref → List ℕ
at_text reference = codes " chunk " ++ (decimal reference.chunk ++ (codes " at " ++ alloc_id_text reference.alloc.0))

-- what a retain is answered
abbrev pub retain_text : List ℕ → Result Ref SoloRefused → List ℕ
retain_text name (Ok reference) = codes "retain " ++ (name ++ (at_text reference ++ codes "\n"))
retain_text name (Err refused) = refused_text refused

-- whether a forced charge is within the limit of each of its levels
abbrev pub fit_text : Bool → List ℕ
fit_text true = codes " fit\n"
fit_text false = codes " over\n"

-- what a transfer is answered
abbrev pub transfer_text : List ℕ → Result (Ref × Bool) SoloRefused → List ℕ
transfer_text name (Ok moved) = codes "transfer " ++ (name ++ (at_text moved.0 ++ fit_text moved.1))
transfer_text name (Err refused) = refused_text refused

-- a part of a buffer, from the first byte of its chunk on
abbrev pub slice_text : List ℕ → ℕ → ℕ → List ℕ
slice_text name start len = codes "slice " ++ (name ++ (codes " from " ++ (decimal start ++ (codes " len " ++ (decimal len ++ codes "\n")))))

-- a part that goes past the end of a buffer of so many bytes
abbrev pub outside_text : ℕ → List ℕ
outside_text len = codes "outside " ++ (decimal len ++ codes "\n")

-- what a release of the buffer of this name is answered: whether its ledger went, or that it was given back before
abbrev pub release_text : List ℕ → Result Bool ReleasedCall → List ℕ
release_text name (Ok true) = codes "release " ++ (name ++ codes " gone\n")
release_text name (Ok false) = codes "release " ++ (name ++ codes " kept\n")
release_text name (Err refused) = released_text refused.chunk refused.alloc.0 ++ codes "\n"

-- what closing the allocator of this name is answered
abbrev pub close_text : List ℕ → AllocId → Result (Unit {0}) NotClosed → List ℕ
close_text name at (Ok done) = codes "close " ++ (name ++ codes " ok\n")
close_text name at (Err (InUse uses)) = codes "inuse " ++ (decimal uses ++ codes "\n")
close_text name at (Err (ClosedBefore uses)) = closed_text at.0 ++ codes "\n"

-- the headroom of the allocator of this name, which may be less than nothing
abbrev pub headroom_text : List ℕ → Result ℤ ClosedCall → List ℕ
headroom_text name (Ok bytes) = codes "headroom " ++ (name ++ (codes " " ++ (signed_decimal bytes ++ codes "\n")))
headroom_text name (Err refused) = closed_text refused.node.0 ++ codes "\n"
