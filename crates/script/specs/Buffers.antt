-- The names of buffers, in order of binding. A name is a list of bytes.
use Rattle.std.specs.Prelude.{ℕ, false, true, List, [], ◌∷◌, ◌++◌, length, slice_get, slice_set, Option, Some, None}
use Rattle.std.specs.List.{find}
use Rattle.std.specs.Option.{option_map}
use Rattle.std.specs.Str.{bytes_eq}
use Rattle.mem_num.specs.declared.buffer_ref.Ref.{Ref}
use Rattle.script.specs.declared.buffer.Buffer.{Buffer}
use Rattle.script.specs.declared.buffer.GivenRef.{GivenRef}

-- what the names are bound to, and the references that were given, in order
pub record BufferNames : Type 0 where
  pub bound : List (List ℕ × Buffer)
  pub given : List GivenRef

abbrev pub no_buffers : BufferNames
no_buffers = record { bound = []; given = [] }

-- the buffer that a name is bound to
abbrev pub buffer_of : List (List ℕ × Buffer) → List ℕ → Option Buffer
buffer_of bound name = option_map (λ binding. binding.1) (find (λ binding. bytes_eq name binding.0) bound)

-- the buffer that a name is bound to, with its reference
abbrev pub source_in : List GivenRef → Option Buffer → Option (Buffer × GivenRef)
source_in given None = None
source_in given (Some buffer) = option_map (λ reference. (buffer, reference)) (slice_get given buffer.place)

abbrev pub source_of : BufferNames → List ℕ → Option (Buffer × GivenRef)
source_of names name = source_in names.given (buffer_of names.bound name)

-- the names once a new one is bound to a part of a reference that was given before
abbrev pub with_part : BufferNames → List ℕ → Buffer → BufferNames
with_part names name buffer = record names { bound = names.bound ++ (name, buffer) ∷ [] }

-- the names once a new one is bound to a new reference, over some of its bytes
abbrev pub with_reference : BufferNames → List ℕ → Ref → ℕ → ℕ → BufferNames
with_reference names name reference start len = record {
  bound = names.bound ++ (name, record { place = length names.given; start = start; len = len }) ∷ [];
  given = names.given ++ record { reference = reference; given_back = false } ∷ [];
}

-- the names once the reference at this place was given back
abbrev pub with_given_back : BufferNames → ℕ → GivenRef → BufferNames
with_given_back names place given = record names { given = slice_set names.given place (record given { given_back = true }) }
