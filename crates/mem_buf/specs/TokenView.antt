-- What a caller's token shows.
use Rattle.std.specs.Prelude.{◌≡◌, ℕ, ◌==◌, Bool, nat_lt, if◌then◌else◌, Option, Some}
use Rattle.std.specs.Option.{unwrap_or}
use Rattle.mem_num.specs.Rounded.{rounded_size}
use Rattle.mem_num.specs.declared.bounds.TheConstants.{LARGEST}
use Rattle.mem_num.specs.declared.rounding.Rounding.{Rounding}
use Rattle.mem_num.specs.declared.rounding.Rounding.TheVariants.{Power}
use Rattle.mem_num.specs.declared.alloc_id.AllocId.{AllocId}
use Rattle.mem_num.specs.declared.buffer_ref.Ref.{Ref}

-- the bytes and the calls that may still be spent; and by the number of an allocator how often the token pins it, its rounding
-- where the token can name it, and its limit where the token knows it
pub record TokenView : Type 0 where
  pub bytes : ℕ
  pub turns : ℕ
  pub pins : ℕ → ℕ
  pub rounding : ℕ → Option Rounding
  pub limit : ℕ → Option ℕ

-- the token can name an allocator, which rounds to powers of two
abbrev pub CanName : TokenView → AllocId → Type 0
CanName view at = view.rounding at.0 ≡ Some Power

-- the size of the buffer for a request, in bytes, by the rounding of its allocator
abbrev pub size_for : TokenView → AllocId → ℕ → ℕ
size_for view at request = rounded_size (unwrap_or (view.rounding at.0) Power) request

-- what a buffer of this size is charged: its bytes, and none where it is too large
abbrev pub charged_for : ℕ → ℕ
charged_for size = if nat_lt LARGEST size then 0 else size

-- the bytes that a request may spend
abbrev pub bytes_for : TokenView → AllocId → ℕ → ℕ
bytes_for view at request = charged_for (size_for view at request)

-- the turns that a request may spend: one, and none where it is charged no bytes
abbrev pub turns_for : TokenView → AllocId → ℕ → ℕ
turns_for view at request = if bytes_for view at request == 0 then 0 else 1

-- whether a reference is that of the empty buffer
abbrev pub is_empty : Ref → Bool
is_empty of = of.chunk == 0

-- the turns that a further reference may spend: one, and none where it is to the empty buffer
abbrev pub turns_to_share : Ref → ℕ
turns_to_share of = if is_empty of then 0 else 1
