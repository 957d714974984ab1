-- What a token of a listed memory shows, and how its calls follow its list.
use Rattle.std.specs.Prelude.{◌≡◌, ℕ, ◌^◌, ◌==◌, Bool, true, false, List, count_by, get_or, if◌then◌else◌, Result, Ok, Err, Some, None, ⊤}
use Rattle.mem_num.specs.declared.alloc_id.AllocId.{AllocId}
use Rattle.mem_num.specs.declared.bounds.TheConstants.{MOST_NUMBERS}
use Rattle.mem_num.specs.declared.not_closed.NotClosed.{NotClosed}
use Rattle.mem_num.specs.declared.not_closed.NotClosed.TheVariants as closing
use Rattle.mem_num.specs.declared.rounding.Rounding.TheVariants.{Power}
use Rattle.mem_buf.specs.declared.listed_answer.ListedAnswer.{ListedAnswer}
use Rattle.mem_buf.specs.declared.listed_answer.ListedAnswer.TheVariants.{Done, InUse}
use Rattle.mem_buf.specs.TokenView.{TokenView, is_empty}
use Rattle.mem_buf.specs.MemoryCall.{MemoryCall, Child, Close, Grant, Retain, Transfer, Release}

-- how often the allocator n is pinned
abbrev pub pins_in : List AllocId → ℕ → ℕ
pins_in pinned n = count_by (λ at. at.0 == n) pinned

-- a budget that no call lowers, the pins, and every allocator by its name
abbrev pub listed_view : List AllocId → TokenView
listed_view pinned = record {
  bytes = 2 ^ 61;
  turns = MOST_NUMBERS;
  pins = pins_in pinned;
  rounding = λ n. Some Power;
  limit = λ n. None;
}

-- the answer of this place of a list; past its end, that all is done
abbrev pub answer_at : List ListedAnswer → ℕ → ListedAnswer
answer_at answers place = get_or answers place (Done true)

-- whether an answer says that a call is done
abbrev pub is_done : ListedAnswer → Bool
is_done (Done fits) = true
is_done _ = false

-- whether it says so, and that it fits
abbrev pub is_whole : ListedAnswer → Bool
is_whole (Done fits) = fits
is_whole _ = false

-- what a closing answers
abbrev pub closing_of : ListedAnswer → Result (Unit {0}) NotClosed
closing_of (Done fits) = Ok tt
closing_of (InUse uses) = if uses == 0 then Err (closing.Closed 0) else Err (closing.InUse uses)
closing_of _ = Err (closing.Closed 0)

-- a call follows an answer: what is done was to be done, and a closing and a release say what they were to say
abbrev pub Follows : ListedAnswer → MemoryCall → Type 0
Follows next (Child parent reservation limit (Ok made)) = is_done next ≡ true
Follows next (Close at answer) = answer ≡ closing_of next
Follows next (Grant at request (Ok given)) = is_done next ≡ true
Follows next (Retain of target (Ok given)) = is_empty of ≡ false → is_done next ≡ true
Follows next (Transfer of target (Ok moved)) = is_empty of ≡ false → (is_done next ≡ true) × (moved.1 ≡ is_whole next)
Follows next (Release of answer) = is_empty of ≡ false → answer ≡ is_whole next
Follows next _ = ⊤
