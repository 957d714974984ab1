-- Lists of calls that are made before they run: such a call names its reference by the call that gives it.
use Rattle.std.specs.Prelude.{ℕ, List, [], ◌∷◌, ◌++◌, Ok}
use Rattle.std.specs.List.{slice_get}
use Rattle.std.specs.Option.{option_map_or}
use Rattle.mem_num.specs.declared.buffer_ref.Ref.{Ref}
use Rattle.mem_model.specs.TreeState.{TreeState, CallResult}
use Rattle.mem_model.specs.Calls.{CallBy, TreeCall, Child, Close, Grant, Retain, Transfer, Release, CallAnswer, ToGrant, ToRetain, ToTransfer, call_result}

-- a call that names a reference by the place of the earlier call that gives it, where the first call stands at 0
abbrev pub PlannedCall : Type 0
PlannedCall = CallBy ℕ

-- a reference to no chunk
abbrev pub no_reference : Ref
no_reference = record { chunk = 0; alloc = record { 0 = 0 }; size = 0 }

-- the reference that an answer gives, if it gives one
abbrev pub reference_given : CallAnswer → Ref
reference_given (ToGrant (Ok reference)) = reference
reference_given (ToRetain (Ok reference)) = reference
reference_given (ToTransfer (Ok moved)) = moved.0
reference_given _ = no_reference

-- the reference that the call at a place gave, if one stands there that gave one
abbrev pub reference_at : List CallAnswer → ℕ → Ref
reference_at answers place = option_map_or reference_given (slice_get answers place) no_reference

-- the call that a planned one comes to, by the answers of the calls before it
abbrev pub call_of : List CallAnswer → PlannedCall → TreeCall
call_of answers (Child parent reservation limit) = Child parent reservation limit
call_of answers (Close at) = Close at
call_of answers (Grant at request) = Grant at request
call_of answers (Retain place target) = Retain (reference_at answers place) target
call_of answers (Transfer place target) = Transfer (reference_at answers place) target
call_of answers (Release place) = Release (reference_at answers place)

-- what a planned call answers, leaves and samples
abbrev pub planned_result : TreeState → List CallAnswer → PlannedCall → CallResult CallAnswer
planned_result state answers planned = call_result state (call_of answers planned)

-- what planned calls come to behind calls that answered `answers`: all answers, the state that they leave, and what they sample
abbrev pub run_behind : TreeState → List CallAnswer → List PlannedCall → CallResult (List CallAnswer)
run_behind state answers [] = record { answer = answers; state = state; samples = [] }
run_behind state answers (planned ∷ plan) =
    let first = planned_result state answers planned in
    let rest = run_behind first.state (answers ++ first.answer ∷ []) plan in
    record { answer = rest.answer; state = rest.state; samples = first.samples ++ rest.samples }

-- what planned calls come to, one after the other
abbrev pub run_planned : TreeState → List PlannedCall → CallResult (List CallAnswer)
run_planned state plan = run_behind state [] plan

-- the calls that planned calls come to behind calls that answered `answers`
abbrev pub calls_behind : TreeState → List CallAnswer → List PlannedCall → List TreeCall
calls_behind state answers [] = []
calls_behind state answers (planned ∷ plan) =
    let first = planned_result state answers planned in
    call_of answers planned ∷ calls_behind first.state (answers ++ first.answer ∷ []) plan

-- the calls that planned calls come to
abbrev pub calls_planned : TreeState → List PlannedCall → List TreeCall
calls_planned state plan = calls_behind state [] plan
