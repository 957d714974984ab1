-- What some lines of a trace print, where some more follow.
use Rattle.std.proofs.Common.{◌≡◌, List, [], ◌∷◌, ◌++◌, refl, sym, ap, ◌∙◌, append_assoc}
use Rattle.script.specs.declared.line.Line.{Line}
use Rattle.script.specs.Trace.{TraceState, line_result, text_of, trace_after}

-- what lines print, where some more follow
pub text_of-append : (state : TraceState) (lines more : List Line) → text_of state (lines ++ more) ≡ text_of state lines ++ text_of (trace_after state lines) more
text_of-append state [] more = refl
text_of-append state (line ∷ lines) more =
    ap (λ text. (line_result state line).text ++ text) (text_of-append (line_result state line).state lines more)
    ∙ sym (append_assoc (line_result state line).text (text_of (line_result state line).state lines) (text_of (trace_after (line_result state line).state lines) more))

-- what lines leave, where some more follow
pub trace_after-append : (state : TraceState) (lines more : List Line) → trace_after state (lines ++ more) ≡ trace_after (trace_after state lines) more
trace_after-append state [] more = refl
trace_after-append state (line ∷ lines) more = trace_after-append (line_result state line).state lines more
