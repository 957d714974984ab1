-- Lines that are run one after another.
use Rattle.std.proofs.Common.{◌≡◌, ℕ, List, [], ◌∷◌, ◌++◌, refl, sym, ap, subst, ◌∙◌, arith, append_assoc, length-append}
use Rattle.std.proofs.lemmas.List.{append-nil}
use Rattle.script.specs.declared.form.Form.{Form}
use Rattle.script.specs.declared.line.Line.{Line}
use Rattle.script.specs.declared.line.Line.TheVariants.{Root}
use Rattle.script.specs.declared.running.Running.{Running}
use Rattle.script.specs.declared.trace.Trace.{Trace}
use Rattle.script.specs.Count.{Counts}
use Rattle.script.specs.Grammar.{limit_of, lines_of, Says, ScriptParts, IsScript}
use Rattle.script.specs.Reading.{MayFollow, script_of}
use Rattle.script.specs.Running.{HasCome, HasRun, printed_by}
use Rattle.mem_model.specs.DrawnNumbers.{DrawsNumbers}
use Rattle.script.specs.Shown.{IsAt, HasNumbers, PrintsLine}
use Rattle.script.specs.Trace.{line_result, opened_trace, text_of, trace_after, trace_text}
use Rattle.mem_model.proofs.DrawnLemmas.{draws_nothing}
use Rattle.script.proofs.NumberLemmas.{numbers-left}
use Rattle.script.proofs.TraceLemmas.{text_of-append, trace_after-append}

-- what the first line sets stays set
limit-first : (first : Line) (said more : List Line) → limit_of (first ∷ said ++ more) ≡ limit_of (first ∷ said)
limit-first (Root limit) said more = refl
limit-first _ said more = refl

-- what lines print doesn't depend on the limit that one more sets, since that is then the first
printed_before : (said : List Line) (line : Line) → text_of (opened_trace (limit_of (said ++ line ∷ []))) said ≡ printed_by said
printed_before [] line = refl
printed_before (first ∷ said) line = ap (λ limit. text_of (opened_trace limit) (first ∷ said)) (limit-first first said (line ∷ []))

-- what lines print with one more
printed-push : (said : List Line) (line : Line)
    → printed_by (said ++ line ∷ []) ≡ printed_by said ++ (line_result (trace_after (opened_trace (limit_of (said ++ line ∷ []))) said) line).text
printed-push said line =
    let start = opened_trace (limit_of (said ++ line ∷ [])) in
    text_of-append start said (line ∷ [])
    ∙ ap (λ text. text_of start said ++ text) (append-nil (line_result (trace_after start said) line).text)
    ∙ ap (λ text. text ++ (line_result (trace_after start said) line).text) (printed_before said line)

-- a line more was run
pub one_more_run : (form : Form) (said : List Line) (line : Line) (before out earlier text : List ℕ) (opened : Trace) (running : Running)
    → HasCome opened (said ++ line ∷ []) said → MayFollow form said line → Counts (said ++ line ∷ []) running.count
    → earlier ≡ [] → PrintsLine opened running.trace earlier text line → DrawsNumbers opened.tree.state running.trace.tree.state 1
    → out ≡ before ++ printed_by said → HasRun running (said ++ line ∷ []) before (out ++ text)
one_more_run form said line before out earlier text opened running come may counted none prints draws printed =
    let start = opened_trace (limit_of (said ++ line ∷ [])) in
    let now = trace_after start said in
    let done = prints now come.here in
    let added : text ≡ (line_result now line).text = done.0 ∙ ap (λ e. e ++ (line_result now line).text) none in
    let lengths = length-append said (line ∷ []) in
    record {
      counted = counted;
      come = record {
        here = subst (IsAt running.trace) (sym (trace_after-append start said (line ∷ []))) done.1;
        numbers = numbers-left _ _ 1 _ _ come.numbers draws (omega (arith, may.few_lines, lengths));
      };
      printed = ap (λ o. o ++ text) printed ∙ append_assoc before (printed_by said) text
          ∙ ap (λ t. before ++ t) (ap (λ t. printed_by said ++ t) added ∙ sym (printed-push said line));
    }

-- there are numbers for a line that may follow
pub numbers_for_one : (form : Form) (opened : Trace) (all said : List Line) (line : Line) → HasCome opened all said → MayFollow form said line → HasNumbers opened.tree.state 1
numbers_for_one form opened all said line come may = numbers-left _ _ 0 1 _ come.numbers (draws_nothing _ 0) (omega (arith, may.few_lines))

-- where no text is left, the lines that were run are a script, and its text is printed
pub whole_is_run : (form : Form) (whole done : List (List ℕ)) (said : List Line) (running : Running) (before out : List ℕ)
    → whole ≡ done ++ [] → Says form done said → HasRun running said before out
    → (script : ScriptParts) × IsScript form whole script × (out ≡ before ++ trace_text script)
whole_is_run form whole done said running before out split says ran =
    let same : lines_of (script_of said) ≡ said = append-nil said in
    let all' : Says form whole said = subst (λ text. Says form text said) (sym (split ∙ append-nil done)) says in (
      script_of said,
      record { lines = subst (Says form whole) (sym same) all'; one_section = ap (λ lines. lines ∷ []) (sym same); limit = ap limit_of (sym same) },
      ran.printed ∙ ap (λ lines. before ++ text_of (opened_trace (limit_of said)) lines) (sym same),
    )
