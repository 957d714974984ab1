-- Every report of a trace is lawful.
use Rattle.std.proofs.Common.{◌≡◌, ℕ, ◌<◌, ◌^◌, List, [], ◌∷◌, ◌++◌, length, All, ap, subst, ◌∙◌, arith, length-append, zero-add, get_or, is_some}
use Rattle.std.proofs.lemmas.List.{get_or_append_left}
use Rattle.std.proofs.lemmas.List.Elements.{All-cons, All-nil}
use Rattle.std.proofs.lemmas.Option.{slice_get-get_or}
use Rattle.mem_model.specs.PeakSample.{peak_of}
use Rattle.mem_model.proofs.SampleLemmas.{peak_of-small}
use Rattle.alloc_tree.specs.Names.{AreNames}
use Rattle.leak_report.specs.LawfulReport.{IsLawfulReport}
use Rattle.leak_report.proofs.LawfulReportLemmas.{IsLawfulReport-report_text}
use Rattle.script.specs.declared.form.Form.{Form}
use Rattle.script.specs.declared.line.Line.{Line}
use Rattle.script.specs.declared.line.Line.TheVariants.{Report}
use Rattle.script.specs.Grammar.{HasBounds, ScriptParts, IsScript, lines_of}
use Rattle.script.specs.References.{KeepsReferences}
use Rattle.script.specs.Trace.{line_result, opened_trace, trace_after, text_of, trace_text}
use Rattle.script.proofs.BoundLemmas.{script_bounds, script_limit}
use Rattle.script.proofs.SoundTraceLemmas.{IsSoundTrace, lines_sound, live_referred, opened_sound}
use Rattle.script.proofs.TraceLemmas.{text_of-append}

-- what holds of all of two lists holds of all of the first
All-prefix : {X : Type 0} (P : X → Type 0) (xs ys : List X) → All P (xs ++ ys) → All P xs
All-prefix P xs ys all k d within = subst P (get_or_append_left xs ys d k within) (all k d (omega (arith, length-append xs ys)))

-- the lines of a script before some others lead to a sound state
script_sound : (form : Form) (text : List (List ℕ)) (script : ScriptParts) (said more : List Line) → IsScript form text script → lines_of script ≡ said ++ more
    → IsSoundTrace (length said) (trace_after (opened_trace script.limit) said) × (length said < 2 ^ 32)
script_sound form text script said more is split =
    let all' : All HasBounds (said ++ more) = subst (All HasBounds) split (script_bounds form text script is) in
    let few : length said < 2 ^ 32 = omega (arith, is.lines.few_lines, ap (λ (lines : List Line). length lines) split, length-append said more) in
    (subst (λ n. IsSoundTrace n (trace_after (opened_trace script.limit) said)) (zero-add (length said)) (lines_sound 0 (opened_trace script.limit) said (All-prefix HasBounds said more all') (omega (arith, few)) (opened_sound script.limit (script_limit form text script is))), few)

-- the report that a script asks for after some lines is lawful
pub report_lawful : (form : Form) (text : List (List ℕ)) (script : ScriptParts) (said more : List Line) → IsScript form text script
    → lines_of script ≡ said ++ Report ∷ more → IsLawfulReport (line_result (trace_after (opened_trace script.limit) said) Report).text
report_lawful form text script said more is split =
    let state = trace_after (opened_trace script.limit) said in
    let both = script_sound form text script said (Report ∷ more) is split in
    let sound = both.0 in
    IsLawfulReport-report_text (state.names ∷ []) (peak_of state.samples) state.tree sound.lawful (record {
      well_formed = All-cons AreNames state.names [] sound.names (All-nil AreNames);
      drawn = omega (arith, sound.drawn, both.1);
      peaks_fit = λ k d within. omega (arith, peak_of-small state.samples (get_or state.tree.nodes k d).number.0 sound.samples);
      references_fit = λ k d within. omega (arith, sound.references k d within, both.1);
    })

-- and stands in the text of the script, behind what those lines print
pub report_printed : (script : ScriptParts) (said more : List Line) → lines_of script ≡ said ++ Report ∷ more
    → let state = trace_after (opened_trace script.limit) said in
    trace_text script ≡ text_of (opened_trace script.limit) said ++ ((line_result state Report).text ++ text_of state more)
report_printed script said more split =
    ap (text_of (opened_trace script.limit)) split ∙ text_of-append (opened_trace script.limit) said (Report ∷ more)

-- after some lines of a script the references are those that were given and not given back
pub references_kept : (form : Form) (text : List (List ℕ)) (script : ScriptParts) (said more : List Line) → IsScript form text script → lines_of script ≡ said ++ more
    → KeepsReferences (trace_after (opened_trace script.limit) said)
references_kept form text script said more is split =
    let state = trace_after (opened_trace script.limit) said in
    let sound = (script_sound form text script said more is split).0 in
    record {
      counts = sound.counts;
      all = sound.all;
      live = λ k d within live. ap is_some (live_referred (length said) state k (get_or state.buffers.given k d) sound (slice_get-get_or state.buffers.given k d within) live).1;
    }
