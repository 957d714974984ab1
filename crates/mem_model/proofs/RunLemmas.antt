-- What lists of calls come to: the state and the peaks of a tree to which they lead.
use Rattle.std.proofs.Common.{◌≡◌, ℕ, List, [], ◌∷◌, ◌++◌, sym, ap, ◌∙◌, append_assoc}
use Rattle.std.proofs.lemmas.List.{append-nil}
use Rattle.mem_model.specs.Calls.{TreeCall, call_result, state_after, samples_of, LeadTo}
use Rattle.mem_model.specs.MeasuredTree.{MeasuredTree, IsOpened, peak_at, raised_peaks}
use Rattle.mem_model.specs.PeakSample.{PeakSample, peak_of}
use Rattle.mem_model.specs.TreeState.{opened}
use Rattle.mem_model.proofs.PeakLemmas.{peak_of-append}

-- calls lead to the state that they leave
lead-state : (old new : MeasuredTree) (calls : List TreeCall) → LeadTo old calls new → new.state ≡ state_after old.state calls
lead-state old new [] leads = ap (λ (tree : MeasuredTree). tree.state) leads
lead-state old new (call ∷ calls) leads =
    lead-state leads.0 new calls leads.2 ∙ ap (λ state. state_after state calls) leads.1.state

-- and to peaks that their samples raise
lead-peaks : (samples : List PeakSample) (old new : MeasuredTree) (calls : List TreeCall) → ((n : ℕ) → peak_at old n ≡ peak_of samples n) → LeadTo old calls new → (n : ℕ) → peak_at new n ≡ peak_of (samples ++ samples_of old.state calls) n
lead-peaks samples old new [] peaks leads n = ap (λ tree. peak_at tree n) leads ∙ peaks n ∙ ap (λ s. peak_of s n) (sym (append-nil samples))
lead-peaks samples old new (call ∷ calls) peaks leads n =
    let first = (call_result old.state call).samples in
    let next : (m : ℕ) → peak_at leads.0 m ≡ peak_of (samples ++ first) m = λ m.
    leads.1.peaks m ∙ ap (λ f. raised_peaks f first m) (λ j k. peaks k j) ∙ sym (peak_of-append samples first m) in
    lead-peaks (samples ++ first) leads.0 new calls next leads.2 n ∙ ap (λ s. peak_of s n) (append_assoc samples first (samples_of leads.0.state calls))
    ∙ ap (λ state. peak_of (samples ++ (first ++ samples_of state calls)) n) leads.1.state

-- from an opening
pub opened-state : (limit : ℕ) (calls : List TreeCall) (first last : MeasuredTree) → IsOpened limit first → LeadTo first calls last → last.state ≡ state_after (opened limit) calls
opened-state limit calls first last open_ leads = lead-state first last calls leads ∙ ap (λ state. state_after state calls) open_.state

pub opened-peaks : (limit : ℕ) (calls : List TreeCall) (first last : MeasuredTree) → IsOpened limit first → LeadTo first calls last → (n : ℕ) → peak_at last n ≡ peak_of (samples_of (opened limit) calls) n
opened-peaks limit calls first last open_ leads n =
    lead-peaks [] first last calls open_.peaks leads n ∙ ap (λ state. peak_of (samples_of state calls) n) open_.state
