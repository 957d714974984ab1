-- Peaks, as samples are taken one after another.
use Rattle.std.proofs.Common.{◌≡◌, ℕ, max, List, [], ◌∷◌, ◌++◌, true, false, map, filter, refl, ap, ◌∙◌}
use Rattle.std.specs.List.{fold}
use Rattle.std.proofs.lemmas.List.{append-nil, map-append}
use Rattle.std.proofs.lemmas.List.Elements.{filter-append}
use Rattle.std.proofs.lemmas.List.Sums.{fold-append}
use Rattle.mem_model.specs.MeasuredTree.{raised_peaks}
use Rattle.mem_model.specs.PeakSample.{PeakSample, is_counted, held_in, peak_of}

-- a sample that counts may raise the peak
pub peak_of-push : (samples : List PeakSample) (sample : PeakSample) (n : ℕ) → is_counted n sample ≡ true → peak_of (samples ++ sample ∷ []) n ≡ max (peak_of samples n) (held_in n sample)
peak_of-push samples sample n counts =
    let kept : filter (is_counted n) (sample ∷ []) ≡ sample ∷ [] = rw counts refl in
    ap (λ xs. fold max 0 (map (held_in n) xs)) (filter-append (is_counted n) samples (sample ∷ []) ∙ ap (λ xs. filter (is_counted n) samples ++ xs) kept)
    ∙ ap (fold max 0) (map-append (held_in n) (filter (is_counted n) samples) (sample ∷ []))
    ∙ fold-append max 0 (map (held_in n) (filter (is_counted n) samples)) (held_in n sample ∷ [])

-- a sample that doesn't count leaves it
pub peak_of-skip : (samples : List PeakSample) (sample : PeakSample) (n : ℕ) → is_counted n sample ≡ false → peak_of (samples ++ sample ∷ []) n ≡ peak_of samples n
peak_of-skip samples sample n skips =
    let dropped : filter (is_counted n) (sample ∷ []) ≡ [] = rw skips refl in
    ap (λ xs. fold max 0 (map (held_in n) xs)) (filter-append (is_counted n) samples (sample ∷ []) ∙ ap (λ xs. filter (is_counted n) samples ++ xs) dropped ∙ append-nil (filter (is_counted n) samples))

-- later samples raise the peaks of the earlier ones
pub peak_of-append : (samples more : List PeakSample) (n : ℕ) → peak_of (samples ++ more) n ≡ raised_peaks (peak_of samples) more n
peak_of-append samples more n =
    ap (λ xs. fold max 0 (map (held_in n) xs)) (filter-append (is_counted n) samples more)
    ∙ ap (fold max 0) (map-append (held_in n) (filter (is_counted n) samples) (filter (is_counted n) more))
    ∙ fold-append max 0 (map (held_in n) (filter (is_counted n) samples)) (map (held_in n) (filter (is_counted n) more))
