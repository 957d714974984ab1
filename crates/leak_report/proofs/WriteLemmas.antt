-- Chunks are written one by one, and their references counted.
use Rattle.std.proofs.Common.{◌≡◌, ℕ, zero, suc, ◌+◌, ◌*◌, ◌^◌, ◌<◌, ◌≤◌, List, ◌∷◌, ◌++◌, get_or, All, AllPairs, sym, ap, subst, ◌∙◌, arith, append_assoc}
use Rattle.std.specs.List.{flat_map}
use Rattle.std.proofs.lemmas.List.Elements.{All-head}
use Rattle.std.proofs.lemmas.List.Sums.{sum_by-cons}
use Rattle.mem_model.specs.Chunk.{Chunk, references_of}
use Rattle.mem_model.specs.Ledgers.{total_of}
use Rattle.leak_report.specs.ReportText.{chunk_text}

-- a chunk with as many references as 64 bits count
abbrev pub HasFew : Chunk → Type 0
HasFew chunk = total_of chunk.ledgers < 2 ^ 64

-- what was written of some chunks and counted, once these are left: those have greater numbers than there are chunks before them
pub record IsWritten (before : List ℕ) (chunks : List Chunk) (text : List ℕ) (references : ℕ) (left : List Chunk) : Type 0 where
  pub low : ℕ
  pub text_ : text ++ flat_map chunk_text left ≡ before ++ flat_map chunk_text chunks
  pub count : references + references_of left ≡ references_of chunks
  pub few : references ≤ 2 ^ 58 * low
  pub above : All (λ chunk. low ≤ chunk.number) left
  pub in_order : AllPairs (λ older newer. older.number < newer.number) left
  -- where those that are left have few references each, all have
  pub few_each : All HasFew left → All HasFew chunks

-- at first nothing is written, and all are left
pub written_none : (before : List ℕ) (chunks left : List Chunk) → left ≡ chunks → AllPairs (λ older newer. older.number < newer.number) chunks → IsWritten before chunks before 0 left
written_none before chunks left same in_order = record {
  low = 0;
  text_ = ap (λ cs. before ++ flat_map chunk_text cs) same;
  count = omega (arith, ap references_of same);
  few = omega arith;
  above = λ k d within. omega arith;
  in_order = subst (AllPairs (λ older newer. older.number < newer.number)) (sym same) in_order;
  few_each = subst (All HasFew) same;
}

-- the first has few, and so have those behind it
few_cons : (chunk : Chunk) (left : List Chunk) → HasFew chunk → All HasFew left → All HasFew (chunk ∷ left)
few_cons chunk left first later zero d within = first
few_cons chunk left first later (suc k) d within = later k d (omega arith)

-- the first of those left is written, and its references are counted
pub written_more : (before : List ℕ) (chunks : List Chunk) (text text' : List ℕ) (references total : ℕ) (left left' : List Chunk) (chunk : Chunk) → IsWritten before chunks text references left
    → left ≡ chunk ∷ left' → text' ≡ text ++ chunk_text chunk → total ≡ total_of chunk.ledgers → total ≤ 2 ^ 58 → IsWritten before chunks text' (references + total) left'
written_more before chunks text text' references total left left' chunk written same is counted few =
    let Rises : List Chunk → Type 0 = AllPairs (λ older newer. older.number < newer.number) in
    let rises : Rises (chunk ∷ left') = subst Rises same written.in_order in
    let above : All (λ c. written.low ≤ c.number) (chunk ∷ left') = subst (All (λ c. written.low ≤ c.number)) same written.above in
    let here : written.low ≤ chunk.number = All-head (λ c. written.low ≤ c.number) chunk left' above in
    let so_far : references + references_of (chunk ∷ left') ≡ references_of chunks = ap (λ cs. references + references_of cs) (sym same) ∙ written.count in
    record {
      low = chunk.number + 1;
      text_ = ap (λ t. t ++ flat_map chunk_text left') is ∙ append_assoc text (chunk_text chunk) (flat_map chunk_text left') ∙ ap (λ cs. text ++ flat_map chunk_text cs) (sym same) ∙ written.text_;
      count = omega (arith, so_far, sum_by-cons (λ (c : Chunk). total_of c.ledgers) chunk left', counted);
      few = omega (arith, written.few, here, few);
      above = λ k d within. let behind : chunk.number < (get_or left' k d).number = rises 0 (suc k) d (omega arith) (omega arith) in omega arith;
      in_order = λ i j d less within. rises (suc i) (suc j) d (omega arith) (omega arith);
      few_each = λ later. written.few_each (subst (All HasFew) (sym same) (few_cons chunk left' (omega (arith, counted, few)) later));
    }

-- and their number fits
pub count_fits : (before : List ℕ) (chunks : List Chunk) (text : List ℕ) (references total : ℕ) (left left' : List Chunk) (chunk : Chunk) → IsWritten before chunks text references left
    → left ≡ chunk ∷ left' → chunk.number < 2 ^ 32 → total ≤ 2 ^ 58 → references + total < 2 ^ 128
count_fits before chunks text references total left left' chunk written same number few =
    let above : All (λ c. written.low ≤ c.number) (chunk ∷ left') = subst (All (λ c. written.low ≤ c.number)) same written.above in
    let here : written.low ≤ chunk.number = All-head (λ c. written.low ≤ c.number) chunk left' above in
    omega (arith, written.few, here)
