-- What a writer holds after a part of the bytes was written.
use Rattle.std.proofs.Common.{◌≡◌, ℕ, ◌-◌, List, ◌++◌, length, take, drop, sym, ap, ◌∙◌, append_assoc, take-append-drop, Option, Some, None, Result, Ok, Err, IsErr}
use Rattle.std.specs.Io.KnownBytes.{Appends as Known}
use Rattle.std.specs.Option.{IfSome}
use Rattle.std.proofs.Math.Seq.{take-append_seam}
use Rattle.std.proofs.lemmas.List.{take_rest}
use Rattle.mem_io.specs.Sink.{Appends}
use Rattle.mem_io.specs.declared.sink.SinkFault.{SinkFault}

-- a writer that has taken the first part of the bytes holds a first part of them
front_held : (before now : Option (List ℕ)) (all done rest : List ℕ) (fault : SinkFault) → all ≡ done ++ rest → Known before now done → IfSome before (λ old. Appends old now all (Err fault))
front_held None now all done rest fault split known = tt
front_held (Some old) None all done rest fault split known = absurd known
front_held (Some old) (Some new) all done rest fault split known =
    (length done, known ∙ ap (λ front. old ++ front) (sym (ap (take (length done)) split ∙ take-append_seam done rest)))

-- so it does after any answer that isn't Ok
pub Appends-front : (before now : Option (List ℕ)) (all done rest : List ℕ) (result : Result (Unit {0}) SinkFault) → IsErr result → all ≡ done ++ rest → Known before now done
    → IfSome before (λ old. Appends old now all result)
Appends-front before now all done rest (Ok _) failed split known = absurd cc
Appends-front before now all done rest (Err fault) failed split known = front_held before now all done rest fault split known

-- the first part grows by what one write takes of the rest
pub split-moved : (all done rest : List ℕ) (count : ℕ) → all ≡ done ++ rest → all ≡ (done ++ take count rest) ++ take (length rest - count) (drop count rest)
split-moved all done rest count split =
    split ∙ ap (λ front. done ++ front) (sym (take-append-drop count rest)) ∙ sym (append_assoc done (take count rest) (drop count rest))
    ∙ ap (λ back. (done ++ take count rest) ++ back) (sym (take_rest rest count))
