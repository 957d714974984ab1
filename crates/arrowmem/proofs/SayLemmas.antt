-- Files that weren't read are told by a line.
use Rattle.std.proofs.Common.{◌≡◌, ℕ, List, codes, subst, sym}
use Rattle.mem_io.specs.declared.shelf.ShelfFault.{ShelfFault}
use Rattle.mem_io.specs.declared.shelf.ShelfFault.TheVariants.{Failed, TooLong as Longer}
use Rattle.arrowmem.specs.Answers.{FaultAnswers, read_fault, too_long}
use Rattle.arrowmem.specs.Lines.{file_line}
use Rattle.arrowmem.specs.declared.status.Status.TheVariants.{ReadFault, TooLong}

pub fault_told : (name output : List ℕ) (fault : ShelfFault) → fault ≡ Failed → output ≡ file_line (codes "read fault: ") name
    → FaultAnswers name fault ReadFault output
fault_told name output fault is said =
    subst (λ f. FaultAnswers name f ReadFault output) (sym is) (subst (FaultAnswers name Failed ReadFault) (sym said) read_fault)

pub length_told : (name output : List ℕ) (fault : ShelfFault) → fault ≡ Longer → output ≡ file_line (codes "too long: ") name
    → FaultAnswers name fault TooLong output
length_told name output fault is said =
    subst (λ f. FaultAnswers name f TooLong output) (sym is) (subst (FaultAnswers name Longer TooLong) (sym said) too_long)
