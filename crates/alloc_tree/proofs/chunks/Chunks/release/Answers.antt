use Rattle.std.proofs.Common.{◌∙◌, ap, sym, map, List, eqb, length, refl}
use Rattle.std.proofs.lemmas.Bool.{eqb-true, eqb-false, true≢false}
use Rattle.std.proofs.lemmas.List.{nil_from_length}
use Rattle.std.specs.List.{find}
use Rattle.std.specs.Option.{option_map}
use Rattle.mem_model.specs.Chunk.{Chunk}
use Rattle.mem_model.specs.References.{refers_to}
use Rattle.alloc_tree.specs.Chunks.{chunk_of, after_of_release, without_reference}
use Rattle.alloc_tree.proofs.ChunkLemmas.{found_at, none_at, set_same, set_in_order}
use Rattle.alloc_tree.proofs.ReferenceLemmas.{IsTaken, taken_answer, taken_stays, taken_goes, removed_in_order, none_taken, none_left}
use Rattle.alloc_tree.proofs.ReferenceLemmas.{refers_to_none, refers_without_count}
use Rattle.alloc_tree.proofs.chunks.Chunks.release.Goals as goal

-- no chunk has the number
pub returns-in_err-ledgers : goal.returns-in_err-ledgers
returns-in_err-ledgers c =
    let none = refers_to_none c.args.of _ c.self.invariant (none_at _ c.args.of.chunk (sym c.in_err-ledgers.ensures.value)) in
    record {
      after = c.from_residual.ensures ∙ none_taken c.args.of _ none
          ∙ ap (λ (chunks : List Chunk). option_map (after_of_release c.args.of.alloc) (find (refers_to c.args.of) chunks))
          c.self.view_is;
      left = ap (λ m. map chunk_of m.entries) c.get_mut.follows.holds-at-none ∙ none_left c.args.of _ none
          ∙ ap (without_reference c.args.of) c.self.view_is;
    }

-- the allocator has no reference
pub invariant_of-self-in_default : goal.invariant_of-self-in_default
invariant_of-self-in_default c = set_in_order _ c.args.of.chunk c.release.new.self c.self.invariant
    (c.get_mut.follows.holds c.release.new.self).0

pub returns-in_default : goal.returns-in_default
returns-in_default c =
    let found = sym c.in_ok-ledgers.ensures.value in
    let none = refers_without_count c.args.of _ c.self.invariant (found_at _ c.args.of.chunk found)
    (c.in_default.ensures.released.0 refl) in
    let same = ap (λ l. chunk_of (c.args.of.chunk, l)) c.in_default.ensures.err in
    record {
      after = none_taken c.args.of _ none
          ∙ ap (λ (chunks : List Chunk). option_map (after_of_release c.args.of.alloc) (find (refers_to c.args.of) chunks))
          c.self.view_is;
      left = set_same _ c.args.of.chunk found c.release.new.self c.self.invariant (c.get_mut.follows.holds c.release.new.self).0 same
          ∙ none_left c.args.of _ none ∙ ap (without_reference c.args.of) c.self.view_is;
    }

-- a reference went, and a ledger is left
pub invariant_of-self-then-not-is_empty : goal.invariant_of-self-then-not-is_empty
invariant_of-self-then-not-is_empty c = set_in_order _ c.args.of.chunk c.release.new.self c.self.invariant
    (c.get_mut.follows.holds c.release.new.self).0

pub returns-then-not-is_empty : goal.returns-then-not-is_empty
returns-then-not-is_empty c =
    let ok = c.in-Ok.ensures in
    let h : IsTaken c.args.of.alloc.0 c.in_ok-ledgers.ledgers.now c.release.new.self c.in-Ok.after = record {
      before = c.ledgers_are_lawful.ensures;
      lawful = c.release.ensures.lawful;
      taken = ok.taken;
      answer = ok.after;
      owner = ok.owner;
      counted = λ none. true≢false (sym (ok.released.1 none));
    } in
    let found = sym c.in_ok-ledgers.ensures.value in
    let is = (c.get_mut.follows.holds c.release.new.self).0 in
    let size = ap (λ ledgers. eqb (length ledgers) 0) (sym c.entries.ensures) ∙ sym c.is_empty.ensures ∙ c.if-not-is_empty.true in
    record {
      after = taken_answer c.args.of _ c.self.invariant found h c.size-size.ensures
          ∙ ap (λ (chunks : List Chunk). option_map (after_of_release c.args.of.alloc) (find (refers_to c.args.of) chunks))
          c.self.view_is;
      left = taken_stays c.args.of _ c.self.invariant found h is
          (λ none. eqb-false (length c.release.new.self.ledgers) 0 size (ap length none))
          ∙ ap (without_reference c.args.of) c.self.view_is;
    }

-- the last one went
pub invariant_of-self-2 : goal.invariant_of-self-2
invariant_of-self-2 c = rw c.remove.ensures.entries
    (removed_in_order _ c.args.of.chunk c.release.new.self c.self.invariant (c.get_mut.follows.holds c.release.new.self).0)

pub returns : goal.returns
returns c =
    let ok = c.in-Ok.ensures in
    let h : IsTaken c.args.of.alloc.0 c.in_ok-ledgers.ledgers.now c.release.new.self c.in-Ok.after = record {
      before = c.ledgers_are_lawful.ensures;
      lawful = c.release.ensures.lawful;
      taken = ok.taken;
      answer = ok.after;
      owner = ok.owner;
      counted = λ none. true≢false (sym (ok.released.1 none));
    } in
    let found = sym c.in_ok-ledgers.ensures.value in
    let is = (c.get_mut.follows.holds c.release.new.self).0 in
    let size = ap (λ ledgers. eqb (length ledgers) 0) (sym c.entries.ensures) ∙ sym c.is_empty.ensures ∙ c.if-not-is_empty.false in
    let none = nil_from_length c.release.new.self.ledgers (eqb-true (length c.release.new.self.ledgers) 0 size) in
    record {
      after = taken_answer c.args.of _ c.self.invariant found h c.size-size.ensures
          ∙ ap (λ (chunks : List Chunk). option_map (after_of_release c.args.of.alloc) (find (refers_to c.args.of) chunks))
          c.self.view_is;
      left = ap (map chunk_of) c.remove.ensures.entries ∙ taken_goes c.args.of _ c.self.invariant found h is none
          ∙ ap (without_reference c.args.of) c.self.view_is;
    }
