-- Moving buffers one after the other.
use Rattle.std.proofs.Common.{◌≡◌, ◌+◌, ◌≤◌, Bool, List, [], ◌∷◌, ◌++◌, refl, sym, ◌∙◌, ap, subst, append_assoc, arith}
use Rattle.std.proofs.lemmas.Grind.{flat_map-append}
use Rattle.std.proofs.lemmas.List.{map-append, append-nil}
use Rattle.std.proofs.lemmas.List.Sums.{sum_by-cons}
use Rattle.std.specs.Prelude.{map, flat_map, Ok, Err}
use Rattle.mem_num.specs.declared.rounding.Rounding.TheVariants.{Power}
use Rattle.mem_num.specs.declared.alloc_id.AllocId.{AllocId}
use Rattle.mem_num.specs.declared.buffer_ref.Ref.{Ref}
use Rattle.mem_num.specs.declared.ref_refused.RefRefused.{RefRefused}
use Rattle.mem_num.specs.declared.closed.Closed.{Closed as ClosedAt}
use Rattle.mem_num.specs.declared.ref_refused.RefRefused.TheVariants.{Closed, NoMemory}
use Rattle.mem_buf.specs.declared.arrow_buf.ArrowBuf.{ArrowBuf}
use Rattle.mem_buf.specs.TokenView.{turns_to_share}
use Rattle.mem_buf.specs.MemoryCall.{MemoryCall, Transfer, Release}
use Rattle.mem_buf.specs.Chain.{MemoryModel, MakesCall, MakesCalls, Runs}
use Rattle.mem_buf.proofs.ChainLemmas.{MakesCalls-one, MakesCalls-only, MakesCalls-append, MakesCalls-cut}
use Rattle.mem_buf.specs.Callers.{CanShare, releases, GivesBack}
use Rattle.mem_buf.specs.Moving.{AreMoved, Move, move_calls, IsMoveOne, IsMoveRefusal, IsRefusedMove}

module _ {Token H : Type 0} (memory : MemoryModel Token H) (target : AllocId) where
  -- the references of buffers
  abbrev pub names : List (ArrowBuf H) → List Ref
  names bufs = map (λ buf. memory.reference buf.hold) bufs

  -- a transfer and the release of its source
  pub moved-one : (buf moved : ArrowBuf H) (fits gone : Bool) (source : Ref) (old middle new : Token) → source ≡ memory.reference buf.hold → moved.view ≡ buf.view
      → MakesCall memory (Transfer (memory.reference buf.hold) target (Ok (memory.reference moved.hold, fits))) old middle
      → MakesCall memory (Release source gone) middle new
      → Runs memory (IsMoveOne memory.reference target buf (Ok moved)) old new
  moved-one buf moved fits gone source old middle new same view sent back =
      let release : MakesCall memory (Release (memory.reference buf.hold) gone) middle new = subst (λ from. MakesCall memory (Release from gone) middle new) same back in
      (move_calls target (record { from = memory.reference buf.hold; to = memory.reference moved.hold; fits = fits; gone = gone }), (middle, sent, (new, release, refl)), (fits, gone, refl, view))

  -- after a move the token can pay for those that are left
  CanShare-rest : (move : Move) (left : List Ref) (old new : Token) → CanShare (memory.view old) target (move.from ∷ left)
      → MakesCalls memory (move_calls target move) old new → CanShare (memory.view new) target left
  CanShare-rest move left old new pays made =
      let sent = made.1.view in
      let last = subst (λ token. MakesCall memory (Release move.from move.gone) made.0 token) (sym made.2.2) made.2.1 in
      let back = last.view in
      let all = pays.turns in
      let first : (memory.view old).turns ≤ (memory.view made.0).turns + turns_to_share move.from = sent.turns in
      let second : (memory.view made.0).turns ≤ (memory.view new).turns + 0 = back.turns in
      record {
        named = back.names.rounding target.0 Power (sent.names.rounding target.0 Power pays.named);
        turns = omega (arith, sum_by-cons turns_to_share move.from left);
      }

  -- some buffers moved, the others are left, and the token can pay for those
  pub record HasMoved (all left moved : List (ArrowBuf H)) (old new : Token) : Type 0 where
    pub moves : List Move
    pub calls : MakesCalls memory (flat_map (move_calls target) moves) old new
    pub sources : map (λ move. move.from) moves ++ names left ≡ names all
    pub targets : map (λ move. move.to) moves ≡ names moved
    pub views : map (λ buf. buf.view) moved ++ map (λ buf. buf.view) left ≡ map (λ buf. buf.view) all
    pub pays : CanShare (memory.view new) target (names left)

  pub HasMoved-none : (all : List (ArrowBuf H)) (token : Token) → CanShare (memory.view token) target (names all) → HasMoved all all [] token token
  HasMoved-none all token pays = record { moves = []; calls = refl; sources = refl; targets = refl; views = refl; pays = pays }

  pub HasMoved-one : (all left moved : List (ArrowBuf H)) (buf next : ArrowBuf H) (old middle new : Token) → HasMoved all (buf ∷ left) moved old middle
      → Runs memory (IsMoveOne memory.reference target buf (Ok next)) middle new
      → HasMoved all left (moved ++ next ∷ []) old new
  HasMoved-one all left moved buf next old middle new done one =
      let is = one.2 in
      let move : Move = record { from = memory.reference buf.hold; to = memory.reference next.hold; fits = is.0; gone = is.1 } in
      let last : List Move = move ∷ [] in
      let made : MakesCalls memory (move_calls target move) middle new = subst (λ list. MakesCalls memory list middle new) is.2 one.1 in
      record {
        moves = done.moves ++ last;
        calls = subst (λ list. MakesCalls memory list old new) (sym (flat_map-append (move_calls target) done.moves last))
            (MakesCalls-append memory (flat_map (move_calls target) done.moves) (flat_map (move_calls target) last) old middle new done.calls made);
        sources = ap (λ front. front ++ names left) (map-append (λ (m : Move). m.from) done.moves last)
            ∙ append_assoc (map (λ (m : Move). m.from) done.moves) (memory.reference buf.hold ∷ []) (names left) ∙ done.sources;
        targets = map-append (λ (m : Move). m.to) done.moves last ∙ ap (λ front. front ++ (memory.reference next.hold ∷ [])) done.targets
            ∙ sym (map-append (λ (b : ArrowBuf H). memory.reference b.hold) moved (next ∷ []));
        views = ap (λ front. front ++ map (λ b. b.view) left) (map-append (λ (b : ArrowBuf H). b.view) moved (next ∷ []))
            ∙ append_assoc (map (λ b. b.view) moved) (next.view ∷ []) (map (λ b. b.view) left)
            ∙ ap (λ view. map (λ b. b.view) moved ++ (view ∷ map (λ b. b.view) left)) is.3 ∙ done.views;
        pays = CanShare-rest move (names left) middle new done.pays made;
      }

  -- all moved
  pub HasMoved-all : (all left moved : List (ArrowBuf H)) (old new : Token) → left ≡ [] → HasMoved all left moved old new
      → Runs memory (AreMoved target (names all) (names moved)) old new
  HasMoved-all all left moved old new none done = (
    flat_map (move_calls target) done.moves,
    done.calls,
    record {
      moves = done.moves;
      from = sym (append-nil _) ∙ ap (λ list. map (λ move. move.from) done.moves ++ names list) (sym none) ∙ done.sources;
      to = done.targets;
      order = refl;
    },
  )

  -- with their bytes
  pub HasMoved-views : (all left moved : List (ArrowBuf H)) (old new : Token) → left ≡ [] → HasMoved all left moved old new → map (λ buf. buf.view) moved ≡ map (λ buf. buf.view) all
  HasMoved-views all left moved old new none done = sym (append-nil _) ∙ ap (λ list. map (λ buf. buf.view) moved ++ map (λ buf. buf.view) list) (sym none) ∙ done.views

  -- two lists given back one after the other
  GivesBack-both : (first second : List Ref) (one two : List MemoryCall) → GivesBack first one → GivesBack second two → GivesBack (first ++ second) (one ++ two)
  GivesBack-both first second one two g h = (
    g.0 ++ h.0,
    ap (λ calls. calls ++ two) g.1 ∙ ap (λ calls. releases g.0 ++ calls) h.1 ∙ sym (map-append _ g.0 h.0),
    map-append _ g.0 h.0 ∙ ap (λ list. list ++ map (λ one. one.0) h.0) g.2 ∙ ap (λ list. first ++ list) h.2,
  )

  -- the next buffer was refused: it, those that are left, and those that moved were given back
  pub HasMoved-refused : (all left moved : List (ArrowBuf H)) (buf handed : ArrowBuf H) (refused : RefRefused) (gone : Bool) (old middle asked one two new : Token)
      → HasMoved all (buf ∷ left) moved old middle
      → Runs memory (IsMoveOne memory.reference target buf (Err (handed, refused))) middle asked
      → MakesCall memory (Release (memory.reference handed.hold) gone) asked one
      → Runs memory (GivesBack (names left)) one two
      → Runs memory (GivesBack (names moved)) two new
      → Runs memory (IsRefusedMove target (names all) refused) old new
  HasMoved-refused all left moved buf handed refused gone old middle asked one two new done sent back rest moved_back =
      let is = sent.2 in
      let first = flat_map (move_calls target) done.moves in
      let own : List MemoryCall = Release (memory.reference buf.hold) gone ∷ [] in
      let release : MakesCalls memory own asked one =
      MakesCalls-one memory _ asked one (subst (λ from. MakesCall memory (Release from gone) asked one) is.1 back) in
      let returned : List MemoryCall = (own ++ rest.0) ++ moved_back.0 in (
        first ++ (sent.0 ++ returned),
        MakesCalls-append memory first (sent.0 ++ returned) old middle new done.calls
            (MakesCalls-append memory sent.0 returned middle asked new sent.1
            (MakesCalls-append memory (own ++ rest.0) moved_back.0 asked two new
            (MakesCalls-append memory own rest.0 asked one two release rest.1) moved_back.1)),
        record {
          moves = done.moves;
          left = names (buf ∷ left);
          asked = sent.0;
          returned = returned;
          all = sym done.sources;
          refusal = subst (λ list. IsMoveRefusal target (names (buf ∷ left)) refused list) (sym is.0) (refl, refl);
          given_back = subst (λ list. GivesBack (names (buf ∷ left) ++ list) returned) (sym done.targets)
              (GivesBack-both (names (buf ∷ left)) (names moved) (own ++ rest.0) moved_back.0
              (GivesBack-both (memory.reference buf.hold ∷ []) (names left) own rest.0 ((memory.reference buf.hold, gone) ∷ [], refl, refl) rest.2) moved_back.2);
          order = refl;
        },
      )

  -- memory ran out before anything moved
  pub HasMoved-unasked : (all : List (ArrowBuf H)) (old new : Token) → Runs memory (GivesBack (names all)) old new
      → Runs memory (IsRefusedMove target (names all) NoMemory) old new
  HasMoved-unasked all old new back = (
    back.0,
    back.1,
    record {
      moves = [];
      left = names all;
      asked = [];
      returned = back.0;
      all = refl;
      refusal = refl;
      given_back = subst (λ list. GivesBack list back.0) (sym (append-nil _)) back.2;
      order = refl;
    },
  )

  -- moves keep the pins
  moves_pins : (moves : List Move) (old new : Token) → MakesCalls memory (flat_map (move_calls target) moves) old new
      → (memory.view new).pins ≡ (memory.view old).pins
  moves_pins [] old new same = ap (λ token. (memory.view token).pins) same
  moves_pins (move ∷ moves) old new made =
      moves_pins moves made.2.0 new made.2.2 ∙ made.2.1.view.pins ∙ made.1.view.pins

  -- none is refused as closed under a pin
  pub move_never_closed : (sources : List Ref) (closed : ClosedAt) (old new : Token) → 1 ≤ (memory.view old).pins target.0
      → Runs memory (IsRefusedMove target sources (Closed closed)) old new → ⊥
  move_never_closed sources closed old new pinned runs = cases (runs.2).asked (runs.2).left (runs.2).refusal refl where
    cases : (asked : List MemoryCall) (left : List Ref) → IsMoveRefusal target left (Closed closed) asked → (runs.2).asked ≡ asked → ⊥
    cases [] left is same = cc is
    cases (call ∷ calls) [] is same = is
    cases (call ∷ calls) (first ∷ left) is same =
        let is_asked : (runs.2).asked ≡ Transfer first target (Err (Closed closed)) ∷ [] = same ∙ (λ k. is.0 k ∷ is.1 k) in
        let all = subst (λ list. MakesCalls memory list old new) (runs.2).order runs.1 in
        let one = MakesCalls-cut memory (flat_map (move_calls target) (runs.2).moves) ((runs.2).asked ++ (runs.2).returned) old new all in
        let two = MakesCalls-cut memory (runs.2).asked (runs.2).returned one.0 new one.2 in
        let call = MakesCalls-only memory (runs.2).asked _ one.0 two.0 is_asked two.1 in
        let none : (memory.view one.0).pins target.0 ≡ 0 = call.answer.2 in
        let kept = ap (λ pins. pins target.0) (moves_pins (runs.2).moves old one.0 one.1) in
        omega (arith, none, kept, pinned)
