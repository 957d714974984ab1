-- Columns that are picked and move, and batches that move.
use Rattle.std.proofs.Common.{◌≡◌, ◌+◌, ◌≤◌, ℕ, Bool, true, false, List, [], ◌∷◌, ◌++◌, map, refl, sym, ◌∙◌, ap, subst, append_assoc, arith}
use Rattle.std.proofs.lemmas.Grind.{flat_map-append}
use Rattle.std.proofs.lemmas.List.{append-nil, map-append}
use Rattle.std.proofs.lemmas.List.Sums.{sum_by-append, sum_by-cons}
use Rattle.std.proofs.lemmas.Simd.{map-map}
use Rattle.std.specs.Prelude.{Result, Ok, Err}
use Rattle.std.specs.List.{flat_map}
use Rattle.mem_num.specs.declared.rounding.Rounding.TheVariants.{Power}
use Rattle.mem_num.specs.declared.alloc_id.AllocId.{AllocId}
use Rattle.mem_num.specs.declared.buffer_ref.Ref.{Ref}
use Rattle.mem_num.specs.declared.no_memory.NoMemory.{NoMemory}
use Rattle.mem_num.specs.declared.ref_refused.RefRefused.TheVariants as sharing
use Rattle.mem_buf.specs.declared.arrow_buf.ArrowBuf.{ArrowBuf}
use Rattle.mem_buf.specs.Callers.{CanShare, GivesBack}
use Rattle.mem_buf.specs.Chain.{MemoryModel, MakesCall, MakesCalls, Runs}
use Rattle.mem_buf.specs.MemoryCall.{Release}
use Rattle.mem_buf.specs.Moving.{AreMoved, IsRefusedMove, Move, move_calls}
use Rattle.mem_buf.specs.TokenView.{turns_to_share}
use Rattle.mem_buf.proofs.ChainLemmas.{MakesCalls-append, MakesCalls-cut}
use Rattle.query_model.specs.SequentialCalls.{unpicked}
use Rattle.batch_vec.specs.Batches.{BatchView}
use Rattle.batch_vec.specs.Moving.{IsMoveBatch, of_columns}
use Rattle.batch_vec.proofs.PickedLemmas.{of_columns-map}
use Rattle.operators.specs.Instead.{references_of}
use Rattle.operators.specs.Moving.{IsProject, IsRefusedMerge, IsUnprojected}
use Rattle.operators.proofs.InsteadLemmas.{gives-more}

module _ {Token Hold : Type 0} (memory : MemoryModel Token Hold) (at : AllocId) (holds : List Hold) where
  -- the references of the holds of some columns
  named_columns : (taken : List Hold) (columns : List ℕ) → taken ≡ of_columns holds columns
      → map memory.reference taken ≡ of_columns (map memory.reference holds) columns
  named_columns taken columns are = ap (map memory.reference) are ∙ sym (of_columns-map memory.reference holds columns)

  -- who can pay for the columns can pay for their holds
  pub can_project : (picks : List ℕ) (taken : List Hold) (token : Token) → taken ≡ of_columns holds picks
      → CanShare (memory.view token) at (of_columns (map memory.reference holds) picks)
      → CanShare (memory.view token) at (map memory.reference taken)
  can_project picks taken token are pays = subst (CanShare (memory.view token) at) (sym (named_columns taken picks are)) pays

  -- the picked columns moved, or memory ran out, and then the others were given back
  pub projected : (columns : ℕ) (picks : List ℕ) (taken : List Hold) (rest : List (ArrowBuf Hold))
      (answer : Result (BatchView Hold) NoMemory) (old middle new : Token) → taken ≡ of_columns holds picks
      → map (λ buf. buf.hold) rest ≡ of_columns holds (unpicked columns picks)
      → Runs memory (IsMoveBatch memory.reference at taken answer) old middle
      → Runs memory (GivesBack (map (λ buf. memory.reference buf.hold) rest)) middle new
      → Runs memory (IsProject memory.reference at columns picks (map memory.reference holds) answer) old new
  projected columns picks taken rest answer old middle new are others moved back =
      let named = named_columns taken picks are in
      let rest_named : map (λ buf. memory.reference buf.hold) rest ≡ of_columns (map memory.reference holds) (unpicked columns picks) =
      sym (map-map memory.reference (λ buf. buf.hold) rest)
      ∙ named_columns (map (λ buf. buf.hold) rest) (unpicked columns picks) others in
      let returned = subst (λ references. GivesBack references back.0) rest_named back.2 in
      (moved.0 ++ back.0, MakesCalls-append memory moved.0 back.0 old middle new moved.1 back.1, told answer moved.2 named returned)
    where
      told : (answer : Result (BatchView Hold) NoMemory) → IsMoveBatch memory.reference at taken answer moved.0
          → map memory.reference taken ≡ of_columns (map memory.reference holds) picks
          → GivesBack (of_columns (map memory.reference holds) (unpicked columns picks)) back.0
          → IsProject memory.reference at columns picks (map memory.reference holds) answer (moved.0 ++ back.0)
      told (Ok batch) is named returned = record {
        moved = moved.0;
        returned = back.0;
        moving = record { moves = is.moves; from = is.from ∙ named; to = is.to; order = is.order };
        given_back = returned;
        order = refl;
      }
      told (Err refused) is named returned = record {
        is_picked = true;
        moved = moved.0;
        returned = back.0;
        moving = subst (λ sources. IsRefusedMove at sources sharing.NoMemory moved.0) named is;
        given_back = returned;
        order = refl;
      }

  -- memory ran out before any column was picked, and all were given back
  pub unprojected : (picked rest : List Ref) (old new : Token) → Runs memory (GivesBack (map memory.reference holds)) old new
      → Runs memory (IsUnprojected at picked rest (map memory.reference holds)) old new
  unprojected picked rest old new back = (
    back.0,
    back.1,
    record {
      is_picked = false;
      moved = back.0;
      returned = [];
      moving = record {
        moves = [];
        left = map memory.reference holds;
        asked = [];
        returned = back.0;
        all = refl;
        refusal = refl;
        given_back = subst (λ references. GivesBack references back.0) (sym (append-nil _)) back.2;
        order = refl;
      };
      given_back = ([], refl, refl);
      order = sym (append-nil back.0);
    },
  )

module _ {Token Hold : Type 0} (memory : MemoryModel Token Hold) (target : AllocId) where
  -- after a move the token has the same pins, and can pay for those that are left
  moved_once : (move : Move) (left : List Ref) (old new : Token) → CanShare (memory.view old) target (move.from ∷ left)
      → MakesCalls memory (move_calls target move) old new
      → CanShare (memory.view new) target left × ((memory.view new).pins ≡ (memory.view old).pins)
  moved_once move left old new pays made =
      let sent = made.1.view in
      let last = subst (λ token. MakesCall memory (Release move.from move.gone) made.0 token) (sym made.2.2) made.2.1 in
      let back = last.view in
      let all = pays.turns in
      let first : (memory.view old).turns ≤ (memory.view made.0).turns + turns_to_share move.from = sent.turns in
      let second : (memory.view made.0).turns ≤ (memory.view new).turns + 0 = back.turns in (
        record {
          named = back.names.rounding target.0 Power (sent.names.rounding target.0 Power pays.named);
          turns = omega (arith, sum_by-cons turns_to_share move.from left);
        },
        back.pins ∙ sent.pins,
      )

  -- and after some moves
  pub moved_all : (moves : List Move) (left : List Ref) (old new : Token)
      → CanShare (memory.view old) target (map (λ move. move.from) moves ++ left)
      → MakesCalls memory (flat_map (move_calls target) moves) old new
      → CanShare (memory.view new) target left × ((memory.view new).pins ≡ (memory.view old).pins)
  moved_all [] left old new pays same =
      (subst (λ token. CanShare (memory.view token) target left) (sym same) pays, ap (λ token. (memory.view token).pins) same)
  moved_all (move ∷ moves) left old new pays made =
      let cut = MakesCalls-cut memory (move_calls target move) (flat_map (move_calls target) moves) old new made in
      let one = moved_once move (map (λ m. m.from) moves ++ left) old cut.0 pays cut.1 in
      let rest = moved_all moves left cut.0 new one.0 cut.2 in
      (rest.0, rest.1 ∙ one.1)

  -- some batches moved, and the others are left
  pub record HasMerged (all left moved : List (BatchView Hold)) (old new : Token) : Type 0 where
    pub moves : List Move
    pub calls : MakesCalls memory (flat_map (move_calls target) moves) old new
    pub sources : map (λ move. move.from) moves ++ references_of memory.reference left ≡ references_of memory.reference all
    pub targets : map (λ move. move.to) moves ≡ references_of memory.reference moved
    pub kinds : map (λ batch. batch.kinds) moved ++ map (λ batch. batch.kinds) left ≡ map (λ batch. batch.kinds) all
    pub rows : map (λ batch. batch.rows) moved ++ map (λ batch. batch.rows) left ≡ map (λ batch. batch.rows) all
    pub pays : CanShare (memory.view new) target (references_of memory.reference left)
    pub pinned : 1 ≤ (memory.view new).pins target.0

  pub HasMerged-none : (all : List (BatchView Hold)) (token : Token) → 1 ≤ (memory.view token).pins target.0
      → CanShare (memory.view token) target (references_of memory.reference all) → HasMerged all all [] token token
  HasMerged-none all token pinned pays = record {
    moves = [];
    calls = refl;
    sources = refl;
    targets = refl;
    kinds = refl;
    rows = refl;
    pays = pays;
    pinned = pinned;
  }

  -- the next batch can be paid for
  pub HasMerged-pays : (all left moved : List (BatchView Hold)) (next : BatchView Hold) (old new : Token)
      → HasMerged all (next ∷ left) moved old new → CanShare (memory.view new) target (map memory.reference next.holds)
  HasMerged-pays all left moved next old new has =
      let all_turns = has.pays.turns in
      let both = sum_by-append turns_to_share (map memory.reference next.holds) (references_of memory.reference left) in
      record { named = has.pays.named; turns = omega (arith, all_turns, both) }

  pub HasMerged-one : (all left moved : List (BatchView Hold)) (next made : BatchView Hold) (old middle new : Token)
      → HasMerged all (next ∷ left) moved old middle → made.kinds ≡ next.kinds → made.rows ≡ next.rows
      → Runs memory (AreMoved target (map memory.reference next.holds) (map memory.reference made.holds)) middle new
      → HasMerged all left (moved ++ made ∷ []) old new
  HasMerged-one all left moved next made old middle new has kinds rows runs =
      let is = runs.2 in
      let last = subst (λ list. MakesCalls memory list middle new) is.order runs.1 in
      let kept = moved_all is.moves (references_of memory.reference left) middle new
      (subst (λ list. CanShare (memory.view middle) target (list ++ references_of memory.reference left)) (sym is.from) has.pays) last in
      record {
        moves = has.moves ++ is.moves;
        calls = subst (λ list. MakesCalls memory list old new) (sym (flat_map-append (move_calls target) has.moves is.moves))
            (MakesCalls-append memory (flat_map (move_calls target) has.moves) (flat_map (move_calls target) is.moves) old middle new
            has.calls last);
        sources = ap (λ list. list ++ references_of memory.reference left) (map-append (λ (m : Move). m.from) has.moves is.moves)
            ∙ append_assoc (map (λ (m : Move). m.from) has.moves) (map (λ (m : Move). m.from) is.moves) (references_of memory.reference left)
            ∙ ap (λ list. map (λ (m : Move). m.from) has.moves ++ (list ++ references_of memory.reference left)) is.from ∙ has.sources;
        targets = map-append (λ (m : Move). m.to) has.moves is.moves
            ∙ (λ k. has.targets k ++ (is.to ∙ sym (append-nil (map memory.reference made.holds))) k)
            ∙ sym (flat_map-append (λ (b : BatchView Hold). map memory.reference b.holds) moved (made ∷ []));
        kinds = ap (λ list. list ++ map (λ b. b.kinds) left) (map-append (λ (b : BatchView Hold). b.kinds) moved (made ∷ []))
            ∙ append_assoc (map (λ (b : BatchView Hold). b.kinds) moved) (made.kinds ∷ []) (map (λ b. b.kinds) left)
            ∙ ap (λ one. map (λ (b : BatchView Hold). b.kinds) moved ++ (one ∷ map (λ b. b.kinds) left)) kinds ∙ has.kinds;
        rows = ap (λ list. list ++ map (λ b. b.rows) left) (map-append (λ (b : BatchView Hold). b.rows) moved (made ∷ []))
            ∙ append_assoc (map (λ (b : BatchView Hold). b.rows) moved) (made.rows ∷ []) (map (λ b. b.rows) left)
            ∙ ap (λ one. map (λ (b : BatchView Hold). b.rows) moved ++ (one ∷ map (λ b. b.rows) left)) rows ∙ has.rows;
        pays = kept.0;
        pinned = subst (λ pins. 1 ≤ pins target.0) (sym kept.1) has.pinned;
      }

  -- all moved
  pub HasMerged-all : (all left moved : List (BatchView Hold)) (old new : Token) → left ≡ [] → HasMerged all left moved old new
      → Runs memory (AreMoved target (references_of memory.reference all) (references_of memory.reference moved)) old new
  HasMerged-all all left moved old new none has = (
    flat_map (move_calls target) has.moves,
    has.calls,
    record {
      moves = has.moves;
      from = sym (append-nil _) ∙ ap (λ list. map (λ move. move.from) has.moves ++ references_of memory.reference list) (sym none)
          ∙ has.sources;
      to = has.targets;
      order = refl;
    },
  )

  pub HasMerged-kinds : (all left moved : List (BatchView Hold)) (old new : Token) → left ≡ [] → HasMerged all left moved old new
      → map (λ batch. batch.kinds) moved ≡ map (λ batch. batch.kinds) all
  HasMerged-kinds all left moved old new none has =
      sym (append-nil _) ∙ ap (λ list. map (λ batch. batch.kinds) moved ++ map (λ batch. batch.kinds) list) (sym none) ∙ has.kinds

  pub HasMerged-rows : (all left moved : List (BatchView Hold)) (old new : Token) → left ≡ [] → HasMerged all left moved old new
      → map (λ batch. batch.rows) moved ≡ map (λ batch. batch.rows) all
  HasMerged-rows all left moved old new none has =
      sym (append-nil _) ∙ ap (λ list. map (λ batch. batch.rows) moved ++ map (λ batch. batch.rows) list) (sym none) ∙ has.rows

  -- the next batch was refused, and those that are left and those that moved were given back
  pub HasMerged-refused : (all left moved : List (BatchView Hold)) (next : BatchView Hold) (old middle asked last new : Token)
      → HasMerged all (next ∷ left) moved old middle
      → Runs memory (IsRefusedMove target (map memory.reference next.holds) sharing.NoMemory) middle asked
      → Runs memory (GivesBack (references_of memory.reference left)) asked last
      → Runs memory (GivesBack (references_of memory.reference moved)) last new
      → Runs memory (IsRefusedMerge target (references_of memory.reference all)) old new
  HasMerged-refused all left moved next old middle asked last new has refused first second =
      let back = gives-more memory (references_of memory.reference left) (references_of memory.reference moved) asked last new first second in
      let moves = flat_map (move_calls target) has.moves in (
        moves ++ (refused.0 ++ back.0),
        MakesCalls-append memory moves (refused.0 ++ back.0) old middle new has.calls
            (MakesCalls-append memory refused.0 back.0 middle asked new refused.1 back.1),
        record {
          moves = has.moves;
          refused = map memory.reference next.holds;
          left = references_of memory.reference left;
          asked = refused.0;
          returned = back.0;
          all = sym has.sources;
          refusal = refused.2;
          given_back = subst (λ list. GivesBack (references_of memory.reference left ++ list) back.0) (sym has.targets) back.2;
          order = refl;
        },
      )

  -- memory ran out before anything moved
  pub HasMerged-unasked : (all : List (BatchView Hold)) (old new : Token)
      → Runs memory (GivesBack (references_of memory.reference all)) old new
      → Runs memory (IsRefusedMerge target (references_of memory.reference all)) old new
  HasMerged-unasked all old new back = (
    back.0,
    back.1,
    record {
      moves = [];
      refused = [];
      left = references_of memory.reference all;
      asked = [];
      returned = back.0;
      all = refl;
      refusal = record {
        moves = [];
        left = [];
        asked = [];
        returned = [];
        all = refl;
        refusal = refl;
        given_back = ([], refl, refl);
        order = refl;
      };
      given_back = subst (λ list. GivesBack list back.0) (sym (append-nil _)) back.2;
      order = refl;
    },
  )
