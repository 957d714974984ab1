-- Every move of a claim from a lawful account leads to a lawful account.
use Rattle.std.proofs.Common.{true, None, All, ap, ◌∙◌, ◌≡◌, ℕ, ◌<◌, ◌≤◌, set, length, Some, arith, refl, sym, subst}
use Rattle.std.proofs.lemmas.List.Elements.{All-get_or, All-set}
use Rattle.std.proofs.lemmas.List.Sums.{get_or-le-sum_by}
use Rattle.acct_core.specs.declared.shape.Shape.{Shape}
use Rattle.acct_core.specs.Claims.{Claim, Account, claim, no_claim}
use Rattle.acct_core.specs.Rows.{row, shapes}
use Rattle.acct_core.specs.Phases.{pending_subtraction}
use Rattle.acct_core.proofs.FitsLemmas.{ClaimFits, HeldLaw, UsesLaw, BackingLaw, WholeLaw, whole_law, lawful_account, balanced_account, fixed_law, each_claim, in_time, its_fits}
use Rattle.acct_core.specs.NodeTree.{IsOpen}
use Rattle.acct_core.specs.Effects.{Effect, effect_of, level_of, claim_number, next_level}
use Rattle.acct_core.specs.Applies.{AppliesToClaim, Applies}
use Rattle.acct_core.specs.declared.told.Told.{Told}
use Rattle.acct_core.specs.declared.told.Told.TheVariants.{Opened, Closed, InUse}
use Rattle.acct_core.specs.declared.event.Event.{Event}
use Rattle.acct_core.specs.declared.event.Event.TheVariants.{Enter, Begin, Up as EventUp, Undo, Release, Down as EventDown, Leave, Open, Close}
use Rattle.acct_core.specs.Lawful.{IsInTime, IsFixedTree, IsLawfulFixedTree, IsLawfulAccount}
use Rattle.acct_core.proofs.KeptLemmas.{Keeps, kept, kept_held, same_shapes, same_account}
use Rattle.acct_core.proofs.CoverLemmas.{covered}
use Rattle.acct_core.proofs.LineLemmas.{made_in}
use Rattle.acct_core.proofs.OpenLemmas.{opens_lawful}
use Rattle.acct_core.proofs.CloseLemmas.{closes_lawful}
use Rattle.acct_core.proofs.EffectLemmas.{keeps_up, keeps_down, keeps_begin, keeps_undo, keeps_release, keeps_enter, keeps_leave}

module _ (a : Account) (s : HeldLaw a) (i : ℕ) (there : i < length a.claims) where
  -- what the claim i has to subtract is there
  its_pending : (n : ℕ) → IsOpen (shapes a.rows) n → pending_subtraction n (claim a i).phase ≤ (row a.rows n).held
  its_pending n o = let c = covered a s n o in
      let t = get_or-le-sum_by (λ (c : Claim). pending_subtraction n c.phase) a.claims i no_claim there in omega arith

-- what an event of a claim keeps at its claim and its row
pub keeps : (a : Account) (e : Event) (u : Effect) → HeldLaw a → claim_number e < length a.claims →
    effect_of e (claim a (claim_number e)) (row a.rows (level_of e (claim a (claim_number e)))) ≡ Some u →
    Keeps (shapes a.rows) (level_of e (claim a (claim_number e))) (row a.rows (level_of e (claim a (claim_number e)))) u.row
    (claim a (claim_number e)) u.claim
keeps a (Enter i node) u s h e = keeps_enter (shapes a.rows) s.tree (claim a i).node (claim a i).under node.0 (claim a i).phase
    (row a.rows node.0) u (its_fits a s i h) refl (s.empty node.0) e
keeps a (Begin i size force) u s h e = keeps_begin (shapes a.rows) s.tree (claim a i).node (claim a i).under size force (claim a i).phase
    (row a.rows (claim a i).node) u (its_fits a s i h) refl e
keeps a (EventUp i) u s h e = keeps_up (shapes a.rows) s.tree (claim a i).node (claim a i).under (claim a i).phase
    (row a.rows (next_level (claim a i).node (claim a i).phase)) u (its_fits a s i h) refl e
keeps a (Undo i) u s h e = keeps_undo (shapes a.rows) s.tree (claim a i).node (claim a i).under (claim a i).phase
    (row a.rows (claim a i).node) u (its_fits a s i h) refl e
keeps a (Release i) u s h e = keeps_release (shapes a.rows) s.tree (claim a i).node (claim a i).under (claim a i).phase
    (row a.rows (claim a i).node) u (its_fits a s i h) refl e
keeps a (EventDown i) u s h e = keeps_down (shapes a.rows) s.tree (claim a i).node (claim a i).under (claim a i).phase
    (row a.rows (next_level (claim a i).node (claim a i).phase)) u (its_fits a s i h) refl
    (its_pending a s i h (next_level (claim a i).node (claim a i).phase)) e
keeps a (Leave i) u s h e = keeps_leave (shapes a.rows) s.tree (claim a i).node (claim a i).under (claim a i).phase
    (row a.rows (claim a i).node) u (its_fits a s i h) refl (s.empty (claim a i).node) e
keeps a (Open i reservation limit) u s h e = absurd cc
keeps a (Close n) u s h e = absurd cc

module _ (a b : Account) (e : Event) (told : Told) (m : AppliesToClaim a e told b) (s : HeldLaw a) where
  -- the number of the claim
  abbrev i : ℕ
  i = claim_number e

  -- the number of the row
  abbrev level : ℕ
  level = level_of e (claim a i)

  -- what the event keeps there
  pub its_keeps : Keeps (shapes a.rows) level (row a.rows level) m.row_after (claim a i) m.claim_after
  its_keeps = keeps a e (record { told = told; row = m.row_after; claim = m.claim_after }) s m.there m.effect

  -- the row is there
  pub level_inside : level < length a.rows
  level_inside = made_in a.rows level its_keeps.made

  -- the account after the event
  abbrev after : Account
  after = record { rows = set a.rows level m.row_after; claims = set a.claims i m.claim_after }

  -- it is the new account
  is_after : after ≡ b
  is_after = same_account after b (sym m.rows) (sym m.claims)

  -- the law of the held numbers alone
  pub held_after : HeldLaw b
  held_after = subst HeldLaw is_after (kept_held a i level m.row_after m.claim_after m.there level_inside its_keeps s)

  -- no shape changes
  pub shapes_after : shapes b.rows ≡ shapes a.rows
  shapes_after = ap shapes m.rows ∙ same_shapes a.rows level m.row_after level_inside its_keeps.same

  -- a tree that is fixed stays fixed
  pub fixed_after : IsFixedTree a → IsFixedTree b
  fixed_after f = record {
    opened = subst (λ (x : ℕ → Shape). (n : ℕ) → (x n).made ≡ true → IsOpen x n) (sym shapes_after) f.opened;
    in_time = each_claim (λ (c : Claim). ClaimFits (shapes b.rows) c.node c.under c.phase)
        (λ (c : Claim). IsInTime (shapes b.rows) c.node c.phase) b.claims (λ c. in_time (shapes b.rows) c.node c.under c.phase)
        held_after.claims;
    bare = subst (All (λ (c : Claim). c.under ≡ None)) (sym m.claims)
        (All-set (λ (c : Claim). c.under ≡ None) a.claims i m.claim_after
        (its_keeps.under ∙ All-get_or (λ (c : Claim). c.under ≡ None) a.claims i no_claim m.there f.bare) f.bare);
  }

  -- the whole law
  pub whole_after : UsesLaw a → BackingLaw a → WholeLaw b
  whole_after u k = subst WholeLaw is_after
      (kept a i level m.row_after m.claim_after m.there level_inside its_keeps (record { held = s; uses = u; backing = k }))

-- each event of a claim keeps the law
pub claim_law : (a b : Account) (e : Event) (told : Told) → AppliesToClaim a e told b → IsLawfulAccount a → IsLawfulAccount b
claim_law a b e told m l = let w = whole_law a l in lawful_account b (whole_after a b e told m w.held w.uses w.backing)

-- each event keeps the law
pub each_move : (a b : Account) (e : Event) (told : Told) → Applies a e told b → IsLawfulAccount a → IsLawfulAccount b
each_move a b (Open i reservation limit) (Opened k) m l = lawful_account b (opens_lawful a (whole_law a l) i reservation limit k.0 b m)
each_move a b (Open i reservation limit) told m l = absurd m
each_move a b (Close n) Closed m l = lawful_account b (closes_lawful a b n.0 m (whole_law a l))
each_move a b (Close n) (InUse u) m l = subst IsLawfulAccount (sym m.unchanged) l
each_move a b (Close n) told m l = absurd m
each_move a b e told m l = claim_law a b e told m l

-- each event of a claim keeps the law of a fixed tree
pub each_move_fixed : (a b : Account) (e : Event) (told : Told) → AppliesToClaim a e told b → IsLawfulFixedTree a → IsLawfulFixedTree b
each_move_fixed a b e told m f = let s = fixed_law a f.fixed f.balanced in
    record { fixed = fixed_after a b e told m s f.fixed; balanced = balanced_account b (held_after a b e told m s) }
