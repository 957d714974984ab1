use Rattle.std.proofs.Common.{rules, arith, refl, sym, ap, ◌∙◌, ◌<◌, ◌||◌}
use Rattle.std.proofs.lemmas.Bool.{lt-ltb, le-ltb}
use Rattle.std.proofs.lemmas.Int.{ints, clamps}
use Rattle.acct_words.proofs.HeadroomLemmas.{level_met, more_seen, parent_above, root_seen}
use Rattle.acct_words.proofs.headroom.+see.Goals as goal

pub see-headroom-requires : goal.see-headroom-requires
see-headroom-requires t c =
    let r = c.read_level-limit.result in
    let m = level_met c.args.level c.meet-held.result r.0 r.1 _ _ _ c.meet-held.ensures.view c.read_level-limit.ensures.view in
    let smaller : r.1.parent < c.args.level = parent_above c.args.level c.meet-held.result r.0 r.1 _ _ c.if-level-eq0.false m in
    let start = ap (λ (y : _). y.start) m.view in (
      search rules,
      (
        record {
          table = c.read_level-limit.ensures.table.0 ∙ c.meet-held.ensures.table.0 ∙ c.requires.table.table;
          start = start ∙ c.requires.table.start;
          wide = c.requires.table.wide;
          few = c.requires.table.few;
        },
        (let l = c.requires.level in omega arith),
      ),
    )

pub returns-then-level-eq0-clause-seen : goal.returns-then-level-eq0-clause-seen
returns-then-level-eq0-clause-seen t c =
    let r = c.read_level-limit.result in
    let m = level_met c.args.level c.meet-held.result r.0 r.1 _ _ _ c.meet-held.ensures.view c.read_level-limit.ensures.view in
    root_seen c.args.level c.meet-held.result r.0 r.1 _ _ _ _ c.if-level-eq0.true m (omega (arith, ints, c.free_in-free.ensures)) refl

pub returns-then-limit-held-clause-seen : goal.returns-then-limit-held-clause-seen
returns-then-limit-held-clause-seen t c =
    let r = c.read_level-limit.result in
    let m = level_met c.args.level c.meet-held.result r.0 r.1 _ _ _ c.meet-held.ensures.view c.read_level-limit.ensures.view in
    let past = lt-ltb r.0 c.meet-held.result c.if-limit-held.true in
    more_seen c.args.level c.meet-held.result r.0 c.saturating_sub-unused.result r.1 _ _ _ _ c.see-headroom.result.0 _
    c.see-headroom.result.1 c.if-level-eq0.false m c.saturating_sub-unused.ensures c.see-headroom.ensures.seen
    (omega (arith, ints, clamps, c.least.ensures, c.free_in-free.ensures))
    (past ∙ ap (λ (b : _). b || c.see-headroom.result.1) (sym past))

pub returns-else-limit-held-clause-seen : goal.returns-else-limit-held-clause-seen
returns-else-limit-held-clause-seen t c =
    let r = c.read_level-limit.result in
    let m = level_met c.args.level c.meet-held.result r.0 r.1 _ _ _ c.meet-held.ensures.view c.read_level-limit.ensures.view in
    let within = le-ltb r.0 c.meet-held.result c.if-limit-held.false in
    more_seen c.args.level c.meet-held.result r.0 c.saturating_sub-unused.result r.1 _ _ _ _ c.see-headroom.result.0 _
    c.see-headroom.result.1 c.if-level-eq0.false m c.saturating_sub-unused.ensures c.see-headroom.ensures.seen
    (omega (arith, ints, clamps, c.least.ensures, c.free_in-free.ensures))
    (ap (λ (b : _). b || c.see-headroom.result.1) (sym within))
