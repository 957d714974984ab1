-- A key that is there is found, and another one goes last.
use Rattle.std.proofs.Common.{◌≡◌, ◌∙◌, All, Some, ap, map, sym, subst, rules}
use Rattle.std.specs.Prelude.{IsUtf8, nat_eq, slice_get}
use Rattle.std.specs.Cmp.Lexicographic.{pointwise}
use Rattle.indexmap.specs.IndexSet.{insert_key}
use Rattle.operators.proofs.KeyLemmas.{All-insert, found-key, insert-seen, put-key}
use Rattle.operators.proofs.keys.Keys.place_of.Goals as goal

pub returns-in-Some-clause-keys : goal.returns-in-Some-clause-keys
returns-in-Some-clause-keys c =
    let found = found-key c.self.inside.keys.keys c.args.key.now c.in-Some.place c.in-Some.ensures.index in
    subst (λ seen. seen ≡ insert_key (pointwise nat_eq) seen c.args.key.now) c.self.view_is found.0

pub returns-in-Some-clause-place : goal.returns-in-Some-clause-place
returns-in-Some-clause-place c =
    let found = found-key c.self.inside.keys.keys c.args.key.now c.in-Some.place c.in-Some.ensures.index in
    subst (λ seen. slice_get seen c.in-Some.place ≡ Some c.args.key.now) c.self.view_is found.1

pub invariant_of-self : goal.invariant_of-self
invariant_of-self c = subst (λ list. All IsUtf8 (map (λ key. key.items) list)) (sym c.in_default-insert_full.ensures.err) c.self.invariant

-- the keys are those that there were, and the new one
after : (c : goal.In-Ok) → map (λ key. key.items) c.insert_full.new.self.keys
    ≡ insert_key (pointwise nat_eq) (map (λ key. key.items) c.self.inside.keys.keys) c.args.key.now
after c =
    let copied : c.in_ok-copy.copy.items ≡ c.args.key.now = search rules in
    ap (map (λ key. key.items)) c.in-Ok.ensures.keys ∙ insert-seen c.self.inside.keys.keys c.in_ok-copy.copy
    ∙ ap (insert_key (pointwise nat_eq) (map (λ key. key.items) c.self.inside.keys.keys)) copied

pub invariant_of-self-2 : goal.invariant_of-self-2
invariant_of-self-2 c =
    subst (All IsUtf8) (sym (after c))
    (All-insert IsUtf8 (map (λ key. key.items) c.self.inside.keys.keys) c.args.key.now c.self.invariant c.requires.utf8)

pub returns-clause-keys : goal.returns-clause-keys
returns-clause-keys c = after c ∙ ap (λ seen. insert_key (pointwise nat_eq) seen c.args.key.now) c.self.view_is

pub returns-clause-place : goal.returns-clause-place
returns-clause-place c =
    let copied : c.in_ok-copy.copy.items ≡ c.args.key.now = search rules in
    let stored = c.in-Ok.ensures.stored in
    put-key c.insert_full.new.self.keys c.in_ok-copy.copy stored.0 c.in-Ok.place stored.1 stored.2 ∙ ap Some copied
