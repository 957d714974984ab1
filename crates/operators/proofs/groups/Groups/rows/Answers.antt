-- The rows of the groups, in order of their keys.
use Rattle.std.proofs.Common.{◌≡◌, ◌<◌, ◌∙◌, All, [], ap, length, map, get_or, sym, subst, rules}
use Rattle.std.specs.Prelude.{IsUtf8}
use Rattle.query_model.specs.Answer.{distinct}
use Rattle.operators.specs.Groups.{group_columns}
use Rattle.operators.proofs.GroupRowLemmas.{kinds-made, long-rows, rows-grouped, sums-long, typed-rows}
use Rattle.operators.proofs.groups.Groups.rows.Goals as goal

pub columns_of-requires-clause-sums : goal.columns_of-requires-clause-sums
columns_of-requires-clause-sums c =
    let room = c.requires.room in
    let long = sums-long room.0 room.1 room.2 c.args.self.now room.3 in
    subst (All (λ sum. length sum ≡ length c.self.inside.keys)) (sym c.as_slice.ensures.value)
    (subst (λ g. All (λ sum. length sum ≡ length g.keys) g.sums) (sym c.self.view_is) long)

pub from_columns-requires-clause-long : goal.from_columns-requires-clause-long
from_columns-requires-clause-long c =
    let room = c.requires.room in
    let groups = c.args.self.now in
    let within = subst (λ g. All (λ place. place < length g.keys) c.in_ok-order.order.items) c.self.view_is c.in_ok-order.ensures.within in
    let ordered = subst (λ g. map (λ place. get_or g.keys place []) c.in_ok-order.order.items ≡ distinct g.keys) c.self.view_is
    c.in_ok-order.ensures.order in
    let made : c.in_ok-columns.columns.items ≡ group_columns groups.keys groups.sums c.in_ok-order.order.items =
    c.in_ok-columns.ensures.columns
    ∙ (λ k. group_columns c.self.inside.keys (c.as_slice.ensures.value k) (c.as_slice-2.ensures.value k))
    ∙ ap (λ g. group_columns g.keys g.sums c.in_ok-order.order.items) c.self.view_is in
    let count : c.len.result ≡ length c.in_ok-order.order.items = search rules in
    long-rows room.0 room.1 room.2 groups room.3 c.in_ok-order.order.items within ordered
    c.in_ok-columns.columns.items made c.len.result count

pub from_columns-requires-clause-typed : goal.from_columns-requires-clause-typed
from_columns-requires-clause-typed c =
    let room = c.requires.room in
    let groups = c.args.self.now in
    let within = subst (λ g. All (λ place. place < length g.keys) c.in_ok-order.order.items) c.self.view_is c.in_ok-order.ensures.within in
    let ordered = subst (λ g. map (λ place. get_or g.keys place []) c.in_ok-order.order.items ≡ distinct g.keys) c.self.view_is
    c.in_ok-order.ensures.order in
    let made : c.in_ok-columns.columns.items ≡ group_columns groups.keys groups.sums c.in_ok-order.order.items =
    c.in_ok-columns.ensures.columns
    ∙ (λ k. group_columns c.self.inside.keys (c.as_slice.ensures.value k) (c.as_slice-2.ensures.value k))
    ∙ ap (λ g. group_columns g.keys g.sums c.in_ok-order.order.items) c.self.view_is in
    let count : c.len.result ≡ length c.in_ok-order.order.items = search rules in
    let utf8 = subst (λ g. All IsUtf8 g.keys) c.self.view_is c.len-count.ensures.utf8 in
    typed-rows room.0 room.1 room.2 groups room.3 c.in_ok-order.order.items within ordered
    c.in_ok-columns.columns.items made c.len.result count
    utf8 room.4

pub returns-clause-kinds : goal.returns-clause-kinds
returns-clause-kinds c =
    let room = c.requires.room in
    let groups = c.args.self.now in
    let within = subst (λ g. All (λ place. place < length g.keys) c.in_ok-order.order.items) c.self.view_is c.in_ok-order.ensures.within in
    let ordered = subst (λ g. map (λ place. get_or g.keys place []) c.in_ok-order.order.items ≡ distinct g.keys) c.self.view_is
    c.in_ok-order.ensures.order in
    let made : c.in_ok-columns.columns.items ≡ group_columns groups.keys groups.sums c.in_ok-order.order.items =
    c.in_ok-columns.ensures.columns
    ∙ (λ k. group_columns c.self.inside.keys (c.as_slice.ensures.value k) (c.as_slice-2.ensures.value k))
    ∙ ap (λ g. group_columns g.keys g.sums c.in_ok-order.order.items) c.self.view_is in
    let count : c.len.result ≡ length c.in_ok-order.order.items = search rules in
    ap (λ table. table.kinds) c.from_columns.ensures.value
    ∙ kinds-made room.0 room.1 room.2 groups room.3 c.in_ok-order.order.items within ordered
    c.in_ok-columns.columns.items made c.len.result count

pub returns-clause-rows : goal.returns-clause-rows
returns-clause-rows c = λ key columns rows are.
    let groups = c.args.self.now in
    let within = subst (λ g. All (λ place. place < length g.keys) c.in_ok-order.order.items) c.self.view_is c.in_ok-order.ensures.within in
    let ordered = subst (λ g. map (λ place. get_or g.keys place []) c.in_ok-order.order.items ≡ distinct g.keys) c.self.view_is
    c.in_ok-order.ensures.order in
    let made : c.in_ok-columns.columns.items ≡ group_columns groups.keys groups.sums c.in_ok-order.order.items =
    c.in_ok-columns.ensures.columns
    ∙ (λ k. group_columns c.self.inside.keys (c.as_slice.ensures.value k) (c.as_slice-2.ensures.value k))
    ∙ ap (λ g. group_columns g.keys g.sums c.in_ok-order.order.items) c.self.view_is in
    let count : c.len.result ≡ length c.in_ok-order.order.items = search rules in
    ap (λ table. table.rows) c.from_columns.ensures.value
    ∙ rows-grouped key columns rows groups are c.in_ok-order.order.items within ordered
    c.in_ok-columns.columns.items made c.len.result count
