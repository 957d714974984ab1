-- The parts of a plan fit its columns, and its numbers their bounds.
use Rattle.std.proofs.Common.{◌≡◌, ◌≤◌, ◌<◌, ℕ, zero, suc, List, [], ◌∷◌, length, Option, Some, None}
use Rattle.std.proofs.Common.{true, refl, sym, ap, ◌∙◌, arith, subst, nat_eq}
use Rattle.std.specs.Prelude.{pos, ◌&&◌, nat_le, option_and_then, All}
use Rattle.std.specs.Prelude.{codes}
use Rattle.std.proofs.lemmas.Bool.{and_parts, leb-true}
use Rattle.std.proofs.lemmas.List.Elements.{All-cons, All-nil}
use Rattle.toml.specs.Data.{Data, Members, as_str, as_table, get_member, string, integer}
use Rattle.mem_num.specs.declared.bounds.TheConstants.{MAX_LIMIT, MAX_RESERVATION}
use Rattle.query_model.specs.declared.cell.Cell.{Cell}
use Rattle.query_model.specs.declared.cell.Cell.TheVariants.{Int, Text}
use Rattle.query_model.specs.declared.column.Column.{Column}
use Rattle.query_model.specs.declared.kind.Kind.{Kind}
use Rattle.query_model.specs.declared.kind.Kind.TheVariants as kind
use Rattle.query_model.specs.declared.output.Output.{Output}
use Rattle.query_model.specs.declared.output.Output.TheVariants.{Select, Group}
use Rattle.query_model.specs.declared.plan.Plan.{Plan}
use Rattle.query_model.specs.declared.test.Test.{Test}
use Rattle.query_model.specs.declared.bounds.TheConstants.{MOST_BATCH_ROWS, MOST_COLUMNS, MOST_TESTS}
use Rattle.plan_text.specs.declared.bounds.TheConstants.{USUAL_BATCH_ROWS}
use Rattle.plan_text.specs.declared.keys.Keys.{Keys}
use Rattle.plan_text.specs.declared.keys.Keys.TheVariants as tables
use Rattle.plan_text.specs.declared.picks.Allowed.{Allowed}
use Rattle.plan_text.specs.declared.picks.Allowed.TheVariants.{Any, Ints}
use Rattle.query_model.specs.Fit.{are_different, have_one_name}
use Rattle.plan_text.specs.Columns.{allows, column_of, columns_of}
use Rattle.query_model.specs.Fit.{kind_at}
use Rattle.plan_text.specs.Columns.{pick_of, picks_of, place_of}
use Rattle.query_model.specs.Fit.{ArePicks, FitsColumn, FitsColumns, IsFit, compared_kind}
use Rattle.plan_text.specs.Keys.{has_only, keys_of}
use Rattle.plan_text.specs.Outputs.{group_of, output_of, select_of}
use Rattle.plan_text.specs.Plans.{IsPlan, numbers_in, table_of}
use Rattle.plan_text.specs.Tests.{cell_of, op_at, place_at, test_in, test_of, test_with, tests_of}
use Rattle.plan_text.specs.Values.{each_of, items_between, number_of, numbers_at}
use Rattle.plan_text.proofs.EachLemmas.{each_of-All, each_of-length, items_between-parts, joined-parts}
use Rattle.plan_text.proofs.OptionLemmas.{allowed-then, chosen, mapped-parts, then-parts}

-- a column of some kind is there
kind_at-within : (columns : List Column) (place : ℕ) (k : Kind) → kind_at columns place ≡ Some k
    → place < length columns
kind_at-within [] place k e = cc e
kind_at-within (c ∷ cs) zero k e = omega arith
kind_at-within (c ∷ cs) (suc place) k e = let h = kind_at-within cs place k e in omega (arith, h)

-- a picked column is there, and may be picked
pick_of-parts : (which : Allowed) (columns : List Column) (d : Data) (pick : ℕ)
    → pick_of which columns d ≡ Some pick
    → (k : Kind) × (kind_at columns pick ≡ Some k) × (allows which k ≡ true)
pick_of-parts which columns d pick e =
    let (name, named, e1) = then-parts _ (as_str d) pick e in
    let (place, placed, e2) = then-parts _ (place_of columns name) pick e1 in
    let (k, kinded, e3) = then-parts _ (kind_at columns place) pick e2 in
    let (allowed, same) = chosen (allows which k) place pick e3 in
    (k, subst (λ (p : ℕ). kind_at columns p ≡ Some k) same kinded, allowed)

-- only whole numbers are summed
allows-Ints : (k : Kind) → allows Ints k ≡ true → k ≡ kind.Int
allows-Ints kind.Int e = refl
allows-Ints kind.Sum e = cc e
allows-Ints kind.Text e = cc e

-- a picked column is there
pick_of-within : (columns : List Column) (d : Data) (pick : ℕ) → pick_of Any columns d ≡ Some pick
    → pick < length columns
pick_of-within columns d pick e = let (k, at, allowed) = pick_of-parts Any columns d pick e in kind_at-within columns pick k at

-- a summed column has whole numbers
pick_of-int : (columns : List Column) (d : Data) (pick : ℕ) → pick_of Ints columns d ≡ Some pick
    → kind_at columns pick ≡ Some kind.Int
pick_of-int columns d pick e =
    let (k, at, allowed) = pick_of-parts Ints columns d pick e in at ∙ ap Some (allows-Ints k allowed)

-- picked columns are so many, differ, and have what every pick has
picks_of-parts : (which : Allowed) (columns : List Column) (d : Data) (picks : List ℕ) (P : ℕ → Type 0)
    → ((v : Data) (pick : ℕ) → pick_of which columns v ≡ Some pick → P pick)
    → picks_of which columns d ≡ Some picks → ArePicks picks × All P picks
picks_of-parts which columns d picks P each e =
    let (items, some, e1) = then-parts _ (items_between 1 MOST_COLUMNS d) picks e in
    let (found, read, e2) = then-parts _ (each_of (pick_of which columns) items) picks e1 in
    let (different, same) = chosen (are_different nat_eq found) found picks e2 in
    let bounds = items_between-parts 1 MOST_COLUMNS d items some in
    let size : length found ≡ length items = each_of-length (pick_of which columns) items found read in
    let picked : ArePicks found = record { some = rw size bounds.0; few = rw size bounds.1; different = different } in
    subst (λ (t : List ℕ). ArePicks t × All P t) same (picked, each_of-All (pick_of which columns) P each items found read)

-- a selection fits the columns
select_of-fits : (columns : List Column) (select : Data) (output : Output)
    → select_of columns select ≡ Some output → FitsColumns columns output
select_of-fits columns select output e =
    let (picks, read, same) = mapped-parts Select (picks_of Any columns select) output e in
    subst (FitsColumns columns) same
    (picks_of-parts Any columns select picks (λ pick. pick < length columns) (pick_of-within columns) read)

-- a key and sums fit the columns
group_of-fits : (columns : List Column) (group sums : Data) (output : Output)
    → group_of columns group sums ≡ Some output → FitsColumns columns output
group_of-fits columns group sums output e =
    let (key, named, e1) = then-parts _ (pick_of Any columns group) output e in
    let (picks, read, e2) = then-parts _ (picks_of Ints columns sums) output e1 in
    let same : Group key picks ≡ output = (let g : Some (Group key picks) ≡ Some output = e2 in cc) in
    let (picked, ints) =
    picks_of-parts Ints columns sums picks (λ pick. kind_at columns pick ≡ Some kind.Int) (pick_of-int columns) read in
    subst (FitsColumns columns) same (pick_of-within columns group key named, picked, ints)

-- an answer fits the columns
output_of-fits : (columns : List Column) (select group sums : Option Data) (output : Output)
    → output_of columns select group sums ≡ Some output → FitsColumns columns output
output_of-fits columns (Some select) None None output e = select_of-fits columns select output e
output_of-fits columns None (Some group) (Some sums) output e = group_of-fits columns group sums output e
output_of-fits columns None None sums output e = cc e
output_of-fits columns None (Some group) None output e = cc e
output_of-fits columns (Some select) (Some group) sums output e = cc e
output_of-fits columns (Some select) None (Some sums) output e = cc e

-- a value has the kind of its column
cell_of-kind : (k : Kind) (d : Data) (cell : Cell) → cell_of k d ≡ Some cell → Some k ≡ compared_kind cell
cell_of-kind kind.Int (integer n) cell e =
    let same : Int n ≡ cell = (let g : Some (Int n) ≡ Some cell = e in cc) in
    ap compared_kind same
cell_of-kind kind.Int d cell e = cc e
cell_of-kind kind.Text (string text) cell e =
    let same : Text text ≡ cell = (let g : Some (Text text) ≡ Some cell = e in cc) in
    ap compared_kind same
cell_of-kind kind.Text d cell e = cc e
cell_of-kind kind.Sum d cell e = cc e

-- the parts of a test fit the columns
test_with-fits : (columns : List Column) (members : Members) (test : Test)
    → test_with columns members ≡ Some test → FitsColumn columns test
test_with-fits columns members test e =
    let (place, placed, e1) = then-parts _ (place_at columns members) test e in
    let (op, compared, e2) = then-parts _ (op_at members) test e1 in
    let (k, kinded, e3) = then-parts _ (kind_at columns place) test e2 in
    let (value, found, e4) = then-parts _ (get_member (codes "value") members) test e3 in
    let (cell, read, e5) = then-parts _ (cell_of k value) test e4 in
    let made : Test = record { column = place; op = op; value = cell } in
    let same : made ≡ test = (let g : Some made ≡ Some test = e5 in cc) in
    let fits : FitsColumn columns made =
    record { within = kind_at-within columns place k kinded; kind = kinded ∙ cell_of-kind k value cell read } in
    subst (FitsColumn columns) same fits

-- a table that is a test fits the columns
test_in-fits : (columns : List Column) (members : Members) (test : Test) → test_in columns members ≡ Some test
    → FitsColumn columns test
test_in-fits columns members test e =
    test_with-fits columns members test
    (allowed-then (has_only (keys_of tables.Test) members) (test_with columns members) test e)

-- a test fits the columns
test_of-fits : (columns : List Column) (d : Data) (test : Test) → test_of columns d ≡ Some test
    → FitsColumn columns test
test_of-fits columns d test e =
    let (members, is, e1) = then-parts (test_in columns) (as_table d) test e in
    test_in-fits columns members test e1

-- so do all tests
tests_of-fits : (columns : List Column) (value : Option Data) (tests : List Test)
    → tests_of columns value ≡ Some tests → (length tests ≤ MOST_TESTS) × All (FitsColumn columns) tests
tests_of-fits columns None tests e =
    let none : [] ≡ tests = (let g : Some [] ≡ Some tests = e in cc) in
    subst (λ (t : List Test). (length t ≤ MOST_TESTS) × All (FitsColumn columns) t) none
    (omega arith, All-nil (FitsColumn columns))
tests_of-fits columns (Some d) tests e =
    let (items, some, read) = then-parts _ (items_between 0 MOST_TESTS d) tests e in
    let bounds = items_between-parts 0 MOST_TESTS d items some in (
      rw (each_of-length (test_of columns) items tests read) bounds.1,
      each_of-All (test_of columns) (FitsColumn columns) (test_of-fits columns) items tests read,
    )

-- columns are so many, and differ
columns_of-parts : (d : Data) (columns : List Column) → columns_of d ≡ Some columns
    → (1 ≤ length columns) × (length columns ≤ MOST_COLUMNS) × (are_different have_one_name columns ≡ true)
columns_of-parts d columns e =
    let (items, some, e1) = then-parts _ (items_between 1 MOST_COLUMNS d) columns e in
    let (found, read, e2) = then-parts _ (each_of column_of items) columns e1 in
    let (different, same) = chosen (are_different have_one_name found) found columns e2 in
    let bounds = items_between-parts 1 MOST_COLUMNS d items some in
    let size : length found ≡ length items = each_of-length column_of items found read in
    subst (λ (t : List Column). (1 ≤ length t) × (length t ≤ MOST_COLUMNS) × (are_different have_one_name t ≡ true)) same
    (rw size bounds.0, rw size bounds.1, different)

-- a number has its bounds, where what stands for an absent one has them
number_of-bounds : (least most absent : ℕ) (value : Option Data) (n : ℕ) → least ≤ absent → absent ≤ most
    → number_of least most absent value ≡ Some n → (least ≤ n) × (n ≤ most)
number_of-bounds least most absent None n lower upper e =
    let same : absent ≡ n = (let g : Some absent ≡ Some n = e in cc) in
    (omega arith, omega arith)
number_of-bounds least most absent (Some (integer (pos m))) n lower upper e =
    let (bounds, same) = chosen (nat_le least m && nat_le m most) m n e in
    let both = and_parts _ _ bounds in
    let low : least ≤ m = leb-true least m both.0 in
    let high : m ≤ most = leb-true m most both.1 in
    (omega (arith, low, same), omega (arith, high, same))
number_of-bounds least most absent (Some d) n lower upper e = cc e

-- so have the numbers at keys
numbers_at-bounds : (most absent : ℕ) (keys : List (List ℕ)) (inside : Members) (ns : List ℕ) → absent ≤ most
    → numbers_at most absent keys inside ≡ Some ns → All (λ n. n ≤ most) ns
unfolding numbers_at
numbers_at-bounds most absent [] inside ns upper e =
    let none : [] ≡ ns = (let g : Some [] ≡ Some ns = e in cc) in
    subst (All (λ n. n ≤ most)) none (All-nil (λ n. n ≤ most))
numbers_at-bounds most absent (key ∷ keys) inside ns upper e =
    let (n, more, first, rest, whole) =
    joined-parts (number_of 0 most absent (get_member key inside)) (numbers_at most absent keys inside) ns e in
    let bound = number_of-bounds 0 most absent (get_member key inside) n (omega arith) upper first in
    subst (All (λ n. n ≤ most)) (sym whole)
    (All-cons (λ n. n ≤ most) n more bound.1 (numbers_at-bounds most absent keys inside more upper rest))

-- and those of a table
numbers_in-bounds : (most absent : ℕ) (which : Keys) (value : Option Data) (ns : List ℕ) → absent ≤ most
    → option_and_then (numbers_in most absent which) (table_of value) ≡ Some ns → All (λ n. n ≤ most) ns
numbers_in-bounds most absent which value ns upper e =
    let (inside, is, e1) = then-parts (numbers_in most absent which) (table_of value) ns e in
    numbers_at-bounds most absent (keys_of which) inside ns upper
    (allowed-then (has_only (keys_of which) inside) (numbers_at most absent (keys_of which) inside) ns e1)

-- a plan is fit
pub plan-fit : (document : Members) (plan : Plan) → IsPlan document plan → IsFit plan
plan-fit document plan is =
    let (found, at, read) = then-parts columns_of (get_member (codes "columns") document) plan.columns is.columns in
    let columns = columns_of-parts found plan.columns read in
    let batch =
    number_of-bounds 1 MOST_BATCH_ROWS USUAL_BATCH_ROWS (get_member (codes "batch") document) plan.batch
    (omega arith) (omega arith) is.batch in
    let tests = tests_of-fits plan.columns (get_member (codes "filter") document) plan.tests is.tests in
    record {
      some = columns.0;
      few = columns.1;
      different = columns.2;
      batch = batch;
      few_tests = tests.0;
      tests = tests.1;
      output = output_of-fits plan.columns _ _ _ plan.output is.output;
      limits =
          numbers_in-bounds MAX_LIMIT MAX_LIMIT tables.Limits (get_member (codes "limits") document) plan.limits
          (omega arith) is.limits;
      reserves =
          numbers_in-bounds MAX_RESERVATION 0 tables.Reserve (get_member (codes "reserve") document) plan.reserves
          (omega arith) is.reserves;
      covered = is.covered;
    }
