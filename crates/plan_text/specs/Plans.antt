-- Which documents are plans, key by key.
use Rattle.std.specs.Prelude.{◌≡◌, ℕ, Bool, true, List, Option, Some, None, if◌then◌else◌, codes, IsUtf8}
use Rattle.toml.specs.Data.{Data, Members, get_member, no_members, as_table}
use Rattle.toml.specs.Parse.{parse_document}
use Rattle.mem_num.specs.declared.bounds.TheConstants.{MAX_LIMIT, MAX_RESERVATION}
use Rattle.query_model.specs.declared.plan.Plan.{Plan}
use Rattle.query_model.specs.Fit.{are_covered}
use Rattle.query_model.specs.declared.bounds.TheConstants.{MOST_BATCH_ROWS}
use Rattle.plan_text.specs.declared.bounds.TheConstants.{USUAL_BATCH_ROWS}
use Rattle.plan_text.specs.declared.keys.Keys.{Keys}
use Rattle.plan_text.specs.declared.keys.Keys.TheVariants as tables
use Rattle.plan_text.specs.Columns.{columns_of}
use Rattle.plan_text.specs.Keys.{has_only, keys_of}
use Rattle.plan_text.specs.Outputs.{output_at}
use Rattle.plan_text.specs.Tests.{tests_of}
use Rattle.plan_text.specs.Values.{◌>>=◌, number_of, numbers_at}

-- the rows of a batch: 1 to 65,536, and 1,024 where the key is absent
abbrev pub batch_of : Option Data → Option ℕ
batch_of = number_of 1 MOST_BATCH_ROWS USUAL_BATCH_ROWS

-- a table of the document; one that is absent is empty
abbrev pub table_of : Option Data → Option Members
table_of None = Some no_members
table_of (Some value) = as_table value

-- the numbers at the keys that a table may have
abbrev pub numbers_in : ℕ → ℕ → Keys → Members → Option (List ℕ)
numbers_in most absent keys members =
    if has_only (keys_of keys) members then numbers_at most absent (keys_of keys) members else None

-- the limits of the root and the allocators below it: the greatest one where a key is absent
abbrev pub limits_of : Option Data → Option (List ℕ)
limits_of value = table_of value >>= numbers_in MAX_LIMIT MAX_LIMIT tables.Limits

-- the reservations of the allocators below the root: 0 where a key is absent
abbrev pub reserves_of : Option Data → Option (List ℕ)
reserves_of value = table_of value >>= numbers_in MAX_RESERVATION 0 tables.Reserve

-- a document is this plan
pub record IsPlan (document : Members) (plan : Plan) : Type 0 where
  pub keys : has_only (keys_of tables.Plan) document ≡ true
  pub columns : (get_member (codes "columns") document >>= columns_of) ≡ Some plan.columns
  pub batch : batch_of (get_member (codes "batch") document) ≡ Some plan.batch
  pub tests : tests_of plan.columns (get_member (codes "filter") document) ≡ Some plan.tests
  pub output : output_at plan.columns document ≡ Some plan.output
  pub limits : limits_of (get_member (codes "limits") document) ≡ Some plan.limits
  pub reserves : reserves_of (get_member (codes "reserve") document) ≡ Some plan.reserves
  pub covered : are_covered plan.limits plan.reserves ≡ true

-- bytes are this plan: UTF-8, and a document of TOML that is the plan
pub record IsPlanText (bytes : List ℕ) (plan : Plan) : Type 0 where
  pub text : IsUtf8 bytes
  pub document : Members
  pub parsed : parse_document bytes ≡ Some document
  pub reading : IsPlan document plan
