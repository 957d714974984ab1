use Rattle.std.proofs.Common.{◌∙◌, sym}
use Rattle.plan_text.specs.Keys.{keys_of}
use Rattle.plan_text.proofs.KeyLemmas.{has_only-all}
use Rattle.plan_text.proofs.keys.Keys.are_all_of.Goals as goal

pub returns : goal.returns
returns c = c.have_each_of.ensures ∙ sym (has_only-all (keys_of c.args.self) c.args.table.now.entries)
