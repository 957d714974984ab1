-- Each key is text.
use Rattle.std.proofs.Common.{All, subst}
use Rattle.std.specs.Prelude.{IsUtf8}
use Rattle.operators.proofs.keys.Keys.len.Goals as goal

pub returns-clause-utf8 : goal.returns-clause-utf8
returns-clause-utf8 c = subst (All IsUtf8) c.self.view_is c.self.invariant
