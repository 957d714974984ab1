-- Each is a name.
use Rattle.std.proofs.Common.{refl}
use Rattle.mem_num.specs.Name.{is_name}
use Rattle.pipeline.proofs.printing.names.Goals as goal

pub bind-requires-clause-named : goal.bind-requires-clause-named
unfolding is_name
bind-requires-clause-named c = refl

pub bind-requires-2-clause-named : goal.bind-requires-2-clause-named
unfolding is_name
bind-requires-2-clause-named c = refl

pub bind-requires-3-clause-named : goal.bind-requires-3-clause-named
unfolding is_name
bind-requires-3-clause-named c = refl

pub bind-requires-4-clause-named : goal.bind-requires-4-clause-named
unfolding is_name
bind-requires-4-clause-named c = refl

pub bind-requires-5-clause-named : goal.bind-requires-5-clause-named
unfolding is_name
bind-requires-5-clause-named c = refl
