use Rattle.mem_model.proofs.LevelLemmas.{levels_of-path, refusing_level-path, lowest-own}
use Rattle.mem_model.proofs.path.levels_stand_on_the_path_to_the_root.Goals as goal

pub returns-clause-levels : goal.returns-clause-levels
returns-clause-levels c = levels_of-path

pub returns-clause-refusing : goal.returns-clause-refusing
returns-clause-refusing c = refusing_level-path

pub returns-clause-own : goal.returns-clause-own
returns-clause-own c = lowest-own
