use Rattle.std.proofs.Common.{ap, length, refl}
use Rattle.alloc_tree.specs.Rows.{peaks_of}
use Rattle.alloc_tree.proofs.CountLemmas.{opened_counts}
use Rattle.alloc_tree.proofs.OpeningLemmas.{opened_sound, opened_is, opened_peaks}
use Rattle.alloc_tree.proofs.solo_tree.SoloTree.open.Goals as goal

pub invariant_of-result : goal.invariant_of-result
invariant_of-result c =
    let sound = opened_sound c.args.root_limit c.in-Ok.rows c.new.result c.requires.limit c.in-Ok.ensures c.new.ensures in
    record {
      sound = record { lawful = sound.0; numbers = sound.1; places = ap length c.in-Ok.ensures };
      counts = opened_counts (peaks_of c.in-Ok.rows) c.in-Ok.rows c.new.result c.new.ensures;
    }

pub returns : goal.returns
returns c = record {
  opened = record {
    state = opened_is c.args.root_limit c.in-Ok.rows c.new.result c.in-Ok.ensures c.new.ensures;
    peaks = λ n. opened_peaks c.args.root_limit c.in-Ok.rows n c.in-Ok.ensures;
    calls = refl;
  };
}
