-- What `find` answered is the first byte that is no blank.
use Rattle.std.proofs.Common.{◌≡◌, ◌∙◌, ap, rules, tests, not, true, eqb}
use Rattle.std.specs.List.{find}
use Rattle.std.specs.Option.{option_map, option_map_or}
use Rattle.std.proofs.lemmas.Iterator.{YieldsList-from_slice}
use Rattle.std.proofs.lemmas.Iterator.Search.{find_from_yields_List}
use Rattle.script.specs.Words.{is_blank}
use Rattle.script.proofs.WordLemmas.{is_skipped-find}
use Rattle.script.proofs.word.is_skipped.Goals as goal

pub returns-in-Some : goal.returns-in-Some
returns-in-Some c =
    let found : option_map (λ byte. byte.now) c.find.result ≡ find (λ byte. not (is_blank byte)) c.args.line.now =
    find_from_yields_List (λ byte. not (is_blank byte)) _ _ c.find.result c.find.ensures.ran (YieldsList-from_slice c.args.line.now cc) (λ x b q k. search (rules, tests)) in
    ap (λ first. option_map_or (λ byte. eqb byte 35) first true) (rw c.in-Some.is at found) ∙ is_skipped-find c.args.line.now

pub returns-in-None : goal.returns-in-None
returns-in-None c =
    let found : option_map (λ byte. byte.now) c.find.result ≡ find (λ byte. not (is_blank byte)) c.args.line.now =
    find_from_yields_List (λ byte. not (is_blank byte)) _ _ c.find.result c.find.ensures.ran (YieldsList-from_slice c.args.line.now cc) (λ x b q k. search (rules, tests)) in
    ap (λ first. option_map_or (λ byte. eqb byte 35) first true) (rw c.in-None.is at found) ∙ is_skipped-find c.args.line.now
