use Rattle.line.specs.Takes.{sound_bare}
use Rattle.line.specs.Sloped.{slope_positive}
use Rattle.line.proofs.line.Line.new.Goals as goal

pub invariant_of-result-clause-sound : goal.invariant_of-result-clause-sound
invariant_of-result-clause-sound c =
    let least = c.open.ensures.least in
    let fall = c.open.ensures.fall in
    sound_bare _ _ _ _ c.new.ensures.len c.new-2.ensures.len (cc) (cc)

pub invariant_of-result-clause-positive : goal.invariant_of-result-clause-positive
invariant_of-result-clause-positive c = slope_positive _ _ _ _ _ _ (invariant_of-result-clause-sound c)
