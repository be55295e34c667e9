use Rattle.line.specs.Takes.{sound_bare}
use Rattle.line.specs.Sloped.{slope_positive}
use Rattle.line.proofs.line.Line.clear.Goals as goal

pub invariant_of-self-clause-positive : goal.invariant_of-self-clause-positive
invariant_of-self-clause-positive c = slope_positive _ _ _ _ _ _ (sound_bare c.clear.new.self c.clear-2.new.self _ _ c.clear.ensures.len c.clear-2.ensures.len c.open-self.ensures.least c.open-self.ensures.fall)

pub invariant_of-self-clause-sound : goal.invariant_of-self-clause-sound
invariant_of-self-clause-sound c = sound_bare _ _ _ _ c.clear.ensures.len c.clear-2.ensures.len c.open-self.ensures.least c.open-self.ensures.fall
