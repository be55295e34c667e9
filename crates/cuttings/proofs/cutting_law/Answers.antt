use Rattle.cuttings.specs.Cutting.{Served}
use Rattle.cuttings.proofs.Permits.{part_served}
use Rattle.cuttings.proofs.Places.{best_cut}
use Rattle.cuttings.proofs.cutting_law.Goals as goal

pub returns : goal.returns
returns g c = let serves = g.F.Family.meaning.serves in best_cut (Served serves) (part_served serves)
