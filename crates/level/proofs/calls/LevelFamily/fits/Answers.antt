use Rattle.std.proofs.lemmas.Bool.Decides.{Decides-at}
use Rattle.family.specs.Readings.{reading}
use Rattle.family.proofs.Forms.{next_decides}
use Rattle.level.specs.Levels.{level_meaning}
use Rattle.level.proofs.calls.LevelFamily.fits.Goals as goal

pub returns : goal.returns
returns c =
    let e = c.in_ok-next.ensures in (
      e.0,
      Decides-at c.is_some.result _ c.is_some.ensures
          (next_decides level_meaning c.args.self.now (reading c.args.tick c.args.row.now) c.in_ok-next.next e.1),
    )
