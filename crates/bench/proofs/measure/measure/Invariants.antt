use Rattle.std.proofs.Common.{◌≡◌, length}
use Rattle.recorder.specs.Steps.{opened_view}
use Rattle.recorder.specs.Views.{Sound}
use Rattle.bench.proofs.measure.measure.Given as goal

abbrev pub invariant-loop-row : goal.invariant-loop-row
invariant-loop-row g l =
    record {
      wide : l.tape.width ≡ g.F.Family.meaning.pick_width;
      long : length l.store ≡ l.tape.length;
      places : l.tape.places ≡ (opened_view g.F.Family.meaning.pick_width (length l.fn.store)).places;
      sound : Sound l.tape;
    }
