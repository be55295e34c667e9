use Rattle.std.proofs.Common.{ℕ, ◌≤◌, sym, subst, ◌∙◌}
use Rattle.family.specs.Readings.{reading}
use Rattle.recorder.specs.Histories.{world}
use Rattle.recorder.proofs.Kept.{recorded_keeps}
use Rattle.bench.proofs.Places.{recorded_places, closed_within}
use Rattle.bench.proofs.measure.measure.Goals as goal

pub loop-row-preserved : goal.loop-row-preserved
loop-row-preserved g c =
    let i = c.loop-row.invariant in
    let before = world c.loop-row.tape c.loop-row.family c.loop-row.store in
    let after = world c.record.new.self c.record.new.family c.record.new.store in
    let read = reading c.in-Some.tick c.in-Some.row.now in
    let k = recorded_keeps g.F.Family.meaning before after read c.record.result c.record.ensures.is in
    record {
      wide = k.wide ∙ i.wide;
      long = c.record.auto.store ∙ i.long ∙ sym k.long;
      places = recorded_places g.F.Family.meaning before after read c.record.result c.record.ensures.is ∙ i.places;
      sound = c.record.ensures.sound;
    }

pub returns : goal.returns
returns g c =
    subst (λ (n : ℕ). c.unwrap.result.segments ≤ n) c.loop-row.invariant.places
    (closed_within g.F.Family.meaning (world c.loop-row.tape c.loop-row.family c.loop-row.store) c.close.result
    c.unwrap.result c.loop-row.invariant.sound c.unwrap.ensures c.close.ensures.is.answer)
