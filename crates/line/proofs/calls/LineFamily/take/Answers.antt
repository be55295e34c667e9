use Rattle.std.proofs.Common.{arith}
use Rattle.std.proofs.lemmas.Bool.Decides.{nat_tests}
use Rattle.family.specs.Readings.{reading}
use Rattle.line.specs.Sloped.{slope_positive}
use Rattle.line.proofs.Stepping.{step_sound, tick_small, room_after, stepped_at}
use Rattle.line.proofs.calls.LineFamily.take.Goals as goal

pub invariant_of-self : goal.invariant_of-self
invariant_of-self c =
    let s = c.args.self.now in
    let r = reading c.args.tick c.args.row.now in
    let e = c.in_ok-step.ensures in
    let d = c.in-Some.step in
    let f = stepped_at s r d c.in_ok-step.field-0 c.in-Some.is e.1 in
    let k = c.push_onto.ensures in
    let lows' = c.push_onto.new.lows in
    let highs' = c.push_onto.new.highs in
    let x = step_sound r e.0 s d f lows' highs' k.lows k.highs in
    let n = k.room.2 in
    record {
      told = grind (arith, nat_tests);
      room = room_after s r d.span f.2.first f.2.last f.1 lows' highs' k.room.0 k.room.1 n;
      range = (let t = tick_small r e.0 in let l = f.2.last in omega (arith, t, l));
      positive = slope_positive _ _ _ _ _ _ x;
      sound = x;
    }
