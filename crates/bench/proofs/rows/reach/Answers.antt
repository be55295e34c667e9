use Rattle.std.proofs.Common.{◌≤◌, arith}
use Rattle.std.proofs.Math.Nat.{mul-le-mul}
use Rattle.std.proofs.lemmas.Int.{ints}
use Rattle.bench.proofs.rows.reach.Goals as goal

pub returns-clause-high : goal.returns-clause-high
returns-clause-high c =
    let off : c.from-off.result ≤ 128 = omega (arith, c.abs_diff.ensures, c.from-off.ensures) in
    let square = mul-le-mul off off in
    omega (arith, ints, square)
