-- A reading fits a coarse state exactly where the steps of its band and the allowed steps have steps in common and its tick
-- is new.
use Rattle.std.proofs.Common.{◌≡◌, None, Some, Option, ap, ◌∙◌, arith}
use Rattle.std.specs.Int.{int_max, int_min}
use Rattle.std.proofs.lemmas.Int.{ints, clamps}
use Rattle.family.specs.declared.band.Band.{Band}
use Rattle.family.specs.Readings.{Reading}
use Rattle.family.specs.Meaning.{Next}
use Rattle.family.specs.Bands.{low_of, high_of}
use Rattle.coarse.specs.declared.coarse.Coarse.{Coarse}
use Rattle.coarse.specs.Grid.{coarse_meaning, Choice, Joined, first_step, last_step}
use Rattle.coarse.specs.Steps.{first_over, first_under, last_over, last_under}

-- the state with the steps of a reading's band taken is the state after taking the reading
pub next_from : (s : Coarse) (r : Reading) (b : Band) (o : Option Coarse) → b.low ≡ first_step (low_of r.row) → b.high ≡ last_step (high_of r.row)
    → Joined s r.tick b o → Next coarse_meaning s r o
next_from s r b None el eh j = λ x.
    let a0 = x.some.allowed.0 in
    let a1 = x.some.allowed.1 in
    let b0 = x.some.serving.0 in
    let b1 = x.some.serving.1 in
    let n = j x.above in
    let u = first_under (low_of r.row) in
    let v = last_over (high_of r.row) in
    omega (arith, ints, clamps)
next_from s r b (Some t) el eh j =
    let e0 = j.1 in
    let e1 = j.2 in
    let o = t.order in
    let u = first_over (low_of r.row) in
    let v = last_under (high_of r.row) in
    let c : Choice = record { step = t.allowed.low; low = t.bottom; high = (let p = t.top in omega (arith, ints)) } in (
      record { above = j.0; some = record { by = c; allowed = (omega (arith, ints, clamps), omega (arith, ints, clamps)); serving = (omega (arith, ints, clamps), omega (arith, ints, clamps)) } },
      (e0 ∙ ap (int_max s.allowed.low) el, e1 ∙ ap (int_min s.allowed.high) eh, j.3),
    )
