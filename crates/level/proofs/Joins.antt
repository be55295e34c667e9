-- A reading fits a level state exactly where its band and the allowed levels have levels in common and its tick is new.
use Rattle.std.proofs.Common.{◌≡◌, None, Some, Option, ap, ◌∙◌, arith}
use Rattle.std.specs.Int.{int_max, int_min}
use Rattle.std.proofs.lemmas.Int.{ints, clamps}
use Rattle.family.specs.declared.band.Band.{Band}
use Rattle.family.specs.Readings.{Reading}
use Rattle.family.specs.Meaning.{Next}
use Rattle.family.specs.Bands.{low_of, high_of}
use Rattle.level.specs.declared.level.Level.{Level}
use Rattle.level.specs.Levels.{level_meaning, Choice, Joined}

-- the state with the band of a reading taken is the state after taking the reading
pub next_from : (s : Level) (r : Reading) (b : Band) (o : Option Level) → b.low ≡ low_of r.row → b.high ≡ high_of r.row
    → Joined s r.tick b o → Next level_meaning s r o
next_from s r b None el eh j = λ x.
    let a0 = x.some.allowed.0 in
    let a1 = x.some.allowed.1 in
    let b0 = x.some.serving.0 in
    let b1 = x.some.serving.1 in
    let n = j x.above in
    omega (arith, ints, clamps)
next_from s r b (Some t) el eh j =
    let e0 = j.1 in
    let e1 = j.2 in
    let o = t.order in
    let c : Choice = record { at = t.allowed.low; low = t.bottom; high = (let p = t.top in omega (arith, ints)) } in (
      record { above = j.0; some = record { by = c; allowed = (omega (arith, ints, clamps), omega (arith, ints, clamps)); serving = (omega (arith, ints, clamps), omega (arith, ints, clamps)) } },
      (e0 ∙ ap (int_max s.allowed.low) el, e1 ∙ ap (int_min s.allowed.high) eh, j.3),
    )
