-- The step that a reading is, as the code makes it.
use Rattle.std.proofs.Common.{◌≡◌, ℕ, zero, suc, ◌+◌, ◌-◌, ◌*◌, ◌<◌, ◌≤◌, Bool, true, false, ℤ, ◌≤ℤ◌, is_some, Some, None, Decides, Option, sym, refl, ap, ◌∙◌, subst, ap₂, arith}
use lib.Signed.{lt_z}
use Rattle.std.specs.Bool.{then_some}
use Rattle.std.proofs.lemmas.Int.{ints}
use Rattle.std.proofs.lemmas.Bool.Decides.{nat_tests}
use Rattle.std.proofs.lemmas.Bool.{false≢true}
use Rattle.family.specs.Readings.{Reading}
use Rattle.family.specs.Meaning.{Fits, refusal, form_refusal}
use Rattle.family.specs.Bands.{low_of, high_of}
use Rattle.family.proofs.Forms.{formed, refusal_parts}
use Rattle.family.proofs.BandRange.{low_range, high_range}
use Rattle.hull.specs.declared.point.Point.{Point}
use Rattle.hull.specs.declared.hull.Hull.{Hull}
use Rattle.line.specs.declared.line.Line.{Line}
use Rattle.line.specs.declared.step.Step.{Step}
use Rattle.line.specs.declared.taken.Taken.{Taken}
use Rattle.slope.specs.Slopes.{Slope, meeting}
use Rattle.hull.specs.Hulls.{ends, pushed, steepest_to}
use Rattle.line.specs.Sound.{Sound}
use Rattle.hull.specs.Points.{Near}
use Rattle.line.specs.Picks.{where_none}
use Rattle.line.specs.Choices.{low_end, high_end}
use Rattle.line.specs.LineMeaning.{line_meaning, Reaches}
use Rattle.line.specs.Steps.{Stepped, Steps}
use Rattle.line.specs.Choosing.{some_points, no_points}
use Rattle.line.proofs.Fitting.{fits_from, fits_meets, taken_sound, least_with, fall_with}
use Rattle.line.specs.Spans.{first_of, window}

module _ (s : Line) (r : Reading) (a b : Point) (p q : Slope) (d : Taken) (ea : a ≡ low_end r) (eb : b ≡ high_end r)
    (ep : p ≡ steepest_to a s.bounds.least (ends s.highs)) (eq : q ≡ steepest_to b s.bounds.fall (ends s.lows))
    (h : Reaches s r.tick) (ed : d.first ≡ where_none s.lows.len r.tick (first_of s.span)) (et : d.last ≡ r.tick) (lo hi : ℤ) (el : lo ≡ low_of r.row) (eh : hi ≡ high_of r.row) (o : lo ≤ℤ hi) where
  ordered : low_of r.row ≤ℤ high_of r.row
  ordered = subst (λ (x : ℤ). low_of r.row ≤ℤ x) eh (subst (λ (x : ℤ). x ≤ℤ hi) el o)

  least_is : p ≡ least_with s r
  least_is = ep ∙ ap (λ (x : Point). steepest_to x s.bounds.least (ends s.highs)) ea

  fall_is : q ≡ fall_with s r
  fall_is = eq ∙ ap (λ (x : Point). steepest_to x s.bounds.fall (ends s.lows)) eb

  abbrev step : Step
  step = record { low = a; high = b; bounds = record { least = p; fall = q }; span = d }

  pub met : meeting p q ≡ true → Fits line_meaning s r × Reaches s r.tick × Stepped s r step
  met m = (fits_from s r h ordered (sym (ap₂ meeting least_is fall_is) ∙ m), h, record { low = ea; high = eb; least = least_is; fall = fall_is; first = ed; last = et })

  pub unmet : meeting p q ≡ false → Fits line_meaning s r → ⊥
  unmet m f = false≢true (sym m ∙ ap₂ meeting least_is fall_is ∙ fits_meets s r h ordered f)

  -- a reading that the state reaches is a step where the bounds with it taken meet
  pub steps_where : (t : Bool) → t ≡ meeting p q → Steps s r (then_some t step)
  steps_where true e = met (sym e)
  steps_where false e = unmet (sym e)

-- a step is there exactly where the reading fits
pub step_decides : (s : Line) (r : Reading) (o : Option Step) → Steps s r o → Decides (is_some o) (Fits line_meaning s r)
step_decides s r None h = (λ e. absurd (false≢true e), λ f. absurd (h f))
step_decides s r (Some d) h = (λ e. h.0, λ f. refl)

-- what a reading that nothing refuses has
module _ (r : Reading) (h : refusal line_meaning r ≡ None) where
  parts : (form_refusal line_meaning r ≡ None) × (lt_z (high_of r.row) (low_of r.row) ≡ false)
  parts = refusal_parts (form_refusal line_meaning r) (lt_z (high_of r.row) (low_of r.row)) h

  pub in_order : low_of r.row ≤ℤ high_of r.row
  in_order = let f = parts.1 in omega (arith, ints, f)

  pub near_low : Near r.tick (low_end r)
  near_low = let k = low_range r.row (formed line_meaning r parts.0).2 in (omega arith, k.0, k.1)

  pub near_high : Near r.tick (high_end r)
  near_high = let k = high_range r.row (formed line_meaning r parts.0).2 in let a = k.0 in let b = k.1 in (omega arith, omega (arith, ints, b), omega (arith, ints, a))

  pub tick_small : r.tick ≤ 268435455
  tick_small = let t = (formed line_meaning r parts.0).0 in grind (arith, nat_tests)

  -- the state after a step is sound
  pub step_sound : (s : Line) (d : Step) → Fits line_meaning s r × Reaches s r.tick × Stepped s r d → (lows' highs' : Hull)
      → ends lows' ≡ pushed (ends s.lows) d.low → ends highs' ≡ pushed (ends s.highs) d.high → ∥ Sound lows' highs' d.bounds.least d.bounds.fall d.span.first d.span.last ∥₁
  step_sound s d f lows' highs' el eh =
      subst (λ (n : ℕ). ∥ Sound lows' highs' d.bounds.least d.bounds.fall n d.span.last ∥₁) (sym f.2.first) (subst (λ (n : ℕ). ∥ Sound lows' highs' d.bounds.least d.bounds.fall (where_none s.lows.len r.tick (first_of s.span)) n ∥₁) (sym f.2.last)
      (taken_sound s r f.1 in_order near_low near_high (fits_meets s r f.1 in_order f.0) lows' highs' d.bounds.least d.bounds.fall
      (el ∙ ap (pushed (ends s.lows)) f.2.low) (eh ∙ ap (pushed (ends s.highs)) f.2.high) f.2.least f.2.fall))

pub stepped_at : (s : Line) (r : Reading) (d : Step) (o : Option Step) → o ≡ Some d → Steps s r o → Fits line_meaning s r × Reaches s r.tick × Stepped s r d
stepped_at s r d o e h = subst (Steps s r) e h

-- the hulls after a step have room for one point more
module _ (s : Line) (r : Reading) (d : Taken) (ef : d.first ≡ where_none s.lows.len r.tick (first_of s.span)) (et : d.last ≡ r.tick) (h : Reaches s r.tick) where
  pub room_after : (lows' highs' : Hull) → lows'.len ≤ s.lows.len + 1 → highs'.len ≤ s.highs.len + 1 → 0 < lows'.len
      → (lows'.len ≤ d.last + 1 - d.first) × (highs'.len ≤ d.last + 1 - d.first) × (highs'.len ≤ 256 * lows'.len)
  room_after lows' highs' a b p = by s.lows.len refl where
    by : (n : ℕ) → s.lows.len ≡ n → (lows'.len ≤ d.last + 1 - d.first) × (highs'.len ≤ d.last + 1 - d.first) × (highs'.len ≤ 256 * lows'.len)
    by zero e = let z = ef ∙ no_points s.lows.len r.tick (first_of s.span) e in let o = s.room in (omega (arith, z, o), omega (arith, z, o), omega (arith, o))
    by (suc n) e = let i : 0 < s.lows.len = omega arith in let z = ef ∙ some_points s.lows.len r.tick (first_of s.span) i in let k = h i in let o = s.room in let q = window s.span in let w = highs'.sound in
        (omega (arith, z, k, o, q), omega (arith, z, k, o, q), omega (arith, w))
