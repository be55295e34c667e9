-- The slope that a sound state picks: in lowest terms, its over above 0, and small.
use Rattle.std.specs.Prelude.{ℕ, pos, ◌<ℤ◌, unsigned_abs}
use Rattle.std.proofs.Math.Logic.{∥∥₁_elim}
use Rattle.std.proofs.Common.{arith}
use Rattle.hull.specs.declared.hull.Hull.{Hull}
use Rattle.slope.specs.Divisor.{gcd_of}
use Rattle.slope.specs.Slopes.{Slope, nearest_of, slope_of, Reduced, Small, Nearest}
use Rattle.line.specs.Sound.{Sound}
use Rattle.slope.proofs.Ring.{lins}
use Rattle.hull.proofs.Once.{lt_once}
use Rattle.slope.proofs.NearZero.{nearest_is, reduced_nearest}
use Rattle.slope.proofs.Divided.{reduced_is}
use Rattle.slope.proofs.Small.{small_nearest, small_reduced}

module _ (lows highs : Hull) (least fall : Slope) (first last : ℕ) (s : Sound lows highs least fall first last) where
  near : Nearest least fall (nearest_of least fall)
  near = let m = s.some in nearest_is least fall s.bounds.low s.bounds.high (omega (arith, lins, m))

  pub reduced : Reduced (nearest_of least fall) (slope_of least fall) (gcd_of (unsigned_abs (nearest_of least fall).0) (unsigned_abs (nearest_of least fall).1))
  reduced = reduced_is _ near.over

  pub slope_nearest : Nearest least fall (slope_of least fall)
  slope_nearest = reduced_nearest least fall (nearest_of least fall) (slope_of least fall) _ near reduced

  pub slope_small : Small (slope_of least fall)
  slope_small = small_reduced (nearest_of least fall) (slope_of least fall) _ reduced (small_nearest least fall s.least_small s.fall_small)

pub slope_positive : (lows highs : Hull) (least fall : Slope) (first last : ℕ) → ∥ Sound lows highs least fall first last ∥₁ → pos 0 <ℤ (slope_of least fall).1
slope_positive lows highs least fall first last h = ∥∥₁_elim h (lt_once _ _) (λ s. (slope_nearest lows highs least fall first last s).over)

pub nearest_positive : (lows highs : Hull) (least fall : Slope) (first last : ℕ) → ∥ Sound lows highs least fall first last ∥₁ → pos 0 <ℤ (nearest_of least fall).1
nearest_positive lows highs least fall first last h = ∥∥₁_elim h (lt_once _ _) (λ s. (near lows highs least fall first last s).over)
