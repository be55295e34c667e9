-- The numbers of a pick are in the ranges of their words.
use Rattle.std.specs.Prelude.{◌≡◌, ℕ, zero, suc, ◌+◌, ◌-◌, ◌/◌, ◌%◌, ◌<◌, ◌≤◌, true, ℤ, pos, ◌-ℤ◌, ◌*ℤ◌, neg_ℤ, ◌≤ℤ◌, FitsSigned, unsigned_abs, refl}
use Rattle.std.proofs.Common.{sym, subst, ap, ◌∙◌, arith, to_z, of_z}
use Rattle.std.proofs.Math.Logic.{∥∥₁_elim}
use Rattle.std.proofs.Math.Bridge.{le_prop}
use Rattle.std.specs.Int.{w32, w64, w128}
use Rattle.std.proofs.lemmas.Int.{ints, to_z-of_z}
use Rattle.std.proofs.lemmas.Bool.{and_from}
use Rattle.words.specs.declared.kind.Kind.TheVariants.{Pivot, Height, Rise, Over}
use Rattle.words.proofs.RoundTrip.{range_test}
use Rattle.hull.specs.declared.point.Point.{Point}
use Rattle.line.specs.declared.line.Line.{Line}
use Rattle.line.specs.declared.pick.Pick.{Pick}
use Rattle.slope.specs.Slopes.{Slope}
use Rattle.line.specs.Picks.{level_pick, pick_through, numbers_hold}
use Rattle.line.specs.LineMeaning.{line_pick}
use Rattle.hull.proofs.Once.{le_once}
use Rattle.line.specs.Choosing.{anchored, pick_anchored, no_points, picked_so}

pub record Ranged (p : Pick) : Type 0 where
  pub pivot : p.pivot ≤ 268435455
  pub height_low : neg_ℤ (pos 1000000) ≤ℤ p.height
  pub height_high : p.height ≤ℤ pos 1000000
  pub rise_low : neg_ℤ (pos 2000000) ≤ℤ p.rise
  pub rise_high : p.rise ≤ℤ pos 2000000
  pub over_low : 1 ≤ p.over
  pub over_high : p.over ≤ 255

pub anchored_ranged : (s : Line) → 0 < s.lows.len → Ranged (anchored s)
anchored_ranged s n = record {
  pivot = ∥∥₁_elim s.sound le_prop (λ x. let u = (picked_so s n x).upto in let h = s.range in omega (arith, u, h));
  height_low = ∥∥₁_elim s.sound (le_once _ _) (λ x. (picked_so s n x).height_low);
  height_high = ∥∥₁_elim s.sound (le_once _ _) (λ x. (picked_so s n x).height_high);
  rise_low = ∥∥₁_elim s.sound (le_once _ _) (λ x. (picked_so s n x).rise_low);
  rise_high = ∥∥₁_elim s.sound (le_once _ _) (λ x. (picked_so s n x).rise_high);
  over_low = ∥∥₁_elim s.sound le_prop (λ x. let o = (picked_so s n x).serves.over in omega (arith, ints, o));
  over_high = ∥∥₁_elim s.sound le_prop (λ x. (picked_so s n x).over_small);
}

ranged_by : (s : Line) (n : ℕ) → s.lows.len ≡ n → Ranged (line_pick s)
ranged_by s zero e = subst Ranged (sym (no_points s.lows.len level_pick (anchored s) e)) (record {
  pivot = omega arith;
  height_low = omega (arith, ints);
  height_high = omega (arith, ints);
  rise_low = omega (arith, ints);
  rise_high = omega (arith, ints);
  over_low = omega arith;
  over_high = omega arith;
})
ranged_by s (suc k) e = let n : 0 < s.lows.len = omega arith in subst Ranged (sym (pick_anchored s n)) (anchored_ranged s n)

pub ranged : (s : Line) → Ranged (line_pick s)
ranged s = ranged_by s s.lows.len refl

-- picks of the same numbers
pub pick_same : {v v' o o' : ℕ} {h h' r r' : ℤ} → v ≡ v' → h ≡ h' → r ≡ r' → o ≡ o' →
    ◌≡◌ {A = Pick} (record { pivot = v; height = h; rise = r; over = o }) (record { pivot = v'; height = h'; rise = r'; over = o' })
pick_same a b c d = cc

-- the numbers that the code makes, cut to their types and back
module _ (first : ℕ) (r : Slope) (p : Point) (h : ℤ) (fh : FitsSigned w32 p.height) (f0 : FitsSigned w64 r.0) (f1 : FitsSigned w64 r.1) (k : Ranged (pick_through first r p))
    (eh : h ≡ to_z w32 (of_z w32 p.height) -ℤ to_z w64 (of_z w64 r.0) *ℤ pos ((p.tick - first) / unsigned_abs (to_z w64 (of_z w64 r.1)))) where
  same_over : unsigned_abs (to_z w64 (of_z w64 r.1)) ≡ unsigned_abs r.1
  same_over = ap unsigned_abs (to_z-of_z w64 r.1 f1)

  same_height : h ≡ (pick_through first r p).height
  same_height = let o = same_over in let x = to_z-of_z w32 p.height fh in let y = to_z-of_z w64 r.0 f0 in cc

  pub coded_height : FitsSigned w32 (to_z w128 (of_z w128 h))
  coded_height = let e = same_height in let hl = k.height_low in let hh = k.height_high in omega (arith, ints, e, hl, hh)

  pub coded : (v : ℕ) → v ≡ first + (p.tick - first) % unsigned_abs (to_z w64 (of_z w64 r.1))
      → ◌≡◌ {A = Pick} (record { pivot = v; height = to_z w32 (of_z w32 (to_z w128 (of_z w128 h))); rise = to_z w32 (of_z w32 (to_z w64 (of_z w64 r.0))); over = unsigned_abs (to_z w64 (of_z w64 r.1)) }) (pick_through first r p)
  coded v ev =
      let e = same_height in
      let hl = k.height_low in
      let hh = k.height_high in
      let rl = k.rise_low in
      let rh = k.rise_high in
      let a : to_z w32 (of_z w32 (to_z w128 (of_z w128 h))) ≡ h = omega (arith, ints, e, hl, hh) in
      let b : to_z w32 (of_z w32 (to_z w64 (of_z w64 r.0))) ≡ r.0 = omega (arith, ints, rl, rh) in
      pick_same (ev ∙ ap (λ (n : ℕ). first + (p.tick - first) % n) same_over) (a ∙ e) b same_over

-- each number is one that its word holds
pub held_numbers : (p : Pick) → Ranged p → numbers_hold p ≡ true
held_numbers p k =
    and_from _ _ (range_test Pivot (pos p.pivot) (omega (arith, ints)) (let h = k.pivot in omega (arith, ints, h)))
    (and_from _ _ (range_test Height p.height k.height_low k.height_high)
    (and_from _ _ (range_test Rise p.rise k.rise_low k.rise_high)
    (range_test Over (pos p.over) (let h = k.over_low in omega (arith, ints, h)) (let h = k.over_high in omega (arith, ints, h)))))

pub pick_held : (s : Line) → numbers_hold (line_pick s) ≡ true
pick_held s = held_numbers (line_pick s) (ranged s)
