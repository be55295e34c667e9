-- Lines and readings: a choice serves a reading where its line is not below the band's low end nor above its high end, and
-- what a state allows with a reading taken.
use Rattle.std.specs.Prelude.{◌≡◌, ℕ, zero, suc, ◌+◌, ◌<◌, ◌≤◌, List, [], ◌∷◌, ◌++◌, reverse, length, ℤ, pos, ◌+ℤ◌, ◌*ℤ◌, neg_ℤ, ◌≤ℤ◌, ◌≢◌, refl}
use Rattle.std.proofs.Common.{sym, subst, ap, ◌∙◌, arith}
use Rattle.std.proofs.Math.Logic.{∥∥₁_elim}
use Rattle.family.specs.Readings.{Reading}
use Rattle.family.specs.Bands.{high_of}
use Rattle.hull.specs.declared.point.Point.{Point}
use Rattle.line.specs.declared.line.Line.{Line}
use Rattle.hull.specs.Hulls.{ends, Falling, popped, pushed}
use Rattle.hull.specs.Points.{NotBelow}
use Rattle.hull.specs.Lines.{Serves}
use Rattle.line.specs.Sound.{Sound}
use Rattle.line.specs.Choices.{Choice, line_serves, low_end, high_end}
use Rattle.line.specs.LineMeaning.{line_allows, Took}
use Rattle.slope.proofs.Ring.{ring, lins}
use Rattle.hull.proofs.Once.{serves_once}
use Rattle.hull.proofs.Pushes.{served, kept}
use Rattle.line.specs.Takes.{no_ends}
use Rattle.line.specs.Choosing.{some_points, no_points}
use Rattle.line.specs.Spans.{first_of, last_of, window}

-- the line of a choice at a reading
pub at_low : (c : Choice) (r : Reading) → line_serves c r → NotBelow c.rise c.over c.lift (low_end r)
at_low c r h = h.2

turned_over : (r u k h t : ℤ) → (r *ℤ t +ℤ k) ≤ℤ (u *ℤ h) → (u *ℤ neg_ℤ h) ≤ℤ (neg_ℤ r *ℤ t +ℤ neg_ℤ k)
turned_over r u k h t g = simp ring (omega (arith, lins, g))

turned_back : (r u k h t : ℤ) → (u *ℤ neg_ℤ h) ≤ℤ (neg_ℤ r *ℤ t +ℤ neg_ℤ k) → (r *ℤ t +ℤ k) ≤ℤ (u *ℤ h)
turned_back r u k h t g = let f = simp ring at g in omega (arith, lins, f)

pub at_high : (c : Choice) (r : Reading) → line_serves c r → NotBelow (neg_ℤ c.rise) c.over (neg_ℤ c.lift) (high_end r)
at_high c r h = turned_over c.rise c.over c.lift (high_of r.row) (pos r.tick) h.3

pub at_both : (c : Choice) (r : Reading) → c.start ≤ r.tick → r.tick ≤ c.start + 255 → NotBelow c.rise c.over c.lift (low_end r) → NotBelow (neg_ℤ c.rise) c.over (neg_ℤ c.lift) (high_end r) → line_serves c r
at_both c r h g a b = (h, g, a, turned_back c.rise c.over c.lift (high_of r.row) (pos r.tick) b)

-- the line serves the reading too
pub with_reading : (c : Choice) (r : Reading) (ls ms : List Point) → line_serves c r → Serves ls ms c.rise c.over c.lift → Serves (low_end r ∷ ls) (high_end r ∷ ms) c.rise c.over c.lift
with_reading c r ls ms h s = record { over = s.over; lows = (at_low c r h, s.lows); highs = (at_high c r h, s.highs) }

-- the points of a state are earlier than a reading that comes later
pub falls_low : (s : Line) (p : Point) → (0 < s.lows.len → last_of s.span < p.tick) → Sound s.lows s.highs s.bounds.least s.bounds.fall (first_of s.span) (last_of s.span) → Falling p (reverse (ends s.lows))
falls_low s p h x = by s.lows.len refl where
  by : (n : ℕ) → s.lows.len ≡ n → Falling p (reverse (ends s.lows))
  by zero e = subst (λ (l : List Point). Falling p (reverse l)) (sym (no_ends s.lows e)) tt
  by (suc n) e = x.lows_fall p (h (omega arith))

pub falls_high : (s : Line) (p : Point) → (0 < s.lows.len → last_of s.span < p.tick) → Sound s.lows s.highs s.bounds.least s.bounds.fall (first_of s.span) (last_of s.span) → Falling p (reverse (ends s.highs))
falls_high s p h x = by s.lows.len refl where
  by : (n : ℕ) → s.lows.len ≡ n → Falling p (reverse (ends s.highs))
  by zero e = subst (λ (l : List Point). Falling p (reverse l)) (sym (no_ends s.highs (let k = s.room in omega (arith, k)))) tt
  by (suc n) e = x.highs_fall p (h (omega arith))

no_push : (xs : List Point) (p : Point) → [] ≢ xs ++ (p ∷ [])
no_push [] p h = let e = ap length h in omega (arith, e)
no_push (x ∷ xs) p h = let e = ap length h in omega (arith, e)

-- what taking leaves
module _ (s t : Line) (r : Reading) (k : Took s r t) where
  -- a state that has taken a reading has a low end
  pub took_some : 0 < t.lows.len
  took_some = by t.lows.len refl where
    by : (n : ℕ) → t.lows.len ≡ n → 0 < t.lows.len
    by zero e = absurd (no_push (reverse (popped (reverse (ends s.lows)) (low_end r))) (low_end r) (sym (no_ends t.lows e) ∙ k.lows))
    by (suc n) e = omega arith

  lines_in : (r₀ u k₀ : ℤ) → Serves (low_end r ∷ ends s.lows) (high_end r ∷ ends s.highs) r₀ u k₀ → Serves (ends t.lows) (ends t.highs) r₀ u k₀
  lines_in r₀ u k₀ l =
      subst (λ (x : List Point). Serves x (ends t.highs) r₀ u k₀) (sym k.lows) (subst (λ (y : List Point). Serves (pushed (ends s.lows) (low_end r)) y r₀ u k₀) (sym k.highs)
      (kept (low_end r) (high_end r) (ends s.lows) (ends s.highs) r₀ u k₀ l))

  lines_out : (r₀ u k₀ : ℤ) → Serves (ends t.lows) (ends t.highs) r₀ u k₀ → Serves (low_end r ∷ ends s.lows) (high_end r ∷ ends s.highs) r₀ u k₀
  lines_out r₀ u k₀ l = ∥∥₁_elim s.sound (serves_once _ _ _ _ _) (λ x.
      served (low_end r) (high_end r) (ends s.lows) (ends s.highs) r₀ u k₀ (falls_low s (low_end r) k.later x) (falls_high s (high_end r) k.later x)
      (subst (λ (z : List Point). Serves z (pushed (ends s.highs) (high_end r)) r₀ u k₀) k.lows (subst (λ (y : List Point). Serves (ends t.lows) y r₀ u k₀) k.highs l)))

  -- the first tick is the state's, or the reading's where nothing was taken
  begun : s.lows.len ≡ 0 → first_of t.span ≡ r.tick
  begun e = k.first ∙ no_points s.lows.len r.tick (first_of s.span) e

  goes_on : 0 < s.lows.len → first_of t.span ≡ first_of s.span
  goes_on n = k.first ∙ some_points s.lows.len r.tick (first_of s.span) n

  pub first_upto : first_of t.span ≤ r.tick
  first_upto = by s.lows.len refl where
    by : (n : ℕ) → s.lows.len ≡ n → first_of t.span ≤ r.tick
    by zero e = let b = begun e in omega (arith, b)
    by (suc n) e = let p : 0 < s.lows.len = omega arith in let g = goes_on p in let l = k.later p in let h = window s.span in omega (arith, g, l, h)

  pub allows_keeps : (c : Choice) → line_allows s c → line_serves c r → line_allows t c
  allows_keeps c a h = (λ n. (starts s.lows.len refl, (let e = k.last in let w = h.1 in omega (arith, e, w))), lines_in c.rise c.over c.lift (with_reading c r _ _ h a.1)) where
    starts : (n : ℕ) → s.lows.len ≡ n → c.start ≤ first_of t.span
    starts zero e = let b = begun e in let w = h.0 in omega (arith, b, w)
    starts (suc n) e = let p : 0 < s.lows.len = omega arith in let g = goes_on p in let w = (a.0 p).0 in omega (arith, g, w)

  pub allows_from : (c : Choice) → line_allows t c → line_allows s c
  allows_from c a =
      let l = lines_out c.rise c.over c.lift a.1 in
      let w = a.0 took_some in
      (λ p. let g = goes_on p in let h = k.later p in let e = k.last in (omega (arith, w, g), omega (arith, w, e, h)), record { over = l.over; lows = l.lows.1; highs = l.highs.1 })

  pub allows_serves : (c : Choice) → line_allows t c → line_serves c r
  allows_serves c a =
      let l = lines_out c.rise c.over c.lift a.1 in
      let w = a.0 took_some in
      let e = k.last in
      let f = first_upto in
      at_both c r (omega (arith, w, f)) (omega (arith, w, e)) l.lows.0 l.highs.0
