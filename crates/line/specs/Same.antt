-- States that allow the same choices pick the same line: its slope, its height and its pivot are told by what is allowed.
use Rattle.std.specs.Prelude.{◌≡◌, ℕ, zero, suc, ◌*◌, ◌<◌, ◌⊎◌, List, ℤ, pos, negsuc, ◌+ℤ◌, ◌*ℤ◌, neg_ℤ, ◌≤ℤ◌, Some, None, Option, unsigned_abs, refl}
use Rattle.std.proofs.Common.{sym, ap, ap₂, subst, ◌∙◌, arith, inl, inr, ⊎_elim}
use Rattle.std.specs.Int.{◌∣◌}
use Rattle.std.proofs.Math.Nat.{dvd_antisymm, dvd-mul_right}
use Rattle.std.proofs.Math.Nat as N
use Rattle.std.proofs.lemmas.Int.{ints}
use Rattle.family.specs.Laws.{Alike}
use Rattle.hull.specs.declared.point.Point.{Point}
use Rattle.line.specs.declared.line.Line.{Line}
use Rattle.line.specs.declared.pick.Pick.{Pick}
use Rattle.hull.specs.Points.{NotBelow}
use Rattle.hull.specs.Hulls.{ends}
use Rattle.hull.specs.Lines.{Serves}
use Rattle.line.specs.Choices.{Choice}
use Rattle.line.specs.Picks.{where_none, level_pick, lift_of}
use Rattle.line.specs.LineMeaning.{line_meaning, line_allows, line_pick, line_of, Chosen}
use Rattle.slope.proofs.Ring.{ring, lins, le_of_mul}
use Rattle.slope.proofs.Euclid.{divides}
use Rattle.hull.proofs.Ranges.{all_both}
use Rattle.line.specs.Choosing.{anchored, no_points, chosen}
use Rattle.line.specs.Ranges.{pick_same}
use Rattle.line.specs.Spans.{first_of, last_of, window}

-- two equal fractions in lowest terms have the same over, and the same rise
over_divides : (a b c d : ℕ) → ((e : ℕ) → e ∣ a → e ∣ b → e ≡ 1) → a * d ≡ c * b → b ∣ d
over_divides a b c d k e = divides a b d k (subst (λ (n : ℕ). b ∣ n) (N.mul_comm b c ∙ sym e) (dvd-mul_right b c))

pub same_terms : (a b c d : ℕ) → 0 < b → ((e : ℕ) → e ∣ a → e ∣ b → e ≡ 1) → ((e : ℕ) → e ∣ c → e ∣ d → e ≡ 1) → a * d ≡ c * b → (b ≡ d) × (a ≡ c)
same_terms a b c d hb k l e =
    let o : b ≡ d = dvd_antisymm (over_divides a b c d k e) (over_divides c d a b l (sym e)) in
    (o, N.eq_of_mul-eq-mul_right b hb a c (ap (λ (n : ℕ). a * n) o ∙ e))

-- the line halfway between two lines of opposite slopes is level, and serves what both serve
halfway : (ls ms : List Point) (r u k l : ℤ) → Serves ls ms r u k → Serves ls ms (neg_ℤ r) u l → Serves ls ms (pos 0) (u +ℤ u) (k +ℤ l)
halfway ls ms r u k l x y = record {
  over = (let h = x.over in omega (arith, lins, h));
  lows = all_both (λ p a b. half_way r u k l p a b) ls x.lows y.lows;
  highs = all_both (λ p a b. half_low r u k l p a b) ms x.highs y.highs;
} where
  half_way : (r u k l : ℤ) (p : Point) → NotBelow r u k p → NotBelow (neg_ℤ r) u l p → NotBelow (pos 0) (u +ℤ u) (k +ℤ l) p
  half_way r u k l p a b = let c = simp ring at b in simp ring (omega (arith, lins, a, c))

  half_low : (r u k l : ℤ) (p : Point) → NotBelow (neg_ℤ r) u (neg_ℤ k) p → NotBelow (neg_ℤ (neg_ℤ r)) u (neg_ℤ l) p → NotBelow (neg_ℤ (pos 0)) (u +ℤ u) (neg_ℤ (k +ℤ l)) p
  half_low r u k l p a b = let c = simp ring at a in let d = simp ring at b in simp ring (omega (arith, lins, c, d))

sizes : (r t : ℤ) → unsigned_abs r ≡ unsigned_abs t → (r ≡ t) ⊎ (t ≡ neg_ℤ r)
sizes (pos a) (pos b) h = inl (ap pos h)
sizes (pos a) (negsuc b) h = inr (omega (arith, ints, h))
sizes (negsuc a) (pos b) h = inr (omega (arith, ints, h))
sizes (negsuc a) (negsuc b) h = inl (omega (arith, ints, h))

no_size : (a b : ℕ) → 0 < b → (pos a *ℤ (pos b +ℤ pos b)) ≤ℤ (pos 0 *ℤ pos b) → a ≡ 0
no_size zero b h g = refl
no_size (suc a) b h g = absurd (let k = simp ring at g in omega (arith, ints, k))

size_zero : (r : ℤ) → unsigned_abs r ≡ 0 → r ≡ pos 0
size_zero (pos n) h = ap pos h
size_zero (negsuc n) h = absurd (omega (arith, h))

-- of two lines of opposite slopes that are allowed, one picked is level
opposite : (s : Line) (p : Pick) → Chosen s p → (k : ℤ) → 0 < s.lows.len → Serves (ends s.lows) (ends s.highs) (neg_ℤ p.rise) (pos p.over) k → p.rise ≡ pos 0
opposite s p c k n y =
    let m = halfway (ends s.lows) (ends s.highs) p.rise (pos p.over) (lift_of p) k c.allowed.1 y in
    let d : Choice = record { start = first_of s.span; rise = pos 0; over = pos p.over +ℤ pos p.over; lift = lift_of p +ℤ k; above = m.over } in
    let o = window s.span in
    let h = c.above in
    size_zero p.rise (no_size (unsigned_abs p.rise) p.over (omega (arith, ints, h)) (c.nearest d (λ z. (omega arith, omega (arith, o)), m)))

same_slope : (s : Line) (p : Pick) (c : Chosen s p) (n : 0 < s.lows.len) (r k : ℤ) → unsigned_abs p.rise ≡ unsigned_abs r → Serves (ends s.lows) (ends s.highs) r (pos p.over) k → p.rise ≡ r
same_slope s p c n r k e y = ⊎_elim (λ h. h) (λ h. let z = opposite s p c k n (subst (λ (x : ℤ). Serves (ends s.lows) (ends s.highs) x (pos p.over) k) h y) in z ∙ sym (h ∙ ap neg_ℤ z)) (sizes p.rise r e)

-- at the pivot the height is whole
whole_at : (p : Pick) → p.rise *ℤ pos p.pivot +ℤ lift_of p ≡ pos p.over *ℤ p.height
whole_at p = omega (arith, lins)

module _ (s t : Line) (n : 0 < s.lows.len) (m : 0 < t.lows.len) (h : Alike line_meaning s t) where
  abbrev p : Pick
  p = line_pick s

  abbrev q : Pick
  q = line_pick t

  abbrev a : Choice
  a = line_of p (first_of s.span) (chosen s n).above

  abbrev b : Choice
  b = line_of q (first_of t.span) (chosen t m).above

  a_there : line_allows t a
  a_there = (h.allow a).0 (chosen s n).allowed

  b_here : line_allows s b
  b_here = (h.allow b).1 (chosen t m).allowed

  firsts : first_of s.span ≡ first_of t.span
  firsts = let x = (a_there.0 m).0 in let y = (b_here.0 n).0 in omega (arith, x, y)

  terms : (p.over ≡ q.over) × (unsigned_abs p.rise ≡ unsigned_abs q.rise)
  terms =
      let x = (chosen s n).nearest b b_here in
      let y = (chosen t m).nearest a a_there in
      let o = (chosen s n).above in
      same_terms (unsigned_abs p.rise) p.over (unsigned_abs q.rise) q.over (omega (arith, ints, o)) (chosen s n).coprime (chosen t m).coprime (omega (arith, ints, x, y))

  rises : p.rise ≡ q.rise
  rises = same_slope s p (chosen s n) n q.rise (lift_of q) terms.1 (subst (λ (o : ℕ). Serves (ends s.lows) (ends s.highs) q.rise (pos o) (lift_of q)) (sym terms.0) b_here.1)

  lifts : lift_of p ≡ lift_of q
  lifts =
      let x = (chosen s n).lowest b b_here (ap₂ (λ (r : ℤ) (o : ℕ). r *ℤ pos o) (sym rises) terms.0) in
      let y = (chosen t m).lowest a a_there (ap₂ (λ (r : ℤ) (o : ℕ). r *ℤ pos o) rises (sym terms.0)) in
      let u = le_of_mul (pos q.over) (lift_of p) (lift_of q) (chosen t m).above (subst (λ (o : ℕ). (pos q.over *ℤ lift_of p) ≤ℤ (pos o *ℤ lift_of q)) terms.0 x) in
      let v = le_of_mul (pos p.over) (lift_of q) (lift_of p) (chosen s n).above (subst (λ (o : ℕ). (pos p.over *ℤ lift_of q) ≤ℤ (pos o *ℤ lift_of p)) (sym terms.0) y) in
      omega (arith, lins, u, v)

  -- each line is whole at the other's pivot
  whole_there : (f g : Pick) → f.rise ≡ g.rise → f.over ≡ g.over → lift_of f ≡ lift_of g → f.rise *ℤ pos g.pivot +ℤ lift_of f ≡ pos f.over *ℤ g.height
  whole_there f g er eo el =
      ap₂ (λ (r k : ℤ). r *ℤ pos g.pivot +ℤ k) er el ∙ whole_at g ∙ ap (λ (o : ℕ). pos o *ℤ g.height) (sym eo)

  pivots : p.pivot ≡ q.pivot
  pivots =
      let e = firsts in
      let f = (chosen s n).from in
      let g = (chosen t m).from in
      let x = (chosen s n).soonest q.pivot q.height (omega (arith, e, g)) (whole_there p q rises terms.0 lifts) in
      let y = (chosen t m).soonest p.pivot p.height (omega (arith, e, f)) (whole_there q p (sym rises) (sym terms.0) (sym lifts)) in
      omega (arith, x, y)

  heights : p.height ≡ q.height
  heights =
      let e : pos p.over *ℤ p.height ≡ pos p.over *ℤ q.height = sym (whole_at p) ∙ ap (λ (v : ℕ). p.rise *ℤ pos v +ℤ lift_of p) pivots ∙ whole_there p q rises terms.0 lifts in
      let u = le_of_mul (pos p.over) p.height q.height (chosen s n).above (omega (arith, lins, e)) in
      let v = le_of_mul (pos p.over) q.height p.height (chosen s n).above (omega (arith, lins, e)) in
      omega (arith, lins, u, v)

  same_taken : line_pick s ≡ line_pick t
  same_taken = pick_same pivots heights rises terms.0

-- two states of which one has taken nothing and the other a reading have not the same last tick
both_bare : (i j : ℕ) (a b : ℕ) → ◌≡◌ {A = Option ℕ} (where_none i None (Some a)) (where_none j None (Some b)) → i ≡ 0 → j ≡ 0
both_bare zero zero a b h e = refl
both_bare zero (suc j) a b h e = grind arith
both_bare (suc i) j a b h e = absurd (omega arith)

pub same_pick : (s t : Line) → Alike line_meaning s t → line_pick s ≡ line_pick t
same_pick s t h = by s.lows.len t.lows.len refl refl where
  by : (i j : ℕ) → s.lows.len ≡ i → t.lows.len ≡ j → line_pick s ≡ line_pick t
  by zero j e f =
      no_points s.lows.len level_pick (anchored s) e
      ∙ sym (no_points t.lows.len level_pick (anchored t) (both_bare s.lows.len t.lows.len (last_of s.span) (last_of t.span) h.last e))
  by (suc i) zero e f = absurd (let g = both_bare t.lows.len s.lows.len (last_of t.span) (last_of s.span) (sym h.last) f in omega (arith, e, g))
  by (suc i) (suc j) e f = same_taken s t (omega arith) (omega arith) h
