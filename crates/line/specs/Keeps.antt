-- The line family keeps the laws.
use Rattle.std.specs.Prelude.{◌≡◌, ◌+◌, ◌≤◌, true, false, ℤ, pos, ◌+ℤ◌, ◌*ℤ◌, ◌≤ℤ◌, Some, None, ◌≢◌, int_lt, refl}
use Rattle.std.proofs.Common.{sym, ap, subst, ◌∙◌, arith}
use Rattle.std.proofs.lemmas.Int.{ints}
use Rattle.words.specs.declared.kind.Kind.TheVariants.{Level as LevelKind}
use Rattle.words.specs.Words.{number_in, word_of}
use Rattle.words.proofs.RoundTrip.{number_back}
use Rattle.family.specs.Readings.{Reading}
use Rattle.family.specs.Meaning.{form_refusal}
use Rattle.family.specs.Laws.{Laws}
use Rattle.family.specs.Bands.{low_of, high_of, Within}
use Rattle.family.proofs.Forms.{formed}
use Rattle.family.proofs.BandRange.{band_wrong_inside, low_range, high_range}
use Rattle.line.specs.declared.line.Line.{Line}
use Rattle.line.specs.declared.pick.Pick.{Pick}
use Rattle.line.specs.Choices.{Choice, line_serves}
use Rattle.line.specs.Picks.{height_at, pick_in, pick_words}
use Rattle.line.specs.LineMeaning.{line_meaning, line_picked, line_pick}
use Rattle.slope.proofs.Ring.{ring, lins, le_of_mul}
use Rattle.line.specs.Choosing.{no_points, some_points}
use Rattle.line.specs.Ranges.{pick_held}
use Rattle.line.specs.Written.{read_again}
use Rattle.line.specs.Serving.{allows_keeps, allows_from, allows_serves, took_some}
use Rattle.line.specs.Ran.{lawful_after}
use Rattle.line.specs.Same.{same_pick}
use Rattle.line.specs.Backs.{bare_serves, picks_allowed, height_between}
use Rattle.line.specs.Spans.{last_of}

-- the level line at the low end serves a reading whose low end is not above its high end
level_line : ℤ → Reading → Choice
level_line h r = record { start = r.tick; rise = pos 0; over = pos 1; lift = h; above = omega (arith, ints) }

level_serves : (r : Reading) → int_lt (high_of r.row) (low_of r.row) ≡ false → line_serves (level_line (low_of r.row) r) r
unfolding level_line
level_serves r u = by (low_of r.row) (high_of r.row) (pos r.tick) u where
  by : (lo hi t : ℤ) → int_lt hi lo ≡ false → (r.tick ≤ r.tick) × (r.tick ≤ r.tick + 255) × ((pos 1 *ℤ lo) ≤ℤ (pos 0 *ℤ t +ℤ lo)) × ((pos 0 *ℤ t +ℤ lo) ≤ℤ (pos 1 *ℤ hi))
  by lo hi t g = (omega arith, omega arith, simp ring (omega (arith, lins)), simp ring (omega (arith, lins, g)))

-- a line that serves a reading has its low end not above its high end
unserving : (c : Choice) (r : Reading) → line_serves c r → int_lt (high_of r.row) (low_of r.row) ≢ true
unserving c r w u =
    let a = w.2 in
    let b = w.3 in
    let l = le_of_mul c.over (low_of r.row) (high_of r.row) c.above (omega (arith, lins, a, b)) in
    omega (arith, lins, l, u)

reads : (s : Line) (r : Reading) → form_refusal line_meaning r ≡ None → line_serves (line_picked s) r → Within r.row (number_in LevelKind (word_of LevelKind (height_at (pick_in (pick_words (line_pick s))) r.tick)))
reads s r f w =
    let h = height_between s r w in
    let i = (low_range r.row (formed line_meaning r f).2).0 in
    let j = (high_range r.row (formed line_meaning r f).2).1 in
    let x = h.0 in
    let y = h.1 in
    let z = height_at (line_pick s) r.tick in
    let e = number_back LevelKind z (omega (arith, lins, i, x)) (omega (arith, lins, j, y)) in
    subst (λ (p : Pick). Within r.row (number_in LevelKind (word_of LevelKind (height_at p r.tick)))) (sym (read_again (line_pick s) (pick_held s)))
    (subst (λ (v : ℤ). (low_of r.row ≤ℤ v) × (v ≤ℤ high_of r.row)) (sym e) h)

pub line_laws : Laws line_meaning
line_laws = record {
  row_narrow = omega arith;
  pick_narrow = omega arith;
  value_narrow = omega arith;
  picks = picks_allowed;
  restart_all = λ s c h. (λ n. absurd (let e = h.lows in omega (arith, e)), bare_serves s h.lows c.rise c.over c.lift c.above);
  restart_last = λ s h. no_points s.lows.len None (Some (last_of s.span)) h.lows;
  take_keeps = λ s t r c f k a b. allows_keeps s t r k c a b;
  take_from = λ s t r c f k a. allows_from s t r k c a;
  take_serves = λ s t r c f k a. allows_serves s t r k c a;
  take_last = λ s t r k. some_points t.lows.len None (Some (last_of t.span)) (took_some s t r k) ∙ ap Some k.last;
  wrong_inside = λ r i w e. band_wrong_inside r.row i e;
  some_serves = λ r f u. (level_line (low_of r.row) r, level_serves r u);
  none_serves = λ r c f u w. unserving c r w u;
  words_length = λ s h. refl;
  value_length = λ ws f l t p v n w a b. refl;
  words_alike = λ s t rs qs x y h. ap pick_words (same_pick s t h);
  words_lawful = λ s r rs l p x e. lawful_after s r rs l x e;
  reads_back = λ s r p v f w. reads s r f w;
}
