-- The words of a pick: PIVOT, HEIGHT, RISE, OVER. They say a line by a tick at which its height is whole, that height, and
-- its slope in lowest terms.
use Rattle.std.specs.Prelude.{ℕ, zero, suc, ◌+◌, ◌-◌, ◌/◌, ◌%◌, Bool, ◌&&◌, List, [], ◌∷◌, ℤ, pos, ◌-ℤ◌, ◌*ℤ◌, ◌==◌, nat_le, nat_lt, slice_index, unsigned_abs}
use Rattle.words.specs.declared.kind.Kind.TheVariants.{Level, Pivot, Height, Rise, Over}
use Rattle.words.specs.Kinds.{in_range}
use Rattle.words.specs.Words.{is_a, number_in, word_of, payload}
use Rattle.hull.specs.declared.point.Point.{Point}
use Rattle.hull.specs.declared.hull.Hull.{Hull}
use Rattle.line.specs.declared.pick.Pick.{Pick}
use Rattle.slope.specs.Slopes.{Slope, slope_of}
use Rattle.hull.specs.Hulls.{ends, topmost}
use Rattle.slope.specs.Divisor.{gcd_of}
use Rattle.slope.specs.Values.{value_at}

-- the words of a pick, and the pick that four words say
abbrev pub pick_words : Pick → List ℕ
pick_words p = word_of Pivot (pos p.pivot) ∷ word_of Height p.height ∷ word_of Rise p.rise ∷ word_of Over (pos p.over) ∷ []

abbrev pub pick_in : List ℕ → Pick
pick_in ws = record { pivot = payload (slice_index ws 0); height = number_in Height (slice_index ws 1); rise = number_in Rise (slice_index ws 2); over = payload (slice_index ws 3) }

-- each number is one that its word holds
abbrev pub numbers_hold : Pick → Bool
numbers_hold p = in_range Pivot (pos p.pivot) && (in_range Height p.height && (in_range Rise p.rise && in_range Over (pos p.over)))

-- each word is of its kind and in range
abbrev pub kinds_hold : List ℕ → Bool
kinds_hold ws = is_a Pivot (slice_index ws 0) && (is_a Height (slice_index ws 1) && (is_a Rise (slice_index ws 2) && is_a Over (slice_index ws 3)))

-- the line's height at a tick, rounded down
abbrev pub height_at : Pick → ℕ → ℤ
height_at p t = value_at p.pivot p.height p.rise p.over t

-- rise and over have no common divisor above 1
abbrev pub lowest_terms : Pick → Bool
lowest_terms p = gcd_of (unsigned_abs p.rise) p.over == 1

-- the pivot is at most the last tick, and from 0 to over − 1 past the first
abbrev pub pivot_placed : Pick → ℕ → ℕ → Bool
pivot_placed p first last = nat_le first p.pivot && (nat_le p.pivot last && nat_lt p.pivot (first + p.over))

-- the height at a tick, rounded down, is within ±1,000,000
abbrev pub in_reach : Pick → ℕ → Bool
in_reach p t = in_range Level (height_at p t)

abbrev pub pick_lawful : Pick → ℕ → ℕ → Bool
pick_lawful p first last = lowest_terms p && (pivot_placed p first last && (in_reach p first && in_reach p last))

-- words are lawful for a first and a last tick
abbrev pub words_lawful : List ℕ → ℕ → ℕ → Bool
words_lawful ws first last = kinds_hold ws && pick_lawful (pick_in ws) first last

-- the value at a tick: the LEVEL word of the height there
abbrev pub value_words : List ℕ → ℕ → List ℕ
value_words ws t = word_of Level (height_at (pick_in ws) t) ∷ []

-- the pick of the line of slope s through p, where the run begins at first: the pivot is the first tick from there on at
-- which the line is as far from p as some number of overs
abbrev pub pick_through : ℕ → Slope → Point → Pick
pick_through first s p = record {
  pivot = first + (p.tick - first) % unsigned_abs s.1;
  height = p.height -ℤ s.0 *ℤ pos ((p.tick - first) / unsigned_abs s.1);
  rise = s.0;
  over = unsigned_abs s.1;
}

-- of n points on a hull: a where there are none, else b
abbrev pub where_none : {A : Type 0} → ℕ → A → A → A
where_none zero a b = a
where_none (suc n) a b = b

-- slope 0, height 0, pivot 0
abbrev pub level_pick : Pick
level_pick = record { pivot = 0; height = pos 0; rise = pos 0; over = 1 }

-- what is picked with these low ends, these bounds of the slope and this first tick: of the allowed slope nearest 0 the line
-- through the low end that is highest against it
abbrev pub pick_of : Hull → Slope → Slope → ℕ → Pick
pick_of lows least fall first = where_none lows.len level_pick (pick_through first (slope_of least fall) (topmost (slope_of least fall) (ends lows)))

-- over times the height at tick 0
abbrev pub lift_of : Pick → ℤ
lift_of p = pos p.over *ℤ p.height -ℤ p.rise *ℤ pos p.pivot
