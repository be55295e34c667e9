-- After a run the state's first and last tick are the run's, so what it picks is lawful for them.
use Rattle.std.specs.Prelude.{◌≡◌, ℕ, zero, suc, ◌<◌, true, List, [], ◌∷◌, Some, None, Option, refl}
use Rattle.std.proofs.Common.{sym, ap, ap₂, ◌∙◌, arith}
use Rattle.std.proofs.lemmas.Bool.{and_from}
use Rattle.family.specs.Readings.{Reading, ◌▹◌, last_tick}
use Rattle.family.specs.Laws.{Ran, ran_none, ran_more}
use Rattle.family.proofs.Served.{last_tick_more}
use Rattle.line.specs.declared.line.Line.{Line}
use Rattle.line.specs.declared.pick.Pick.{Pick}
use Rattle.line.specs.Picks.{where_none, kinds_hold, pick_in, pick_words, pick_lawful, words_lawful}
use Rattle.line.specs.LineMeaning.{line_meaning, line_pick}
use Rattle.line.specs.Choosing.{some_points, no_points}
use Rattle.line.specs.Ranges.{pick_held}
use Rattle.line.specs.Written.{read_again, kinds_again}
use Rattle.line.specs.Serving.{took_some}
use Rattle.line.specs.Backs.{pick_is_lawful}
use Rattle.line.specs.Spans.{first_of, last_of}

-- the tick of a run's first reading, if it has one
abbrev first_tick : List Reading → Option ℕ
first_tick [] = None
first_tick (r ∷ rs) = Some r.tick

first_more : (n f : ℕ) (rs : List Reading) (r : Reading) → where_none n None (Some f) ≡ first_tick rs → Some (where_none n r.tick f) ≡ first_tick (rs ▹ r)
first_more zero f [] r h = refl
first_more zero f (q ∷ rs) r h = grind arith
first_more (suc n) f [] r h = grind arith
first_more (suc n) f (q ∷ rs) r h = h

ran_first : {s : Line} {rs : List Reading} → Ran line_meaning s rs → where_none s.lows.len None (Some (first_of s.span)) ≡ first_tick rs
ran_first {s} (ran_none h) = no_points s.lows.len None (Some (first_of s.span)) h.lows
ran_first (ran_more {s} {t} {rs} {r} x h f y) =
    some_points t.lows.len None (Some (first_of t.span)) (took_some s t r y) ∙ ap Some y.first ∙ first_more s.lows.len (first_of s.span) rs r (ran_first x)

ran_last : {s : Line} {rs : List Reading} → Ran line_meaning s rs → where_none s.lows.len None (Some (last_of s.span)) ≡ last_tick rs
ran_last {s} (ran_none h) = no_points s.lows.len None (Some (last_of s.span)) h.lows
ran_last (ran_more {s} {t} {rs} {r} x h f y) =
    some_points t.lows.len None (Some (last_of t.span)) (took_some s t r y) ∙ ap Some y.last ∙ sym (last_tick_more rs r)

some_is : (n a b : ℕ) → ◌≡◌ {A = Option ℕ} (where_none n None (Some a)) (Some b) → (0 < n) × (a ≡ b)
some_is zero a b h = grind arith
some_is (suc n) a b h = (omega arith, grind arith)

pub lawful_after : (s : Line) (r : Reading) (rs : List Reading) (l : ℕ) → Ran line_meaning s (r ∷ rs) → last_tick (r ∷ rs) ≡ Some l → words_lawful (pick_words (line_pick s)) r.tick l ≡ true
lawful_after s r rs l x e =
    let f = some_is s.lows.len (first_of s.span) r.tick (ran_first x) in
    let g = some_is s.lows.len (last_of s.span) l (ran_last x ∙ e) in
    let p = line_pick s in
    and_from (kinds_hold (pick_words p)) (pick_lawful (pick_in (pick_words p)) r.tick l) (kinds_again p (pick_held s))
    (ap (λ (q : Pick). pick_lawful q r.tick l) (read_again p (pick_held s)) ∙ ap₂ (λ (a b : ℕ). pick_lawful p a b) (sym f.1) (sym g.1) ∙ pick_is_lawful s f.0)
