use Rattle.std.proofs.Common.{◌<◌, List, [], ◌∷◌, length, ℤ, pos, ◌<ℤ◌, arith}
use Rattle.std.proofs.ByRecursion.{All-weaker}
use Rattle.hull.specs.declared.point.Point.{Point}
use Rattle.hull.specs.Points.{reaching}
use Rattle.hull.specs.Lines.{Serves, Slopes}
use Rattle.hull.proofs.Steepest.{steepest_out, steepest_in}
use Rattle.hull.proofs.Fits.{over_out, bounds_more, line_slopes, slopes_line}
use Rattle.hull.proofs.Pushes.{push_in, push_out}
use Rattle.hull.proofs.Anchors.{anchor_serves, anchor_lowest}
use Rattle.hull.proofs.Highest.{topmost_first}
use Rattle.hull.proofs.law.laws.Goals as goal

some_line : (ls ms : List Point) (r u : ℤ) → 0 < length ls → pos 0 <ℤ u → Slopes ls ms r u → (k : ℤ) × Serves ls ms r u k
some_line [] ms r u h hu s = absurd (omega arith)
some_line (a ∷ ls) ms r u h hu s = slopes_line a ls ms r u hu s

pub returns : goal.returns
returns c = record {
  loses = λ ps p f r u k hu. (push_out r u k ps p hu f, push_in _ ps p);
  bound = λ to start ps h f r u hu. (steepest_out (λ p. reaching p to) start ps r u h hu (All-weaker _ _ (λ p l. over_out p to l) ps f), steepest_in (λ p. reaching p to) start ps r u);
  more = bounds_more;
  highest = topmost_first;
  pairs = λ ls ms r u n hu. (some_line ls ms r u n hu, λ k s. line_slopes ls ms r u k s);
  lowest = λ ls ms r u n hu s. (anchor_serves ls ms r u hu n s, λ k l. anchor_lowest ls ms r u k n l);
}
