use Rattle.std.proofs.Common.{◌≡◌, ◌≤◌, reverse, length}
use Rattle.hull.specs.Hulls.{popped, ends}
use Rattle.hull.proofs.hull.Hull.drop_covered.Given as goal

abbrev pub invariant-loop-p : goal.invariant-loop-p
invariant-loop-p l = (l.self.len ≤ l.initial.self.len) × (length l.self.points ≡ 256) × (popped (reverse (ends l.self)) l.p ≡ popped (reverse (ends l.initial.self)) l.p)

abbrev pub decreases-loop-p : goal.decreases-loop-p
decreases-loop-p l = l.self.len
