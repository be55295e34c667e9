use Rattle.std.proofs.Common.{ℕ, ◌<◌, ◌≤◌, sym, ap, ◌∙◌, subst, arith}
use Rattle.grades.specs.Bit.{bit}
use Rattle.grades.specs.GradeMasks.{grades_picked}
use Rattle.grades.specs.Bitwise.{lowest_set, lowest_least}
use Rattle.grades.proofs.grades.Grades.lowest.Goals as goal

pub returns : goal.returns
returns c =
    let s = c.args.self.now in
    let b = s.small in
    let e = c.lowest_bit.ensures in
    record {
      value = e;
      small = subst (λ (g : ℕ). g < 28) (sym e) (grades_picked s).below;
      allowed = ap (λ (g : ℕ). bit g s.mask) e ∙ lowest_set 32 s.mask s.some (omega arith);
      least = λ g h. subst (λ (x : ℕ). x ≤ g) (sym e) (lowest_least 32 s.mask g h);
    }
