use Rattle.std.proofs.Common.{sym, subst, w64, SFits, rules}
use Rattle.slope.specs.Values.{Modest}
use Rattle.slope.proofs.Machine.{times_is, times_modest}
use Rattle.slope.proofs.product.times.Goals as goal

pub returns-clause-modest : goal.returns-clause-modest
returns-clause-modest c =
    let a : SFits w64 c.args.a = search rules in
    let b : SFits w64 c.args.b = search rules in
    subst Modest (sym (times_is _ _ a b)) (times_modest _ _ a b)
