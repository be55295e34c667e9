use Rattle.family.proofs.Forms.{value_passed}
use Rattle.line.specs.LineMeaning.{line_meaning}
use Rattle.line.specs.Written.{lawful_value}
use Rattle.line.proofs.calls.LineFamily.value.Goals as goal

pub level_at-requires-clause-reach : goal.level_at-requires-clause-reach
level_at-requires-clause-reach c =
    let v = value_passed line_meaning c.args.words.now c.args.span.first c.args.span.last c.args.tick _ c.in_ok-check_value.ensures.0 in
    lawful_value c.args.words.now c.args.span.first c.args.span.last c.args.tick c.unwrap.result c.read.result c.unwrap.ensures c.read.ensures.is v.0 v.1 v.2
