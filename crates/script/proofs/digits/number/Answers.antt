use Rattle.std.proofs.Common.{sym, ap, ◌∙◌, arith, rules}
use Rattle.std.specs.Str.{all_ascii_digits}
use Rattle.script.proofs.Numerals.{none_digits, number_by}
use Rattle.script.proofs.digits.number.Goals as goal
use borrow.Author.Tests.{tests}

pub returns-then-not-all_digits-clause-value : goal.returns-then-not-all_digits-clause-value
returns-then-not-all_digits-clause-value c = none_digits c.args.text.now c.args.most (sym (c.if-not-all_digits.ensures ∙ ap all_ascii_digits c.as_bytes.ensures.value))

pub returns-clause-value : goal.returns-clause-value
returns-clause-value c =
    number_by c.args.text.now c.args.most c.parse.result c.ok.result c.filter.result _
    (sym (c.if-not-all_digits.ensures ∙ ap all_ascii_digits c.as_bytes.ensures.value)) (omega arith) c.parse.ensures.value.0
    c.ok.ensures.value (λ n b q. search (rules, tests)) c.filter.ensures
