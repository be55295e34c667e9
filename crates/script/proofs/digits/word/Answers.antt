use Rattle.std.proofs.Common.{sym, ap, ◌∙◌, arith}
use Rattle.script.specs.Numbers.{all_hex}
use Rattle.script.proofs.Numerals.{none_length, none_hex, word_by}
use Rattle.script.proofs.digits.word.Goals as goal
use Rattle.script.proofs.digits.word.Goals.{then-text-ne8-via-then-text-ne8, then-text-ne8-via-else-text-ne8+then-not-all_hex}

pub returns-then-text-ne8 : goal.returns-then-text-ne8
returns-then-text-ne8 c =
    elim c.then-text-ne8.branch [
      | then-text-ne8-via-then-text-ne8 w ↦ none_length c.args.text.now (λ e. omega arith)
      | then-text-ne8-via-else-text-ne8+then-not-all_hex w ↦
          none_hex c.args.text.now (sym (w.if-not-all_hex.ensures ∙ ap all_hex w.as_bytes.ensures.value))
    ]

pub returns : goal.returns
returns c =
    c.ok.ensures.value
    ∙ word_by c.args.text.now c.from_str_radix.result (omega arith)
    (sym (c.if-not-all_hex.ensures ∙ ap all_hex c.as_bytes.ensures.value)) c.from_str_radix.ensures.value
