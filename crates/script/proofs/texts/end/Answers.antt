use Rattle.std.proofs.Common.{◌≡◌, Some, None, ap, ◌∙◌, lit<, rules}
use Rattle.std.proofs.lemmas.Str.Pattern.{strip_prefix_char}
use Rattle.script.specs.Rows.{raised, taken_from}
use Rattle.script.proofs.Ends.{end_minus, end_plain}
use Rattle.script.proofs.texts.end.Goals as goal

pub returns-in-Some-clause-value : goal.returns-in-Some-clause-value
returns-in-Some-clause-value c =
    let m : c.map.result ≡ taken_from 2000000 c.number.result = search rules in
    m
    ∙ (ap (taken_from 2000000) c.number.ensures.value
    ∙ end_minus c.args.text.now c.in-Some.rest.now
    (strip_prefix_char 45 c.args.text.now (Some c.in-Some.rest) c.in-Some.ensures.cases (lit< tt)))

pub returns-in-None-clause-value : goal.returns-in-None-clause-value
returns-in-None-clause-value c =
    let m : c.map-in-None.result ≡ raised 2000000 c.number-in-None.result = search rules in
    m
    ∙ (ap (raised 2000000) c.number-in-None.ensures.value
    ∙ end_plain c.args.text.now
    (strip_prefix_char 45 c.args.text.now None c.in-None.ensures.cases (lit< tt)))
