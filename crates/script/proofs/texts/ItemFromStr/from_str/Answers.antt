use Rattle.std.proofs.Common.{[], ◌∷◌, Some, None, lit<}
use Rattle.std.proofs.lemmas.Str.Pattern.{strip_prefix_char, split_text_parts}
use Rattle.script.proofs.Parts.{as_band}
use Rattle.script.proofs.texts.ItemFromStr.from_str.Goals as goal

pub returns-in-Some-split_once : goal.returns-in-Some-split_once
returns-in-Some-split_once c =
    as_band c.args.text.now c.in-Some-split_once.low.now c.in-Some-split_once.high.now c.band.result
    c.ok_or-in-Some-split_once.result
    (split_text_parts (46 ∷ 46 ∷ []) c.args.text.now (Some (c.in-Some-split_once.low, c.in-Some-split_once.high))
    c.in-Some-split_once.ensures.cases)
    c.band.ensures c.ok_or-in-Some-split_once.ensures.value

pub returns-in_default-split_once : goal.returns-in_default-split_once
returns-in_default-split_once c = (
  strip_prefix_char 109 c.args.text.now None c.in_default.ensures.cases (lit< tt),
  strip_prefix_char 120 c.args.text.now None c.in_default-strip_prefix.ensures.cases (lit< tt),
  split_text_parts (46 ∷ 46 ∷ []) c.args.text.now None c.in_default-split_once.ensures.cases,
)
