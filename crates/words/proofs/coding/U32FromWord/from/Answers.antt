use Rattle.std.proofs.Common.{◌≡◌, sym, ap, ◌∙◌, subst, arith}
use Rattle.words.specs.Words.{word_of, held, Only}
use Rattle.words.proofs.RoundTrip.{held_back, only_this}
use Rattle.words.proofs.coding.U32FromWord.from.Goals as goal

pub returns : goal.returns
returns c =
    let x = c.args.word in
    let s = c.payload.ensures.small in
    let p = c.payload.ensures.value in
    let t = c.with_payload.ensures in
    let v : c.with_payload.result ≡ word_of x.kind x.number = omega arith in
    record {
      value = v;
      back = ap (held x.kind) v ∙ held_back x.kind x.number x.low x.high;
      only = subst (Only x.kind x.number) (sym v) (only_this x.kind x.number x.low x.high);
    }
