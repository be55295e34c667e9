use Rattle.std.proofs.Common.{Some, sym, ap, ◌∙◌, w32, SFits, rules}
use Rattle.std.proofs.lemmas.Int.{to_z-of_z}
use Rattle.words.proofs.RoundTrip.{made_again}
use Rattle.words.proofs.coding.WordTryFromU32.try_from.Goals as goal

pub returns : goal.returns
returns c =
    let k = c.in_ok-kind.kind in
    let n = c.in_ok-kind.number in
    let f : SFits w32 n = search rules in
    let h = c.in_ok-kind.ensures.1 ∙ ap Some (sym (to_z-of_z w32 n f)) in
    (h, made_again k _ c.args.bits h)
