use Rattle.std.proofs.Common.{◌≡◌, ◌+◌, ◌≤◌, length, pos, sym, ap, ◌∙◌, subst, arith}
use Rattle.words.specs.declared.kind.Kind.TheVariants.{End}
use Rattle.words.specs.Words.{word_of}
use Rattle.layout.specs.Layout.{place_at, first_word, count_word, with_record}
use Rattle.recorder.specs.Views.{View}
use Rattle.recorder.proofs.Writes.{record_end, room_for, stored}
use Rattle.recorder.proofs.tape.OpenTape.write_run.Goals as goal

pub returns-clause-words : goal.returns-clause-words
returns-clause-words g c =
    let t = c.self.inside in
    let i = c.self.invariant in
    let is = c.self.view_is in
    let ws = g.F.Family.meaning.words c.args.family.now in
    let wide = ap (λ (v : View). v.width) is ∙ c.requires.wide in
    let written = ap (λ (v : View). v.written) is in
    let places = ap (λ (v : View). v.places) is in
    let more : t.written + 1 ≤ t.places = omega (arith, c.requires.room, written, places) in
    let thin = i.narrow (omega (arith, more)) in
    let long : length ws ≡ t.width = g.met.F.Family.laws.words_length c.args.family.now (omega (arith, thin, wide)) ∙ sym wide in
    subst (λ (v : View). c.write_count.new.store ≡ with_record v.width v.written c.args.run.first c.args.run.last c.args.batch ws c.args.store.now) is
    (stored (place_at t.width t.written) t.width c.args.store.now ws
    (first_word c.args.batch c.args.run.first) (word_of End (pos c.args.run.last)) (count_word (t.written + 1)) long
    (record_end t.written t.width (length c.args.store.now)
    (room_for t.written t.places t.width t.length (length c.args.store.now) more i.within (c.requires.long ∙ sym (ap (λ (v : View). v.length) is))))
    c.place_at-at.result c.pick.new.slot c.first_word.result c.word.result
    c.place_at-at.ensures c.in_ok-pick.ensures.1 c.first_word.ensures c.word.ensures c.write_count.new.store c.write_count.ensures)
