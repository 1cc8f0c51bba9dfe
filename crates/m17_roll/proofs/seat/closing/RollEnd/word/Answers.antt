use Rattle.std.proofs.Common.{rules, ap, ◌∙◌, ◌<◌, length, arith}
use Rattle.std.specs.List.{slice_index}
use Rattle.m17_roll.specs.Closing.{EndView}
use Rattle.m17_roll.proofs.Seats.{reading}
use Rattle.m17_roll.proofs.Ending.{words_length, shown_word}
use Rattle.m17_roll.proofs.seat.closing.RollEnd.word.Goals as goal

pub load-requires : goal.load-requires
load-requires c =
    let v = c.self.inside.seat.me.0 in
    let words = ap (λ (e : EndView). length e.words) c.self.view_is in
    let wide = words_length c.self.inside.places v.claimed v.given in
    let asked = c.requires in
    let within : c.args.place < c.self.inside.places = omega arith in
    (search rules, search rules, reading _ _ _ _ _ _ (search rules) (search rules) (search rules))

pub returns-clause-word : goal.returns-clause-word
returns-clause-word c =
    let e = c.load.ensures in
    let v = c.self.inside.seat.me.0 in
    shown_word v c.args.place c.load.result c.self.inside.places e.2.1 c.self.invariant.same
    ∙ ap (λ (e : EndView). slice_index e.words c.args.place) c.self.view_is
