use Rattle.std.proofs.Common.{rules, ◌<◌, ◌%◌, ◌-◌, length, arith}
use Rattle.std.proofs.lemmas.List.Elements.{All-set}
use Rattle.m17_text_commands.specs.Talk.{IsSteady}
use Rattle.m17_text_commands.proofs.Steady.{turned_steady, turned_sound}
use Rattle.m17_text_commands.proofs.maker.Maker.make.Goals as goal

pub invariant_of-self-2 : goal.invariant_of-self-2
invariant_of-self-2 c =
    let within : (c.self.inside.entry - 12) % c.from.result < length c.self.inside.talks = search rules in
    All-set IsSteady c.self.inside.talks _ _ (turned_steady _ _ _ _ _ _ (omega arith) (c.self.invariant _ _ within) c.turn.ensures) c.self.invariant

pub returns-clause-sound : goal.returns-clause-sound
returns-clause-sound c =
    let within : (c.self.inside.entry - 12) % c.from.result < length c.self.inside.talks = search rules in
    turned_sound _ _ _ _ _ _ (omega arith) (c.self.invariant _ _ within) c.turn.ensures
