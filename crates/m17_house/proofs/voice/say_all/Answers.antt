use Rattle.m17_house.proofs.Tallies.{say_to_nobody}
use Rattle.m17_house.proofs.voice.say_all.Goals as goal

pub returns-then-names_nobody-clause-said : goal.returns-then-names_nobody-clause-said
returns-then-names_nobody-clause-said c = say_to_nobody c.args.out.now c.args.name c.args.mouth.now (c.names_nobody.ensures.0 c.if-names_nobody.true)
