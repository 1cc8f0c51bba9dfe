use Rattle.m17_client.proofs.Said.{says_one}
use Rattle.m17_client.proofs.log.say.Goals as goal

pub returns : goal.returns
returns g c = λ start before h. says_one c.mouths_say_in_turn.ensures start
    (g.M.Mouth.told c.args.mouth.now) (g.M.Mouth.told c.say.new.self)
    c.args.to.now before c.args.bytes.now c.say.result c.say.ensures.cause c.say.ensures.appended c.say.ensures.tallied
    c.say.ensures.nothing_appended c.say.ensures.nothing_tallied c.say.ensures.same_device h
