use Rattle.std.proofs.Common.{rules, refl}
use Rattle.m17_board.proofs.Records.{sight_more}
use Rattle.m17_board.proofs.sight.Sight.with_one.Goals as goal

pub returns : goal.returns
returns c rs is = sight_more rs c.args.one.now c.args.self _ is refl (search rules) c.moment_of.ensures c.talk_with.ensures
