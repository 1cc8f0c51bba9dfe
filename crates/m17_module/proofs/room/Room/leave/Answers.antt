use Rattle.std.proofs.Common.{sym}
use Rattle.m17_module.proofs.PeopleMore.{stranger_leaves}
use Rattle.m17_module.proofs.room.Room.leave.Goals as goal

pub returns-in_default-clause-stands : goal.returns-in_default-clause-stands
returns-in_default-clause-stands c = λ event is setup events stands.
    stranger_leaves c.strangers_change_nothing.ensures.leaves setup c.args.self.now events event c.args.k (sym c.in_default.ensures) is stands
