use Rattle.std.proofs.Common.{arith}
use Rattle.m17_book.specs.Flaws.{Reason}
use Rattle.m17_book.proofs.Sound.{bad_field, sound_head}
use Rattle.m17_book.proofs.parse_record.parse_leave.Goals as goal

pub returns-in_default : goal.returns-in_default
returns-in_default c =
    let head = c.requires.head in
    bad_field c.args.version c.args.b.now Reason (omega arith, omega arith) c.requires.kind (omega arith)
    (sound_head c.args.version c.args.b.now 30 (omega arith) head.link head.place) (λ why. c.in_default.ensures.none why.0 why.1)
