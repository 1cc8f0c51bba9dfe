use Rattle.std.proofs.Common.{arith}
use Rattle.m17_book.specs.Flaws.{Link, Place}
use Rattle.m17_book.proofs.Sound.{bad_field, sound_kind, sound_link}
use Rattle.m17_book.proofs.parse_record.parse_head.Goals as goal

pub returns-then-link-ge-LINKS : goal.returns-then-link-ge-LINKS
returns-then-link-ge-LINKS c =
    bad_field c.args.version c.args.b.now Link c.requires.known tt (omega arith) (sound_kind c.args.version c.args.b.now 1 (omega arith)) (λ low. omega (arith, low))

pub returns-in_default : goal.returns-in_default
returns-in_default c =
    bad_field c.args.version c.args.b.now Place c.requires.known tt (omega arith) (sound_link c.args.version c.args.b.now 18 (omega arith) (omega arith))
    (λ place. c.in_default.ensures.none place.0 place.1 place.2)
