use Rattle.std.proofs.Common.{arith, refl}
use Rattle.m17_book.specs.Flaws.{Verdict_, Value, Packet}
use Rattle.m17_book.proofs.Sound.{bad_field, sound_head, sound_verdict, sound_value}
use Rattle.m17_book.proofs.Begun.{begins_packet}
use Rattle.m17_book.proofs.parse_record.parse_packet.Goals as goal
use Rattle.m17_book.proofs.parse_record.parse_packet.Goals.{then-code-lt1-via-then-code-lt1, then-code-lt1-via-else-code-lt1+then-code-highest_verdict}

pub returns-then-code-lt1 : goal.returns-then-code-lt1
returns-then-code-lt1 c =
    let head = c.requires.head in
    bad_field c.args.version c.args.b.now Verdict_ (omega arith, omega arith) c.requires.kind (omega arith)
    (sound_head c.args.version c.args.b.now 30 (omega arith) head.link head.place)
    (λ good. elim c.then-code-lt1.branch [
      | then-code-lt1-via-then-code-lt1 w ↦ omega (arith, good.0, good.1)
      | then-code-lt1-via-else-code-lt1+then-code-highest_verdict w ↦ omega (arith, good.0, good.1)
    ])

pub returns-in_default : goal.returns-in_default
returns-in_default c =
    let head = c.requires.head in
    bad_field c.args.version c.args.b.now Value (omega arith, omega arith) c.requires.kind (omega arith)
    (sound_verdict c.args.version c.args.b.now 31 (omega arith) c.requires.kind head.link head.place (omega arith, omega arith))
    (λ good. c.in_default.ensures.none good.0 (good.1, good.2, good.3))

pub returns-in_default-read : goal.returns-in_default-read
returns-in_default-read c =
    let head = c.requires.head in
    let value = c.in-Some.ensures.some in
    bad_field c.args.version c.args.b.now Packet (omega arith, omega arith) c.requires.kind (omega arith)
    (sound_value c.args.version c.args.b.now 43 (omega arith) c.requires.kind head.link head.place (omega arith, omega arith)
    (c.in-Some.verdict, value.0, value.1, value.2))
    (λ good. let is = (c.in_default-read.ensures.ok good.0).1 good.1 in cc)

pub returns : goal.returns
returns c =
    begins_packet c.args.version c.args.b.now c.args.head c.in-Some.verdict c.in-Ok.packet c.requires.head c.requires.kind (omega arith)
    (omega (arith, c.in-Some.ensures.some.1)) c.in-Some.ensures.some ((c.in-Ok.ensures.ok c.in-Ok.packet).0 refl)
