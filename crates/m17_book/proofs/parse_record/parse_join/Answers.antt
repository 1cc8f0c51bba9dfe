use Rattle.std.proofs.Common.{◌≡◌, refl, sym, ap, subst, ◌∙◌, arith}
use Rattle.m17_book.specs.Versions.{MayJoin}
use Rattle.m17_book.proofs.RecordClear.{call_within}
use Rattle.m17_callsign.specs.AddressBytes.{address_bytes}
use Rattle.m17_book.specs.Flaws.{Listen, Callsign}
use Rattle.m17_book.proofs.Sound.{bad_field, sound_head, sound_join}
use Rattle.m17_book.proofs.Chunks.{chunk}
use Rattle.m17_book.proofs.Begun.{begins_join}
use Rattle.m17_book.proofs.parse_record.parse_join.Goals as goal

pub returns-then-listen-gt1 : goal.returns-then-listen-gt1
returns-then-listen-gt1 c =
    let head = c.requires.head in
    bad_field c.args.version c.args.b.now Listen (omega arith, omega arith) c.requires.kind (omega arith)
    (sound_head c.args.version c.args.b.now 30 (omega arith) head.link head.place) (λ low. omega (arith, low))

pub returns-in_default : goal.returns-in_default
returns-in_default c =
    let b = c.args.b.now in
    let head = c.requires.head in
    let array = chunk c.as_array.result c.unwrap.result _ 6 _ c.unwrap.ensures c.as_array.ensures.cases in
    bad_field c.args.version b Callsign (omega arith, omega arith) c.requires.kind (omega arith)
    (sound_join c.args.version b 31 (omega arith) c.requires.kind head.link head.place (omega arith))
    (λ good.
    let same : good.0 ≡ c.from_bytes-address.result = c.fields_of_48_bits_are_exact.ensures.one_number good.0 c.from_bytes-address.result
    (call_within c.args.version c.each_address_has_one_callsign.ensures.within good.0 good.1) c.from_bytes-address.ensures.within (good.2 ∙ sym (c.from_bytes-address.ensures.bytes ∙ array)) in
    let is = c.in_default.ensures.in_range.1 (subst (MayJoin c.args.version) same good.1) in cc)

pub returns : goal.returns
returns c =
    let array = chunk c.as_array.result c.unwrap.result _ 6 _ c.unwrap.ensures c.as_array.ensures.cases in
    let good : MayJoin c.args.version c.from_bytes-address.result = c.in-Some.ensures.in_range.0 refl in
    let same = c.in-Some.ensures.same in
    begins_join c.args.version c.args.b.now c.args.head c.in-Some.callsign c.requires.head c.requires.kind (omega arith) (omega arith)
    (subst (MayJoin c.args.version) (sym same) good) (ap address_bytes same ∙ c.from_bytes-address.ensures.bytes ∙ array)
