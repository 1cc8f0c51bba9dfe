use Rattle.std.proofs.Common.{append_assoc, refl, arith, inl, inr, ◌≡◌, ◌≤◌, ◌^◌}
use Rattle.std.proofs.lemmas.Bool.{cases_lt, false≢true}
use Rattle.m17_callsign.specs.AddressBytes.{address_bytes}
use Rattle.m17_print.specs.Line.{hex_of}
use Rattle.m17_print.specs.Packets.{address_text}
use Rattle.m17_print.proofs.Outside.{as_hex}
use Rattle.m17_print.proofs.line.Line.push_refused_address.Goals as goal

pub returns-in-Some-clause-appended : goal.returns-in-Some-clause-appended
returns-in-Some-clause-appended c = rw (c.push_address.ensures.appended, c.push_text.ensures.appended, append_assoc, c.in-Some.ensures.value) refl

pub returns-in-None-clause-appended : goal.returns-in-None-clause-appended
returns-in-None-clause-appended c =
    let high : 2 ^ 48 ≤ c.args.number = elim (cases_lt c.args.number (2 ^ 48)) [
      | inl low ↦ absurd (false≢true (c.in-None.ensures.within.1 low))
      | inr high ↦ omega arith
    ] in
    let hex : address_text c.args.number ≡ hex_of (address_bytes c.args.number) = as_hex c.each_address_has_one_callsign.ensures c.args.number high in
    rw (c.push_hex.ensures.appended, c.push_text.ensures.appended, append_assoc, hex, c.to_be_bytes.ensures) refl
