use Rattle.std.proofs.Common.{◌≡◌, take, codes, rules}
use Rattle.m17_callsign.specs.AddressBytes.{address_bytes}
use Rattle.m17_control.proofs.Parts.{of_from}
use Rattle.m17_control.proofs.reader.with_from.Goals as goal

pub returns-in_ok-from-2 : goal.returns-in_ok-from-2
returns-in_ok-from-2 c =
    let magic : take 4 c.args.b.now ≡ codes "PONG" = search rules in
    let found = c.in_ok-from-2.ensures in
    (found.0, of_from (codes "PONG") (address_bytes c.in_ok-from-2.from) c.args.b.now c.requires magic found.1.field)

pub returns-in_ok-from-3 : goal.returns-in_ok-from-3
returns-in_ok-from-3 c =
    let magic : take 4 c.args.b.now ≡ codes "DISC" = search rules in
    let found = c.in_ok-from-3.ensures in
    (found.0, of_from (codes "DISC") (address_bytes c.in_ok-from-3.from) c.args.b.now c.requires magic found.1.field)
