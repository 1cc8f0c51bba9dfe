use Rattle.std.proofs.Common.{◌≡◌, take, codes, rules}
use Rattle.m17_callsign.specs.AddressBytes.{address_bytes}
use Rattle.m17_control.proofs.Parts.{of_module}
use Rattle.m17_control.proofs.reader.with_module.Goals as goal

pub returns-in_ok-from-2 : goal.returns-in_ok-from-2
returns-in_ok-from-2 c =
    let magic : take 4 c.args.b.now ≡ codes "LSTN" = search rules in
    let found = c.in_ok-from-2.ensures in (
      found.0,
      found.2,
      of_module (codes "LSTN") (address_bytes c.in_ok-from-2.from) c.args.b.now c.in_ok-from-2.module c.requires magic found.1.field found.3,
    )
