-- The six bytes of an address. M17 Protocol Specification, address encoding.
use Rattle.std.specs.Prelude.{ℕ, List}
use Rattle.m17_fields.specs.Fields.{be_48}

-- an address is a number of 48 bits, big-endian
abbrev pub address_bytes : ℕ → List ℕ
address_bytes address = be_48 address
