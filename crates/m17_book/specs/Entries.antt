-- Entries of a trace and the bytes that spell them, field by field.
use Rattle.std.specs.Prelude.{◌≡◌, ℕ, Bool, true, false, ◌<◌, ◌≤◌, ◌^◌, List, [], ◌∷◌, ◌++◌, length, take, drop}
use Rattle.m17_fields.specs.Fields.{be_16, be_64, IsBytes}
use Rattle.m17_values.specs.declared.peer.Peer.{Peer}
use Rattle.m17_values.specs.declared.heard.Heard.{Heard}
use Rattle.m17_values.specs.declared.heard.Heard.TheVariants.{Datagram, Quiet, Fault, End}
use Rattle.m17_book.specs.Records.{zeros_12}

-- the family of a peer's address, and the address: 4 bytes of IPv4, or 16 of IPv6
abbrev pub family_bytes : Bool → List ℕ → List ℕ
family_bytes false ip = (4 ∷ []) ++ take 4 ip
family_bytes true ip = (6 ∷ []) ++ ip

-- The bytes of an entry: kind, moment, family, address, port, length and bytes.
abbrev pub entry_bytes : Heard → List ℕ
entry_bytes (Datagram from at bytes) = (1 ∷ []) ++ be_64 at ++ family_bytes from.six from.ip
    ++ be_16 from.port ++ (length bytes ∷ []) ++ bytes
entry_bytes (Quiet at) = (2 ∷ []) ++ be_64 at
entry_bytes Fault = 3 ∷ []
entry_bytes End = []

-- The peer fits its places: an address has 16 bytes, and one of IPv4 is 4 bytes and then zeros.
pub record FitsPeer (from : Peer) : Type 0 where
  pub address : length from.ip ≡ 16
  pub address_bytes : IsBytes from.ip
  pub short : from.six ≡ false → drop 4 from.ip ≡ zeros_12
  pub port : from.port < 2 ^ 16

-- each field of the entry fits its place; the end of what was heard is no entry
abbrev pub FitsEntry : Heard → Type 0
FitsEntry (Datagram from at bytes) = FitsPeer from × (at < 2 ^ 64)
    × (length bytes ≤ 64) × IsBytes bytes
FitsEntry (Quiet at) = at < 2 ^ 64
FitsEntry Fault = Unit {0}
FitsEntry End = ⊥

-- The entry spells the bytes: its fields fit their places, and stand there one after another.
abbrev pub SpellsEntry : Heard → List ℕ → Type 0
SpellsEntry heard bytes = FitsEntry heard × (bytes ≡ entry_bytes heard)
