-- The forms of packets, and why other bytes are refused. M17 Protocol Specification, IP networking; the forms of
-- control packets are this profile's.
use Rattle.std.specs.Prelude.{◌≡◌, ◌≢◌, ◌⊎◌, ℕ, ◌<◌, ◌≤◌, ◌^◌, List, [], ◌∷◌, ◌++◌, length, take, drop, codes, slice_index, min, ◌-◌, None, Some}
use Rattle.m17_fields.specs.Fields.{be_16, field_at}
use Rattle.m17_callsign.specs.AddressBytes.{address_bytes}
use Rattle.m17_callsign.specs.Callsign.{HasCallsign}
use Rattle.m17_crc.specs.Crc.{crc_of}
use Rattle.m17_stream.specs.Stream as stream
use Rattle.m17_control.specs.declared.packet.Control.{Control}
use Rattle.m17_control.specs.declared.packet.Control.TheVariants.{Conn, Lstn, Ackn, Nack, Ping, Pong, Disc}
use Rattle.m17_control.specs.declared.packet.Packet.{Packet}
use Rattle.m17_control.specs.declared.packet.Packet.TheVariants as packets
use Rattle.m17_control.specs.declared.packet.Refusal.{Refusal}
use Rattle.m17_control.specs.declared.packet.Refusal.TheVariants.{Length, Magic, Address, Module, Crc}

-- an address that a control packet may have as its From: one with a callsign
abbrev pub IsFrom : ℕ → Type 0
IsFrom address = HasCallsign address

-- a module's letter, A to Z
abbrev pub IsModule : ℕ → Type 0
IsModule letter = (65 ≤ letter) × (letter ≤ 90)

-- The control packet spells the bytes: its magic, and then its fields.
abbrev pub SpellsControl : Control → List ℕ → Type 0
SpellsControl (Conn from letter) bytes =
    IsFrom from × IsModule letter × (bytes ≡ codes "CONN" ++ address_bytes from ++ letter ∷ [])
SpellsControl (Lstn from letter) bytes =
    IsFrom from × IsModule letter × (bytes ≡ codes "LSTN" ++ address_bytes from ++ letter ∷ [])
SpellsControl Ackn bytes = bytes ≡ codes "ACKN"
SpellsControl Nack bytes = bytes ≡ codes "NACK"
SpellsControl (Ping from) bytes = IsFrom from × (bytes ≡ codes "PING" ++ address_bytes from)
SpellsControl (Pong from) bytes = IsFrom from × (bytes ≡ codes "PONG" ++ address_bytes from)
SpellsControl (Disc None) bytes = bytes ≡ codes "DISC"
SpellsControl (Disc (Some from)) bytes = IsFrom from × (bytes ≡ codes "DISC" ++ address_bytes from)

-- The packet spells the bytes, all of them.
abbrev pub Spells : Packet → List ℕ → Type 0
Spells (packets.Stream p) bytes = stream.SpellsStream p bytes
Spells (packets.Control c) bytes = SpellsControl c bytes

-- the lengths that packets have
abbrev pub IsLength : ℕ → Type 0
IsLength n = (n ≡ 4) ⊎ (n ≡ 10) ⊎ (n ≡ 11) ⊎ (n ≡ 54)

-- the magics of the control packets of each length: with no field, with From, and with From and a module
abbrev pub IsBareMagic : List ℕ → Type 0
IsBareMagic m = (m ≡ codes "ACKN") ⊎ (m ≡ codes "NACK") ⊎ (m ≡ codes "DISC")

abbrev pub IsFromMagic : List ℕ → Type 0
IsFromMagic m = (m ≡ codes "PING") ⊎ (m ≡ codes "PONG") ⊎ (m ≡ codes "DISC")

abbrev pub IsModuleMagic : List ℕ → Type 0
IsModuleMagic m = (m ≡ codes "CONN") ⊎ (m ≡ codes "LSTN")

-- the bytes begin with a magic of packets of their length
abbrev pub HasMagic : List ℕ → Type 0
HasMagic bytes = ((length bytes ≡ 4) × IsBareMagic (take 4 bytes))
    ⊎ ((length bytes ≡ 10) × IsFromMagic (take 4 bytes))
    ⊎ ((length bytes ≡ 11) × IsModuleMagic (take 4 bytes))
    ⊎ ((length bytes ≡ 54) × (take 4 bytes ≡ stream.magic))

-- the bytes have a From field after a magic that fits their length, and this is its address
pub record HasFrom (bytes : List ℕ) (address : ℕ) : Type 0 where
  pub has_magic : HasMagic bytes
  pub length_with_from : (length bytes ≡ 10) ⊎ (length bytes ≡ 11)
  pub fits : address < 2 ^ 48
  pub field : address_bytes address ≡ field_at 4 6 bytes

-- The bytes are no packet, and this is the first reason that fits, in the order of the cases. A length above
-- 4,294,967,295 is told as that number.
abbrev pub Refuses : List ℕ → Refusal → Type 0
Refuses bytes (Length n) = (IsLength (length bytes) → ⊥) × (n ≡ min (length bytes) (2 ^ 32 - 1))
Refuses bytes (Magic m) = IsLength (length bytes) × (m ≡ take 4 bytes) × (HasMagic bytes → ⊥)
Refuses bytes (Address address) = HasFrom bytes address × (IsFrom address → ⊥)
Refuses bytes (Module letter) = (length bytes ≡ 11) × (letter ≡ slice_index bytes 10)
    × (IsModule letter → ⊥)
    × (from : ℕ) × HasFrom bytes from × IsFrom from
Refuses bytes (Crc found expected) = (length bytes ≡ 54) × HasMagic bytes × (found < 2 ^ 16)
    × (be_16 found ≡ drop 52 bytes) × (expected ≡ crc_of (take 52 bytes)) × (found ≢ expected)
