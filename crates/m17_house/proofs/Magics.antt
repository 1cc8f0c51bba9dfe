-- The bytes of a packet begin with the magic of its kind.
use Rattle.std.proofs.Common.{◌≡◌, ℕ, Bool, List, ◌++◌, [], ◌∷◌, codes, nat_eq, None, Some, refl, ap, ◌∙◌}
use Rattle.std.specs.List.{starts_with}
use Rattle.m17_fields.specs.Fields.{be_16}
use Rattle.m17_lsd.specs.Lsd.{lsd_bytes}
use Rattle.m17_crc.specs.Crc.{crc_of}
use Rattle.m17_callsign.specs.AddressBytes.{address_bytes}
use Rattle.m17_stream.specs.Stream.{front_bytes, frame_field}
use Rattle.m17_control.specs.declared.packet.Packet.{Packet}
use Rattle.m17_control.specs.declared.packet.Packet.TheVariants as packets
use Rattle.m17_control.specs.declared.packet.Control.TheVariants as control
use Rattle.m17_control.specs.Forms.{Spells}
use Rattle.m17_house.specs.Replay.{is_ackn, is_nack, is_ping, is_pong, is_disc, is_stream}

-- the four bytes that a packet begins with
abbrev pub magic_of : Packet → List ℕ
magic_of (packets.Stream p) = codes "M17 "
magic_of (packets.Control (control.Conn from letter)) = codes "CONN"
magic_of (packets.Control (control.Lstn from letter)) = codes "LSTN"
magic_of (packets.Control control.Ackn) = codes "ACKN"
magic_of (packets.Control control.Nack) = codes "NACK"
magic_of (packets.Control (control.Ping from)) = codes "PING"
magic_of (packets.Control (control.Pong from)) = codes "PONG"
magic_of (packets.Control (control.Disc from)) = codes "DISC"

begins : (p : Packet) (bytes : List ℕ) → Spells p bytes → (rest : List ℕ) × (bytes ≡ magic_of p ++ rest)
begins (packets.Stream p) bytes s =
    (be_16 p.sid ++ lsd_bytes p.lsd ++ be_16 (frame_field p.last p.number) ++ p.payload ++ be_16 (crc_of (front_bytes p)), s.spelling ∙ refl)
begins (packets.Control (control.Conn from letter)) bytes s = (address_bytes from ++ letter ∷ [], s.2)
begins (packets.Control (control.Lstn from letter)) bytes s = (address_bytes from ++ letter ∷ [], s.2)
begins (packets.Control control.Ackn) bytes s = ([], s)
begins (packets.Control control.Nack) bytes s = ([], s)
begins (packets.Control (control.Ping from)) bytes s = (address_bytes from, s.1)
begins (packets.Control (control.Pong from)) bytes s = (address_bytes from, s.1)
begins (packets.Control (control.Disc None)) bytes s = ([], s)
begins (packets.Control (control.Disc (Some from))) bytes s = (address_bytes from, s.1)

ackn_begins : (p : Packet) (rest : List ℕ) → starts_with nat_eq (magic_of p ++ rest) (codes "ACKN") ≡ is_ackn p
ackn_begins (packets.Control control.Ackn) rest = refl
ackn_begins _ rest = refl

nack_begins : (p : Packet) (rest : List ℕ) → starts_with nat_eq (magic_of p ++ rest) (codes "NACK") ≡ is_nack p
nack_begins (packets.Control control.Nack) rest = refl
nack_begins _ rest = refl

ping_begins : (p : Packet) (rest : List ℕ) → starts_with nat_eq (magic_of p ++ rest) (codes "PING") ≡ is_ping p
ping_begins (packets.Control (control.Ping from)) rest = refl
ping_begins _ rest = refl

pong_begins : (p : Packet) (rest : List ℕ) → starts_with nat_eq (magic_of p ++ rest) (codes "PONG") ≡ is_pong p
pong_begins (packets.Control (control.Pong from)) rest = refl
pong_begins _ rest = refl

disc_begins : (p : Packet) (rest : List ℕ) → starts_with nat_eq (magic_of p ++ rest) (codes "DISC") ≡ is_disc p
disc_begins (packets.Control (control.Disc from)) rest = refl
disc_begins _ rest = refl

stream_begins : (p : Packet) (rest : List ℕ) → starts_with nat_eq (magic_of p ++ rest) (codes "M17 ") ≡ is_stream p
stream_begins (packets.Control control.Ackn) rest = refl
stream_begins _ rest = refl

-- which magics the bytes of a packet begin with
pub record BeginsAs (p : Packet) (bytes : List ℕ) : Type 0 where
  pub ackn : starts_with nat_eq bytes (codes "ACKN") ≡ is_ackn p
  pub nack : starts_with nat_eq bytes (codes "NACK") ≡ is_nack p
  pub ping : starts_with nat_eq bytes (codes "PING") ≡ is_ping p
  pub pong : starts_with nat_eq bytes (codes "PONG") ≡ is_pong p
  pub disc : starts_with nat_eq bytes (codes "DISC") ≡ is_disc p
  pub frame : starts_with nat_eq bytes (codes "M17 ") ≡ is_stream p

pub begins_as : (p : Packet) (bytes : List ℕ) → Spells p bytes → BeginsAs p bytes
begins_as p bytes s =
    let b : (rest : List ℕ) × (bytes ≡ magic_of p ++ rest) = begins p bytes s in
    let at : List ℕ → List ℕ → Bool = λ xs magic. starts_with nat_eq xs magic in
    record {
      ackn = ap (λ xs. at xs (codes "ACKN")) b.1 ∙ ackn_begins p b.0;
      nack = ap (λ xs. at xs (codes "NACK")) b.1 ∙ nack_begins p b.0;
      ping = ap (λ xs. at xs (codes "PING")) b.1 ∙ ping_begins p b.0;
      pong = ap (λ xs. at xs (codes "PONG")) b.1 ∙ pong_begins p b.0;
      disc = ap (λ xs. at xs (codes "DISC")) b.1 ∙ disc_begins p b.0;
      frame = ap (λ xs. at xs (codes "M17 ")) b.1 ∙ stream_begins p b.0;
    }
