-- Refusals: at most one, and none where a packet is.
use Rattle.std.proofs.Common.{◌≡◌, ◌≢◌, ◌⊎◌, ℕ, ◌-◌, ◌^◌, min, List, length, take, get_or, inl, inr, refl, sym, ap, ◌∙◌, subst, arith}
use Rattle.std.proofs.lemmas.Bool.{cases_eq}
use Rattle.m17_stream.specs.declared.packet.StreamPacket.{StreamPacket}
use Rattle.m17_stream.specs.declared.packet.StreamRefusal.{StreamRefusal}
use Rattle.m17_stream.specs.declared.packet.StreamRefusal.TheVariants as streams
use Rattle.m17_fields.specs.Reading.{HasOneReading}
use Rattle.m17_stream.specs.Stream as stream
use Rattle.m17_control.specs.declared.packet.Packet.{Packet}
use Rattle.m17_control.specs.declared.packet.Packet.TheVariants as packets
use Rattle.m17_control.specs.declared.packet.Refusal.{Refusal}
use Rattle.m17_control.specs.declared.packet.Refusal.TheVariants.{Length, Magic, Address, Module, Crc}
use Rattle.m17_control.specs.Forms.{Spells, Refuses, IsFrom, IsModule, IsLength, HasMagic, HasFrom}
use Rattle.m17_control.proofs.Controls.{AddressLaws, IsControl, is_control, one_control, from_fits, with_from_not_4}

-- what the law of stream packets says of these bytes
abbrev pub HasOneStream : List ℕ → Type 0
HasOneStream b = HasOneReading stream.SpellsStream stream.RefusesStream b

stream_not_both : (b : List ℕ) → HasOneStream b → (p : StreamPacket) (r : StreamRefusal) → stream.SpellsStream p b → stream.RefusesStream b r → ⊥
stream_not_both b (inl one) p r s k = one.1.no_refusal r k
stream_not_both b (inr one) p r s k = one.1.no_value p s

stream_one_packet : (b : List ℕ) → HasOneStream b → (p q : StreamPacket) → stream.SpellsStream p b → stream.SpellsStream q b → p ≡ q
stream_one_packet b (inl one) p q s k = one.1.no_other p s ∙ sym (one.1.no_other q k)
stream_one_packet b (inr one) p q s k = absurd (one.1.no_value p s)

stream_one_refusal : (b : List ℕ) → HasOneStream b → (r s : StreamRefusal) → stream.RefusesStream b r → stream.RefusesStream b s → r ≡ s
stream_one_refusal b (inl one) r s h k = absurd (one.1.no_refusal r h)
stream_one_refusal b (inr one) r s h k = one.1.no_other r h ∙ sym (one.1.no_other s k)

-- a stream packet has 54 bytes, and its magic
stream_length : (b : List ℕ) → HasOneStream b → (p : StreamPacket) → stream.SpellsStream p b → length b ≡ 54
stream_length b one p s =
    elim (cases_eq (length b) 54) [ inl long ↦ long | inr ne ↦ absurd (stream_not_both b one p (streams.Length (length b)) s (refl, ne)) ]

-- 54 bytes with a magic have that of stream packets
stream_magic : (b : List ℕ) → length b ≡ 54 → HasMagic b → take 4 b ≡ stream.magic
stream_magic b long (inl h) = absurd (omega arith)
stream_magic b long (inr (inl h)) = absurd (omega arith)
stream_magic b long (inr (inr (inl h))) = absurd (omega arith)
stream_magic b long (inr (inr (inr h))) = h.1

-- a refusal of 54 bytes is one of the stream packet's
as_stream_crc : (b : List ℕ) (found expected : ℕ) → Refuses b (Crc found expected) → stream.RefusesStream b (streams.Crc found expected)
as_stream_crc b found expected r = (r.0, stream_magic b r.0 r.1, r.2, r.3, r.4, r.5)

no_from_at : (b : List ℕ) (n : ℕ) → length b ≡ n → n ≢ 10 → n ≢ 11 → (length b ≡ 10) ⊎ (length b ≡ 11) → ⊥
no_from_at b n e ne ne' (inl h) = ne (sym e ∙ h)
no_from_at b n e ne ne' (inr h) = ne' (sym e ∙ h)

-- what spells a stream packet is not refused
stream_not_refused : (b : List ℕ) → HasOneStream b → (p : StreamPacket) (r : Refusal) → stream.SpellsStream p b → length b ≡ 54 → Refuses b r → ⊥
stream_not_refused b one p (Length n) s long r = r.0 (inr (inr (inr long)))
stream_not_refused b one p (Magic m) s long r =
    stream_not_both b one p (streams.Magic m) s (long, r.1, λ e. r.2 (inr (inr (inr (long, sym r.1 ∙ e)))))
stream_not_refused b one p (Address a) s long r = no_from_at b 54 long (λ e. cc) (λ e. cc) r.0.length_with_from
stream_not_refused b one p (Module l) s long r = omega arith
stream_not_refused b one p (Crc f e) s long r = stream_not_both b one p (streams.Crc f e) s (as_stream_crc b f e r)

control_length : (b : List ℕ) → IsControl b → IsLength (length b)
control_length b h = elim h.short [ inl k ↦ inl k | inr k ↦ elim k [ inl l ↦ inr (inl l) | inr l ↦ inr (inr (inl l)) ] ]

short_not_54 : (b : List ℕ) → (length b ≡ 4) ⊎ (length b ≡ 10) ⊎ (length b ≡ 11) → length b ≡ 54 → ⊥
short_not_54 b (inl h) e = omega arith
short_not_54 b (inr (inl h)) e = omega arith
short_not_54 b (inr (inr h)) e = omega arith

-- what spells a control packet is not refused
control_not_refused : AddressLaws → (b : List ℕ) (r : Refusal) → IsControl b → Refuses b r → ⊥
control_not_refused law b (Length n) h r = r.0 (control_length b h)
control_not_refused law b (Magic m) h r = r.2 h.magic
control_not_refused law b (Address a) h r =
    let from = h.from (with_from_not_4 b r.0.length_with_from) in
    let same : from.0 ≡ a = law.fields.one_number from.0 a (from_fits law from.0 from.1) r.0.fits (from.2 ∙ sym r.0.field) in
    r.1 (subst IsFrom same from.1)
control_not_refused law b (Module l) h r = r.2 (subst IsModule (sym r.1) (h.letter r.0))
control_not_refused law b (Crc f e) h r = short_not_54 b h.short r.0

pub not_both : AddressLaws → (b : List ℕ) → HasOneStream b → (p : Packet) (r : Refusal) → Spells p b → Refuses b r → ⊥
not_both law b one (packets.Stream p) r s k = stream_not_refused b one p r s (stream_length b one p s) k
not_both law b one (packets.Control c) r s k = control_not_refused law b r (is_control c b s) k

pub one_packet : AddressLaws → (b : List ℕ) → HasOneStream b → (p q : Packet) → Spells p b → Spells q b → p ≡ q
one_packet law b one (packets.Stream p) (packets.Stream q) s k = ap packets.Stream (stream_one_packet b one p q s k)
one_packet law b one (packets.Stream p) (packets.Control d) s k = absurd (short_not_54 b (is_control d b k).short (stream_length b one p s))
one_packet law b one (packets.Control c) (packets.Stream q) s k = absurd (short_not_54 b (is_control c b s).short (stream_length b one q k))
one_packet law b one (packets.Control c) (packets.Control d) s k = ap packets.Control (one_control law c d b s k)

-- a length that has From is a length of packets
from_length : (b : List ℕ) → (length b ≡ 10) ⊎ (length b ≡ 11) → IsLength (length b)
from_length b (inl h) = inr (inl h)
from_length b (inr h) = inr (inr (inl h))

-- that two reasons do not fit together, the earlier one first
length_alone : (b : List ℕ) (n : ℕ) (r : Refusal) → (IsLength (length b) → ⊥) → Refuses b r → r ≡ Length (min (length b) (2 ^ 32 - 1))
length_alone b n (Length m) never r = ap Length r.1
length_alone b n (Magic m) never r = absurd (never r.0)
length_alone b n (Address a) never r = absurd (never (from_length b r.0.length_with_from))
length_alone b n (Module l) never r = absurd (never (inr (inr (inl r.0))))
length_alone b n (Crc f e) never r = absurd (never (inr (inr (inr r.0))))

magic_alone : (b : List ℕ) (r : Refusal) → IsLength (length b) → (HasMagic b → ⊥) → Refuses b r → r ≡ Magic (take 4 b)
magic_alone b (Length m) long never r = absurd (r.0 long)
magic_alone b (Magic m) long never r = ap Magic r.1
magic_alone b (Address a) long never r = absurd (never r.0.has_magic)
magic_alone b (Module l) long never r = absurd (never r.4.has_magic)
magic_alone b (Crc f e) long never r = absurd (never r.1)

address_alone : AddressLaws → (b : List ℕ) (a : ℕ) (r : Refusal) → HasFrom b a → (IsFrom a → ⊥) → Refuses b r → r ≡ Address a
address_alone law b a (Length m) h never r = absurd (r.0 (from_length b h.length_with_from))
address_alone law b a (Magic m) h never r = absurd (r.2 h.has_magic)
address_alone law b a (Address c) h never r = ap Address (law.fields.one_number c a r.0.fits h.fits (r.0.field ∙ sym h.field))
address_alone law b a (Module l) h never r = absurd (never (subst IsFrom (law.fields.one_number r.3 a r.4.fits h.fits (r.4.field ∙ sym h.field)) r.5))
address_alone law b a (Crc f e) h never r = absurd (no_from_at b 54 r.0 (λ e. cc) (λ e. cc) h.length_with_from)

module_alone : AddressLaws → (b : List ℕ) (a : ℕ) (r : Refusal) → length b ≡ 11 → HasFrom b a → IsFrom a → (IsModule (get_or b 10 0) → ⊥) → Refuses b r
    → r ≡ Module (get_or b 10 0)
module_alone law b a (Length m) long h from never r = absurd (r.0 (inr (inr (inl long))))
module_alone law b a (Magic m) long h from never r = absurd (r.2 h.has_magic)
module_alone law b a (Address c) long h from never r = absurd (r.1 (subst IsFrom (law.fields.one_number a c h.fits r.0.fits (h.field ∙ sym r.0.field)) from))
module_alone law b a (Module l) long h from never r = ap Module r.1
module_alone law b a (Crc f e) long h from never r = absurd (omega arith)

crc_alone : (b : List ℕ) → HasOneStream b → (f e : ℕ) (r : Refusal) → Refuses b (Crc f e) → Refuses b r → r ≡ Crc f e
crc_alone b one f e (Length m) h r = absurd (r.0 (inr (inr (inr h.0))))
crc_alone b one f e (Magic m) h r = absurd (r.2 h.1)
crc_alone b one f e (Address a) h r = absurd (no_from_at b 54 h.0 (λ e. cc) (λ e. cc) r.0.length_with_from)
crc_alone b one f e (Module l) h r = absurd (omega arith)
crc_alone b one f e (Crc g d) h r =
    let same = stream_one_refusal b one (streams.Crc g d) (streams.Crc f e) (as_stream_crc b g d r) (as_stream_crc b f e h) in
    let found : g ≡ f = cc in
    let expected : d ≡ e = cc in
    cc

pub one_refusal : AddressLaws → (b : List ℕ) → HasOneStream b → (r s : Refusal) → Refuses b r → Refuses b s → r ≡ s
one_refusal law b one r (Length n) h k = length_alone b n r k.0 h ∙ ap Length (sym k.1)
one_refusal law b one r (Magic m) h k = magic_alone b r k.0 k.2 h ∙ ap Magic (sym k.1)
one_refusal law b one r (Address a) h k = address_alone law b a r k.0 k.1 h
one_refusal law b one r (Module l) h k = module_alone law b k.3 r k.0 k.4 k.5 (λ m. k.2 (subst IsModule (sym k.1) m)) h ∙ ap Module (sym k.1)
one_refusal law b one r (Crc f e) h k = crc_alone b one f e r k h
