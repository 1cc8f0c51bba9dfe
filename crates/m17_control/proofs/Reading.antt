-- Each byte list is one packet, or is refused for one reason.
use Rattle.std.proofs.Common.{◌≡◌, ◌≢◌, ◌↔◌, ◌⊎◌, ℕ, ◌-◌, ◌<◌, ◌≤◌, ◌^◌, min, List, length, take, drop, get_or, codes, None, Some, Result, Ok, Err, MatchResult, inl, inr, refl, sym, ap, ◌∙◌, subst, arith}
use Rattle.std.proofs.lemmas.Bool.{cases_eq, cases_lt, cases_Bool, false≢true}
use Rattle.std.specs.Prelude.{is_some}
use Rattle.std.proofs.lemmas.List.{length-take, length-drop, take_all}
use Rattle.std.proofs.lemmas.List.Elements.{All-take, All-drop}
use Rattle.m17_lists.proofs.Tests.{same_bytes_or_others}
use Rattle.m17_callsign.specs.AddressBytes.{address_bytes}
use Rattle.m17_callsign.specs.Letters.{callsign_of}
use Rattle.m17_stream.specs.declared.packet.StreamRefusal.{StreamRefusal}
use Rattle.m17_stream.specs.declared.packet.StreamRefusal.TheVariants as streams
use Rattle.m17_fields.specs.Fields.{IsBytes}
use Rattle.m17_fields.specs.Reading.{HasOneReading}
use Rattle.m17_stream.specs.Laws.{OnePacket}
use Rattle.m17_stream.specs.Stream as stream
use Rattle.m17_control.specs.declared.packet.Control.TheVariants.{Conn, Lstn, Ackn, Nack, Ping, Pong, Disc}
use Rattle.m17_control.specs.declared.packet.Packet.{Packet}
use Rattle.m17_control.specs.declared.packet.Packet.TheVariants as packets
use Rattle.m17_control.specs.declared.packet.Refusal.{Refusal}
use Rattle.m17_control.specs.declared.packet.Refusal.TheVariants.{Length, Magic, Address, Module, Crc}
use Rattle.m17_control.specs.Laws.{DecodingIsExact}
use Rattle.m17_control.specs.Forms.{Spells, Refuses, IsFrom, IsModule, IsLength, HasMagic, HasFrom}
use Rattle.m17_control.proofs.Controls.{AddressLaws, one_spelling as control_spelling}
use Rattle.m17_control.proofs.Parts.{of_from, of_module, no_stream_magic}
use Rattle.m17_control.proofs.Refused.{HasOneStream, not_both, one_packet, one_refusal}

abbrev Reads : List ℕ → Type 0
Reads b = ((p : Packet) × Spells p b) ⊎ ((refusal : Refusal) × Refuses b refusal)

-- the From of bytes that have room for it
has_from : AddressLaws → (b : List ℕ) → IsBytes b → HasMagic b → (length b ≡ 10) ⊎ (length b ≡ 11) → 10 ≤ length b → (a : ℕ) × HasFrom b a
has_from law b h magic long room =
    let bytes = All-take (λ byte. byte < 2 ^ 8) 6 (drop 4 b) (All-drop (λ byte. byte < 2 ^ 8) 4 b h) in
    let from = law.fields.each_bytes (take 6 (drop 4 b)) (simp (length-take, length-drop) (omega arith)) bytes in
    (from.0, record { has_magic = magic; length_with_from = long; fits = from.1; field = from.2 })

is_from : AddressLaws → (a : ℕ) → (IsFrom a) ⊎ (IsFrom a → ⊥)
is_from law a =
    elim (cases_Bool (is_some (callsign_of a))) [
      | inl some ↦ inl ((law.callsigns.in_range a).0 some)
      | inr none ↦ inr (λ has. false≢true (sym none ∙ (law.callsigns.in_range a).1 has))
    ]

is_module : (l : ℕ) → (IsModule l) ⊎ (IsModule l → ⊥)
is_module l =
    elim (cases_lt l 65) [
      | inl low ↦ inr (λ h. omega (arith, h.0))
      | inr low ↦ elim (cases_lt 90 l) [ inl high ↦ inr (λ h. omega (arith, h.1)) | inr high ↦ inl (low, high) ]
    ]

no_bare_magic : (b : List ℕ) → length b ≡ 4 → take 4 b ≢ codes "ACKN" → take 4 b ≢ codes "NACK" → take 4 b ≢ codes "DISC" → HasMagic b → ⊥
no_bare_magic b long n₁ n₂ n₃ (inl (l, inl e)) = n₁ e
no_bare_magic b long n₁ n₂ n₃ (inl (l, inr (inl e))) = n₂ e
no_bare_magic b long n₁ n₂ n₃ (inl (l, inr (inr e))) = n₃ e
no_bare_magic b long n₁ n₂ n₃ (inr (inl h)) = omega (arith, h.0)
no_bare_magic b long n₁ n₂ n₃ (inr (inr (inl h))) = omega (arith, h.0)
no_bare_magic b long n₁ n₂ n₃ (inr (inr (inr h))) = omega (arith, h.0)

no_from_magic : (b : List ℕ) → length b ≡ 10 → take 4 b ≢ codes "PING" → take 4 b ≢ codes "PONG" → take 4 b ≢ codes "DISC" → HasMagic b → ⊥
no_from_magic b long n₁ n₂ n₃ (inl h) = omega (arith, h.0)
no_from_magic b long n₁ n₂ n₃ (inr (inl (l, inl e))) = n₁ e
no_from_magic b long n₁ n₂ n₃ (inr (inl (l, inr (inl e)))) = n₂ e
no_from_magic b long n₁ n₂ n₃ (inr (inl (l, inr (inr e)))) = n₃ e
no_from_magic b long n₁ n₂ n₃ (inr (inr (inl h))) = omega (arith, h.0)
no_from_magic b long n₁ n₂ n₃ (inr (inr (inr h))) = omega (arith, h.0)

no_module_magic : (b : List ℕ) → length b ≡ 11 → take 4 b ≢ codes "CONN" → take 4 b ≢ codes "LSTN" → HasMagic b → ⊥
no_module_magic b long n₁ n₂ (inl h) = omega (arith, h.0)
no_module_magic b long n₁ n₂ (inr (inl h)) = omega (arith, h.0)
no_module_magic b long n₁ n₂ (inr (inr (inl (l, inl e)))) = n₁ e
no_module_magic b long n₁ n₂ (inr (inr (inl (l, inr e)))) = n₂ e
no_module_magic b long n₁ n₂ (inr (inr (inr h))) = omega (arith, h.0)

no_length : (n : ℕ) → n ≢ 4 → n ≢ 10 → n ≢ 11 → n ≢ 54 → IsLength n → ⊥
no_length n n₁ n₂ n₃ n₄ (inl e) = n₁ e
no_length n n₁ n₂ n₃ n₄ (inr (inl e)) = n₂ e
no_length n n₁ n₂ n₃ n₄ (inr (inr (inl e))) = n₃ e
no_length n n₁ n₂ n₃ n₄ (inr (inr (inr e))) = n₄ e

read_bare : (b : List ℕ) → length b ≡ 4 → Reads b
read_bare b long =
    let whole : b ≡ take 4 b = sym (take_all 4 b (omega arith)) in
    elim (same_bytes_or_others (take 4 b) (codes "ACKN")) [
      | inl e ↦ inl (packets.Control Ackn, whole ∙ e)
      | inr ne ↦ elim (same_bytes_or_others (take 4 b) (codes "NACK")) [
        | inl e ↦ inl (packets.Control Nack, whole ∙ e)
        | inr ne' ↦ elim (same_bytes_or_others (take 4 b) (codes "DISC")) [
          | inl e ↦ inl (packets.Control (Disc None), whole ∙ e)
          | inr ne'' ↦ inr (Magic (take 4 b), (inl long, refl, no_bare_magic b long ne ne' ne''))
        ]
      ]
    ]

-- a control packet with From, or the refusal of that
read_from : AddressLaws → (b : List ℕ) → IsBytes b → length b ≡ 10 → HasMagic b → ((a : ℕ) → IsFrom a → HasFrom b a → (p : Packet) × Spells p b) → Reads b
read_from law b h long magic make =
    let from = has_from law b h magic (inl long) (omega arith) in
    elim (is_from law from.0) [ inl good ↦ inl (make from.0 good from.1) | inr bad ↦ inr (Address from.0, (from.1, bad)) ]

read_with_from : AddressLaws → (b : List ℕ) → IsBytes b → length b ≡ 10 → Reads b
read_with_from law b h long =
    elim (same_bytes_or_others (take 4 b) (codes "PING")) [
      | inl e ↦ read_from law b h long (inr (inl (long, inl e)))
          (λ a good from. (packets.Control (Ping a), (good, of_from (codes "PING") (address_bytes a) b long e from.field)))
      | inr ne ↦ elim (same_bytes_or_others (take 4 b) (codes "PONG")) [
        | inl e ↦ read_from law b h long (inr (inl (long, inr (inl e))))
            (λ a good from. (packets.Control (Pong a), (good, of_from (codes "PONG") (address_bytes a) b long e from.field)))
        | inr ne' ↦ elim (same_bytes_or_others (take 4 b) (codes "DISC")) [
          | inl e ↦ read_from law b h long (inr (inl (long, inr (inr e))))
              (λ a good from. (packets.Control (Disc (Some a)), (good, of_from (codes "DISC") (address_bytes a) b long e from.field)))
          | inr ne'' ↦ inr (Magic (take 4 b), (inr (inl long), refl, no_from_magic b long ne ne' ne''))
        ]
      ]
    ]

-- a control packet with From and a module, or the refusal of one of them
read_module : AddressLaws → (b : List ℕ) → IsBytes b → length b ≡ 11 → HasMagic b
    → ((a : ℕ) → IsFrom a → HasFrom b a → IsModule (get_or b 10 0) → (p : Packet) × Spells p b) → Reads b
read_module law b h long magic make =
    let from = has_from law b h magic (inr long) (omega arith) in
    elim (is_from law from.0) [
      | inl good ↦ elim (is_module (get_or b 10 0)) [
        | inl letter ↦ inl (make from.0 good from.1 letter)
        | inr other ↦ inr (Module (get_or b 10 0), (long, refl, other, from.0, from.1, good))
      ]
      | inr bad ↦ inr (Address from.0, (from.1, bad))
    ]

read_with_module : AddressLaws → (b : List ℕ) → IsBytes b → length b ≡ 11 → Reads b
read_with_module law b h long =
    elim (same_bytes_or_others (take 4 b) (codes "CONN")) [
      | inl e ↦ read_module law b h long (inr (inr (inl (long, inl e))))
          (λ a good from letter. (
            packets.Control (Conn a (get_or b 10 0)),
            (good, letter, of_module (codes "CONN") (address_bytes a) b (get_or b 10 0) long e from.field refl),
          ))
      | inr ne ↦ elim (same_bytes_or_others (take 4 b) (codes "LSTN")) [
        | inl e ↦ read_module law b h long (inr (inr (inl (long, inr e))))
            (λ a good from letter. (
              packets.Control (Lstn a (get_or b 10 0)),
              (good, letter, of_module (codes "LSTN") (address_bytes a) b (get_or b 10 0) long e from.field refl),
            ))
        | inr ne' ↦ inr (Magic (take 4 b), (inr (inr (inl long)), refl, no_module_magic b long ne ne'))
      ]
    ]

refused_stream : (b : List ℕ) → length b ≡ 54 → (r : StreamRefusal) → stream.RefusesStream b r → Reads b
refused_stream b long (streams.Length n) r = absurd (r.1 long)
refused_stream b long (streams.Magic m) r = inr (Magic m, (inr (inr (inr long)), r.1, no_stream_magic b long (λ e. r.2 (r.1 ∙ e))))
refused_stream b long (streams.Crc f e) r = inr (Crc f e, (long, inr (inr (inr (long, r.1))), r.2, r.3, r.4, r.5))

read_stream : (b : List ℕ) → length b ≡ 54 → HasOneStream b → Reads b
read_stream b long (inl one) = inl (packets.Stream one.0, one.1.spelled)
read_stream b long (inr one) = refused_stream b long one.0 one.1.refused

reads : AddressLaws → (b : List ℕ) → IsBytes b → HasOneStream b → Reads b
reads law b h one =
    elim (cases_eq (length b) 4) [
      | inl long ↦ read_bare b long
      | inr n₁ ↦ elim (cases_eq (length b) 10) [
        | inl long ↦ read_with_from law b h long
        | inr n₂ ↦ elim (cases_eq (length b) 11) [
          | inl long ↦ read_with_module law b h long
          | inr n₃ ↦ elim (cases_eq (length b) 54) [
            | inl long ↦ read_stream b long one
            | inr n₄ ↦ inr (Length (min (length b) (2 ^ 32 - 1)), (no_length (length b) n₁ n₂ n₃ n₄, refl))
          ]
        ]
      ]
    ]

one_reading : AddressLaws → (b : List ℕ) → IsBytes b → HasOneStream b → HasOneReading Spells Refuses b
one_reading law b h one = elim (reads law b h one) [
  | inl found ↦ inl (found.0, record { spelled = found.1; no_other = λ q s. one_packet law b one q found.0 s found.1; no_refusal = λ r k. not_both law b one found.0 r found.1 k })
  | inr found ↦ inr (found.0, record { refused = found.1; no_other = λ r k. one_refusal law b one r found.0 k found.1; no_value = λ p s. not_both law b one p found.0 s found.1 })
]

-- a result that is right is the only one
abbrev pub IsRight : List ℕ → Result Packet Refusal → Type 0
IsRight b r = MatchResult r (λ p. Spells p b) (Refuses b)

pub exact_ok : (b : List ℕ) → HasOneReading Spells Refuses b → (r : Result Packet Refusal) → IsRight b r → (p : Packet) → (r ≡ Ok p) ↔ Spells p b
exact_ok b (inl one) (Ok q) h p = (
  λ e. let same : q ≡ p = cc in subst (λ (x : Packet). Spells x b) same h,
  λ s. ap Ok (one.1.no_other q h ∙ sym (one.1.no_other p s)),
)
exact_ok b (inr one) (Ok q) h p = absurd (one.1.no_value q h)
exact_ok b (inl one) (Err r) h p = absurd (one.1.no_refusal r h)
exact_ok b (inr one) (Err r) h p = (λ e. cc, λ s. absurd (one.1.no_value p s))

pub exact_err : (b : List ℕ) → HasOneReading Spells Refuses b → (r : Result Packet Refusal) → IsRight b r → (s : Refusal) → (r ≡ Err s) ↔ Refuses b s
exact_err b (inl one) (Ok q) h s = (λ e. cc, λ k. absurd (one.1.no_refusal s k))
exact_err b (inr one) (Ok q) h s = absurd (one.1.no_value q h)
exact_err b (inl one) (Err r) h s = absurd (one.1.no_refusal r h)
exact_err b (inr one) (Err r) h s = (
  λ e. let same : r ≡ s = cc in subst (λ (x : Refusal). Refuses b x) same h,
  λ k. ap Err (one.1.no_other r h ∙ sym (one.1.no_other s k)),
)

-- a packet has one spelling
one_spelling : OnePacket → (p : Packet) (a b : List ℕ) → Spells p a → Spells p b → a ≡ b
one_spelling law (packets.Stream p) a b h k = law p a b h k
one_spelling law (packets.Control c) a b h k = control_spelling c a b h k

pub exact : AddressLaws → ((b : List ℕ) → IsBytes b → HasOneStream b) → OnePacket → DecodingIsExact
exact law stream_law one = record { one_of_both = λ b h. one_reading law b h (stream_law b h); one_spelling = one_spelling one }
