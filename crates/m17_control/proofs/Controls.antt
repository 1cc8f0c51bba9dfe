-- A control packet from its bytes, and what its bytes are.
use Rattle.std.proofs.Common.{◌≡◌, ◌≢◌, ◌⊎◌, ℕ, ◌<◌, ◌^◌, cond, eqb, List, length, take, drop, get_or, codes, None, Some, inl, inr, refl, sym, ap, ◌∙◌, subst, arith}
use Rattle.std.proofs.lemmas.Bool.{cases_eq}
use Rattle.std.specs.Str.{bytes_eq}
use Rattle.m17_callsign.specs.AddressBytes.{address_bytes}
use Rattle.m17_fields.specs.Fields.{Fields48AreExact}
use Rattle.m17_callsign.specs.Laws.{EachAddressHasOneCallsign}
use Rattle.m17_control.specs.declared.packet.Control.{Control}
use Rattle.m17_control.specs.declared.packet.Control.TheVariants.{Conn, Lstn, Ackn, Nack, Ping, Pong, Disc}
use Rattle.m17_control.specs.Forms.{SpellsControl, IsFrom, IsModule, HasMagic}

-- what a control packet is that has a spelling of this length, magic, address and letter
abbrev control_by : List ℕ → ℕ → ℕ → ℕ → Control
control_by m long from letter =
    cond (bytes_eq m (codes "CONN")) (Conn from letter)
    (cond (bytes_eq m (codes "LSTN")) (Lstn from letter)
    (cond (bytes_eq m (codes "ACKN")) Ackn
    (cond (bytes_eq m (codes "NACK")) Nack
    (cond (bytes_eq m (codes "PING")) (Ping from)
    (cond (bytes_eq m (codes "PONG")) (Pong from)
    (cond (eqb long 4) (Disc None) (Disc (Some from))))))))

abbrev control_in : ℕ → List ℕ → Control
control_in from b = control_by (take 4 b) (length b) from (get_or b 10 0)

-- what is known of addresses: that six bytes are one, and which of them have a callsign
pub record AddressLaws : Type 0 where
  pub fields : Fields48AreExact
  pub callsigns : EachAddressHasOneCallsign

pub from_fits : AddressLaws → (a : ℕ) → IsFrom a → a < 2 ^ 48
from_fits law a h = law.callsigns.within a h

pub with_from_not_4 : (b : List ℕ) → (length b ≡ 10) ⊎ (length b ≡ 11) → length b ≢ 4
with_from_not_4 b (inl h) e = omega arith
with_from_not_4 b (inr h) e = omega arith

-- the address of From, where there is one
abbrev IsFromOf : List ℕ → ℕ → Type 0
IsFromOf b a = length b ≢ 4 → IsFrom a × (address_bytes a ≡ take 6 (drop 4 b))

from_back : AddressLaws → (a from : ℕ) (b : List ℕ) → IsFromOf b a → (length b ≡ 10) ⊎ (length b ≡ 11) → IsFrom from
    → take 6 (drop 4 b) ≡ address_bytes from → a ≡ from
from_back law a from b at long good field =
    let found = at (with_from_not_4 b long) in
    law.fields.one_number a from (from_fits law a found.0) (from_fits law from good) (found.1 ∙ field)

-- the From of the bytes that a control packet spells
six : List ℕ → List ℕ
six b = take 6 (drop 4 b)

control_back : AddressLaws → (c : Control) (a : ℕ) (b : List ℕ) → IsFromOf b a → SpellsControl c b → control_in a b ≡ c
unfolding six
control_back law (Conn from letter) a b at h = ap (control_in a) h.2 ∙ ap (λ x. Conn x letter) (from_back law a from b at (inr (ap length h.2)) h.0 (ap six h.2))
control_back law (Lstn from letter) a b at h = ap (control_in a) h.2 ∙ ap (λ x. Lstn x letter) (from_back law a from b at (inr (ap length h.2)) h.0 (ap six h.2))
control_back law Ackn a b at h = ap (control_in a) h
control_back law Nack a b at h = ap (control_in a) h
control_back law (Ping from) a b at h = ap (control_in a) h.1 ∙ ap Ping (from_back law a from b at (inl (ap length h.1)) h.0 (ap six h.1))
control_back law (Pong from) a b at h = ap (control_in a) h.1 ∙ ap Pong (from_back law a from b at (inl (ap length h.1)) h.0 (ap six h.1))
control_back law (Disc None) a b at h = ap (control_in a) h
control_back law (Disc (Some from)) a b at h = ap (control_in a) h.1 ∙ ap (λ x. Disc (Some x)) (from_back law a from b at (inl (ap length h.1)) h.0 (ap six h.1))

-- a control packet has one spelling
pub one_spelling : (c : Control) (a b : List ℕ) → SpellsControl c a → SpellsControl c b → a ≡ b
one_spelling (Conn from letter) a b h k = h.2 ∙ sym k.2
one_spelling (Lstn from letter) a b h k = h.2 ∙ sym k.2
one_spelling Ackn a b h k = h ∙ sym k
one_spelling Nack a b h k = h ∙ sym k
one_spelling (Ping from) a b h k = h.1 ∙ sym k.1
one_spelling (Pong from) a b h k = h.1 ∙ sym k.1
one_spelling (Disc None) a b h k = h ∙ sym k
one_spelling (Disc (Some from)) a b h k = h.1 ∙ sym k.1

-- What the bytes of a control packet are: of a length of these, with a magic that fits it, and with an address and a
-- letter that are right where they stand.
pub record IsControl (b : List ℕ) : Type 0 where
  pub short : (length b ≡ 4) ⊎ (length b ≡ 10) ⊎ (length b ≡ 11)
  pub magic : HasMagic b
  pub from : length b ≢ 4 → (a : ℕ) × IsFrom a × (address_bytes a ≡ take 6 (drop 4 b))
  pub letter : length b ≡ 11 → IsModule (get_or b 10 0)

bare : (m b : List ℕ) → b ≡ m → length m ≡ 4 → HasMagic m → IsControl b
bare m b e long magic = subst IsControl (sym e) (record {
  short = inl long;
  magic = magic;
  from = λ ne. absurd (ne long);
  letter = λ l. absurd (omega arith);
})

pub is_control : (c : Control) (b : List ℕ) → SpellsControl c b → IsControl b
is_control (Conn from letter) b h = subst IsControl (sym h.2) (record {
  short = inr (inr refl);
  magic = inr (inr (inl (refl, inl refl)));
  from = λ ne. (from, h.0, refl);
  letter = λ l. h.1;
})
is_control (Lstn from letter) b h = subst IsControl (sym h.2) (record {
  short = inr (inr refl);
  magic = inr (inr (inl (refl, inr refl)));
  from = λ ne. (from, h.0, refl);
  letter = λ l. h.1;
})
is_control Ackn b h = bare (codes "ACKN") b h refl (inl (refl, inl refl))
is_control Nack b h = bare (codes "NACK") b h refl (inl (refl, inr (inl refl)))
is_control (Ping from) b h = subst IsControl (sym h.1) (record {
  short = inr (inl refl);
  magic = inr (inl (refl, inl refl));
  from = λ ne. (from, h.0, refl);
  letter = λ l. absurd (omega arith);
})
is_control (Pong from) b h = subst IsControl (sym h.1) (record {
  short = inr (inl refl);
  magic = inr (inl (refl, inr (inl refl)));
  from = λ ne. (from, h.0, refl);
  letter = λ l. absurd (omega arith);
})
is_control (Disc None) b h = bare (codes "DISC") b h refl (inl (refl, inr (inr refl)))
is_control (Disc (Some from)) b h = subst IsControl (sym h.1) (record {
  short = inr (inl refl);
  magic = inr (inl (refl, inr (inr refl)));
  from = λ ne. (from, h.0, refl);
  letter = λ l. absurd (omega arith);
})

-- the same bytes spell one control packet
pub one_control : AddressLaws → (c d : Control) (b : List ℕ) → SpellsControl c b → SpellsControl d b → c ≡ d
one_control law c d b h k =
    elim (cases_eq (length b) 4) [
      | inl four ↦ (let none : IsFromOf b 0 = λ ne. absurd (ne four) in sym (control_back law c 0 b none h) ∙ control_back law d 0 b none k)
      | inr ne ↦ (let from = (is_control c b h).from ne in
          let at : IsFromOf b from.0 = λ _. (from.1, from.2) in
          sym (control_back law c from.0 b at h) ∙ control_back law d from.0 b at k)
    ]
