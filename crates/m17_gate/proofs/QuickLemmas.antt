-- The answers that rules gave, and what they say of bytes.
use Rattle.std.proofs.Common.{◌≡◌, ℕ, true, false, ◌^◌, ◌<◌, List, length, get_or, set, replicate, Option, None, Some, sym, refl, ap, ◌∙◌, inl, inr, arith}
use Rattle.std.proofs.lemmas.List.{length-set, length-replicate}
use Rattle.std.proofs.lemmas.List.Elements.{All-set, All-replicate}
use Rattle.std.specs.Prelude.{is_some, not}
use Rattle.m17_fields.specs.Fields.{be_48, field_at}
use Rattle.m17_control.specs.declared.packet.Control.{Control}
use Rattle.m17_control.specs.declared.packet.Control.TheVariants.{Conn, Lstn, Ackn, Nack, Ping, Pong, Disc}
use Rattle.m17_control.specs.declared.packet.Packet.{Packet}
use Rattle.m17_control.specs.declared.packet.Packet.TheVariants as packets
use Rattle.m17_control.specs.declared.packet.Refusal.{Refusal}
use Rattle.m17_control.specs.Forms.{Spells, SpellsControl, Refuses}
use Rattle.m17_gate.specs.declared.asked.Asked.{Asked}
use Rattle.m17_gate.specs.declared.asked.Asked.TheVariants.{Talks}
use Rattle.m17_gate.specs.declared.quick.Answer.{Answer}
use Rattle.m17_gate.specs.declared.rule.Rule.{Rule}
use Rattle.m17_gate.specs.Asking.{asked_by, asked_in}
use Rattle.m17_gate.specs.Fits.{allows, allows_any, allows_asked}
use Rattle.m17_gate.specs.Gated.{is_denied}
use Rattle.m17_gate.specs.Laws.{BytesAskAsPackets}
use Rattle.m17_gate.specs.Answers.{IsRight, AreRight}
use Rattle.m17_gate.proofs.AskingLemmas.{address_is, asked_of_54}

pub right_at : (rules : List Rule) (answers : List Answer) (place : ℕ) (d : Answer)
    → AreRight rules answers → place < 256
    → IsRight rules (get_or answers place d)
right_at rules answers place d right lt = right.each place d
    (let count = right.count in omega arith)

pub right_set : (rules : List Rule) (answers : List Answer) (place : ℕ) (answer : Answer)
    → AreRight rules answers
    → IsRight rules answer → AreRight rules (set answers place answer)
right_set rules answers place answer right one = record {
  count = length-set answers place answer ∙ right.count;
  each = All-set (IsRight rules) answers place answer one right.each;
}

pub right_all : (rules : List Rule) (answer : Answer) → IsRight rules answer
    → AreRight rules (replicate 256 answer)
right_all rules answer one = record {
  count = length-replicate 256 answer;
  each = All-replicate (IsRight rules) 256 answer one;
}

pub denied_spelled : BytesAskAsPackets → (rules : List Rule) (bytes : List ℕ) (packet : Packet)
    → Spells packet bytes
    → not (allows rules packet) ≡ is_denied rules bytes
denied_spelled law rules bytes packet h = ap (λ (a : Option Asked). not (allows_any rules a))
    (sym (law.spelled packet bytes h))

pub denied_refused : BytesAskAsPackets → (rules : List Rule) (bytes : List ℕ) (refusal : Refusal)
    → Refuses bytes refusal
    → false ≡ is_denied rules bytes
denied_refused law rules bytes refusal h = ap (λ (a : Option Asked). not (allows_any rules a))
    (sym (law.refused refusal bytes h))

pub allowed_talk : (rules : List Rule) (bytes : List ℕ) (src : ℕ) → length bytes ≡ 54 → src < 2 ^ 48
    → be_48 src ≡ field_at 12 6 bytes → allows_asked rules (Talks src) ≡ true
    → false ≡ is_denied rules bytes
allowed_talk rules bytes src long small field holds = elim (asked_of_54 bytes long) [
  | inl none ↦ ap (λ (a : Option Asked). not (allows_any rules a)) (sym none)
  | inr talks ↦
      let asks : asked_in bytes ≡ Some (Talks src) = talks
      ∙ ap (λ (a : ℕ). Some (Talks a)) (address_is 12 src bytes small field) in
      sym (ap (λ (a : Option Asked). not (allows_any rules a)) asks ∙ ap not holds)
]

-- no control packet has 54 bytes
no_control : (control : Control) (bytes : List ℕ) → SpellsControl control bytes
    → length bytes ≡ 54 → ⊥
no_control (Conn from letter) bytes h long = let n = ap length h.2 in omega arith
no_control (Lstn from letter) bytes h long = let n = ap length h.2 in omega arith
no_control Ackn bytes h long = let n = ap length h in omega arith
no_control Nack bytes h long = let n = ap length h in omega arith
no_control (Ping from) bytes h long = let n = ap length h.1 in omega arith
no_control (Pong from) bytes h long = let n = ap length h.1 in omega arith
no_control (Disc None) bytes h long = let n = ap length h in omega arith
no_control (Disc (Some from)) bytes h long = let n = ap length h.1 in omega arith

-- a packet of 54 bytes asks to speak
asks : (packet : Packet) (bytes : List ℕ) → Spells packet bytes → length bytes ≡ 54
    → true ≡ is_some (asked_by packet)
asks (packets.Stream p) bytes h long = refl
asks (packets.Control control) bytes h long = absurd (no_control control bytes h long)

pub asks_spelled : BytesAskAsPackets → (bytes : List ℕ) (packet : Packet) → Spells packet bytes
    → length bytes ≡ 54 → true ≡ is_some (asked_in bytes)
asks_spelled law bytes packet h long =
    asks packet bytes h long ∙ ap is_some (sym (law.spelled packet bytes h))

pub asks_refused : BytesAskAsPackets → (bytes : List ℕ) (refusal : Refusal) → Refuses bytes refusal
    → false ≡ is_some (asked_in bytes)
asks_refused law bytes refusal h = ap is_some (sym (law.refused refusal bytes h))

-- who may not speak is denied where he asks to
pub denied_talk : (rules : List Rule) (bytes : List ℕ) (src : ℕ) → length bytes ≡ 54 → src < 2 ^ 48
    → be_48 src ≡ field_at 12 6 bytes → allows_asked rules (Talks src) ≡ false
    → is_some (asked_in bytes) ≡ is_denied rules bytes
denied_talk rules bytes src long small field fails = elim (asked_of_54 bytes long) [
  | inl none ↦ ap is_some none ∙ ap (λ (a : Option Asked). not (allows_any rules a)) (sym none)
  | inr talks ↦
      let asks : asked_in bytes ≡ Some (Talks src) = talks
      ∙ ap (λ (a : ℕ). Some (Talks a)) (address_is 12 src bytes small field) in
      ap is_some asks
      ∙ sym (ap (λ (a : Option Asked). not (allows_any rules a)) asks ∙ ap not fails)
]
