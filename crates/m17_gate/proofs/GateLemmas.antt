-- What a gate makes of what is heard.
use Rattle.std.proofs.Common.{◌≡◌, ◌≢◌, ℕ, zero, suc, Bool, true, false, cond, List, [], ◌∷◌, ◌++◌, Option, None, Some, refl, sym, ap, ◌∙◌, inl, inr, arith}
use Rattle.std.proofs.lemmas.Bool.{cases_Bool, not-false}
use Rattle.std.proofs.lemmas.List.{map-append}
use Rattle.std.proofs.lemmas.List.Elements.{All-contains}
use Rattle.std.specs.Prelude.{not, replicate, option_map, if◌then◌else◌}
use Rattle.std.specs.List.{All}
use Rattle.m17_values.specs.declared.heard.Heard.{Heard}
use Rattle.m17_values.specs.declared.heard.Heard.TheVariants.{Datagram, Quiet, Fault, End}
use Rattle.m17_values.specs.declared.peer.Peer.{Peer}
use Rattle.m17_ports.specs.Told.{told_then}
use Rattle.m17_ports.specs.Ear.{EndsPastCount}
use Rattle.m17_control.specs.declared.packet.Packet.{Packet}
use Rattle.m17_control.specs.declared.packet.Refusal.{Refusal}
use Rattle.m17_control.specs.Forms.{Spells, Refuses}
use Rattle.m17_gate.specs.declared.asked.Asked.{Asked}
use Rattle.m17_gate.specs.declared.rule.Rule.{Rule}
use Rattle.m17_gate.specs.Asking.{asked_in}
use Rattle.m17_gate.specs.Fits.{allows, allows_any}
use Rattle.m17_gate.specs.Gated.{gated, gated_entry, gated-ends, is_denied}
use Rattle.m17_gate.specs.Laws.{BytesAskAsPackets, DeniedIsNotHeard}

swapped : (b : Bool) (x y : Heard) → cond (not b) x y ≡ cond b y x
swapped true x y = refl
swapped false x y = refl

pub gate_spelled : BytesAskAsPackets → (rules : List Rule) (from : Peer) (at : ℕ) (bytes : List ℕ)
    (packet : Packet)
    → Spells packet bytes
    → gated_entry rules (Datagram from at bytes) ≡ (if allows rules packet then Datagram from at
    bytes else Quiet at)
gate_spelled law rules from at bytes packet h =
    ap (λ (a : Option Asked). cond (not (allows_any rules a)) (Quiet at) (Datagram from at bytes))
    (law.spelled packet bytes h)
    ∙ swapped (allows rules packet) (Quiet at) (Datagram from at bytes)

pub gate_refused : BytesAskAsPackets → (rules : List Rule) (from : Peer) (at : ℕ) (bytes : List ℕ)
    (refusal : Refusal)
    → Refuses bytes refusal → gated_entry rules (Datagram from at bytes) ≡ Datagram from at bytes
gate_refused law rules from at bytes refusal h =
    ap (λ (a : Option Asked). cond (not (allows_any rules a)) (Quiet at) (Datagram from at bytes))
    (law.refused refusal bytes h)

-- the entry, if it is a datagram that spells a packet, spells an allowed one
abbrev IsAllowedEntry : List Rule → Heard → Type 0
IsAllowedEntry rules entry = (from : Peer) (at : ℕ) (bytes : List ℕ) (packet : Packet)
    → entry ≡ Datagram from at bytes → Spells packet bytes → allows rules packet ≡ true

datagram_bytes : (from other : Peer) (at moment : ℕ) (bytes those : List ℕ)
    → Datagram from at bytes ≡ Datagram other moment those → bytes ≡ those
datagram_bytes from other at moment bytes those e = cc

quiet_is_none : (moment at : ℕ) (from : Peer) (bytes : List ℕ)
    → Quiet moment ≡ Datagram from at bytes → ⊥
quiet_is_none moment at from bytes e = cc

allowed_entry : BytesAskAsPackets → (rules : List Rule) (entry : Heard)
    → IsAllowedEntry rules (gated_entry rules entry)
allowed_entry law rules (Datagram other moment those) from at bytes packet e h =
    elim (cases_Bool (is_denied rules those)) [
      | inl holds ↦ absurd (quiet_is_none moment at from bytes
          (sym (ap (λ (b : Bool). cond b (Quiet moment) (Datagram other moment those)) holds) ∙ e))
      | inr fails ↦
          let same : those ≡ bytes = datagram_bytes other from moment at those bytes
          (sym (ap (λ (b : Bool). cond b (Quiet moment) (Datagram other moment those)) fails)
          ∙ e) in
          ap (allows_any rules) (sym (law.spelled packet bytes h) ∙ ap asked_in (sym same))
          ∙ not-false (allows_any rules (asked_in those)) fails
    ]
allowed_entry law rules (Quiet moment) from at bytes packet e h = absurd
    (quiet_is_none moment at from bytes e)
allowed_entry law rules Fault from at bytes packet e h = cc
allowed_entry law rules End from at bytes packet e h = cc

all_allowed : BytesAskAsPackets → (rules : List Rule) (entries : List Heard)
    → All (IsAllowedEntry rules) (gated rules entries)
all_allowed law rules [] k d lt = absurd (omega (arith, lt))
all_allowed law rules (entry ∷ entries) zero d lt = allowed_entry law rules entry
all_allowed law rules (entry ∷ entries) (suc k) d lt = all_allowed law rules entries k d
    (omega (arith, lt))

pub none_denied : BytesAskAsPackets → DeniedIsNotHeard
none_denied law rules entries from at bytes packet there h =
    All-contains (IsAllowedEntry rules) (gated rules entries) (Datagram from at bytes)
    (all_allowed law rules entries) there
    from at bytes packet refl h

-- an entry is a fault behind the gate exactly where it is one before it
pub fault_is : (rules : List Rule) (entry : Heard) → gated_entry rules entry ≡ Fault → entry ≡ Fault
fault_is rules (Datagram from at bytes) e = elim (cases_Bool (is_denied rules bytes)) [
  | inl holds ↦ let f = sym (ap (λ (b : Bool). cond b (Quiet at) (Datagram from at bytes)) holds)
      ∙ e in cc
  | inr fails ↦ let f = sym (ap (λ (b : Bool). cond b (Quiet at) (Datagram from at bytes)) fails)
      ∙ e in cc
]
fault_is rules (Quiet at) e = cc
fault_is rules Fault e = refl
fault_is rules End e = cc

pub no_fault_is : (rules : List Rule) (entry : Heard) → gated_entry rules entry ≢ Fault
    → entry ≢ Fault
no_fault_is rules entry other e = other (ap (gated_entry rules) e)

ends_behind : (rules : List Rule) (before : Option (List Heard)) → EndsPastCount before
    → EndsPastCount (option_map (gated rules) before)
ends_behind rules before h = (
  gated rules h.0,
  h.1,
  h.2,
  ap (option_map (gated rules)) h.3
      ∙ ap (λ (all : List Heard). Some all) (map-append (gated_entry rules) h.0 (replicate h.1 End)
      ∙ ap (λ (rest : List Heard). gated rules h.0 ++ rest) (gated-ends rules h.1)),
)

told_more : (rules : List Rule) (before after : Option (List Heard)) (entry : Heard)
    → after ≡ told_then before (entry ∷ [])
    → option_map (gated rules) after ≡ told_then (option_map (gated rules) before)
    (gated_entry rules entry ∷ [])
told_more rules None after entry e = ap (option_map (gated rules)) e
told_more rules (Some all) after entry e =
    ap (option_map (gated rules)) e
    ∙ ap (λ (all : List Heard). Some all) (map-append (gated_entry rules) all (entry ∷ []))

-- what is told behind the gate after one more call
pub heard_more : (rules : List Rule) (before after : Option (List Heard)) (entry : Heard)
    → ((EndsPastCount before → ⊥) → after ≡ told_then before (entry ∷ []))
    → (EndsPastCount (option_map (gated rules) before) → ⊥)
    → option_map (gated rules) after ≡ told_then (option_map (gated rules) before)
    (gated_entry rules entry ∷ [])
heard_more rules before after entry appended counts =
    told_more rules before after entry (appended (λ ends. counts (ends_behind rules before ends)))
