-- That no text of rules is refused; what a gate does to packets, by the packets that bytes spell.
use Rattle.std.specs.Prelude.{◌≡◌, ℕ, true, List, [], None, Contains, if◌then◌else◌}
use Rattle.m17_values.specs.declared.heard.Heard.{Heard}
use Rattle.m17_values.specs.declared.heard.Heard.TheVariants.{Datagram, Quiet}
use Rattle.m17_values.specs.declared.peer.Peer.{Peer}
use Rattle.m17_ports.specs.Ear.{EarTold}
use Rattle.m17_control.specs.Forms.{Spells, Refuses}
use Rattle.m17_control.specs.declared.packet.Packet.{Packet}
use Rattle.m17_control.specs.declared.packet.Refusal.{Refusal}
use Rattle.m17_gate.specs.declared.failure.RulesReason.{RulesReason}
use Rattle.m17_gate.specs.declared.rule.Rule.{Rule}
use Rattle.m17_gate.specs.Text.{AreRules}
use Rattle.m17_gate.specs.Taking.{RefusesRules}
use Rattle.m17_gate.specs.Asking.{asked_by, asked_in}
use Rattle.m17_gate.specs.Fits.{allows}
use Rattle.m17_gate.specs.Gated.{gated_entry, gated}

-- No text of rules is refused.
abbrev pub NoRulesAreRefused : Type 0
NoRulesAreRefused = (text : List ℕ) (rules : List Rule) (place : ℕ) (reason : RulesReason)
    → AreRules text rules → RefusesRules text place reason → ⊥

-- The first ear tells of what was heard, of faults and of its mark what the second does.
pub record IsHeardAs {K L : Type 0} (gate : EarTold K) (ear : EarTold L) : Type 0 where
  pub heard : gate.heard ≡ ear.heard
  pub faults : gate.faults ≡ ear.faults
  pub mark : gate.device.mark ≡ ear.device.mark

-- What bytes ask is what the packet asks that they spell; those that spell none ask nothing.
pub record BytesAskAsPackets : Type 0 where
  pub spelled : (packet : Packet) (bytes : List ℕ) → Spells packet bytes
      → asked_in bytes ≡ asked_by packet
  pub refused : (refusal : Refusal) (bytes : List ℕ) → Refuses bytes refusal
      → asked_in bytes ≡ None

-- What a gate makes of a datagram: one that spells an allowed packet, or none, is heard as it is,
-- and of one that spells another nothing is heard until its moment.
pub record GateIsExact : Type 0 where
  pub spelled : (rules : List Rule) (from : Peer) (at : ℕ) (bytes : List ℕ) (packet : Packet)
      → Spells packet bytes → gated_entry rules (Datagram from at bytes)
      ≡ (if allows rules packet then Datagram from at bytes else Quiet at)
  pub refused : (rules : List Rule) (from : Peer) (at : ℕ) (bytes : List ℕ) (refusal : Refusal)
      → Refuses bytes refusal → gated_entry rules (Datagram from at bytes) ≡ Datagram from at bytes

-- No datagram that is heard behind a gate spells a packet that isn't allowed.
abbrev pub DeniedIsNotHeard : Type 0
DeniedIsNotHeard = (rules : List Rule) (entries : List Heard) (from : Peer) (at : ℕ)
    (bytes : List ℕ) (packet : Packet) → Contains (gated rules entries) (Datagram from at bytes)
    → Spells packet bytes → allows rules packet ≡ true

-- A gate without rules lets each entry through as it is.
abbrev pub NoRulesLetAllThrough : Type 0
NoRulesLetAllThrough = (entries : List Heard) → gated [] entries ≡ entries
