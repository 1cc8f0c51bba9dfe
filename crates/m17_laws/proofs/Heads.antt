-- Which packet bytes spell, told by their first byte where that says it.
use Rattle.std.proofs.Common.{◌≡◌, ℕ, List, get_or, refl, sym, ap, ◌∙◌, None, Some, arith}
use Rattle.m17_stream.specs.Stream.{SpellsStream}
use Rattle.m17_stream.specs.Laws.{OneSpelling}
use Rattle.m17_stream.specs.declared.packet.StreamPacket.{StreamPacket}
use Rattle.m17_control.specs.Forms.{Spells, SpellsControl}
use Rattle.m17_control.specs.declared.packet.Control.{Control}
use Rattle.m17_control.specs.declared.packet.Control.TheVariants.{Conn, Lstn, Ackn, Nack, Ping, Pong, Disc}
use Rattle.m17_control.specs.declared.packet.Packet.{Packet}
use Rattle.m17_control.specs.declared.packet.Packet.TheVariants as packets

-- the first letter of what a control packet spells
abbrev letter : Control → ℕ
letter (Conn from module_letter) = 67
letter (Lstn from module_letter) = 76
letter Ackn = 65
letter Nack = 78
letter (Ping from) = 80
letter (Pong from) = 80
letter (Disc from) = 68

begins : (c : Control) (bytes : List ℕ) → SpellsControl c bytes → get_or bytes 0 0 ≡ letter c
begins (Conn from module_letter) bytes h = ap (λ b. get_or b 0 0) h.2
begins (Lstn from module_letter) bytes h = ap (λ b. get_or b 0 0) h.2
begins Ackn bytes h = ap (λ b. get_or b 0 0) h
begins Nack bytes h = ap (λ b. get_or b 0 0) h
begins (Ping from) bytes h = ap (λ b. get_or b 0 0) h.1
begins (Pong from) bytes h = ap (λ b. get_or b 0 0) h.1
begins (Disc None) bytes h = ap (λ b. get_or b 0 0) h
begins (Disc (Some from)) bytes h = ap (λ b. get_or b 0 0) h.1

frame_begins : (p : StreamPacket) (bytes : List ℕ) → SpellsStream p bytes → get_or bytes 0 0 ≡ 77
frame_begins p bytes h = ap (λ b. get_or b 0 0) h.spelling

no_frame : (c : Control) → letter c ≡ 77 → ⊥
no_frame (Conn from module_letter) e = omega arith
no_frame (Lstn from module_letter) e = omega arith
no_frame Ackn e = omega arith
no_frame Nack e = omega arith
no_frame (Ping from) e = omega arith
no_frame (Pong from) e = omega arith
no_frame (Disc from) e = omega arith

-- the bytes of a voice packet spell no other packet
pub is_frame : OneSpelling → (p : StreamPacket) (q : Packet) (bytes : List ℕ) → SpellsStream p bytes → Spells q bytes
    → q ≡ packets.Stream p
is_frame law p (packets.Stream r) bytes h other = ap packets.Stream (law r p bytes other h)
is_frame law p (packets.Control c) bytes h other =
    absurd (no_frame c (sym (begins c bytes other) ∙ frame_begins p bytes h))

ackn_alone : (c : Control) → letter c ≡ 65 → c ≡ Ackn
ackn_alone (Conn from module_letter) e = absurd (omega arith)
ackn_alone (Lstn from module_letter) e = absurd (omega arith)
ackn_alone Ackn e = refl
ackn_alone Nack e = absurd (omega arith)
ackn_alone (Ping from) e = absurd (omega arith)
ackn_alone (Pong from) e = absurd (omega arith)
ackn_alone (Disc from) e = absurd (omega arith)

-- nor do those of an ACKN
pub is_ackn : (q : Packet) (bytes : List ℕ) → SpellsControl Ackn bytes → Spells q bytes → q ≡ packets.Control Ackn
is_ackn (packets.Stream p) bytes h other =
    let e : 77 ≡ 65 = sym (frame_begins p bytes other) ∙ begins Ackn bytes h in absurd (omega (arith, e))
is_ackn (packets.Control c) bytes h other =
    ap packets.Control (ackn_alone c (sym (begins c bytes other) ∙ begins Ackn bytes h))
