-- What no rules, and the rule that denies everything, make of what is asked and heard.
use Rattle.std.proofs.Common.{◌≡◌, ℕ, Bool, false, cond, List, [], ◌∷◌, Option, None, Some, refl, sym, ap, ◌∙◌}
use Rattle.std.proofs.lemmas.Option.{same_Some}
use Rattle.std.specs.Prelude.{not, is_some, option_map}
use Rattle.m17_values.specs.declared.heard.Heard.{Heard}
use Rattle.m17_values.specs.declared.heard.Heard.TheVariants.{Datagram, Quiet, Fault, End}
use Rattle.m17_ports.specs.Told.{StartsEmpty}
use Rattle.m17_ports.specs.Ear.{EarTold, IsNewEar}
use Rattle.m17_ports.specs.Marks.{EarMark, IsNumbered, ear_number}
use Rattle.m17_ports.specs.Untold.{nothing_told}
use Rattle.m17_gate.specs.declared.asked.Asked.{Asked}
use Rattle.m17_gate.specs.declared.asked.Asked.TheVariants.{Connects, Listens, Talks}
use Rattle.m17_gate.specs.declared.rule.Rule.{Rule}
use Rattle.m17_control.specs.declared.packet.Packet.{Packet}
use Rattle.m17_control.specs.Forms.{Spells}
use Rattle.m17_gate.specs.Answers.{rules_or_none_may}
use Rattle.m17_gate.specs.Asking.{asked_by, asked_in}
use Rattle.m17_gate.specs.Fits.{allows_any, deny_all}
use Rattle.m17_gate.specs.Gated.{gated, gated_entry, gated_mark, gate_told, GateSeen, is_denied}
use Rattle.m17_gate.specs.Laws.{BytesAskAsPackets, IsHeardAs, NoRulesLetAllThrough}

nothing_denied : (asked : Option Asked) → not (allows_any [] asked) ≡ false
nothing_denied None = refl
nothing_denied (Some asked) = refl

pub none_is_denied : (bytes : List ℕ) → is_denied [] bytes ≡ false
none_is_denied bytes = nothing_denied (asked_in bytes)

all_denied : (asked : Option Asked) → not (allows_any deny_all asked) ≡ is_some asked
all_denied None = refl
all_denied (Some (Connects from letter)) = refl
all_denied (Some (Listens from letter)) = refl
all_denied (Some (Talks src)) = refl

pub all_that_ask : (bytes : List ℕ) → is_denied deny_all bytes ≡ is_some (asked_in bytes)
all_that_ask bytes = all_denied (asked_in bytes)

pub asked_spelled : BytesAskAsPackets → (bytes : List ℕ) (packet : Packet) → Spells packet bytes
    → is_some (asked_by packet) ≡ is_denied deny_all bytes
asked_spelled law bytes packet h = ap is_some (sym (law.spelled packet bytes h)) ∙ sym (all_that_ask bytes)

-- a gate that isn't shut is of its rules
pub open_rules : (shut : Bool) (rules now : List Rule) → rules_or_none_may shut rules ≡ now
    → shut ≡ false → rules ≡ now
open_rules shut rules now e fails = sym (ap (λ (b : Bool). cond b deny_all rules) fails) ∙ e

entry_passes : (entry : Heard) → gated_entry [] entry ≡ entry
entry_passes (Datagram from at bytes) =
    ap (λ (b : Bool). cond b (Quiet at) (Datagram from at bytes)) (none_is_denied bytes)
entry_passes (Quiet at) = refl
entry_passes Fault = refl
entry_passes End = refl

pub all_pass : NoRulesLetAllThrough
all_pass [] = refl
all_pass (entry ∷ entries) =
    ap (λ (e : Heard). e ∷ gated [] entries) (entry_passes entry)
    ∙ ap (λ (rest : List Heard). entry ∷ rest) (all_pass entries)

told_passes : (told : Option (List Heard)) → option_map (gated []) told ≡ told
told_passes None = refl
told_passes (Some entries) = ap (λ (all : List Heard). Some all) (all_pass entries)

abbrev mark_with : ℕ → Option (List Heard) → Option EarMark
mark_with number script = Some (record { number = number; script = script })

mark_passes : (mark : Option EarMark) → gated_mark [] mark ≡ mark
mark_passes None = refl
mark_passes (Some mark) = ap (mark_with mark.number) (told_passes mark.script)

pub heard_as : {E L : Type 0} (told : E → EarTold L) (ear : E)
    → IsHeardAs (gate_told told (record { inner = ear; rules = [] })) (told ear)
heard_as told ear = record {
  heard = told_passes (told ear).heard;
  faults = refl;
  mark = mark_passes (told ear).device.mark;
}

-- a new ear is new behind a gate
starts_empty : (rules : List Rule) (told : Option (List Heard)) → StartsEmpty told
    → StartsEmpty (option_map (gated rules) told)
starts_empty rules None starts all e = absurd (nothing_told all e)
starts_empty rules (Some said) starts all e =
    sym (same_Some (gated rules said) all e) ∙ ap (gated rules) (starts said refl)

numbered : (rules : List Rule) (mark : Option EarMark) (call : ℕ)
    → IsNumbered (ear_number mark) call → IsNumbered (ear_number (gated_mark rules mark)) call
numbered rules None call h = h
numbered rules (Some mark) call h = h

pub new_behind : {E L : Type 0} (told : E → EarTold L) (gate : GateSeen E) (call : ℕ)
    → IsNewEar call (told gate.inner) → IsNewEar call (gate_told told gate)
new_behind told gate call new = record {
  heard = starts_empty gate.rules (told gate.inner).heard new.heard;
  faults = new.faults;
  numbered = numbered gate.rules (told gate.inner).device.mark call new.numbered;
}
