-- What an ear behind a gate tells.
use Rattle.std.specs.Prelude.{◌≡◌, ℕ, Bool, not, List, replicate, map, Option, None, Some, option_map, if◌then◌else◌}
use Rattle.std.proofs.Common.{zero, suc, ◌∷◌, ◌++◌, refl, sym, ap, subst, ◌∙◌, inl, inr}
use Rattle.std.proofs.lemmas.List.{map-append, take-map}
use Rattle.std.proofs.lemmas.Option.{same_Some}
use Rattle.m17_values.specs.declared.heard.Heard.{Heard}
use Rattle.m17_values.specs.declared.heard.Heard.TheVariants.{Datagram, Quiet, Fault, End}
use Rattle.m17_ports.specs.Ear.{EarTold, FollowsScript}
use Rattle.m17_ports.specs.Marks.{EarMark, script_of}
use Rattle.m17_ports.specs.Untold.{follows_none, nothing_told}
use Rattle.m17_gate.specs.declared.rule.Rule.{Rule}
use Rattle.m17_gate.specs.declared.gate.GateLabel.{GateLabel}
use Rattle.m17_gate.specs.Asking.{asked_in}
use Rattle.m17_gate.specs.Fits.{allows_any}

-- These bytes ask what the rules deny.
abbrev pub is_denied : List Rule → List ℕ → Bool
is_denied rules bytes = not (allows_any rules (asked_in bytes))

-- In place of a datagram that is denied nothing is heard until its moment; all else is heard as
-- it is.
abbrev pub gated_entry : List Rule → Heard → Heard
gated_entry rules (Datagram from moment bytes) =
    if is_denied rules bytes then Quiet moment else Datagram from moment bytes
gated_entry rules (Quiet moment) = Quiet moment
gated_entry rules Fault = Fault
gated_entry rules End = End

abbrev pub gated : List Rule → List Heard → List Heard
gated rules entries = map (gated_entry rules) entries

-- An ear behind a gate: the ear, and the rules.
pub record GateSeen (E : Type 0) : Type 0 where
  pub inner : E
  pub rules : List Rule

-- the inner ear's mark, with its script behind the gate
abbrev pub gated_mark : List Rule → Option EarMark → Option EarMark
gated_mark rules None = None
gated_mark rules (Some mark) =
    Some (record { number = mark.number; script = option_map (gated rules) mark.script })

-- What an ear behind a gate tells: what the inner one does, behind the gate, and the inner one's
-- faults. Its label says the rules, and which ear is behind them.
abbrev pub gate_told : {E L : Type 0} → (E → EarTold L) → GateSeen E → EarTold (GateLabel L)
gate_told told gate = record {
  heard = option_map (gated gate.rules) (told gate.inner).heard;
  faults = (told gate.inner).faults;
  device = record {
    mark = gated_mark gate.rules (told gate.inner).device.mark;
    label = record { rules = gate.rules; inner = (told gate.inner).device.label };
  };
}

-- An ear behind a gate follows the script of the ear, behind the gate. For proofs alone.
pub gated-ends : (rules : List Rule) (n : ℕ) → gated rules (replicate n End) ≡ replicate n End
gated-ends rules zero = refl
gated-ends rules (suc n) = ap (λ (rest : List Heard). End ∷ rest) (gated-ends rules n)

gated-script : (rules : List Rule) (script entries : List Heard) → FollowsScript script entries
    → FollowsScript (gated rules script) (gated rules entries)
gated-script rules script entries (inl front) = inl (
  front.0,
  ap (gated rules) front.1 ∙ sym (take-map (gated_entry rules) front.0 script),
)
gated-script rules script entries (inr ends) = inr (
  ends.0,
  ap (gated rules) ends.1 ∙ map-append (gated_entry rules) script (replicate ends.0 End)
      ∙ ap (λ (rest : List Heard). gated rules script ++ rest) (gated-ends rules ends.0),
)

gated-follows : (rules : List Rule) (own told : Option (List Heard))
    → ((script entries : List Heard) → own ≡ Some script → told ≡ Some entries
    → FollowsScript script entries)
    → (script entries : List Heard) → option_map (gated rules) own ≡ Some script
    → option_map (gated rules) told ≡ Some entries → FollowsScript script entries
gated-follows rules None told follows script entries is said = follows_none script entries is
gated-follows rules (Some own) None follows script entries is said = absurd
    (nothing_told entries said)
gated-follows rules (Some own) (Some told) follows script entries is said =
    subst (λ (s : List Heard). FollowsScript s entries) (same_Some (gated rules own) script is)
    (subst (λ (e : List Heard). FollowsScript (gated rules own) e)
    (same_Some (gated rules told) entries said)
    (gated-script rules own told (follows own told refl refl)))

pub gate-follows : (rules : List Rule) (mark : Option EarMark) (told : Option (List Heard))
    → ((script entries : List Heard) → script_of mark ≡ Some script → told ≡ Some entries
    → FollowsScript script entries)
    → (script entries : List Heard) → script_of (gated_mark rules mark) ≡ Some script
    → option_map (gated rules) told ≡ Some entries → FollowsScript script entries
gate-follows rules None told follows script entries is said = follows_none script entries is
gate-follows rules (Some mark) told follows script entries is said =
    gated-follows rules mark.script told follows script entries is said
