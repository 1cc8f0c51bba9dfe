-- What one line does to the rules that were read before it. For proofs alone.
use Rattle.std.specs.Prelude.{◌≡◌, ◌⊎◌, ⊤, ℕ, true, false, List, [], ◌∷◌, ◌++◌}
use Rattle.m17_gate.specs.declared.refusal.RulesRefusal.{RulesRefusal}
use Rattle.m17_gate.specs.declared.refusal.RulesRefusal.TheVariants.{Large, Line, ReadFault, NoMemory}
use Rattle.m17_gate.specs.declared.rule.Rule.{Rule}
use Rattle.m17_gate.specs.Text.{is_ruled, IsRule, IsRefusedPart}

-- It is passed over, or its rule is put behind them.
abbrev pub AddsLine : List ℕ → List Rule → List Rule → Type 0
AddsLine line old new = ((is_ruled line ≡ false) × (new ≡ old))
    ⊎ ((is_ruled line ≡ true) × (rule : Rule) × IsRule line rule × (new ≡ old ++ rule ∷ []))

-- It is refused, or there was no memory for its rule.
abbrev pub StopsAt : List ℕ → ℕ → RulesRefusal → Type 0
StopsAt line number (Line place reason) =
    (place ≡ number) × (is_ruled line ≡ true) × IsRefusedPart line reason
StopsAt line number NoMemory = ⊤
StopsAt line number (Large place) = ⊥
StopsAt line number ReadFault = ⊥
