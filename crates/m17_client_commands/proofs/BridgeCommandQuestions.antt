-- The questions of a bridge, asked one after the other.
use Rattle.std.proofs.Common.{◌≡◌, ℕ, [], ◌∷◌, subst, arith}
use Rattle.m17_io.specs.Faults.{HasRisen}
use Rattle.m17_ports.specs.Laws.{PortsAreAskedInTurn}
use Rattle.m17_ports.specs.Ports.{HasAsked, PortsTold}
use Rattle.m17_ports.specs.declared.question.Question.{Question}
use Rattle.m17_client_commands.specs.Devices.{FailsAmong}

pub asked_both : PortsAreAskedInTurn → (before mid after : PortsTold) (first second : Question) → HasAsked (first ∷ []) before mid
    → HasAsked (second ∷ []) mid after → HasAsked (first ∷ second ∷ []) before after
asked_both law before mid after first second a b = law.in_turn before mid after (first ∷ []) (second ∷ []) a b

-- the ports failed at the second question
pub failed_second : (before mid after : PortsTold) (first second : Question) → HasAsked (first ∷ second ∷ []) before after
    → mid.faults ≡ before.faults → HasRisen mid.faults after.faults → FailsAmong (first ∷ second ∷ []) before after
failed_second before mid after first second asked same risen = record {
  count = 2;
  some = omega arith;
  few = omega arith;
  asked = asked;
  risen = subst (λ (n : ℕ). HasRisen n after.faults) same risen;
}
