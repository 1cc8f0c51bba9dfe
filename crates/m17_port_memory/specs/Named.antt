-- A mouth that names nobody tells no tally.
use Rattle.std.specs.Prelude.{◌≡◌, ◌↔◌, List, Option, None, Some, IsSome, Contains, MatchOption}
use Rattle.std.proofs.Common.{subst}
use Rattle.m17_values.specs.declared.peer.Peer.{Peer}
use Rattle.m17_ports.specs.declared.tally.Tally.{Tally}

-- Nobody is named, so nothing is said of those who are.
pub names_nobody : (tally : Option Tally) (peers : List Peer) (peer : Peer) → None ≡ Some peers
    → IsSome tally ↔ Contains peers peer
names_nobody tally peers peer e =
    absurd (subst (λ (told : Option (List Peer)). MatchOption told (Unit {0}) (λ _. ⊥)) e tt)
