-- What follows from what a device does not tell. For proofs alone.
use Rattle.std.specs.Prelude.{◌≡◌, ◌↔◌, List, Option, None, Some, IsSome, Contains, MatchOption}
use Rattle.std.proofs.Common.{subst}
use Rattle.m17_values.specs.declared.heard.Heard.{Heard}
use Rattle.m17_values.specs.declared.peer.Peer.{Peer}
use Rattle.m17_ports.specs.Ear.{FollowsScript}
use Rattle.m17_ports.specs.declared.tally.Tally.{Tally}

pub nothing_told : {T : Type 0} (x : T) → None ≡ Some x → ⊥
nothing_told {T} x e = subst (λ (told : Option T). MatchOption told (Unit {0}) (λ _. ⊥)) e tt

-- an ear without a script follows each that it has
pub follows_none : (script entries : List Heard) → None ≡ Some script → FollowsScript script entries
follows_none script entries e = absurd (nothing_told script e)

-- a mouth that names nobody tells a tally for all that it names
pub names_nobody : (peers : List Peer) (peer : Peer) → None ≡ Some peers
    → IsSome {T = Tally} None ↔ Contains peers peer
names_nobody peers peer e = absurd (nothing_told peers e)
