-- What a mouth's tallies are of.
use Rattle.std.specs.Prelude.{◌≡◌, List, ◌++◌, Some}
use Rattle.m17_values.specs.declared.peer.Peer.{Peer}
use Rattle.m17_control.specs.declared.packet.Packet.{Packet}
use Rattle.m17_ports.specs.declared.tally.Tally.{Tally}
use Rattle.m17_port_memory.specs.Kept.{TalliesKept}
use Rattle.m17_port_memory.specs.Peers.{tally_at, named_in}
use Rattle.m17_house.specs.Replay.{tally_of}

-- Each tally that the mouth tells is that of what was said to its peer.
abbrev pub AreTalliesOf : (Peer → List Packet) → TalliesKept → Type 0
AreTalliesOf said mouth =
    (x : Peer) (tally : Tally) → tally_at mouth.entries x ≡ Some tally → tally ≡ tally_of (said x)

-- It is the same mouth: the same peers have tallies.
pub record IsSameMouth (before after : TalliesKept) : Type 0 where
  pub peers : named_in after.entries ≡ named_in before.entries
  pub number : after.number ≡ before.number

-- These packets more were said to each peer.
pub record HasSaidMore (more : Peer → List Packet) (before after : TalliesKept) : Type 0 where
  pub same : IsSameMouth before after
  pub tallies : (said : Peer → List Packet) → AreTalliesOf said before →
      AreTalliesOf (λ x. said x ++ more x) after
