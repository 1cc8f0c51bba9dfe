-- What a mouth tells, and what it has said of a list of datagrams that it was to say.
use Rattle.std.specs.Prelude.{◌≡◌, ℕ, Bool, not, ◌≤◌, ◌+◌, ◌-◌, ◌^◌, min, List, [], ◌∷◌, length, count_by, Option, Some}
use Rattle.std.specs.List.{items_where_true}
use Rattle.m17_values.specs.declared.peer.Peer.{Peer}
use Rattle.m17_ports.specs.Told.{told_then, StartsEmpty}
use Rattle.m17_ports.specs.Marks.{Device, MouthMark, IsNumbered, mouth_number}
use Rattle.m17_ports.specs.Tallies.{IsTallied, no_tally}
use Rattle.m17_ports.specs.declared.tally.Tally.{Tally}

-- A datagram: the peer it goes to, and its bytes.
abbrev pub Datagram : Type 0
Datagram = Peer × List ℕ

-- All that a mouth with labels of this kind tells: the datagrams said so far, where it tells them, the tallies of peers,
-- how often it failed, and which mouth it is.
pub record MouthTold (L : Type 0) : Type 0 where
  pub said : Option (List Datagram)
  pub tallies : Peer → Option Tally
  pub faults : ℕ
  pub device : Device MouthMark L

-- These datagrams are in the tallies, one after another: each in its peer's, where there is one.
abbrev pub AreTallied : (Peer → Option Tally) → List Datagram → (Peer → Option Tally) → Type 0
AreTallied before [] after = (peer : Peer) → after peer ≡ before peer
AreTallied before (d ∷ ds) after = (between : Peer → Option Tally)
    × IsTallied before d.0 d.1 between × AreTallied between ds after

-- The mouth was to say these datagrams, in order. Of each it is told whether it `went`: those that did are what was
-- said, in order. The count of faults rose by as many as did not, or more, and stands where all did. It is the same
-- mouth.
pub record SaidOf {L : Type 0} (before : MouthTold L) (wanted : List Datagram)
    (after : MouthTold L) : Type 0 where
  pub went : List Bool
  pub each : length went ≡ length wanted
  pub told : after.said ≡ told_then before.said (items_where_true went wanted)
  pub tallied : AreTallied before.tallies (items_where_true went wanted) after.tallies
  pub counted : before.faults ≤ after.faults
  pub lost : min (before.faults + count_by not went) (2 ^ 64 - 1) ≤ after.faults
  pub none_lost : count_by not went ≡ 0 → after.faults ≡ before.faults
  pub same_device : after.device ≡ before.device

-- Nothing was said yet: what is told of the list is empty, and so is each tally that is told.
pub record HasSaidNothing (said : Option (List Datagram)) (tallies : Peer → Option Tally) : Type 0 where
  pub list : StartsEmpty said
  pub numbers : (peer : Peer) (t : Tally) → tallies peer ≡ Some t → t ≡ no_tally

-- A new mouth, which the call with this number handed out: nothing was said, and nothing failed.
pub record IsNewMouth {L : Type 0} (call : ℕ) (mouth : MouthTold L) : Type 0 where
  pub said : HasSaidNothing mouth.said mouth.tallies
  pub faults : mouth.faults ≡ 0
  pub numbered : IsNumbered (mouth_number mouth.device.mark) call
