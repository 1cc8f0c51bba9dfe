-- Which device it is, which no call changes.
use Rattle.std.specs.Prelude.{◌≡◌, ℕ, List, Option, None, Some}
use Rattle.m17_values.specs.declared.heard.Heard.{Heard}
use Rattle.m17_values.specs.declared.peer.Peer.{Peer}

-- Which device it is: its mark, where that is told, and its label, which tells one form of a device from another.
pub record Device (M L : Type 0) : Type 0 where
  pub mark : Option M
  pub label : L

-- The mark of an ear: its number, and the script that it follows, where it tells one.
pub record EarMark : Type 0 where
  pub number : ℕ
  pub script : Option (List Heard)

-- The mark of a mouth: its number, and the peers whose tallies it keeps, where it tells them.
pub record MouthMark : Type 0 where
  pub number : ℕ
  pub peers : Option (List Peer)

-- the script that an ear tells, if it tells one
abbrev pub script_of : Option EarMark → Option (List Heard)
script_of None = None
script_of (Some mark) = mark.script

-- the peers that a mouth names, if it names any
abbrev pub peers_of : Option MouthMark → Option (List Peer)
peers_of None = None
peers_of (Some mark) = mark.peers

-- the number of an ear, if it tells one
abbrev pub ear_number : Option EarMark → Option ℕ
ear_number None = None
ear_number (Some mark) = Some mark.number

-- the number of a mouth, if it tells one
abbrev pub mouth_number : Option MouthMark → Option ℕ
mouth_number None = None
mouth_number (Some mark) = Some mark.number

-- The number is this one, where it is told.
abbrev pub IsNumbered : Option ℕ → ℕ → Type 0
IsNumbered told n = (number : ℕ) → told ≡ Some number → number ≡ n
