-- What one call of an ear finds on its socket. For proofs alone.
use Rattle.std.specs.Prelude.{◌≡◌, ◌≢◌, ℕ, suc, option_map, ◌≤◌, List, [], ◌∷◌, take, Option, None, Some, Result, Ok, Err}
use Rattle.std.specs.declared.net.socket_addr.SocketAddr.{SocketAddr}
use Rattle.m17_values.specs.declared.peer.Peer.{Peer}
use Rattle.m17_values.specs.declared.heard.Heard.{Heard}
use Rattle.m17_values.specs.declared.heard.Heard.TheVariants as heard
use Rattle.m17_values.specs.declared.failures.Failed.{Failed}
use Rattle.m17_ports.specs.Told.{told_then}
use Rattle.m17_net.specs.Address.{IsPeerAt}
use Rattle.m17_net.specs.Wire.{Sent}
use Rattle.m17_net.specs.Devices.{IsOver, TellsMoment}
use Rattle.m17_net.specs.declared.taking.Taken.{Taken}
use Rattle.m17_net.specs.declared.taking.Taken.TheVariants as taken

-- a datagram was taken, of which this is told, or nothing was
abbrev pub TakesSo : Taken → Option (List Sent) → Option (List Sent) → Type 0
TakesSo (taken.Datagram from bytes) before after = (address : SocketAddr) × (whole : List ℕ)
    × (after ≡ told_then before ((address, whole) ∷ []))
    × IsPeerAt address from × (bytes ≡ take 64 whole)
TakesSo taken.Nothing before after = after ≡ before
TakesSo taken.Noise before after = after ≡ before
TakesSo taken.Failed before after = after ≡ before

-- the same of what comes at a call, if something does
abbrev pub Comes : Result (Option (Peer × List ℕ)) Failed
    → Option (List Sent) → Option (List Sent) → Type 0
Comes (Ok (Some (from, bytes))) before after = (address : SocketAddr) × (whole : List ℕ)
    × (after ≡ told_then before ((address, whole) ∷ []))
    × IsPeerAt address from × (bytes ≡ take 64 whole)
Comes (Ok None) before after = after ≡ before
Comes (Err _) before after = after ≡ before

-- the answer says what came, where it is no Fault and no End
abbrev pub SaysWhatCame : Heard → Option (Peer × List ℕ) → Type 0
SaysWhatCame (heard.Datagram from at bytes) came = came ≡ Some (from, bytes)
SaysWhatCame (heard.Quiet at) came = came ≡ None
SaysWhatCame heard.Fault came = Unit {0}
SaysWhatCame heard.End came = Unit {0}

-- the moment that was read: where the ear was and where it is, when it ends, and what was answered
pub record TellsAt (until : Option ℕ) (before : ℕ) (answer : Heard) (after : ℕ) : Type 0 where
  pub ends : answer ≡ heard.End → IsOver until after
  pub goes_on : answer ≢ heard.End → answer ≢ heard.Fault → ¬ (IsOver until after)
  pub forward : before ≤ after
  pub moment : TellsMoment answer after

-- the socket broke where it failed, and only there
abbrev pub BreaksSo : Taken → Option ℕ → Option ℕ → Type 0
BreaksSo (taken.Datagram from bytes) before after = after ≡ before
BreaksSo taken.Nothing before after = after ≡ before
BreaksSo taken.Noise before after = after ≡ before
BreaksSo taken.Failed before after = after ≡ option_map suc before

-- a reading gave an error where this is a Fault, and only there
pub record CountsUnread (answer : Heard) (before after : Option ℕ) : Type 0 where
  pub fault : answer ≡ heard.Fault → after ≡ option_map suc before
  pub other : answer ≢ heard.Fault → after ≡ before
