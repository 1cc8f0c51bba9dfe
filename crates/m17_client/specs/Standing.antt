-- What contracts see of a client.
use Rattle.std.specs.Prelude.{ℕ, Bool, max, Option, None}
use Rattle.m17_client.specs.declared.state.State.{State}
use Rattle.m17_client.specs.declared.state.State.TheVariants.{Idle}
use Rattle.m17_client.specs.declared.state.LastKept.{LastKept}

-- Where a client stands: its callsign's address, its module and whether it only listens, which no step changes; its
-- moment, those of its last CONN and of its Leave; the last packet that it kept; and its state.
pub record Standing : Type 0 where
  pub call : ℕ
  pub letter : ℕ
  pub listens : Bool
  pub moment : ℕ
  pub conn_at : ℕ
  pub leave_at : ℕ
  pub kept : Option LastKept
  pub state : State

-- A client that was just made: idle, at moment 0, with nothing kept.
abbrev pub new_client : ℕ → ℕ → Bool → Standing
new_client address module_letter listens = record {
  call = address;
  letter = module_letter;
  listens = listens;
  moment = 0;
  conn_at = 0;
  leave_at = 0;
  kept = None;
  state = Idle;
}

-- The client with its moment brought up to date: the greatest so far.
abbrev pub at_moment : Standing → ℕ → Standing
at_moment c at = record c { moment = max c.moment at }
