-- A run of `talk`: which steps its client takes at what is heard.
use Rattle.std.specs.Prelude.{◌≡◌, ◌≢◌, ◌⊎◌, ℕ, Bool, true, false, IsTrue, ◌<◌, ◌≤◌, ◌+◌, List, [], ◌∷◌, ◌++◌, length, map, filter, take, drop, nat_le, None, Some, if◌then◌else◌}
use Rattle.std.specs.List.{flat_map, last_or, slice_get, suffix_len}
use Rattle.m17_values.specs.declared.heard.Heard.{Heard}
use Rattle.m17_values.specs.declared.heard.Heard.TheVariants as heard
use Rattle.m17_values.specs.declared.peer.Peer.{Peer}
use Rattle.m17_stream.specs.declared.packet.StreamPacket.{StreamPacket}
use Rattle.m17_client.specs.declared.state.Ending.{Ending}
use Rattle.m17_client.specs.declared.state.State.TheVariants.{Closed}
use Rattle.m17_client.specs.declared.state.Input.{Input}
use Rattle.m17_client.specs.declared.state.Input.TheVariants.{Datagram, Quiet, Send, Leave}
use Rattle.m17_client.specs.Standing.{Standing}
use Rattle.m17_client.specs.Steps.{ClientStep, IsClientRun, connected_at, inputs_of, is_connected, ms_since, paused_at, sends_of, standing_after}

-- What `talk` is told: the reflector's peer, the client as it is handed in, the script, and how many milliseconds to
-- stay. A record of the script is a packet with its moment, counted from when the client became connected.
pub record TalkPlan : Type 0 where
  pub to : Peer
  pub client : Standing
  pub script : List (ℕ × StreamPacket)
  pub stay : ℕ

-- No moment of the script is below the one before it.
abbrev pub IsInOrder : List (ℕ × StreamPacket) → Type 0
IsInOrder script = (n : ℕ) (a b : ℕ × StreamPacket)
    → slice_get script n ≡ Some a → slice_get script (n + 1) ≡ Some b → a.0 ≤ b.0

-- An entry of the ear, and the steps that the client takes at it, in order.
pub record Turn : Type 0 where
  pub heard : Heard
  pub steps : List ClientStep

-- what was heard, and all the steps, in order
abbrev pub entries_of : List Turn → List Heard
entries_of turns = map (λ turn. turn.heard) turns

abbrev pub steps_of : List Turn → List ClientStep
steps_of turns = flat_map (λ turn. turn.steps) turns

-- What an entry is to the client: a datagram of the reflector is one; a datagram of another peer is no more than a
-- quiet moment.
abbrev pub IsHeardAs : Peer → Heard → Input → Type 0
IsHeardAs to (heard.Datagram from at bytes) input =
    ((from ≡ to) × (input ≡ Datagram at bytes)) ⊎ ((from ≢ to) × (input ≡ Quiet at))
IsHeardAs to (heard.Quiet at) input = input ≡ Quiet at
IsHeardAs to heard.Fault input = ⊥
IsHeardAs to heard.End input = ⊥

-- The records that are due behind these steps: none while the client isn't connected, else those whose moment has
-- come, in order, but for as many as were sent.
abbrev pub due_records : TalkPlan → List ClientStep → List (ℕ × StreamPacket)
due_records plan steps =
    let now = standing_after plan.client steps in
    let gone = ms_since (connected_at steps) now in
    if is_connected now.state
    then drop (length (sends_of steps)) (filter (λ due. nat_le due.0 gone) plan.script)
    else []

-- It is time to leave behind these steps: the client is connected, all records are sent, and it has stayed for long
-- enough since the last one, or since it became connected where there is none.
pub record IsTimeToLeave (plan : TalkPlan) (steps : List ClientStep) : Type 0 where
  pub connected : IsTrue (is_connected (standing_after plan.client steps).state)
  pub all_sent : length (sends_of steps) ≡ length plan.script
  pub stayed : plan.stay ≤ ms_since (paused_at steps) (standing_after plan.client steps)

-- The client steps once on Leave where it is time to, and else not.
abbrev pub LeavesInTime : TalkPlan → List ClientStep → List Input → Type 0
LeavesInTime plan steps inputs = (IsTimeToLeave plan steps × (inputs ≡ Leave ∷ []))
    ⊎ ((IsTimeToLeave plan steps → ⊥) × (inputs ≡ []))

-- The steps at a datagram or a quiet moment, behind earlier ones: first on what was heard, then on each record that is
-- due, and then on Leave, where it is time to.
pub record TakesTurn (plan : TalkPlan) (earlier : List ClientStep) (entry : Heard)
    (steps : List ClientStep) : Type 0 where
  pub first : ClientStep
  pub sends : List ClientStep
  pub leave : List ClientStep
  pub in_order : steps ≡ (first ∷ sends) ++ leave
  pub on_entry : IsHeardAs plan.to entry first.input
  pub on_due : inputs_of sends ≡ map (λ due. Send due.1) (due_records plan (earlier ++ first ∷ []))
  pub on_leave : LeavesInTime plan (earlier ++ first ∷ sends) (inputs_of leave)

-- The steps at an entry, behind earlier ones; none at a Fault or an End.
abbrev pub IsTurn : TalkPlan → List ClientStep → Heard → List ClientStep → Type 0
IsTurn plan earlier heard.Fault steps = steps ≡ []
IsTurn plan earlier heard.End steps = steps ≡ []
IsTurn plan earlier entry steps = TakesTurn plan earlier entry steps

-- whether an entry is a fault of the socket
abbrev pub is_fault : Heard → Bool
is_fault (heard.Datagram from at bytes) = false
is_fault (heard.Quiet at) = false
is_fault heard.Fault = true
is_fault heard.End = false

-- The last entry is End.
abbrev pub IsEnded : List Turn → Type 0
IsEnded turns = last_or None (entries_of turns) ≡ Some heard.End

-- The last 16 entries, or more, are Faults.
abbrev pub IsLost : List Turn → Type 0
IsLost turns = 16 ≤ suffix_len is_fault (entries_of turns)

-- The client is Closed.
abbrev pub IsClosed : TalkPlan → List Turn → Type 0
IsClosed plan turns =
    (why : Ending) × ((standing_after plan.client (steps_of turns)).state ≡ Closed why)

-- A run is over: the ear said End, or failed 16 times in a row, or the client is Closed.
abbrev pub IsOver : TalkPlan → List Turn → Type 0
IsOver plan turns = IsEnded turns ⊎ (IsLost turns ⊎ IsClosed plan turns)

-- A whole run of `talk`: the steps are a run of the client, those at each entry are the ones that the rule gives behind
-- all earlier ones, and the run is over at its last entry, and not before.
pub record IsTalkRun (plan : TalkPlan) (turns : List Turn) : Type 0 where
  pub run : IsClientRun plan.client (steps_of turns)
  pub each : (n : ℕ) (turn : Turn) → slice_get turns n ≡ Some turn
      → IsTurn plan (steps_of (take n turns)) turn.heard turn.steps
  pub not_before : (n : ℕ) → n < length turns → IsOver plan (take n turns) → ⊥
  pub over : IsOver plan turns
