-- How far a run of `talk` has come. No public clause cites this module.
use Rattle.std.specs.Prelude.{◌≡◌, ◌↔◌, ◌⊎◌, ℕ, true, false, IsTrue, IsSome, ◌≤◌, ◌-◌, ◌^◌, min, List, [], length, filter, take, drop, nat_le, Option, None, Some, option_map, if◌then◌else◌}
use Rattle.std.specs.List.{last_or, slice_get, suffix_len}
use Rattle.std.specs.Option.{option_or}
use Rattle.m17_values.specs.declared.heard.Heard.{Heard}
use Rattle.m17_values.specs.declared.heard.Heard.TheVariants as heard
use Rattle.m17_values.specs.declared.peer.Peer.{Peer}
use Rattle.m17_stream.specs.declared.packet.StreamPacket.{StreamPacket}
use Rattle.m17_ports.specs.Mouth.{MouthTold, SaidOf}
use Rattle.m17_ports.specs.Book.{BookTold}
use Rattle.m17_client.specs.declared.log.Log.{Log}
use Rattle.m17_client.specs.declared.progress.Progress.{Progress}
use Rattle.m17_client.specs.declared.session.Session.{Session}
use Rattle.m17_client.specs.declared.run.Run.{Run}
use Rattle.m17_client.specs.Standing.{Standing}
use Rattle.m17_client.specs.Steps.{ClientStep, IsClientRun, connected_at, is_connected, ms_since, sends_of, standing_after}
use Rattle.m17_client.specs.Talk.{TalkPlan, Turn, IsEnded, IsOver, IsTurn, entries_of, is_fault, steps_of}
use Rattle.m17_client.specs.TalkDevices.{HasWritten, datagrams_to, records_of, says_of}

-- a client's moment, where it is connected
abbrev pub moment_in : Standing → Option ℕ
moment_in c = if is_connected c.state then Some c.moment else None

-- The client stands as these steps left it, and so do the moments that are remembered.
pub record IsAfter (first : Standing) (steps : List ClientStep) (p : Progress) : Type 0 where
  pub client : p.client ≡ standing_after first steps
  pub connected : p.connected_at ≡ connected_at steps
  pub sent : p.sent ≡ length (sends_of steps)
  pub sent_at : p.sent_at
      ≡ option_map (λ step. step.after.moment) (last_or None (sends_of steps))
  pub since : is_connected p.client.state ≡ true → IsSome p.connected_at

-- the records of a script that are due
abbrev pub due_now : Progress → List (ℕ × StreamPacket) → List (ℕ × StreamPacket)
due_now p script = if is_connected p.client.state
    then drop p.sent
    (filter (λ due. nat_le due.0 (ms_since p.connected_at p.client)) script)
    else []

-- It is time to leave, with a script of this number of packets.
pub record IsTimeNow (p : Progress) (packets stay : ℕ) : Type 0 where
  pub connected : is_connected p.client.state ≡ true
  pub all_sent : p.sent ≡ packets
  pub stayed : stay ≤ ms_since (option_or p.sent_at p.connected_at) p.client

-- These records were kept.
pub record IsLogged {B : Type 0} (start : BookTold B) (records : List (List ℕ)) (log : Log)
    (book : BookTold B) : Type 0 where
  pub kept : log.kept ≡ min (length records) (2 ^ 64 - 1)
  pub written : HasWritten start records log.failed book

-- what a run began with: its plan, and what its mouth and its book told then
pub record Origin (M B : Type 0) : Type 0 where
  pub plan : TalkPlan
  pub mouth : MouthTold M
  pub book : BookTold B

-- A session of a client that has taken no step.
pub record IsFresh (client : Standing) (session : Session) : Type 0 where
  pub after : IsAfter client [] session.progress
  pub kept : session.log.kept ≡ 0
  pub failed : session.log.failed ≡ false

-- The client has taken these steps, and the devices did what they asked for.
pub record IsAt {M B : Type 0} (origin : Origin M B) (steps : List ClientStep) (session : Session)
    (mouth : MouthTold M) (book : BookTold B) : Type 0 where
  pub run : IsClientRun origin.plan.client steps
  pub after : IsAfter origin.plan.client steps session.progress
  pub said : SaidOf origin.mouth (datagrams_to origin.plan.to (says_of steps)) mouth
  pub logged : IsLogged origin.book (records_of steps) session.log book

-- The plan is of these.
pub record IsPlan (plan : TalkPlan) (to : Peer) (script : List (ℕ × StreamPacket)) (stay : ℕ)
    : Type 0 where
  pub to_peer : plan.to ≡ to
  pub of_script : plan.script ≡ script
  pub for_stay : plan.stay ≡ stay

-- The client has taken these turns.
pub record IsSoFar {M B : Type 0} (origin : Origin M B) (turns : List Turn) (run : Run)
    (mouth : MouthTold M) (book : BookTold B) : Type 0 where
  pub at : IsAt origin (steps_of turns) run.session mouth book
  pub each : (n : ℕ) (turn : Turn) → slice_get turns n ≡ Some turn
      → IsTurn origin.plan (steps_of (take n turns)) turn.heard turn.steps
  pub faults : run.faults ≡ suffix_len is_fault (entries_of turns)
  pub ended : IsTrue run.ended ↔ IsEnded turns

-- No turn has ended the run.
abbrev pub GoesOn : TalkPlan → List Turn → Type 0
GoesOn plan turns = (n : ℕ) → n ≤ length turns → IsOver plan (take n turns) → ⊥

-- The client doesn't step on the entry.
abbrev pub IsStepless : Heard → Type 0
IsStepless entry = (entry ≡ heard.Fault) ⊎ (entry ≡ heard.End)
