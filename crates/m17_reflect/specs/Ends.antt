-- The ends of all lanes of a run, as its jobs have them. Links, modules and places are numbered from 0.
use Rattle.std.specs.Prelude.{◌≡◌, ℕ, List, length, map, slice_get, Some}
use Rattle.m17_values.specs.declared.member.Member.{Member}
use Rattle.m17_control.specs.declared.event.Event.{Event}
use Rattle.m17_control.specs.declared.item.Item.{Item}
use Rattle.m17_control.specs.declared.item.Direct.{Direct}
use Rattle.m17_lane.specs.Ends.{PushEnd, PopEnd, new_popper, new_pusher, new_pushers}
use Rattle.m17_lane.specs.Laid.{IsLaid}
use Rattle.m17_receiver.specs.declared.receiver.Receiver.{Receiver}
use Rattle.m17_worker.specs.declared.worker.Worker.{Worker}
use Rattle.m17_sender.specs.declared.sender.Sender.{Sender}

-- The ends of all lanes: of the modules' inboxes the receivers' ends, by link and in it by module, and
-- the workers'; of the queues the workers' ends, by module and in it by place, and the sender's; of the
-- door the receivers' ends and the sender's; and of the notes, by link, the sender's ends and the
-- receivers'.
pub record Ends : Type 0 where
  pub columns : List (List (PushEnd Event))
  pub inboxes : List (PopEnd Event)
  pub queues : List (List (PushEnd Item))
  pub heads : List (List (PopEnd Item))
  pub doors : List (PushEnd Direct)
  pub door : PopEnd Direct
  pub notes : List (PushEnd Member)
  pub noted : List (PopEnd Member)

-- New lanes of that capacity, each of one producer: the two ends of a lane have the same place.
pub record IsNewLine {T : Type 0} (capacity : ℕ) (pushers : List (PushEnd T))
    (poppers : List (PopEnd T)) : Type 0 where
  pub count : length pushers ≡ length poppers
  pub each : (i : ℕ) (q : PushEnd T) (p : PopEnd T)
      → slice_get pushers i ≡ Some q → slice_get poppers i ≡ Some p
      → (p ≡ new_popper p.lane capacity 1) × (q ≡ new_pusher p 0)

-- New lanes of that capacity, in `rows` rows of `places` lanes.
pub record AreNewLines {T : Type 0} (capacity rows places : ℕ) (pushers : List (List (PushEnd T)))
    (poppers : List (List (PopEnd T))) : Type 0 where
  pub count : (length pushers ≡ rows) × (length poppers ≡ rows)
  pub each : (m : ℕ) (row : List (PushEnd T)) (head : List (PopEnd T))
      → slice_get pushers m ≡ Some row → slice_get poppers m ≡ Some head
      → IsNewLine capacity row head × (length head ≡ places)

-- All lanes are new. An inbox holds 256 events, a queue 64 items, the door 256 replies, and a link's notes
-- 512 members.
pub record AreLaid (links modules places : ℕ) (e : Ends) : Type 0 where
  pub inboxes : IsLaid links 256 e.columns e.inboxes
  pub inbox_count : length e.inboxes ≡ modules
  pub queues : AreNewLines 64 modules places e.queues e.heads
  pub door : (e.door ≡ new_popper e.door.lane 256 links) × (e.doors ≡ new_pushers e.door links)
  pub notes : IsNewLine 512 e.notes e.noted × (length e.noted ≡ links)

-- The ends that jobs have.
abbrev pub ends_of : {E M B : Type 0} → List (Receiver E B) → List (Worker B) → Sender M → Ends
ends_of js ws s = record {
  columns = map (λ j. j.inboxes.items) js;
  inboxes = map (λ w. w.inbox) ws;
  queues = map (λ w. w.offers.queues.items) ws;
  heads = map (λ row. row.items) s.queues.items;
  doors = map (λ j. j.door) js;
  door = s.door;
  notes = s.notes.items;
  noted = map (λ j. j.notes) js;
}
