-- For proofs: what comes back of a run whose jobs have ended.
use Rattle.std.specs.Prelude.{◌≡◌, ◌≤◌, ◌||◌, ℕ, List, [], length, map, All, vec_len, vec_capacity}
use Rattle.std.specs.List.{AllZip}
use Rattle.atomic_table.specs.Seated.{TableId}
use Rattle.m17_values.specs.declared.member.Member.{Member}
use Rattle.m17_ports.specs.Mouth.{MouthTold}
use Rattle.m17_control.specs.declared.item.Direct.{Direct}
use Rattle.m17_control.specs.declared.item.Item.{Item}
use Rattle.m17_lane.specs.Ends.{AreOf, TrailEnd}
use Rattle.m17_lane.specs.Columns.{IsGrid}
use Rattle.m17_lane.specs.Trails.{IsTrailOf, AreTrails, AreTrailsOfOnes}
use Rattle.m17_roll.specs.Closing.{EndView, IsEnded, AreAll, claims_of, gifts_of}
use Rattle.m17_roll.specs.Seat.{RollView}
use Rattle.m17_roll.specs.Sightings.{RisesAtPlaces}
use Rattle.m17_reflect.specs.Left.{drained}
use Rattle.m17_reflect.specs.Rest.{SaysRest}
use Rattle.m17_reflect.specs.Rows.{AreOfOnes, AreRowsOfTrails}
use Rattle.m17_reflect.specs.Rooms.{IsRoom}
use Rattle.m17_reflect.specs.declared.parted.Parted.{Parted}
use Rattle.m17_reflect.specs.declared.returned.Returned.{Returned}

-- jobs that were taken apart can be gathered: the ends of all their lanes but those of orders are there and match,
-- there is room for the trails, each queue has a cell, and all seats of the roll are there
pub record CanGather {E M B : Type 0} (p : Parted E M B) : Type 0 where
  pub inboxes : IsGrid (map (λ column. column.items) p.links.columns.items) p.modules.inboxes.items
  pub shells : All (λ shell. (shell.items ≡ []) × (vec_len p.links.columns ≤ vec_capacity shell))
      p.trails.shells.items
  pub shell_count : vec_len p.modules.inboxes ≤ vec_len p.trails.shells
  pub trails : IsRoom (vec_len p.modules.inboxes) p.trails.inboxes
  pub queues : AllZip AreOfOnes (map (λ row. row.items) p.modules.queues.items)
      (map (λ row. row.items) p.voice.queues.items)
  pub queue_rooms : AllZip (λ row room. (room.items ≡ []) × (vec_len row ≤ vec_capacity room))
      p.voice.queues.items p.trails.queues.items
  pub notes : AreOfOnes p.voice.notes.items p.links.noted.items
  pub note_room : IsRoom (vec_len p.links.noted) p.trails.notes
  pub door : AreOf p.voice.door.lane p.links.doors.items
      × (length p.links.doors.items ≡ p.voice.door.producers)
  pub cells : map (λ row. length row.items) p.voice.held.items
      ≡ map (λ row. length row.items) p.voice.queues.items
  pub seats : (roll : TableId) × (places : ℕ) × AreAll roll places p.seats.items

-- what the closed roll shows of all seats
pub record IsClosedOf (seats : List RollView) (roll : EndView) : Type 0 where
  pub claimed : roll.claimed ≡ claims_of seats
  pub given : roll.given ≡ gifts_of seats
  pub refused : roll.refused ≡ map (λ (s : RollView). s.refused) seats
  pub rising : All (λ (s : RollView). RisesAtPlaces s.claimed) seats
  pub ended : IsEnded roll

-- the queues, the door and the notes are finished, and what was left of queues and door is said
pub record HasEnded {E M B L : Type 0} (tells : M → MouthTold L) (p : Parted E M B)
    (queues : List (List (TrailEnd Item))) (mouths : List M) : Type 0 where
  pub rows : List (List (TrailEnd Item))
  pub row_trails : AreRowsOfTrails (map (λ row. row.items) p.modules.queues.items)
      (map (λ row. row.items) p.voice.queues.items) rows
  pub drained_rows : queues ≡ map (map drained) rows
  pub door : TrailEnd Direct
  pub door_trail : IsTrailOf p.links.doors.items p.voice.door door
  pub notes : List (TrailEnd Member)
  pub note_trails : AreTrailsOfOnes p.voice.notes.items p.links.noted.items notes
  pub rest : SaysRest tells p.voice.name (record {
    cells = map (λ row. row.items) p.voice.held.items;
    queues = rows;
    door = door;
  }) p.voice.mouths.items mouths

-- what comes back of them
pub record Gathered {E M B L : Type 0} (tells : M → MouthTold L) (p : Parted E M B)
    (r : Returned E M B) : Type 0 where
  pub devices : (r.ears ≡ p.links.ears) × (r.traces ≡ p.links.traces) × (r.books ≡ p.modules.books)
  pub trails : AreTrails (map (λ column. column.items) p.links.columns.items)
      p.modules.inboxes.items r.trails.items
  pub ended : HasEnded tells p (map (λ row. row.items) r.queues.items) r.mouths.items
  pub roll : IsClosedOf p.seats.items r.roll
  pub places : All (λ s. s.places ≡ length r.roll.words) p.seats.items
  pub counts : (r.missed ≡ p.modules.missed) × (r.admitted ≡ p.modules.admitted)
  pub tapes : (r.link_tapes ≡ p.links.tapes) × (r.tapes ≡ p.modules.tapes)
  pub flags : (r.lost ≡ p.links.lost) × (r.book_failed ≡ (p.links.failed || p.modules.failed))
