-- What has to hold of a sender before it goes.
use Rattle.std.specs.Prelude.{◌≡◌, [], length, None}
use Rattle.std.specs.List.{All}
use Rattle.m17_lane.specs.Grids.{IsNewGrid}
use Rattle.m17_sender.specs.declared.sender.Sender.{Sender}
use Rattle.m17_sender.specs.Places.{cells_of, queues_of}

-- It has a mouth and a pusher of notes for each link, and for each module as many queues as there
-- are places, and as many cells.
pub record IsShaped {M : Type 0} (s : Sender M) : Type 0 where
  pub links : length s.notes.items ≡ length s.mouths.items
  pub modules : length s.held.items ≡ length s.queues.items
  pub queues : All (λ row. length row ≡ s.places) (queues_of s)
  pub cells : All (λ row. length row ≡ s.places) (cells_of s)

-- It has its shape, it has popped nothing of its queues and its door, and it holds nothing back.
pub record IsReady {M : Type 0} (s : Sender M) : Type 0 where
  pub shaped : IsShaped s
  pub queues : IsNewGrid (queues_of s)
  pub door : s.door.popped ≡ []
  pub held : All (λ row. All (λ cell. cell ≡ None) row) (cells_of s)
