-- For proofs: the room for the devices of a run.
use Rattle.std.specs.Prelude.{◌≡◌, ℕ, ◌<◌, [], None, All, vec_capacity, vec_len}
use Rattle.m17_replay.specs.declared.devices.Rooms.{Rooms}

-- There is room for one ear and one mouth, and there are books that keep nothing: one trace, and one for each module.
pub record HasRooms (modules : ℕ) (rooms : Rooms) : Type 0 where
  pub no_ear : rooms.ears.items ≡ []
  pub ear : vec_len rooms.ears < vec_capacity rooms.ears
  pub no_mouth : rooms.mouths.items ≡ []
  pub mouth : vec_len rooms.mouths < vec_capacity rooms.mouths
  pub one_trace : vec_len rooms.traces ≡ 1
  pub empty_trace : All (λ trace. trace.inner ≡ None) rooms.traces.items
  pub so_many : vec_len rooms.books ≡ modules
  pub empty_books : All (λ book. book.inner ≡ None) rooms.books.items
