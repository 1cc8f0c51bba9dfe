-- How a closed roll is kept.
use Rattle.std.specs.Prelude.{◌≡◌, ◌<◌, [], ◌∷◌, ◌++◌}
use Rattle.std.specs.Arc.{arc_value}
use Rattle.m17_roll.specs.declared.seat.closing.RollEnd.TheInside.{Inside}
use Rattle.m17_roll.specs.Joined.{words_of}
use Rattle.m17_roll.specs.Closing.{EndView}

abbrev pub end_view : Inside → EndView
end_view s = record {
  words = words_of s.places s.seat.me.0.claimed s.seat.me.0.given;
  claimed = s.seat.me.0.claimed;
  given = s.seat.me.0.given;
  refused = s.seat.me.0.finished ++ s.seat.me.0.refused ∷ [];
}

-- the seat is all seats of the roll
pub record IsWhole (s : Inside) : Type 0 where
  pub fits : s.seat.table_id ≡ (arc_value s.table).shared.table_id
  pub words : (arc_value s.table).shared.table_id.words ≡ s.places
  pub key : (arc_value s.table).shared.key.places ≡ s.places
  pub same : s.seat.me.0.places ≡ s.places
  pub some_part : 0 < s.seat.me.0.parts
  pub all : s.seat.me.0.parts ≡ (arc_value s.table).shared.key.seats
