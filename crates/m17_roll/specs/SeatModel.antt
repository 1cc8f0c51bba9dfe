-- How a seat is kept, and what of it contracts see.
use Rattle.std.specs.Prelude.{◌≡◌, ◌<◌, []}
use Rattle.std.specs.Arc.{arc_value}
use Rattle.m17_roll.specs.declared.seat.RollSeat.TheInside.{Inside}
use Rattle.m17_roll.specs.Sightings.{NeverFalls, RisesAtPlaces}
use Rattle.m17_roll.specs.Seat.{RollView}

abbrev pub seat_view : Inside → RollView
seat_view s = record {
  roll = (arc_value s.table).shared.table_id;
  seats = (arc_value s.table).shared.key.seats;
  places = s.places;
  claimed = s.seat.me.0.claimed;
  given = s.seat.me.0.given;
  missed = s.seat.me.0.missed;
  refused = s.seat.me.0.refused;
  seen = s.seat.me.0.seen;
}

-- the seat fits the table, is one of its seats, and its own lists are in order
pub record IsSeated (s : Inside) : Type 0 where
  pub fits : s.seat.table_id ≡ (arc_value s.table).shared.table_id
  pub words : (arc_value s.table).shared.table_id.words ≡ s.places
  pub key : (arc_value s.table).shared.key.places ≡ s.places
  pub some_place : 0 < s.places
  pub same : s.seat.me.0.places ≡ s.places
  pub one : s.seat.me.0.parts ≡ 1
  pub no_slot : s.seat.me.1 ≡ []
  pub alone : s.seat.me.0.finished ≡ []
  pub falls : NeverFalls s.seat.me.0.seen
  pub rises : RisesAtPlaces s.seat.me.0.claimed
