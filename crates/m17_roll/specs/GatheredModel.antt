-- How seats that are being joined are kept.
use Rattle.std.specs.Prelude.{◌≡◌, ◌<◌, [], ◌∷◌, ◌++◌}
use Rattle.std.specs.Arc.{arc_value}
use Rattle.m17_roll.specs.declared.seat.closing.Gathering.TheInside.{Inside}
use Rattle.m17_roll.specs.Joined.{GatheredView}

abbrev pub gathered_view : Inside → GatheredView
gathered_view s = record {
  roll = (arc_value s.table).shared.table_id;
  seats = (arc_value s.table).shared.key.seats;
  places = s.places;
  parts = s.seat.me.0.parts;
  claimed = s.seat.me.0.claimed;
  given = s.seat.me.0.given;
  refused = s.seat.me.0.finished ++ s.seat.me.0.refused ∷ [];
}

pub record IsJoined (s : Inside) : Type 0 where
  pub fits : s.seat.table_id ≡ (arc_value s.table).shared.table_id
  pub words : (arc_value s.table).shared.table_id.words ≡ s.places
  pub key : (arc_value s.table).shared.key.places ≡ s.places
  pub some_place : 0 < s.places
  pub same : s.seat.me.0.places ≡ s.places
  pub some_part : 0 < s.seat.me.0.parts
