-- The trails of rows of lanes of one producer.
use Rattle.std.specs.Prelude.{◌≡◌, ℕ, List, length, slice_get, All, Some}
use Rattle.m17_lane.specs.Ends.{PushEnd, PopEnd, TrailEnd}
use Rattle.m17_lane.specs.Columns.{lanes_of, lanes_popped}
use Rattle.m17_lane.specs.Trails.{AreTrailsOfOnes}

module _ {T : Type 0} where
  -- The rows' pushers and poppers stand for the same lanes, at the same places, each with one
  -- producer.
  pub record AreOfOnes (pushers : List (PushEnd T)) (poppers : List (PopEnd T)) : Type 0 where
    pub lanes : lanes_of pushers ≡ lanes_popped poppers
    pub alone : All (λ p. p.producers ≡ 1) poppers

  -- One row of trails for each row of ends, in order: those of its lanes.
  pub record AreRowsOfTrails (pushers : List (List (PushEnd T))) (poppers : List (List (PopEnd T)))
      (trails : List (List (TrailEnd T))) : Type 0 where
    pub count : length trails ≡ length poppers
    pub each : (m : ℕ) (qs : List (PushEnd T)) (ps : List (PopEnd T)) (ts : List (TrailEnd T))
        → slice_get pushers m ≡ Some qs → slice_get poppers m ≡ Some ps
        → slice_get trails m ≡ Some ts → AreTrailsOfOnes qs ps ts
