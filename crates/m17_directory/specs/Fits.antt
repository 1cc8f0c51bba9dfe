-- How many may be known to a link.
use Rattle.std.specs.Prelude.{◌≡◌, ℕ, ◌<◌, ◌≤◌, true, List, length}
use Rattle.m17_directory.specs.Entries.{Entry, Setup}
use Rattle.m17_directory.specs.Laws.{ClaimsAreAsked, ClaimsArePlaced}
use Rattle.m17_directory.specs.Routed.{past_at, asks_at, others_at}

-- Where each claim is of a place, and none but askers have one: at an entry that asks, no more
-- others are still known than there are places.
abbrev pub OthersFitThePlaces : Type 0
OthersFitThePlaces =
    (setup : Setup) (entries : List Entry) (n : ℕ) → ClaimsAreAsked setup entries →
    ClaimsArePlaced setup entries → n < length entries →
    asks_at (past_at setup entries n) ≡ true →
    length (others_at (past_at setup entries n)) ≤ setup.places
