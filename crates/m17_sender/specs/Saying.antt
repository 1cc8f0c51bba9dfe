-- What was said on one mouth of a row.
use Rattle.std.specs.Prelude.{◌≡◌, ℕ, List, slice_get, slice_set, Some}
use Rattle.m17_ports.specs.Mouth.{Datagram, MouthTold, SaidOf}
use Rattle.m17_sender.specs.Acts.{AreSpelled, Saying}

-- On the mouth of this link datagrams that spell these were said, or lost, and the others are as
-- they were.
pub record SaysOn {M L : Type 0} (tells : M → MouthTold L) (link : ℕ) (sayings : List Saying)
    (before after : List M) : Type 0 where
  pub mouth : M
  pub now : M
  pub datagrams : List Datagram
  pub was : slice_get before link ≡ Some mouth
  pub is : after ≡ slice_set before link now
  pub spelled : AreSpelled sayings datagrams
  pub said : SaidOf (tells mouth) datagrams (tells now)
