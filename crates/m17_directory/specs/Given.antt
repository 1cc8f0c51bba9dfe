-- Places that are given freely, and what of a link doesn't depend on which are.
use Rattle.std.specs.Prelude.{◌≡◌, ◌==◌, ◌&&◌, ℕ, ◌<◌, Bool, false, List, length, map, nat_lt, Option, None, Some, MatchBool}
use Rattle.std.specs.List.{list_any, range_with_len}
use Rattle.m17_values.specs.declared.member.Member.{Member}
use Rattle.m17_directory.specs.declared.known.Known.{Known}
use Rattle.m17_directory.specs.Entries.{Claim, Entry, Setup, claim_at}
use Rattle.m17_directory.specs.Outcome.{has_place}
use Rattle.m17_directory.specs.Routed.{past_at, asks_at, others_at}

-- The claim is of one of the places, and none of the others has it.
pub record IsOfFreePlace (places : ℕ) (others : List Known) (claim : Option Claim) : Type 0 where
  pub it : Claim
  pub is_it : claim ≡ Some it
  pub below : it.member.place < places
  pub free : list_any (has_place it.member.place) others ≡ false

-- The entry at position n has a claim exactly where it asks and the others that are still known are
-- fewer than the places, and then the claim of a free place.
abbrev pub IsGivenAt : Setup → List Entry → ℕ → Type 0
IsGivenAt setup entries n =
    MatchBool (asks_at (past_at setup entries n)
    && nat_lt (length (others_at (past_at setup entries n))) setup.places)
    (IsOfFreePlace setup.places (others_at (past_at setup entries n)) (claim_at entries n))
    (claim_at entries n ≡ None)

-- Each entry's claim is such, and no member is given twice: whichever free place is given, whatever
-- generation, and however many departed members a greeting waits for.
pub record AreGivenFreely (setup : Setup) (entries : List Entry) : Type 0 where
  pub each : (n : ℕ) → n < length entries → IsGivenAt setup entries n
  pub once : (i j : ℕ) (a b : Claim) → claim_at entries i ≡ Some a → claim_at entries j ≡ Some b →
      a.member ≡ b.member → i ≡ j

-- The entries say the same, whatever their claims.
abbrev pub SayTheSame : List Entry → List Entry → Type 0
SayTheSame entries others =
    map (λ (entry : Entry). entry.notice) entries ≡ map (λ (entry : Entry). entry.notice) others

-- Some entry gave the one member in the one list, and the other in the other.
abbrev pub gives : Member → Option Claim → Bool
gives k None = false
gives k (Some claim) =
    claim.member.place == k.place && claim.member.generation == k.generation

unfoldable pub stands_for : List Entry → List Entry → Member → Member → Bool
stands_for entries others k k' =
    list_any (λ n. gives k (claim_at entries n) && gives k' (claim_at others n))
    (range_with_len 0 (length entries))

-- The same peer is known, for the same module, as the same callsign and kind, and was heard at the
-- same moment; by the member that stands for the other.
pub record IsRenamedRow (stands : Member → Member → Bool) (k other : Known) : Type 0 where
  pub member : stands k.member other.member ≡ Bool.true
  pub rest : record k { member = other.member } ≡ other
