-- The claims of a patient run over one link are given freely, so that its entries are a free replay.
use Rattle.std.proofs.Common.{◌≡◌, ℕ, ◌<◌, ◌≤◌, Bool, true, false, List, length, nat_lt, Option, None, Some, MatchBool, sym, subst, refl, ap, ◌∙◌, arith}
use Rattle.std.specs.Prelude.{◌&&◌, slice_get}
use Rattle.std.specs.List.{list_any, AllByRecursion}
use Rattle.std.proofs.lemmas.Bool.Decides.{nat_tests}
use Rattle.std.proofs.lemmas.List.Elements.{recursion_from_All}
use Rattle.m17_values.specs.declared.heard.Heard.{Heard}
use Rattle.m17_directory.specs.Entries.{Claim, Entry, Setup, claim_at}
use Rattle.m17_directory.specs.Fits.{OthersFitThePlaces}
use Rattle.m17_directory.specs.Given.{IsOfFreePlace, AreGivenFreely}
use Rattle.m17_directory.specs.Outcome.{has_place}
use Rattle.m17_directory.specs.Routed.{past_at, asks_at, others_at}
use Rattle.m17_receiver.specs.Claims.{IsPatientAt}
use Rattle.m17_house.specs.Free.{IsFreeReplayOf}
use Rattle.m17_reflect.specs.Links.{Link, IsLink, At}
use Rattle.m17_reflect.specs.Places.{AreClaims}
use Rattle.m17_reflect.specs.Run.{Run}
use Rattle.m17_replay.proofs.Alone.{IsAlone, HasRun}

is_below : (a b : ℕ) → nat_lt a b ≡ true → a < b
is_below a b e = grind (arith, nat_tests)

is_not_below : (a b : ℕ) → nat_lt a b ≡ false → b ≤ a
is_not_below a b e = grind (arith, nat_tests)

-- What is known of the claims of a patient link.
pub record AreFree (setup : Setup) (entries : List Entry) : Type 0 where
  pub claims : AreClaims setup entries
  pub full : (n : ℕ) → n < length entries → asks_at (past_at setup entries n) ≡ true → IsPatientAt setup entries n
  pub free : (n : ℕ) (claim : Claim) → claim_at entries n ≡ Some claim → list_any (has_place claim.member.place) (others_at (past_at setup entries n)) ≡ false

module _ (law : OthersFitThePlaces) (setup : Setup) (entries : List Entry) (h : AreFree setup entries) where
  given_by : (n : ℕ) → n < length entries → (asks less : Bool) (claim : Option Claim) → asks_at (past_at setup entries n) ≡ asks → nat_lt (length (others_at (past_at setup entries n))) setup.places ≡ less → claim_at entries n ≡ claim
      → MatchBool (asks && less) (IsOfFreePlace setup.places (others_at (past_at setup entries n)) claim) (claim ≡ None)
  given_by n within true true (Some claim) ea el ec = record {
    it = claim;
    is_it = refl;
    below = h.claims.placed n claim ec;
    free = h.free n claim ec;
  }
  given_by n within true true None ea el ec =
      absurd (omega (arith, (h.full n within ea).0 ec, is_below (length (others_at (past_at setup entries n))) setup.places el))
  given_by n within true false None ea el ec = refl
  given_by n within true false (Some claim) ea el ec =
      let fit = law setup entries n h.claims.asked h.claims.placed within ea in
      let many : length (others_at (past_at setup entries n)) ≡ setup.places = omega (arith, fit, is_not_below (length (others_at (past_at setup entries n))) setup.places el) in
      absurd (let both : Some claim ≡ None = sym ec ∙ (h.full n within ea).1 many in cc)
  given_by n within false less None ea el ec = refl
  given_by n within false less (Some claim) ea el ec =
      absurd (let both : Some claim ≡ None = sym ec ∙ h.claims.asked n within ea in cc)

  pub given_freely : AreGivenFreely setup entries
  given_freely = record {
    each = λ n within. given_by n within (asks_at (past_at setup entries n)) (nat_lt (length (others_at (past_at setup entries n))) setup.places) (claim_at entries n) refl refl refl;
    once = h.claims.once;
  }

module _ {E M B : Type 0} (run : Run E M B) (script : List Heard) (alone : IsAlone run script) (h : HasRun run script) where
  pub link_at : At h.carried.links 0 h.link
  link_at = ap (λ (ls : List Link). slice_get ls 0) h.links_are

  pub is_link : IsLink h.link
  is_link = (subst (AllByRecursion IsLink) h.links_are (recursion_from_All IsLink h.carried.links h.carried.each)).0

  pub is_free : OthersFitThePlaces → IsFreeReplayOf run.plan script h.link.entries
  is_free law =
      let patient = h.carried.full.patient alone.patient in record {
        front = h.link.heard;
        rest = h.rest;
        heard_is = h.whole;
        says = is_link.says;
        ends = is_link.ends;
        given = given_freely law _ h.link.entries (record {
          claims = h.carried.claims 0 h.link link_at;
          full = λ n within asks. patient.full 0 h.link n link_at within asks;
          free = λ n claim there. patient.given 0 h.link n link_at claim there;
        });
      }
