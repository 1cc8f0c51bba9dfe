-- What is true of every directory, by who is known and departing.
use Rattle.std.proofs.Common.{◌≡◌, ℕ, ◌+◌, ◌<◌, ◌≤◌, Bool, true, false, not, ◌||◌, leb, List, [], length, filter, Option, None, Some, IfSome, option_map, ap, sym, ◌∙◌, subst, arith, length-append}
use Rattle.std.proofs.lemmas.Bool.{true≢false, leb-false}
use Rattle.std.proofs.lemmas.Option.{none-some}
use Rattle.m17_values.specs.declared.member.Member.{Member}
use Rattle.m17_directory.specs.declared.asked.Asked.{Asked}
use Rattle.m17_directory.specs.declared.known.Departed.{Departed}
use Rattle.m17_directory.specs.declared.known.Known.{Known}
use Rattle.m17_directory.specs.Entries.{Claim, peers_named}
use Rattle.m17_directory.specs.Outcome.{Here, has_place, settled}
use Rattle.m17_directory.specs.Steps.{Lists, row_given, known_after}
use Rattle.m17_directory.proofs.Filters.{with_row_length, left_together}
use Rattle.m17_directory.specs.Known.{known_at}
use Rattle.m17_directory.specs.Routed.{asked_before}
use Rattle.m17_directory.specs.StandsFor.{DirectoryKept, StandsFor, IsBounded, with_left}
use Rattle.m17_directory.proofs.Bounds.{IsSeated, seated_length, seated_none, seated_filter, seated_put, freed, fewer_than_places}

pub bounded_by : (kept : DirectoryKept) → IsSeated kept.setup.places kept.known → length kept.known + length kept.departing ≤ 512 → IsBounded kept
bounded_by kept h few = record { known = seated_length kept.setup.places kept.known h; members = few; below = h.below; apart = h.apart }

pub seated_of : (kept : DirectoryKept) → IsBounded kept → IsSeated kept.setup.places kept.known
seated_of kept h = record { below = h.below; apart = h.apart }

pub bounded_new : (kept : DirectoryKept) → kept.known ≡ [] → kept.departing ≡ [] → IsBounded kept
bounded_new kept known departing =
    bounded_by kept (subst (λ ks. IsSeated kept.setup.places ks) (sym known) (seated_none kept.setup.places)) (omega (arith, ap length known, ap length departing))

pub stands_new : (kept : DirectoryKept) → kept.moment ≡ 0 → kept.known ≡ [] → kept.asked ≡ None → kept.faults ≡ 0 → StandsFor kept []
unfolding known_at peers_named asked_before
stands_new kept moment known asked faults = record {
  moment = moment;
  known = known;
  asked = λ a e. absurd (none-some a (sym asked ∙ e));
  faults = faults;
}

-- after a claim
pub free_if : (places : ℕ) (rows : List Known) (o : Option Member) → places ≤ 256 → IsSeated places rows → IfSome o (λ m. m.place < places) → IfSome o (λ m. length (filter (λ k. not (has_place m.place k)) rows) < 256)
free_if places rows None few h l = tt
free_if places rows (Some m) few h l = omega (arith, fewer_than_places places m.place rows l h)

abbrev pub claim_of : ℕ → Option Member → Option Claim
claim_of after o = option_map (λ m. record { member = m; after = after }) o

pub seated_after : (places : ℕ) (here : Here) (asked : Asked) (after : ℕ) (rows : List Known) (o : Option Member) → IfSome o (λ m. m.place < places) → IsSeated places rows → IsSeated places (known_after here asked (claim_of after o) rows)
seated_after places here asked after rows None l h = h
seated_after places here asked after rows (Some m) l h =
    let claim : Claim = record { member = m; after = after } in
    seated_put places (row_given here asked claim) (filter (λ k. not (has_place m.place k)) rows) l (freed m.place rows) (seated_filter places (λ k. not (has_place m.place k)) rows h)

pub together_after : (here : Here) (asked : Asked) (after : ℕ) (old : Lists) (o : Option Member)
    → length (known_after here asked (claim_of after o) old.known) + length (with_left old.departing (settled here old.known asked.peer asked.request (claim_of after o)).left) ≤ length old.known + length old.departing + 1
together_after here asked after old None =
    let none : List Departed = [] in
    omega (arith, length-append old.departing none)
together_after here asked after old (Some m) =
    let claim : Claim = record { member = m; after = after } in
    omega (arith, with_row_length (row_given here asked claim) (filter (λ k. not (has_place m.place k)) old.known), left_together (has_place m.place) old)

pub below_most : (b : Bool) (faults : ℕ) → (b || leb 16 faults) ≡ false → faults < 16
below_most true faults e = absurd (true≢false e)
below_most false faults e = leb-false 16 faults e
