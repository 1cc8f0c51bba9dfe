-- When nothing is left out, who found no place, and when a link counts as lost.
use Rattle.std.specs.Prelude.{◌≡◌, ◌⊎◌, ℕ, ◌+◌, ◌<◌, true, false, IsTrue, List, [], length, All}
use Rattle.m17_directory.specs.Routed.{past_at, asks_at, link_verdict}
use Rattle.m17_directory.specs.Laws.{is_full}
use Rattle.m17_io.specs.Faults.{HasRisen}
use Rattle.m17_roll.specs.Closing.{EveryPlaceStands}
use Rattle.m17_receiver.specs.Claims.{turned_away, IsPatientAt, HasFreePlaceAt}
use Rattle.m17_receiver.specs.Devices.{EndsInFaults}
use Rattle.m17_reflect.specs.Links.{Link, At, link_setup}
use Rattle.m17_reflect.specs.Run.{Run, module_count}

-- In a patient run nothing is left out; an entry that asks is Full exactly where as many other peers
-- are still known as there are places; and each claim of a link's entry is of a place that none of
-- the other peers has that are still known to the link.
pub record IsPatientRun {E M B : Type 0} (run : Run E M B) (links : List Link) : Type 0 where
  pub missed : All (λ count. count ≡ 0) run.handed.missed
  pub full : (i : ℕ) (link : Link) (n : ℕ) → At links i link → n < length link.entries →
      asks_at (past_at (link_setup run.plan i) link.entries n) ≡ true →
      IsPatientAt (link_setup run.plan i) link.entries n
  pub given : (i : ℕ) (link : Link) (n : ℕ) → At links i link →
      HasFreePlaceAt (link_setup run.plan i) link.entries n

-- The seat of each link refused those whose entries are Full, in order.
abbrev pub AreTurnedAway : {E M B : Type 0} → Run E M B → List Link → Type 0
AreTurnedAway run links =
    (i : ℕ) (link : Link) → At links i link →
    At run.handed.roll.refused i (turned_away (link_setup run.plan i) link.entries)

-- Where some link has an entry that is Full, every place was claimed.
abbrev pub IsFullWhenTaken : {E M B : Type 0} → Run E M B → List Link → Type 0
IsFullWhenTaken run links =
    (i : ℕ) (link : Link) (n : ℕ) → At links i link → n < length link.entries →
    is_full (link_verdict (link_setup run.plan i) link.entries n) ≡ true →
    EveryPlaceStands run.handed.roll.words run.handed.roll.claimed

-- The roll has a seat for each link, and behind these one for each module, which refused nobody.
pub record AreSeats {E M B : Type 0} (run : Run E M B) (links : List Link) : Type 0 where
  pub count : length run.handed.roll.refused ≡ length links + module_count run.plan
  pub modules : (m : ℕ) → m < module_count run.plan →
      At run.handed.roll.refused (length links + m) []

-- Who found no place: by patience or by the roll.
pub record PlacesAreFull {E M B : Type 0} (run : Run E M B) (links : List Link) : Type 0 where
  pub patient : run.plan.patient ≡ true → IsPatientRun run links
  pub impatient : run.plan.patient ≡ false → AreTurnedAway run links
  pub any : IsFullWhenTaken run links
  pub seats : AreSeats run links

-- The count of some of these devices rose.
pub record SomeRose {T : Type 0} (faults : T → ℕ) (before after : List T) : Type 0 where
  pub number : ℕ
  pub was : T
  pub is : T
  pub was_there : At before number was
  pub is_there : At after number is
  pub rose : HasRisen (faults was) (faults is)

-- Some link's last 16 entries are faults.
pub record SomeLost (links : List Link) : Type 0 where
  pub number : ℕ
  pub link : Link
  pub there : At links number link
  pub faults : EndsInFaults link.heard

-- A run is lost only where the count of some ear rose, and a trace or book has failed only where
-- the count of one rose.
pub record HasCauses {E M B : Type 0} (run : Run E M B) : Type 0 where
  pub lost : IsTrue run.handed.lost →
      SomeRose (λ ear. ear.faults) run.before.ears run.after.ears
  pub book_failed : IsTrue run.handed.book_failed →
      SomeRose (λ trace. trace.faults) run.before.traces run.after.traces
      ⊎ SomeRose (λ book. book.faults) run.before.books run.after.books
