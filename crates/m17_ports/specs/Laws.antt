-- What follows from the meaning of the devices, for callers to cite by name.
use Rattle.std.specs.Prelude.{◌≡◌, ◌≢◌, ◌≤◌, ◌-◌, ◌^◌, ℕ, Bool, true, false, List, [], ◌∷◌, ◌++◌, take, Option}
use Rattle.std.specs.List.{All}
use Rattle.m17_values.specs.declared.heard.Heard.{Heard}
use Rattle.m17_values.specs.declared.heard.Heard.TheVariants.{End, Fault}
use Rattle.m17_ports.specs.Told.{told_then, StartsEmpty}
use Rattle.m17_io.specs.Faults.{HasRisen}
use Rattle.m17_ports.specs.Ear.{EarTold, EndsPastCount, HasHeard}
use Rattle.m17_ports.specs.Book.{BookTold, HasText}
use Rattle.m17_ports.specs.Ports.{HasAsked, PortsTold}
use Rattle.m17_ports.specs.declared.question.Question.{Question}
use Rattle.m17_ports.specs.Mouth.{Datagram, MouthTold, SaidOf}
use Rattle.m17_ports.specs.Tallies.{IsTallied}

-- An ear of which nothing was heard has not heard too many Ends.
abbrev pub NewEarsTell : Type 0
NewEarsTell = (told : Option (List Heard)) → StartsEmpty told → EndsPastCount told → ⊥

-- An ear that has not heard too many Ends has not after more without an End.
abbrev pub EarsTellOn : Type 0
EarsTellOn = (told : Option (List Heard)) (more : List Heard) → (EndsPastCount told → ⊥)
    → All (λ entry. entry ≢ End) more → EndsPastCount (told_then told more) → ⊥

abbrev pub ToldInTurn : (T : Type 0) → Type 0
ToldInTurn T = (told : Option (List T)) (first second : List T)
    → told_then (told_then told first) second ≡ told_then told (first ++ second)

abbrev pub NothingMoreIsTold : (T : Type 0) → Type 0
NothingMoreIsTold T = (told : Option (List T)) → told_then told [] ≡ told

-- How what a mouth has said composes: nothing, one datagram that went, one that was lost, and one list after another.
pub record MouthsSayInTurn (L : Type 0) : Type 0 where
  pub nothing : (mouth : MouthTold L) → SaidOf mouth [] mouth
  pub one_went : (before after : MouthTold L) (d : Datagram)
      → after.said ≡ told_then before.said (d ∷ [])
      → IsTallied before.tallies d.0 d.1 after.tallies
      → after.faults ≡ before.faults → after.device ≡ before.device
      → SaidOf before (d ∷ []) after
  pub one_lost : (before after : MouthTold L) (d : Datagram)
      → after.said ≡ before.said → after.tallies ≡ before.tallies
      → before.faults ≤ after.faults → HasRisen before.faults after.faults
      → after.device ≡ before.device
      → SaidOf before (d ∷ []) after
  pub in_turn : (a b c : MouthTold L) (first second : List Datagram)
      → SaidOf a first b → SaidOf b second c → SaidOf a (first ++ second) c

-- How what an ear has heard composes: nothing, one entry, and one list after another that has no End.
pub record EarsHearInTurn (L : Type 0) : Type 0 where
  pub nothing : (ear : EarTold L) → HasHeard ear [] ear
  pub one : (before after : EarTold L) (entry : Heard)
      → before.faults ≤ after.faults
      → (entry ≡ Fault → HasRisen before.faults after.faults)
      → (entry ≢ Fault → after.faults ≡ before.faults)
      → ((EndsPastCount before.heard → ⊥) → after.heard ≡ told_then before.heard (entry ∷ []))
      → after.device ≡ before.device
      → HasHeard before (entry ∷ []) after
  pub in_turn : (a b c : EarTold L) (first second : List Heard)
      → All (λ entry. entry ≢ End) first
      → HasHeard a first b → HasHeard b second c → HasHeard a (first ++ second) c

-- How what is written in a book composes: nothing, one write that went, one that failed, one text after another, and a
-- text of which nothing more is written after a failure.
pub record BooksAreWrittenInTurn (L : Type 0) : Type 0 where
  pub nothing : (book : BookTold L) → HasText book [] false book
  pub one_went : (before after : BookTold L) (bytes : List ℕ)
      → after.written ≡ told_then before.written bytes
      → after.faults ≡ before.faults → after.device ≡ before.device
      → HasText before bytes false after
  pub one_failed : (before after : BookTold L) (bytes : List ℕ) (n : ℕ)
      → after.written ≡ told_then before.written (take n bytes)
      → before.faults ≤ after.faults → HasRisen before.faults after.faults
      → after.device ≡ before.device
      → HasText before bytes true after
  pub in_turn : (a b c : BookTold L) (first second : List ℕ) (failed : Bool)
      → HasText a first false b → HasText b second failed c → HasText a (first ++ second) failed c
  pub given_up : (a b : BookTold L) (first second : List ℕ)
      → HasText a first true b → HasText a (first ++ second) true b

-- How what ports were asked composes: nothing, and one list after another.
pub record PortsAreAskedInTurn : Type 0 where
  pub nothing : (ports : PortsTold) → ports.calls ≤ 2 ^ 64 - 1 → HasAsked [] ports ports
  pub in_turn : (a b c : PortsTold) (first second : List Question)
      → HasAsked first a b → HasAsked second b c → HasAsked (first ++ second) a c
