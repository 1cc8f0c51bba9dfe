-- A run that begins in `start`: what is told of it where there was no memory, and how many threads it has.
use Rattle.std.proofs.Common.{◌≡◌, ℕ, suc, List, [], ◌∷◌, length, Option, None, Some, is_some, refl, ap, ◌∙◌, arith, inl, inr}
use Rattle.std.specs.List.{AllZip}
use Rattle.m17_disk.specs.declared.writer.Writer.{Writer}
use Rattle.m17_net.specs.Devices.{PortsKept, udp_ports_told}
use Rattle.m17_ports.specs.Ports.{PortsTold}
use Rattle.m17_app.specs.declared.habits.Habits.{Habits}
use Rattle.m17_app.specs.declared.status.Status.TheVariants.{NoMemory}
use Rattle.m17_app.specs.Habits.{AreHabits, AreWanted, Keep}
use Rattle.m17_app.specs.Started.{AreAll, AreGiven, EndsAsRun, HasRunIfAny, IsClosed}
use Rattle.m17_app.specs.Status.{Count, Tells}

-- lists that are zipped are as long
pub as_long : {A B : Type 0} (R : A → B → Type 0) (xs : List A) (ys : List B) → AllZip R xs ys → length ys ≡ length xs
as_long R [] [] zip = refl
as_long R [] (y ∷ ys) zip = absurd zip
as_long R (x ∷ xs) [] zip = absurd zip
as_long R (x ∷ xs) (y ∷ ys) zip = ap suc (as_long R xs ys zip.1)

-- so many are kept as the habits of the words say
pub keep : (words : List (List ℕ)) (habits : Habits) (count : ℕ) → AreHabits words habits → count ≡ habits.books → Keep words count
keep words habits count (inl (command, names, of)) is = inl (command, names, is ∙ of.books)
keep words habits count (inr (are, none)) is = inr (are, is ∙ none)

-- there was no memory before the command began
pub none_ran : {B : Type 0} (given : Option (List (List ℕ))) (items : List (Option (Writer B))) (code : ℕ) → code ≡ 70
    → (ended : ℕ) × (run : EndsAsRun (Unit {0}) (Unit {0}) (Unit {0}) ended) × IsClosed items ended code × AreAll run.words run.first items × AreGiven given run.words
none_ran given items code is = (
  70,
  record {
    words = None;
    first = record { asked = None; calls = 0; faults = 0 };
    last = record { asked = None; calls = 0; faults = 0 };
    crew = record { before = 0; after = 0 };
    told = (NoMemory, refl, (refl, refl, refl));
  },
  record { kept = λ _. is; written = λ no. absurd (omega (arith, no)); failed = λ no _. absurd (omega (arith, no)) },
  record { unasked = refl; all = λ _. tt },
  tt,
)

-- ports that were made with the habits of the words rest, stop and lock as these say, with any faults
pub are_wanted : (words : List (List ℕ)) (habits : Habits) (ports like : PortsKept) → AreHabits words habits
    → like.rests ≡ habits.rests → like.stops ≡ is_some habits.stop → like.locks ≡ is_some habits.lock
    → ports ≡ record like { faults = ports.faults } → AreWanted words ports
are_wanted words habits ports like are rests stops locks same = record {
  habits = habits;
  are = are;
  rests = ap (λ (p : PortsKept). p.rests) same ∙ rests;
  stops = ap (λ (p : PortsKept). p.stops) same ∙ stops;
  locks = ap (λ (p : PortsKept). p.locks) same ∙ locks;
}

-- the command ran over ports that had been asked for nothing but threads
pub has_run : {B : Type 0} (given : Option (List (List ℕ))) (ports like : PortsKept) (ended code : ℕ) (words : List (List ℕ)) (last : PortsTold) (crew : Count) (habits : Habits) (items : List (Option (Writer B)))
    → ports ≡ like → like.calls ≡ 0
    → Tells ended (λ status. HasRunIfAny (Unit {0}) (Unit {0}) (Unit {0}) (Some words) status (udp_ports_told ports) last crew)
    → IsClosed items ended code → AreHabits words habits → (ports.faults ≡ 0 → length items ≡ habits.books)
    → given ≡ Some words
    → (ended : ℕ) × (run : EndsAsRun (Unit {0}) (Unit {0}) (Unit {0}) ended) × IsClosed items ended code × AreAll run.words run.first items × AreGiven given run.words
has_run given ports like ended code words last crew habits items same unasked told closed are all is_given = (
  ended,
  record { words = Some words; first = udp_ports_told ports; last = last; crew = crew; told = told },
  closed,
  record {
    unasked = ap (λ (p : PortsKept). p.calls) same ∙ unasked;
    all = λ none. let stood : ports.faults ≡ 0 = omega (arith, none) in keep words habits (length items) are (all stood);
  },
  is_given,
)
