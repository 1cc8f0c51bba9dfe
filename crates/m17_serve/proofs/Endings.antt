-- How the command ends, and what caused it.
use Rattle.std.proofs.Common.{◌≡◌, ℕ, Bool, true, false, List, Option, Result, Ok, Err, OnOk, OnErr, refl, sym, ap, subst, ◌∙◌, arith, inl, inr}
use Rattle.std.specs.Prelude.{◌||◌, None, Some, is_some}
use Rattle.std.specs.Option.{option_map}
use Rattle.m17_io.specs.Faults.{HasCause, HasRisen}
use Rattle.m17_ports.specs.Book.{BookTold}
use Rattle.m17_control.specs.declared.modules.Modules.{Modules}
use Rattle.m17_board.specs.Ends.{PostEnd}
use Rattle.m17_board_run.specs.Boarded.{LinesBack, ShowLines}
use Rattle.m17_reflect.specs.declared.returned.HouseRefusal.{HouseRefusal}
use Rattle.m17_reflect.specs.declared.returned.HouseRefusal.TheVariants as refusals
use Rattle.m17_reflect.specs.Run.{Devices, Handed}
use Rattle.m17_reflect.specs.Views.{IsRefusedFor}
use Rattle.m17_words.specs.declared.order.ServeOrder.{ServeOrder}
use Rattle.m17_serve.specs.declared.served.ServeEnding.{ServeEnding}
use Rattle.m17_serve.specs.declared.served.ServeEnding.TheVariants.{WriteFailed, PortFailed, CrewRefused, NoMemory}
use Rattle.m17_serve.specs.Served.{Around, ComesToServe, EndsServe, HasCauses, Refuses, RoseWhere, Serves, counts, ending_by, lines_of, NeverAsked, NeverRan}
use Rattle.m17_serve.specs.Steps.{Prints}

stood : (cause : Type 0) (a b : ℕ) → (cause → ⊥) → b ≡ a → RoseWhere cause a b
stood cause a b none same = record { rose = λ c. absurd (none c); stands = λ _. same }

rose_by : (cause : Type 0) (a b : ℕ) → cause → HasRisen a b → RoseWhere cause a b
rose_by cause a b c risen = record { rose = λ _. risen; stands = λ none. absurd (none c) }

-- two endings that differ
differ : (e x y : ServeEnding) → e ≡ x → (x ≡ y → ⊥) → e ≡ y → ⊥
differ e x y is apart h = apart (sym is ∙ h)

pub caused_memory : (e : ServeEnding) (p p' c c' s s' : ℕ) → e ≡ NoMemory → p' ≡ p → c' ≡ c → s' ≡ s → HasCauses e (counts p c s) (counts p' c' s')
caused_memory e p p' c c' s s' is ports crew sink = record {
  ports = stood _ p p' (differ e NoMemory PortFailed is (λ h. cc)) ports;
  crew = stood _ c c' (differ e NoMemory CrewRefused is (λ h. cc)) crew;
  sink = stood _ s s' (differ e NoMemory WriteFailed is (λ h. cc)) sink;
  sink_counted = omega (arith, sink);
}

pub caused_port : (e : ServeEnding) (p p' c s : ℕ) → e ≡ PortFailed → HasRisen p p' → HasCauses e (counts p c s) (counts p' c s)
caused_port e p p' c s is risen = record {
  ports = rose_by _ p p' is risen;
  crew = stood _ c c (differ e PortFailed CrewRefused is (λ h. cc)) refl;
  sink = stood _ s s (differ e PortFailed WriteFailed is (λ h. cc)) refl;
  sink_counted = omega arith;
}

pub caused_refusal : (why : HouseRefusal) (e : ServeEnding) (p p' c c' s : ℕ) → (why ≡ refusals.Crew → e ≡ CrewRefused) → (why ≡ refusals.NoMemory → e ≡ NoMemory)
    → p' ≡ p → IsRefusedFor why c c' → HasCauses e (counts p c s) (counts p' c' s)
caused_refusal refusals.Crew e p p' c c' s crew memory ports for = let is = crew refl in record {
  ports = stood _ p p' (differ e CrewRefused PortFailed is (λ h. cc)) ports;
  crew = rose_by _ c c' is (for.crew refl);
  sink = stood _ s s (differ e CrewRefused WriteFailed is (λ h. cc)) refl;
  sink_counted = omega arith;
}
caused_refusal refusals.NoMemory e p p' c c' s crew memory ports for = caused_memory e p p' c c' s s (memory refl) ports (for.no_memory refl) refl

not_port : (lost failed : Bool) → ending_by lost failed ≡ PortFailed → ⊥
not_port true failed h = cc
not_port false true h = cc
not_port false false h = cc

not_crew : (lost failed : Bool) → ending_by lost failed ≡ CrewRefused → ⊥
not_crew true failed h = cc
not_crew false true h = cc
not_crew false false h = cc

not_sink : (lost failed : Bool) → ending_by lost failed ≡ WriteFailed → ⊥
not_sink true failed h = cc
not_sink false true h = cc
not_sink false false h = cc

pub caused_run : {T E : Type 0} (printed : Result T E) (lost failed : Bool) (e : ServeEnding) (p p' c c' s s' : ℕ) → OnOk printed (e ≡ ending_by lost failed)
    → OnErr printed (e ≡ WriteFailed) → p' ≡ p → c' ≡ c → HasCause s s' printed → HasCauses e (counts p c s) (counts p' c' s')
caused_run (Ok v) lost failed e p p' c c' s s' ok err ports crew cause = record {
  ports = stood _ p p' (differ e (ending_by lost failed) PortFailed ok (not_port lost failed)) ports;
  crew = stood _ c c' (differ e (ending_by lost failed) CrewRefused ok (not_crew lost failed)) crew;
  sink = stood _ s s' (differ e (ending_by lost failed) WriteFailed ok (not_sink lost failed)) cause.no_fault;
  sink_counted = cause.counted;
}
caused_run (Err v) lost failed e p p' c c' s s' ok err ports crew cause = record {
  ports = stood _ p p' (differ e WriteFailed PortFailed err (λ h. cc)) ports;
  crew = stood _ c c' (differ e WriteFailed CrewRefused err (λ h. cc)) crew;
  sink = rose_by _ s s' err cause.failed;
  sink_counted = cause.counted;
}

-- an ending of a run
never_by : (lost failed : Bool) → NeverRan (ending_by lost failed) → ⊥
never_by true failed h = h
never_by false true h = h
never_by false false h = h

pub has_run : {T E : Type 0} (printed : Result T E) (lost failed : Bool) (e : ServeEnding) → OnOk printed (e ≡ ending_by lost failed) → OnErr printed (e ≡ WriteFailed) → NeverRan e → ⊥
has_run (Ok v) lost failed e ok err never = never_by lost failed (subst NeverRan ok never)
has_run (Err v) lost failed e ok err never = subst NeverRan err never

-- what never asked the crew never ran
pub never_ran : (e : ServeEnding) → NeverAsked e → NeverRan e
never_ran e (inl port) = subst NeverRan (sym port) tt
never_ran e (inr memory) = subst NeverRan (sym memory) tt

-- a refusal that asked the crew for nothing is one of memory
pub asked_nothing : {C : Type 0} (why : HouseRefusal) (e : ServeEnding) (old new : C) → (why ≡ refusals.Crew → e ≡ CrewRefused) → (why ≡ refusals.NoMemory → new ≡ old) → NeverAsked e → new ≡ old
asked_nothing refusals.Crew e old new crew memory (inl port) = let bad : CrewRefused ≡ PortFailed = sym (crew refl) ∙ port in cc
asked_nothing refusals.Crew e old new crew memory (inr none) = let bad : CrewRefused ≡ NoMemory = sym (crew refl) ∙ none in cc
asked_nothing refusals.NoMemory e old new crew memory never = memory refl

module _ {E M B : Type 0} where
  by_flags : (order : ServeOrder) (e : ServeEnding) (run : Around E M B) (first written : Option (List ℕ)) (lost failed : Bool) → e ≡ ending_by lost failed
      → EndsServe order e run first written → ComesToServe order e run first written
  by_flags order e run first written true failed is ends =
      subst (λ (x : ServeEnding). EndsServe order x run first written → ComesToServe order x run first written) (sym is) (λ h. h) ends
  by_flags order e run first written false true is ends =
      subst (λ (x : ServeEnding). EndsServe order x run first written → ComesToServe order x run first written) (sym is) (λ h. h) ends
  by_flags order e run first written false false is ends =
      subst (λ (x : ServeEnding). EndsServe order x run first written → ComesToServe order x run first written) (sym is) (λ h. h) ends

  -- a run over the devices that the ports handed out
  pub comes_run : {T F : Type 0} (printed : Result T F) (order : ServeOrder) (e : ServeEnding) (run : Around E M B) (devices : Devices E M (Option B)) (handed : Handed)
      (lines_failed failed : Bool) (first written : Option (List ℕ)) → failed ≡ (handed.book_failed || lines_failed) → OnOk printed (e ≡ ending_by handed.lost failed)
      → OnErr printed (e ≡ WriteFailed) → Serves order run devices handed lines_failed → Prints printed (lines_of order handed) first written → ComesToServe order e run first written
  comes_run (Ok v) order e run devices handed lines_failed failed first written either ok err serves prints =
      by_flags order e run first written handed.lost failed ok (devices, handed, lines_failed, serves, ok ∙ ap (ending_by handed.lost) either, prints.all_of_it)
  comes_run (Err v) order e run devices handed lines_failed failed first written either ok err serves prints =
      subst (λ (x : ServeEnding). ComesToServe order x run first written) (sym err) (devices, handed, lines_failed, serves, prints.part_of_it)

  -- the reflector, or the crew its watch, refused to run
  pub comes_refusal : (why : HouseRefusal) (order : ServeOrder) (e : ServeEnding) (run : Around E M B) (first : Option (List ℕ)) → (why ≡ refusals.Crew → e ≡ CrewRefused)
      → (why ≡ refusals.NoMemory → e ≡ NoMemory) → Refuses order why run → ComesToServe order e run first first
  comes_refusal refusals.Crew order e run first crew memory over =
      subst (λ (x : ServeEnding). ComesToServe order x run first first) (sym (crew refl)) (over, refl)
  comes_refusal refusals.NoMemory order e run first crew memory over =
      subst (λ (x : ServeEnding). ComesToServe order x run first first) (sym (memory refl)) (inr over, refl)

-- where there is no book of lines, none comes back
module _ {B Z : Type 0} (book : B → BookTold Z) where
  pub no_line_shown : (modules : Modules) (count : ℕ) (posters : List PostEnd) (failed : Bool) (empty lines : Option B) → is_some empty ≡ false
      → ShowLines modules count posters failed (option_map book empty) (option_map book lines) → lines ≡ None
  no_line_shown modules count posters failed (Some b) lines none shows = absurd (let e = none in cc)
  no_line_shown modules count posters failed None (Some b) none shows = absurd shows
  no_line_shown modules count posters failed None None none shows = refl

  pub no_line_back : (why : HouseRefusal) (empty lines : Option B) → is_some empty ≡ false → LinesBack why (option_map book empty) (option_map book lines) → lines ≡ None
  no_line_back why (Some b) lines none back = absurd (let e = none in cc)
  no_line_back why None (Some b) none back = absurd back
  no_line_back why None None none back = refl
