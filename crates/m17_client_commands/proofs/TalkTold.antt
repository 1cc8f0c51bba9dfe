-- What the endings of `talk` say, from what its steps told.
use Rattle.std.proofs.Common.{◌≡◌, ℕ, Bool, true, false, List, take, Option, None, Some, Result, Ok, Err, OnOk, OnErr, sym, subst, inr}
use Rattle.std.specs.Prelude.{IsSome, ◌↔◌, if◌then◌else◌}
use Rattle.std.specs.Option.{option_map}
use Rattle.m17_print.specs.Endings.{Grows}
use Rattle.m17_ports.specs.Book.{BookTold, shelf_told}
use Rattle.m17_ports.specs.Marks.{Device}
use Rattle.m17_client.specs.declared.talking.TalkEnd.{TalkEnd}
use Rattle.m17_words.specs.declared.order.TalkOrder.{TalkOrder}
use Rattle.m17_client_commands.specs.declared.talk_ending.TalkEnding.{TalkEnding}
use Rattle.m17_client_commands.specs.declared.talk_ending.TalkEnding.TheVariants as endings
use Rattle.m17_client_commands.specs.declared.reason.ScriptFailure.{ScriptFailure}
use Rattle.m17_client_commands.specs.declared.reason.ScriptFailure.TheVariants as failures
use Rattle.m17_client_commands.specs.declared.reason.ScriptReason.{ScriptReason}
use Rattle.m17_client_commands.specs.Reading.{SaysFailure}
use Rattle.m17_client_commands.specs.Talked.{ending_of, talk_line, AsksNothing, ComesToTalk, EndsTalk, Handed, HasRun, Streams}
use Rattle.m17_client_commands.specs.Walk.{Prints}

-- the input is refused
pub refused_told : {E M B : Type 0} (order : TalkOrder) (ending : TalkEnding) (failure : ScriptFailure) (place : ℕ) (reason : ScriptReason) (run : Handed E M B) (s : Streams)
    → ending ≡ endings.Refused place reason → failure ≡ failures.Refused place reason → AsksNothing run → s.written ≡ s.first
    → ((input : List ℕ) → s.left ≡ Some input → SaysFailure failure input) → ComesToTalk order ending run s
refused_told order ending failure place reason run s is failed nothing same says =
    subst (λ (e : TalkEnding). ComesToTalk order e run s) (sym is)
    ((nothing, same, (λ input told. subst (λ (f : ScriptFailure). SaysFailure f input) failed (says input told))))

-- a talk that ran ends in one of three ways
by_end : (lost failed : Bool) (P : TalkEnding → Type 0) → P endings.LinkLost → P endings.BookFailed → P endings.Finished
    → P (if lost then endings.LinkLost else (if failed then endings.BookFailed else endings.Finished))
by_end true failed P a b c = a
by_end false true P a b c = b
by_end false false P a b c = c

whole_told : {E M B : Type 0} (order : TalkOrder) (ending : TalkEnding) (end : TalkEnd) (run : Handed E M B) (s : Streams) → ending ≡ ending_of end → EndsTalk order ending run s → ComesToTalk order ending run s
whole_told order ending end run s is ends =
    subst (λ (e : TalkEnding). EndsTalk order e run s → ComesToTalk order e run s) (sym is)
    (by_end end.lost end.book_failed (λ (e : TalkEnding). EndsTalk order e run s → ComesToTalk order e run s) (λ h. h) (λ h. h) (λ h. h)) ends

-- the talk ran, and its line was written or not
pub talked_told : {T F E M B : Type 0} (printed : Result T F) (order : TalkOrder) (ending : TalkEnding) (end : TalkEnd) (run : Handed E M B) (s : Streams) → OnOk printed (ending ≡ ending_of end)
    → OnErr printed (ending ≡ endings.WriteFailed) → HasRun order end run s → Prints printed end s.first s.written → ComesToTalk order ending run s
talked_told (Ok x) order ending end run s ok err ran prints = whole_told order ending end run s ok (end, ran, ok, prints.all_of_it)
talked_told (Err x) order ending end run s ok err ran prints =
    subst (λ (e : TalkEnding). ComesToTalk order e run s) (sym err) (inr (end, ran, prints.part_of_it))

pub printed_grows : {T E : Type 0} (printed : Result T E) (end : TalkEnd) (first written : Option (List ℕ)) → Prints printed end first written → Grows first written
printed_grows (Ok x) end first written prints = λ before told. (talk_line end, prints.all_of_it before told)
printed_grows (Err x) end first written prints = λ before told.
    let part = prints.part_of_it before told in (take part.0 (talk_line end), part.1)

-- the label of a shelf is there where its book is
pub label_there : {X L Z : Type 0} (f : X → BookTold L) (inner : Option X) (named : Option Z) → (IsSome inner ↔ IsSome named)
    → IsSome (shelf_told (option_map f inner)).device.label ↔ IsSome named
label_there f None named same = same
label_there f (Some book) named same = same

pub same_there : {L Z : Type 0} (old new : Device ℕ (Option L)) (named : Option Z) → new ≡ old → (IsSome old.label ↔ IsSome named) → IsSome new.label ↔ IsSome named
same_there old new named same there = subst (λ (d : Device ℕ (Option _)). IsSome d.label ↔ IsSome named) (sym same) there
