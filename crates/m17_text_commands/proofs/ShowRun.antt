-- A run of `show`, line by line: how it goes on, and how it comes to each end.
use Rattle.std.proofs.Common.{◌≡◌, ℕ, ◌+◌, ◌<◌, ◌≤◌, List, [], ◌∷◌, ◌++◌, length, take, drop, slice_get, Option, None, Some, Ok, Err, unwrap_or, refl, sym, ap, subst, ◌∙◌, arith, append_assoc, length-append}
use Rattle.std.specs.Prelude.{IfSome}
use Rattle.std.proofs.lemmas.List.{append-nil, take_at, drop_at}
use Rattle.m17_io.specs.Faults.{HasCauses}
use Rattle.m17_print.specs.Endings.{failed_device, Comes}
use Rattle.m17_print.specs.declared.ending.TextEnding.{TextEnding}
use Rattle.m17_print.specs.declared.ending.TextEnding.TheVariants.{Finished, Refused, ReadFailed, WriteFailed}
use Rattle.m17_print.proofs.TextsOfLines.{no_lines, one_more_line, whole_part, cut_line}
use Rattle.m17_text_commands.specs.declared.show_reason.ShowReason.{ShowReason}
use Rattle.m17_text_commands.specs.declared.show_reason.ShowReason.TheVariants.{Large, Long, Odd, Digit}
use Rattle.m17_text_commands.specs.declared.not_shown.NotShown.{NotShown}
use Rattle.m17_text_commands.specs.declared.not_shown.NotShown.TheVariants as not_shown
use Rattle.m17_text_commands.specs.Lines.{most_lines, lines_of, content_of, AreEnded, AreLineCount, RefusesLine}
use Rattle.m17_text_commands.specs.Reading.{HasNoFeed, BeginsWithLine, IsAhead}
use Rattle.m17_text_commands.specs.Show.{HasPrintedLine, IsTextOfFirst, SaysShow, PrintsShow}
use Rattle.m17_text_commands.specs.ShowRun.{RefusesContent, ComesOfLine, failed_at_line, ending_at, IsAt, AreShown, GoesOn}
use Rattle.m17_text_commands.proofs.Feeds.{ended_same, lines_of-line, lines_of-last, lines_of-begun, lines_of-none, some_line}
use Rattle.m17_text_commands.proofs.LinesSoFar.{at_start, line_at, count_at, held_line, at_more, content_long}

-- the beginning of a run
pub start : (input held : List ℕ) (left first : Option (List ℕ)) → held ≡ [] → left ≡ Some input → AreShown input 0 held left first first
start input held left first none told = record {
  ahead = input;
  is_ahead = (input, told, ap (λ xs. xs ++ input) (sym none));
  is_at = at_start input;
  text = [];
  is_text = no_lines (HasPrintedLine input);
  printed = λ before e. e ∙ ap Some (sym (append-nil before));
}

-- more of the input is held, and nothing was written
pub kept : (input held held' : List ℕ) (count : ℕ) (left left' first written written' : Option (List ℕ)) → AreShown input count held left first written
    → ((ahead : List ℕ) → IsAhead held left ahead → IsAhead held' left' ahead) → written' ≡ written → AreShown input count held' left' first written'
kept input held held' count left left' first written written' so_far keeps same = record {
  ahead = so_far.ahead;
  is_ahead = keeps so_far.ahead so_far.is_ahead;
  is_at = so_far.is_at;
  text = so_far.text;
  is_text = so_far.is_text;
  printed = λ before e. same ∙ so_far.printed before e;
}

-- the refusal of a line stands at its number
refuses_line : (input line : List ℕ) (count : ℕ) (reason : ShowReason) → count < most_lines → slice_get (lines_of input) count ≡ Some line
    → RefusesContent (content_of line) reason → RefusesLine input count reason
refuses_line input line count Large few there h = absurd h
refuses_line input line count Long few there h = (few, line, there, h)
refuses_line input line count Odd few there h = (few, line, there, h)
refuses_line input line count Digit few there h = (few, line, there, h)

-- a line with which the run comes to its end
line_ends : (input line text : List ℕ) (count : ℕ) (why : NotShown) (left first written written' : Option (List ℕ)) → count < most_lines
    → slice_get (lines_of input) count ≡ Some line → IsTextOfFirst input count text → ((before : List ℕ) → first ≡ Some before → written ≡ Some (before ++ text))
    → ComesOfLine line written written' (Err why) → Comes SaysShow PrintsShow (ending_at count why) input left first written'
line_ends input line text count (not_shown.Refused reason) left first written written' few there shown printed h =
    let refuses : RefusesLine input count reason = refuses_line input line count reason few there h.0 in
    record {
      said = (refuses, (text, shown));
      printed = λ before e. (text, h.1 ∙ printed before e, (refuses, shown));
    }
line_ends input line text count not_shown.WriteFailed left first written written' few there shown printed h = record {
  said = tt;
  printed = λ before e.
      let part = h.2 (before ++ text) (printed before e) in (
        text ++ take part.0 h.0,
        part.1 ∙ ap Some (append_assoc before text (take part.0 h.0)),
        (count + 1, omega arith, cut_line (HasPrintedLine input) count text h.0 part.0 shown (line, there, h.1)),
      );
}

-- a line, its line feed, and the rest
ahead_split : (held : List ℕ) (size : ℕ) (rest ahead : List ℕ) → BeginsWithLine held size → ahead ≡ held ++ rest
    → ahead ≡ take size held ++ 10 ∷ (drop (size + 1) held ++ rest)
ahead_split held size rest ahead begins is =
    is ∙ ap (λ xs. xs ++ rest) (held_line held size begins) ∙ append_assoc (take size held) (10 ∷ drop (size + 1) held) rest

-- a line that begins what is held, and was shown
pub line_shown : (input held held' : List ℕ) (count size : ℕ) (left first written written' : Option (List ℕ)) → count < most_lines
    → AreShown input count held left first written → BeginsWithLine held size → ComesOfLine (take size held) written written' (Ok tt)
    → held' ≡ drop (size + 1) held → AreShown input (count + 1) held' left first written'
line_shown input held held' count size left first written written' few so_far begins h after =
    let line = take size held in
    let rest = so_far.is_ahead.0 in
    let split : so_far.ahead ≡ line ++ 10 ∷ (held' ++ rest) =
    ahead_split held size rest so_far.ahead begins so_far.is_ahead.2 ∙ ap (λ xs. line ++ 10 ∷ (xs ++ rest)) (sym after) in
    let here : IsAt input count (line ++ 10 ∷ (held' ++ rest)) = subst (IsAt input count) split so_far.is_at in
    let there = line_at input (line ++ 10 ∷ (held' ++ rest)) line (lines_of (held' ++ rest)) count here (lines_of-line line (held' ++ rest) begins.no_feed) in
    record {
      ahead = held' ++ rest;
      is_ahead = (rest, so_far.is_ahead.1, refl);
      is_at = at_more input line (held' ++ rest) count begins.no_feed here;
      text = so_far.text ++ h.0;
      is_text = one_more_line (HasPrintedLine input) count so_far.text h.0 so_far.is_text (line, there, h.1);
      printed = λ before e. h.2 (before ++ so_far.text) (so_far.printed before e) ∙ ap Some (append_assoc before so_far.text h.0);
    }

-- one that was not
pub line_not_shown : (input held : List ℕ) (count size : ℕ) (why : NotShown) (left first written written' : Option (List ℕ)) → count < most_lines
    → AreShown input count held left first written → BeginsWithLine held size → ComesOfLine (take size held) written written' (Err why)
    → Comes SaysShow PrintsShow (ending_at count why) input left first written'
line_not_shown input held count size why left first written written' few so_far begins h =
    let line = take size held in
    let rest = so_far.is_ahead.0 in
    let split = ahead_split held size rest so_far.ahead begins so_far.is_ahead.2 in
    let here : IsAt input count (line ++ 10 ∷ (drop (size + 1) held ++ rest)) = subst (IsAt input count) split so_far.is_at in
    let there = line_at input (line ++ 10 ∷ (drop (size + 1) held ++ rest)) line (lines_of (drop (size + 1) held ++ rest)) count here (lines_of-line line (drop (size + 1) held ++ rest) begins.no_feed) in
    line_ends input line so_far.text count why left first written written' few there so_far.is_text so_far.printed h

-- a line that is too long, of which only the beginning is held
pub long : (input held : List ℕ) (count : ℕ) (left first written : Option (List ℕ)) → count < most_lines → AreShown input count held left first written
    → 257 < length held → HasNoFeed held → Comes SaysShow PrintsShow (Refused count Long) input left first written
long input [] count left first written few so_far many none = absurd (omega arith)
long input (x ∷ held) count left first written few so_far many none =
    let begun = lines_of-begun x held so_far.is_ahead.0 none in
    let line = (x ∷ held) ++ begun.0 in
    let there = line_at input so_far.ahead line begun.1 count so_far.is_at (ap lines_of so_far.is_ahead.2 ∙ begun.2) in
    let size = length-append (x ∷ held) begun.0 in
    let refuses : RefusesLine input count Long = (few, line, there, content_long line 256 (omega arith)) in
    record {
      said = (refuses, (so_far.text, so_far.is_text));
      printed = λ before e. (so_far.text, so_far.printed before e, (refuses, so_far.is_text));
    }

-- the source failed before a line was there
pub read_failed : (input held : List ℕ) (count : ℕ) (left first written : Option (List ℕ)) → count ≤ most_lines → AreShown input count held left first written
    → HasNoFeed held → Comes SaysShow PrintsShow ReadFailed input left first written
read_failed input held count left first written few so_far none =
    let at = so_far.is_at in
    let rest = so_far.is_ahead.0 in
    let taken = at.before ++ held in
    let whole : input ≡ taken ++ rest = at.input_is ∙ ap (λ xs. at.before ++ xs) so_far.is_ahead.2 ∙ sym (append_assoc at.before held rest) in
    let size = length-append taken rest in
    record {
      said = tt;
      printed = λ before e. (
        so_far.text,
        so_far.printed before e,
        (
          count,
          length taken,
          few,
          (let total = ap length whole in omega arith),
          so_far.is_ahead.1 ∙ ap Some (sym (ap (drop (length taken)) whole ∙ drop_at taken rest (length taken) refl)),
          subst (λ (xs : List ℕ). AreEnded xs count) (sym (ap (take (length taken)) whole ∙ take_at taken rest (length taken) refl)) (ended_same at.before held count at.ended none),
          so_far.is_text,
        ),
      );
    }

-- the sink failed between two lines
pub write_failed : (input held : List ℕ) (count : ℕ) (left first written : Option (List ℕ)) → count ≤ most_lines → AreShown input count held left first written
    → Comes SaysShow PrintsShow WriteFailed input left first written
write_failed input held count left first written few so_far = record {
  said = tt;
  printed = λ before e. (so_far.text, so_far.printed before e, (count, few, whole_part (HasPrintedLine input) count so_far.text so_far.is_text));
}

-- the whole input was shown
all_shown : (input text : List ℕ) (count : ℕ) (left first written : Option (List ℕ)) → count ≤ most_lines → length (lines_of input) ≡ count → left ≡ Some []
    → IsTextOfFirst input count text → ((before : List ℕ) → first ≡ Some before → written ≡ Some (before ++ text)) → Comes SaysShow PrintsShow Finished input left first written
all_shown input text count left first written few whole none shown printed =
    let lines : AreLineCount input count = record { whole = whole; not_large = few } in
    record {
      said = ((count, lines, (text, shown)), none);
      printed = λ before e. (text, printed before e, (count, lines, shown));
    }

-- nothing of the input is left
nothing_ahead : (held ahead : List ℕ) (left : Option (List ℕ)) → IsAhead held left ahead → left ≡ Some [] → ahead ≡ held
nothing_ahead held ahead left is_ahead none =
    let same : is_ahead.0 ≡ [] = ap (λ o. unwrap_or o []) (sym is_ahead.1 ∙ none) in
    is_ahead.2 ∙ ap (λ xs. held ++ xs) same ∙ append-nil held

-- the input ends after a line feed
pub finished : (input held : List ℕ) (count : ℕ) (left first written : Option (List ℕ)) → count ≤ most_lines → AreShown input count held left first written
    → held ≡ [] → left ≡ Some [] → Comes SaysShow PrintsShow Finished input left first written
finished input held count left first written few so_far empty none =
    let over : so_far.ahead ≡ [] = nothing_ahead held so_far.ahead left so_far.is_ahead none ∙ empty in
    let lines : length (lines_of so_far.ahead) ≡ 0 = ap (λ xs. length (lines_of xs)) over ∙ ap length lines_of-none in
    all_shown input so_far.text count left first written few (count_at input so_far.ahead count so_far.is_at ∙ (omega arith)) none so_far.is_text so_far.printed

-- a last line with no line feed
pub last_line : (input held : List ℕ) (count : ℕ) (left first written written' : Option (List ℕ)) → count < most_lines → AreShown input count held left first written
    → HasNoFeed held → 0 < length held → left ≡ Some [] → ComesOfLine held written written' (Ok tt) → Comes SaysShow PrintsShow Finished input left first written'
last_line input [] count left first written written' few so_far no_feed some none h = absurd (omega arith)
last_line input (x ∷ held) count left first written written' few so_far no_feed some none h =
    let first_line = ap lines_of (nothing_ahead (x ∷ held) so_far.ahead left so_far.is_ahead none) ∙ lines_of-last x held no_feed in
    let there = line_at input so_far.ahead (x ∷ held) [] count so_far.is_at first_line in
    all_shown input (so_far.text ++ h.0) (count + 1) left first written' (omega arith)
    (count_at input so_far.ahead count so_far.is_at ∙ ap (λ (ls : List (List ℕ)). count + length ls) first_line) none
    (one_more_line (HasPrintedLine input) count so_far.text h.0 so_far.is_text ((x ∷ held), there, h.1))
    (λ before e. h.2 (before ++ so_far.text) (so_far.printed before e) ∙ ap Some (append_assoc before so_far.text h.0))

-- one that was not shown
pub last_not_shown : (input held : List ℕ) (count : ℕ) (why : NotShown) (left first written written' : Option (List ℕ)) → count < most_lines → AreShown input count held left first written
    → HasNoFeed held → 0 < length held → left ≡ Some [] → ComesOfLine held written written' (Err why) → Comes SaysShow PrintsShow (ending_at count why) input left first written'
last_not_shown input [] count why left first written written' few so_far no_feed some none h = absurd (omega arith)
last_not_shown input (x ∷ held) count why left first written written' few so_far no_feed some none h =
    let first_line = ap lines_of (nothing_ahead (x ∷ held) so_far.ahead left so_far.is_ahead none) ∙ lines_of-last x held no_feed in
    let there = line_at input so_far.ahead (x ∷ held) [] count so_far.is_at first_line in
    line_ends input (x ∷ held) so_far.text count why left first written written' few there so_far.is_text so_far.printed h

-- a byte more than there may be
pub large : (input held : List ℕ) (count : ℕ) (left first written : Option (List ℕ)) → count ≡ most_lines → AreShown input count held left first written
    → 0 < length held → Comes SaysShow PrintsShow (Refused count Large) input left first written
large input [] count left first written full so_far some = absurd (omega arith)
large input (x ∷ held) count left first written full so_far some =
    let more = some_line x (held ++ so_far.is_ahead.0) in
    let whole : length (lines_of input) ≡ count + length (lines_of (x ∷ (held ++ so_far.is_ahead.0))) =
    count_at input so_far.ahead count so_far.is_at ∙ ap (λ (xs : List ℕ). count + length (lines_of xs)) so_far.is_ahead.2 in
    let refuses : RefusesLine input count Large = (full, omega arith) in
    record {
      said = (refuses, (so_far.text, so_far.is_text));
      printed = λ before e. (so_far.text, so_far.printed before e, (refuses, so_far.is_text));
    }

-- the device that failed at a line is the one of the ending
pub failed_at : (number : ℕ) (why : NotShown) (before after : ℕ × ℕ) → HasCauses before after (failed_at_line (Err why)) → HasCauses before after (failed_device (ending_at number why))
failed_at number (not_shown.Refused reason) before after causes = causes
failed_at number not_shown.WriteFailed before after causes = causes

-- the ending with which the next line comes, if it does
pub goes_to_end : (outcome : Option (TextEnding ShowReason)) (number : ℕ) (held held' : List ℕ) (left left' written written' : Option (List ℕ))
    → ((bytes : List ℕ) (first : Option (List ℕ)) → AreShown bytes 0 held left first written → GoesOn bytes number first outcome held' left' written')
    → IfSome outcome (λ ending. (bytes : List ℕ) (first : Option (List ℕ)) → AreShown bytes 0 held left first written → Comes SaysShow PrintsShow ending bytes left' first written')
goes_to_end None number held held' left left' written written' goes = tt
goes_to_end (Some ending) number held held' left left' written written' goes = goes
