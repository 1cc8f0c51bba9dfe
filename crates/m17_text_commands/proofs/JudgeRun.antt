-- A run of `judge`, record by record.
use Rattle.std.proofs.Common.{◌≡◌, ℕ, ◌+◌, ◌*◌, ◌<◌, ◌≤◌, List, [], ◌∷◌, ◌++◌, length, take, drop, Option, Some, refl, sym, ap, subst, ◌∙◌, arith, append_assoc, inl, inr, length-append}
use Rattle.std.proofs.lemmas.Option.{slice_get_within}
use Rattle.std.proofs.lemmas.List.{append-nil, drop-drop, drop_all, length-drop, length_push}
use Rattle.m17_io.specs.Sink.{AppendsPrefix}
use Rattle.m17_floor.specs.declared.act.Act.{Act}
use Rattle.m17_floor.specs.Laws.{LaterActsChangeNoVerdict}
use Rattle.m17_print.specs.Endings.{Comes}
use Rattle.m17_print.specs.Texts.{IsTextOf}
use Rattle.m17_print.specs.declared.ending.TextEnding.TheVariants.{Finished, Refused, ReadFailed, WriteFailed}
use Rattle.m17_lists.proofs.Places.{what_stands_stays}
use Rattle.m17_print.proofs.TextsOfLines.{no_lines, same_lines, one_more_line, cut_line}
use Rattle.m17_text_commands.specs.declared.judge_reason.JudgeReason.TheVariants.{Cut}
use Rattle.m17_io.specs.Fill.{IsFilled, IsCutShort}
use Rattle.m17_text_commands.specs.Judge.{joins, judge_setup, talkers, acts_with, IsRecordLine, HasRecordLine, IsTextOfRecords, SaysJudge, PrintsJudge}
use Rattle.m17_text_commands.specs.Records.{most_records, record_at, AreRecords, RefusesRecords}
use Rattle.m17_text_commands.specs.JudgeRun.{AreJudged}
use Rattle.m17_text_commands.specs.Table.{TableKept, TableStandsFor, JudgesRecord}
use Rattle.m17_text_commands.proofs.Joins.{length-joins}

-- So many records of the input were judged, and the table stands for their acts. What was written before the run and what
-- is written now are told or not.
pub record IsAfter (bytes : List ℕ) (count : ℕ) (kept : TableKept) (rest first written : Option (List ℕ)) : Type 0 where
  pub within : 64 * count ≤ length bytes
  pub rest_left : rest ≡ Some (drop (64 * count) bytes)
  pub more : List Act
  pub acts_count : length more ≡ count
  pub stands : TableStandsFor (acts_with more) kept
  pub text : List ℕ
  pub lines : IsTextOf (HasRecordLine bytes more) count text
  pub printed : (before : List ℕ) → first ≡ Some before → written ≡ Some (before ++ text)

pub at_start : (bytes : List ℕ) (kept : TableKept) (rest first : Option (List ℕ)) → rest ≡ Some bytes → TableStandsFor (joins talkers) kept
    → IsAfter bytes 0 kept rest first first
at_start bytes kept rest first told stands = record {
  within = omega arith;
  rest_left = told;
  more = [];
  acts_count = refl;
  stands = subst (λ (acts : List Act). TableStandsFor acts kept) (sym (append-nil (joins talkers))) stands;
  text = [];
  lines = no_lines (HasRecordLine bytes []);
  printed = λ before e. e ∙ ap Some (sym (append-nil before));
}

-- a line is the same over a longer list of acts
line_longer : LaterActsChangeNoVerdict → (acts more : List Act) (n : ℕ) (bytes line : List ℕ) → IsRecordLine acts n bytes line → IsRecordLine (acts ++ more) n bytes line
line_longer law acts more n bytes line (inl j) = inl (record {
  packet = j.packet;
  spelled = j.spelled;
  act = what_stands_stays acts more (talkers + n) _ j.act;
  verdict = j.verdict;
  ruled = law judge_setup acts more (talkers + n) (slice_get_within acts (talkers + n) _ j.act) ∙ j.ruled;
  text = j.text;
})
line_longer law acts more n bytes line (inr t) = inr (record {
  refusal = t.refusal;
  refused = t.refused;
  act = what_stands_stays acts more (talkers + n) _ t.act;
  text = t.text;
})

-- the acts of one more record
acts_more : (more : List Act) (act : Act) → acts_with more ++ act ∷ [] ≡ acts_with (more ++ act ∷ [])
acts_more more act = append_assoc (joins talkers) more (act ∷ [])

length-acts_with : (more : List Act) (count : ℕ) → length more ≡ count → length (acts_with more) ≡ talkers + count
length-acts_with more count e = length-append (joins talkers) more ∙ ap (λ n. n + length more) (length-joins talkers) ∙ ap (λ n. talkers + n) e

-- what was filled is the next record
record_filled : (bytes buffer bytes' : List ℕ) (count : ℕ) (rest : Option (List ℕ)) → length buffer ≡ 64 → IsFilled (drop (64 * count) bytes) 64 buffer bytes' rest → bytes' ≡ record_at bytes count
record_filled bytes buffer bytes' count rest size filled =
    filled.front ∙ ap (λ xs. take 64 (drop (64 * count) bytes) ++ xs) (drop_all 64 buffer (omega arith)) ∙ append-nil (take 64 (drop (64 * count) bytes))

-- The next record with its act and its line, before the line is written.
pub record IsJudgedNext (bytes : List ℕ) (count : ℕ) (kept : TableKept) (rest : Option (List ℕ)) (text line : List ℕ) : Type 0 where
  pub within : 64 * (count + 1) ≤ length bytes
  pub rest_left : rest ≡ Some (drop (64 * (count + 1)) bytes)
  pub more : List Act
  pub acts_count : length more ≡ count + 1
  pub stands : TableStandsFor (acts_with more) kept
  pub lines : IsTextOf (HasRecordLine bytes more) count text
  pub newest : HasRecordLine bytes more count line

pub next_judged : LaterActsChangeNoVerdict → (bytes : List ℕ) (count : ℕ) (kept kept' : TableKept) (rest rest' first written : Option (List ℕ)) (buffer bytes' line : List ℕ)
    → (after : IsAfter bytes count kept rest first written) → length buffer ≡ 64 → IsFilled (drop (64 * count) bytes) 64 buffer bytes' rest'
    → JudgesRecord count bytes' kept kept' line → IsJudgedNext bytes count kept' rest' after.text line
next_judged law bytes count kept kept' rest rest' first written buffer bytes' line after size filled judges =
    let step = judges (acts_with after.more) (length-acts_with after.more count after.acts_count) after.stands in
    record {
      within = omega (arith, after.within, filled.no_more, length-drop (64 * count) bytes);
      rest_left = filled.rest_left ∙ ap Some (drop-drop 64 (64 * count) bytes ∙ ap (λ n. drop n bytes) (omega arith));
      more = after.more ++ step.0 ∷ [];
      acts_count = length_push after.more step.0 ∙ ap (λ n. n + 1) after.acts_count;
      stands = subst (λ (acts : List Act). TableStandsFor acts kept') (acts_more after.more step.0) step.1;
      lines = same_lines (HasRecordLine bytes after.more) (HasRecordLine bytes (after.more ++ step.0 ∷ [])) count after.text
          (λ n one below old. subst (λ (acts : List Act). IsRecordLine acts n (record_at bytes n) one) (acts_more after.more step.0)
          (line_longer law (acts_with after.more) (step.0 ∷ []) n (record_at bytes n) one old)) after.lines;
      newest = subst (λ (xs : List ℕ). IsRecordLine (acts_with (after.more ++ step.0 ∷ [])) count xs line) (record_filled bytes buffer bytes' count rest' size filled)
          (subst (λ (acts : List Act). IsRecordLine acts count bytes' line) (acts_more after.more step.0) step.2);
    }

-- its line was written
pub one_more : (bytes : List ℕ) (count : ℕ) (kept : TableKept) (rest first written written' : Option (List ℕ)) (text line : List ℕ)
    → IsJudgedNext bytes count kept rest text line → ((before : List ℕ) → first ≡ Some before → written ≡ Some (before ++ text))
    → ((before : List ℕ) → written ≡ Some before → written' ≡ Some (before ++ line)) → IsAfter bytes (count + 1) kept rest first written'
one_more bytes count kept rest first written written' text line next printed writes = record {
  within = next.within;
  rest_left = next.rest_left;
  more = next.more;
  acts_count = next.acts_count;
  stands = next.stands;
  text = text ++ line;
  lines = one_more_line (HasRecordLine bytes next.more) count text line next.lines next.newest;
  printed = λ before told. writes (before ++ text) (printed before told) ∙ ap Some (append_assoc before text line);
}

-- the text so far
text_after : (bytes : List ℕ) (count : ℕ) (kept : TableKept) (rest first written : Option (List ℕ)) → (after : IsAfter bytes count kept rest first written) → IsTextOfRecords bytes count after.text
text_after bytes count kept rest first written after = record { more = after.more; acts_count = after.acts_count; lines = after.lines }

-- as many records as may come were judged
pub all_judged : (bytes : List ℕ) (count : ℕ) (kept : TableKept) (rest first written : Option (List ℕ)) → count ≡ most_records → IsAfter bytes count kept rest first written
    → AreJudged bytes most_records rest first written
all_judged bytes count kept rest first written full after =
    subst (λ (n : ℕ). AreJudged bytes n rest first written) full (record {
      within = after.within;
      rest_left = after.rest_left;
      text = after.text;
      is_text = text_after bytes count kept rest first written after;
      printed = after.printed;
    })

-- nothing came any more: the records are all there
pub finished : (bytes : List ℕ) (count : ℕ) (kept : TableKept) (rest rest' first written written' : Option (List ℕ)) (buffer filled : List ℕ) (n : ℕ)
    → n ≡ 0 → count < most_records → length buffer ≡ 64 → written' ≡ written → IsAfter bytes count kept rest first written → IsFilled (drop (64 * count) bytes) n buffer filled rest'
    → Comes SaysJudge PrintsJudge Finished bytes rest' first written'
finished bytes count kept rest rest' first written written' buffer filled n none few size same after is_filled =
    let over : n ≡ length (drop (64 * count) bytes) = is_filled.at_end (omega arith) in
    let all : length bytes ≡ 64 * count = omega (arith, length-drop (64 * count) bytes, over, after.within) in
    let records : AreRecords bytes count = record { whole = all; not_large = omega arith } in
    record {
      said = ((count, records), is_filled.rest_left ∙ ap Some (drop_all n (drop (64 * count) bytes) (omega (arith, over))));
      printed = λ before told. (after.text, same ∙ after.printed before told, (count, records, text_after bytes count kept rest first written after));
    }

-- a part of a record came, and then the end
pub cut : (bytes : List ℕ) (count : ℕ) (kept : TableKept) (rest rest' first written written' : Option (List ℕ)) (buffer filled : List ℕ) (n : ℕ)
    → 0 < n → n < 64 → count < most_records → length buffer ≡ 64 → written' ≡ written → IsAfter bytes count kept rest first written → IsFilled (drop (64 * count) bytes) n buffer filled rest'
    → Comes SaysJudge PrintsJudge (Refused (64 * count + n) Cut) bytes rest' first written'
cut bytes count kept rest rest' first written written' buffer filled n some part few size same after is_filled =
    let over : n ≡ length (drop (64 * count) bytes) = is_filled.at_end (omega arith) in
    let all : length bytes ≡ 64 * count + n = omega (arith, length-drop (64 * count) bytes, over, after.within) in
    let refuses : RefusesRecords bytes count (64 * count + n) Cut = (few, omega arith, omega arith, sym all) in
    record {
      said = (count, refuses);
      printed = λ before told. (after.text, same ∙ after.printed before told, (count, refuses, text_after bytes count kept rest first written after));
    }

-- the source failed inside a record
pub read_failed : (bytes : List ℕ) (count : ℕ) (kept : TableKept) (rest rest' first written written' : Option (List ℕ)) (size : ℕ)
    → count < most_records → size ≡ 64 → written' ≡ written → IsAfter bytes count kept rest first written → IsCutShort (drop (64 * count) bytes) size rest'
    → Comes SaysJudge PrintsJudge ReadFailed bytes rest' first written'
read_failed bytes count kept rest rest' first written written' size few whole same after short = record {
  said = tt;
  printed = λ before told. (
    after.text,
    same ∙ after.printed before told,
    (
      count,
      64 * count + short.taken,
      omega arith,
      omega arith,
      omega (arith, short.not_all),
      omega (arith, short.no_more, length-drop (64 * count) bytes, after.within),
      short.rest_left ∙ ap Some (drop-drop short.taken (64 * count) bytes),
      text_after bytes count kept rest first written after,
    ),
  );
}

-- the sink failed between two lines
pub write_failed : (bytes : List ℕ) (count : ℕ) (kept : TableKept) (rest rest' first written written' : Option (List ℕ))
    → count ≤ most_records → written' ≡ written → IsAfter bytes count kept rest first written → Comes SaysJudge PrintsJudge WriteFailed bytes rest' first written'
write_failed bytes count kept rest rest' first written written' few same after = record {
  said = tt;
  printed = λ before told. (
    after.text,
    same ∙ after.printed before told,
    (count, after.text, [], few, after.within, text_after bytes count kept rest first written after, sym (append-nil after.text)),
  );
}

-- the sink failed inside a line
pub line_failed : (bytes : List ℕ) (count : ℕ) (kept : TableKept) (rest first written written' : Option (List ℕ)) (text line : List ℕ)
    → count < most_records → IsJudgedNext bytes count kept rest text line → ((before : List ℕ) → first ≡ Some before → written ≡ Some (before ++ text))
    → ((before : List ℕ) → written ≡ Some before → AppendsPrefix before line written') → Comes SaysJudge PrintsJudge WriteFailed bytes rest first written'
line_failed bytes count kept rest first written written' text line few next printed writes = record {
  said = tt;
  printed = λ before told.
      let part = writes (before ++ text) (printed before told) in
      let begun = cut_line (HasRecordLine bytes next.more) count text line part.0 next.lines next.newest in (
        text ++ take part.0 line,
        part.1 ∙ ap Some (append_assoc before text (take part.0 line)),
        (
          count + 1,
          begun.whole,
          begun.after,
          omega arith,
          next.within,
          record { more = next.more; acts_count = next.acts_count; lines = begun.is_text },
          begun.begins,
        ),
      );
}
