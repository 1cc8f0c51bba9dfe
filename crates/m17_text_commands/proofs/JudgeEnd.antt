-- The end of a run of `judge` that took as many records as may come.
use Rattle.std.proofs.Common.{◌≡◌, ℕ, ◌*◌, ◌<◌, ◌≤◌, List, [], length, drop, Option, Some, refl, sym, ap, ◌∙◌, arith}
use Rattle.std.proofs.lemmas.List.{append-nil, length-drop, nil_from_length}
use Rattle.m17_print.specs.Endings.{Comes}
use Rattle.m17_print.specs.declared.ending.TextEnding.{TextEnding}
use Rattle.m17_print.specs.declared.ending.TextEnding.TheVariants.{Finished, Refused, ReadFailed, WriteFailed}
use Rattle.m17_text_commands.specs.declared.judge_reason.JudgeReason.{JudgeReason}
use Rattle.m17_text_commands.specs.declared.judge_reason.JudgeReason.TheVariants.{Cut, Large}
use Rattle.m17_io.specs.Fill.{IsFilled, IsCutShort}
use Rattle.m17_text_commands.specs.Judge.{SaysJudge, PrintsJudge}
use Rattle.m17_text_commands.specs.Records.{most_records, AreRecords, RefusesRecords}
use Rattle.m17_text_commands.specs.JudgeRun.{AreJudged, LooksPast}

-- nothing came into a buffer of one byte
pub nothing_past : (left buffer filled : List ℕ) (n : ℕ) (rest : Option (List ℕ)) → length buffer ≡ 1 → n ≡ 0 → IsFilled left n buffer filled rest → (left ≡ []) × (rest ≡ Some [])
nothing_past left buffer filled n rest size none is =
    let over : n ≡ length left = is.at_end (omega arith) in
    let empty : left ≡ [] = nil_from_length left (sym over ∙ none) in
    (empty, is.rest_left ∙ ap (λ k. Some (drop k left)) none ∙ ap Some empty)

-- the source failed before it
pub failed_past : (left : List ℕ) (size : ℕ) (rest : Option (List ℕ)) → size ≡ 1 → IsCutShort left size rest → rest ≡ Some left
failed_past left size rest one short =
    let none : short.taken ≡ 0 = omega (arith, short.not_all) in short.rest_left ∙ ap (λ k. Some (drop k left)) none

-- as many records as may come, and nothing after them
all_there : (bytes : List ℕ) → 64 * most_records ≤ length bytes → drop (64 * most_records) bytes ≡ [] → AreRecords bytes most_records
all_there bytes within none = record {
  whole = omega (arith, length-drop (64 * most_records) bytes, ap length none);
  not_large = omega arith;
}

-- as many records as may come, and a byte after them
too_large : (bytes : List ℕ) (place : ℕ) → place ≡ 64 * most_records → 0 < length (drop (64 * most_records) bytes) → RefusesRecords bytes most_records place Large
too_large bytes place at more = (refl, omega (arith, length-drop (64 * most_records) bytes), at)

-- the ending after as many records as may come
pub past : (ending : TextEnding JudgeReason) (bytes : List ℕ) (left rest first written written' : Option (List ℕ)) → written' ≡ written
    → AreJudged bytes most_records left first written → LooksPast ending (drop (64 * most_records) bytes) rest → Comes SaysJudge PrintsJudge ending bytes rest first written'
past Finished bytes left rest first written written' same so_far looks =
    let records = all_there bytes so_far.within looks.0 in
    record {
      said = ((most_records, records), looks.1);
      printed = λ before told. (so_far.text, same ∙ so_far.printed before told, (most_records, records, so_far.is_text));
    }
past (Refused place Large) bytes left rest first written written' same so_far looks =
    let refuses = too_large bytes place looks.0 looks.1 in
    record {
      said = (most_records, refuses);
      printed = λ before told. (so_far.text, same ∙ so_far.printed before told, (most_records, refuses, so_far.is_text));
    }
past (Refused place Cut) bytes left rest first written written' same so_far looks = absurd looks
past ReadFailed bytes left rest first written written' same so_far looks = record {
  said = tt;
  printed = λ before told. (
    so_far.text,
    same ∙ so_far.printed before told,
    (most_records, 64 * most_records, omega arith, omega arith, omega arith, so_far.within, looks, so_far.is_text),
  );
}
past WriteFailed bytes left rest first written written' same so_far looks = record {
  said = tt;
  printed = λ before told. (
    so_far.text,
    same ∙ so_far.printed before told,
    (most_records, so_far.text, [], omega arith, so_far.within, so_far.is_text, sym (append-nil so_far.text)),
  );
}
