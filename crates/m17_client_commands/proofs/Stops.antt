-- Where no further record begins: the input is refused.
use Rattle.std.proofs.Common.{◌≡◌, ℕ, ◌+◌, ◌*◌, ◌<◌, ◌≤◌, List, [], length, take, drop, Option, Some, Result, Ok, Err, IfOk, IfErr, sym, ap, subst, ◌∙◌, arith, inl, inr}
use Rattle.std.proofs.lemmas.List.{length-take-le, nil_from_length, take_all}
use Rattle.std.proofs.lemmas.Bool.{cases_lt}
use Rattle.m17_io.specs.Fill.{IsFilled}
use Rattle.m17_stream.specs.Stream.{SpellsStream}
use Rattle.m17_stream.specs.declared.packet.StreamPacket.{StreamPacket}
use Rattle.m17_client_commands.specs.declared.reason.ScriptFailure.{ScriptFailure}
use Rattle.m17_client_commands.specs.declared.reason.ScriptFailure.TheVariants as failures
use Rattle.m17_client_commands.specs.declared.reason.ScriptReason.{ScriptReason}
use Rattle.m17_client_commands.specs.declared.reason.ScriptReason.TheVariants.{Cut, Field, Large}
use Rattle.m17_client_commands.specs.Reading.{SaysFailure}
use Rattle.m17_client_commands.specs.Script.{Due, most_records, from_record, last_moment, IsEarly, IsScript, RefusesMore, RefusesNext, RefusesScript, packet_of}
use Rattle.m17_client_commands.specs.Walk.{LooksPast}
use Rattle.m17_client_commands.proofs.Records.{IsAfter, filled_part, moment_front, packet_front, nothing_more}

-- what is wrong with the first bytes of a whole record is wrong with all that is left
wrong_whole : (moment : ℕ) (rest : List ℕ) (k : ℕ) (reason : ScriptReason) → 62 ≤ length rest → RefusesNext moment (take 62 rest) k reason → RefusesNext moment rest k reason
wrong_whole moment rest k Cut room wrong = absurd (omega (arith, wrong.1, length-take-le 62 rest room))
wrong_whole moment rest k Field room (inl early) = inl ((omega arith, subst (λ (m : ℕ). m < moment) (moment_front rest) early.0.1), early.1)
wrong_whole moment rest k Field room (inr wrong) = inr (
  room,
  (λ (early : IsEarly moment rest). wrong.1 (omega (arith, length-take-le 62 rest room), subst (λ (m : ℕ). m < moment) (sym (moment_front rest)) early.1)),
  (λ (p : StreamPacket) (spells : SpellsStream p (packet_of rest)). wrong.2 p (subst (λ (xs : List ℕ). SpellsStream p xs) (sym (packet_front rest)) spells)),
  wrong.3,
)
wrong_whole moment rest k Large room wrong = wrong

-- so is what is wrong with as many bytes as came
wrong_part : (moment : ℕ) (rest buffer filled : List ℕ) (n k : ℕ) (reason : ScriptReason) (left : Option (List ℕ)) → length buffer ≡ 62 → n ≤ 62
    → IsFilled rest n buffer filled left → RefusesNext moment (take n filled) k reason → RefusesNext moment rest k reason
wrong_part moment rest buffer filled n k reason left size within is wrong =
    let part : take n filled ≡ take n rest = filled_part rest buffer filled n left is in
    let here : RefusesNext moment (take n rest) k reason = subst (λ (xs : List ℕ). RefusesNext moment xs k reason) part wrong in
    elim (cases_lt n 62) [
      | inl short ↦
          let over : n ≡ length rest = is.at_end (omega arith) in
          subst (λ (xs : List ℕ). RefusesNext moment xs k reason) (take_all n rest (omega arith)) here
      | inr long ↦
          let whole : n ≡ 62 = omega arith in
          wrong_whole moment rest k reason (omega (arith, is.no_more)) (subst (λ (m : ℕ). RefusesNext moment (take m rest) k reason) whole here)
    ]

pub stops : (bytes : List ℕ) (script : List Due) (moment : ℕ) (buffer filled : List ℕ) (n k place : ℕ) (reason : ScriptReason) (left left' : Option (List ℕ))
    → length buffer ≡ 62 → n ≤ 62 → length script < most_records → moment ≡ last_moment script → place ≡ 62 * length script + k → IsAfter bytes script left
    → IsFilled (from_record bytes (length script)) n buffer filled left' → RefusesNext moment (take n filled) k reason → RefusesScript bytes place reason
stops bytes script moment buffer filled n k place reason left left' size within few last at after is wrong = record {
  script = script;
  begins = after.begins;
  stops = inr (
    few,
    k,
    wrong_part (last_moment script) (from_record bytes (length script)) buffer filled n k reason left' size within is
        (subst (λ (m : ℕ). RefusesNext m (take n filled) k reason) last wrong),
    at,
  );
}

-- After as many records as there may be, the look for one more byte.
pub past_ok : {T : Type 0} (items : T → List Due) (result : Result T ScriptFailure) (script : List Due) (first was now : Option (List ℕ))
    → IfOk result (λ all. items all ≡ script) → ((left : List ℕ) → was ≡ Some left → LooksPast result left now)
    → ((bytes : List ℕ) → first ≡ Some bytes → IsAfter bytes script was)
    → IfOk result (λ all. (bytes : List ℕ) → first ≡ Some bytes → IsScript bytes (items all) × (now ≡ Some []))
past_ok items (Ok all) script first was now kept looks after = λ bytes told.
    let so_far = after bytes told in
    let looked = looks (from_record bytes (length script)) so_far.rest_left in
    (subst (λ (s : List Due). IsScript bytes s) (sym kept) (nothing_more bytes script was so_far looked.0), looked.1)
past_ok items (Err failure) script first was now kept looks after = tt

too_many : (failure : ScriptFailure) (bytes : List ℕ) (script : List Due) (was now : Option (List ℕ)) → length script ≡ most_records → IsAfter bytes script was
    → LooksPast {T = ℕ} (Err failure) (from_record bytes (length script)) now → SaysFailure failure bytes
too_many (failures.Refused place reason) bytes script was now count after looked = record {
  script = script;
  begins = after.begins;
  stops = inl (
    count,
    subst (λ (r : ScriptReason). RefusesMore (from_record bytes (length script)) r) (sym looked.0) looked.2,
    looked.1 ∙ ap (λ n. 62 * n) (sym count),
  );
}
too_many (failures.Device fault) bytes script was now count after looked = tt
too_many failures.NoMemory bytes script was now count after looked = tt

pub past_err : {T : Type 0} (result : Result T ScriptFailure) (script : List Due) (first was now : Option (List ℕ)) → length script ≡ most_records
    → ((left : List ℕ) → was ≡ Some left → LooksPast result left now) → ((bytes : List ℕ) → first ≡ Some bytes → IsAfter bytes script was)
    → IfErr result (λ failure. (bytes : List ℕ) → first ≡ Some bytes → SaysFailure failure bytes)
past_err (Ok all) script first was now count looks after = tt
past_err (Err failure) script first was now count looks after = λ bytes told.
    let so_far = after bytes told in
    too_many failure bytes script was now count so_far (looks (from_record bytes (length script)) so_far.rest_left)

-- nothing came into a buffer of one byte
pub nothing_past : (left buffer filled : List ℕ) (n : ℕ) (rest : Option (List ℕ)) → length buffer ≡ 1 → n ≡ 0 → IsFilled left n buffer filled rest → (left ≡ []) × (rest ≡ Some [])
nothing_past left buffer filled n rest size none is =
    let over : n ≡ length left = is.at_end (omega arith) in
    let empty : left ≡ [] = nil_from_length left (sym over ∙ none) in
    (empty, is.rest_left ∙ ap (λ k. Some (drop k left)) none ∙ ap Some empty)
