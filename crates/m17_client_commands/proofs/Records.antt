-- The records of a script, one more at a time, and where it stops.
use Rattle.std.proofs.Common.{◌≡◌, ℕ, zero, suc, ◌+◌, ◌-◌, ◌*◌, ◌<◌, ◌≤◌, List, [], ◌∷◌, ◌++◌, length, take, drop, Option, Some, unwrap_or, refl, sym, ap, subst, ◌∙◌, arith, inl, inr, length-append}
use Rattle.std.specs.List.{slice_get}
use Rattle.std.specs.Option.{option_map}
use Rattle.std.specs.Int.{w64, from_be_bytes}
use Rattle.std.proofs.lemmas.Option.{slice_get_within, slice_get-get_or}
use Rattle.std.proofs.lemmas.List.{drop-drop, drop-take, get_or_at, length-drop, length-take-le, length_push, nil_from_length, take-take, take_at}
use Rattle.std.proofs.lemmas.Bool.{cases_lt}
use Rattle.m17_io.specs.Fill.{IsFilled}
use Rattle.m17_client.specs.Talk.{IsInOrder}
use Rattle.m17_client_commands.specs.Script.{Due, most_records, from_record, record_at, last_moment, script_moment, packet_of, BeginsWith, IsScript, SpellsDue}

-- These records were read, and the rest of the input is left.
pub record IsAfter (bytes : List ℕ) (script : List Due) (left : Option (List ℕ)) : Type 0 where
  pub begins : BeginsWith bytes script
  pub rest_left : left ≡ Some (from_record bytes (length script))

pub at_start : (bytes : List ℕ) (left : Option (List ℕ)) → left ≡ Some bytes → IsAfter bytes [] left
at_start bytes left told = record {
  begins = record {
    not_large = omega arith;
    within = omega arith;
    each = λ n due e. cc;
    in_order = λ n a b e f. cc;
  };
  rest_left = told;
}

-- what stands behind a list
slice_get_after : (script : List Due) (due : Due) (n : ℕ) → length script ≡ n → slice_get (script ++ due ∷ []) n ≡ Some due
slice_get_after script due n size =
    slice_get-get_or (script ++ due ∷ []) n due (omega (arith, length-append script (due ∷ []))) ∙ ap Some (get_or_at script due [] due n size)

-- the last record of a list, and of a longer one
pub last_more : (script : List Due) (due : Due) → last_moment (script ++ due ∷ []) ≡ due.0
last_more script due =
    let at : length (script ++ due ∷ []) - 1 ≡ length script = omega (arith, length-append script (due ∷ [])) in
    let found : slice_get (script ++ due ∷ []) (length (script ++ due ∷ []) - 1) ≡ Some due =
    ap (λ n. slice_get (script ++ due ∷ []) n) at ∙ slice_get_after script due (length script) refl in
    ap (λ o. unwrap_or (option_map (λ (d : Due). d.0) o) 0) found

pub last_at : (script : List Due) (n : ℕ) (due : Due) → slice_get script n ≡ Some due → n + 1 ≡ length script → last_moment script ≡ due.0
last_at script n due found last =
    let at : length script - 1 ≡ n = omega arith in
    ap (λ k. unwrap_or (option_map (λ (d : Due). d.0) (slice_get script k)) 0) at ∙ ap (λ o. unwrap_or (option_map (λ (d : Due). d.0) o) 0) found

-- what stands in a longer list stood there before, or is the last
pub stood_before : (script : List Due) (due other : Due) (n : ℕ) → n < length script → slice_get (script ++ due ∷ []) n ≡ Some other → slice_get script n ≡ Some other
stood_before [] due other n below found = absurd (omega arith)
stood_before (x ∷ xs) due other zero below found = found
stood_before (x ∷ xs) due other (suc n) below found = stood_before xs due other n (omega arith) found

is_last : (script : List Due) (due other : Due) (n : ℕ) → n ≡ length script → slice_get (script ++ due ∷ []) n ≡ Some other → due ≡ other
is_last script due other n at found =
    let here = slice_get_after script due n (sym at) in
    cc

pub in_order_more : (script : List Due) (due : Due) → IsInOrder script → last_moment script ≤ due.0 → IsInOrder (script ++ due ∷ [])
in_order_more script due ordered later = λ n a b at_a at_b.
    let within : n + 1 < length (script ++ due ∷ []) = slice_get_within _ (n + 1) b at_b in
    let size : length (script ++ due ∷ []) ≡ length script + 1 = length_push script due in
    let old_a = stood_before script due a n (omega arith) at_a in
    elim (cases_lt (n + 1) (length script)) [
      | inl below ↦ ordered n a b old_a (stood_before script due b (n + 1) below at_b)
      | inr past ↦
          let at_end : n + 1 ≡ length script = omega arith in
          let same : due ≡ b = is_last script due b (n + 1) at_end at_b in
          let last : last_moment script ≡ a.0 = last_at script n a old_a at_end in
          subst (λ (d : Due). a.0 ≤ d.0) same (omega arith)
    ]

-- what a filled buffer begins with
pub filled_part : (rest buffer filled : List ℕ) (n : ℕ) (left : Option (List ℕ)) → IsFilled rest n buffer filled left → take n filled ≡ take n rest
filled_part rest buffer filled n left is = ap (take n) is.front ∙ take_at (take n rest) (drop n buffer) n (length-take-le n rest is.no_more)

-- the fields of a whole record are those that what is left begins with
pub moment_front : (rest : List ℕ) → script_moment (take 62 rest) ≡ script_moment rest
moment_front rest = ap (from_be_bytes w64) (take-take 8 62 rest (omega arith))

pub packet_front : (rest : List ℕ) → packet_of (take 62 rest) ≡ packet_of rest
packet_front rest = ap (take 54) (drop-take 8 54 rest) ∙ take-take 54 54 (drop 8 rest) (omega arith)

-- one more record
pub begins_more : (bytes : List ℕ) (script : List Due) (due : Due) → length script < most_records → 62 ≤ length (from_record bytes (length script))
    → BeginsWith bytes script → SpellsDue due (record_at bytes (length script)) → last_moment script ≤ due.0 → BeginsWith bytes (script ++ due ∷ [])
begins_more bytes script due few room begins spells later =
    let longer : length (script ++ due ∷ []) ≡ length script + 1 = length_push script due in
    let size : length (from_record bytes (length script)) ≡ length bytes - 62 * length script = length-drop (62 * length script) bytes in
    record {
      not_large = omega arith;
      within = omega (arith, begins.within);
      each = λ k d at. elim (cases_lt k (length script)) [
        | inl below ↦ begins.each k d (stood_before script due d k below at)
        | inr past ↦
            let inside = slice_get_within (script ++ due ∷ []) k d at in
            let same : length script ≡ k = omega arith in
            let it : due ≡ d = is_last script due d k (sym same) at in
            subst (λ (x : Due). SpellsDue x (record_at bytes k)) it (subst (λ (j : ℕ). SpellsDue due (record_at bytes j)) same spells)
      ];
      in_order = in_order_more script due begins.in_order later;
    }

pub one_more : (bytes : List ℕ) (script : List Due) (due : Due) (buffer filled : List ℕ) (n : ℕ) (left left' : Option (List ℕ))
    → n ≤ 62 → length script < most_records → IsAfter bytes script left → IsFilled (from_record bytes (length script)) n buffer filled left'
    → SpellsDue due (take n filled) → last_moment script ≤ due.0 → IsAfter bytes (script ++ due ∷ []) left'
one_more bytes script due buffer filled n left left' within few after is spells later =
    let rest : List ℕ = from_record bytes (length script) in
    let part : take n filled ≡ take n rest = filled_part rest buffer filled n left' is in
    let size : length (take n rest) ≡ n = length-take-le n rest is.no_more in
    let whole : n ≡ 62 = omega (arith, ap length part, spells.size) in
    let here : SpellsDue due (take 62 rest) = subst (λ (k : ℕ). SpellsDue due (take k rest)) whole (subst (λ (xs : List ℕ). SpellsDue due xs) part spells) in
    let longer : length (script ++ due ∷ []) ≡ length script + 1 = length_push script due in
    let next : 62 * length script + n ≡ 62 * length (script ++ due ∷ []) = omega arith in
    record {
      begins = begins_more bytes script due few (omega (arith, is.no_more)) after.begins here later;
      rest_left = is.rest_left ∙ ap Some (drop-drop n (62 * length script) bytes) ∙ ap (λ k. Some (drop k bytes)) next;
    }

-- no record more
pub at_end : (bytes : List ℕ) (script : List Due) (buffer filled : List ℕ) (n : ℕ) (left left' : Option (List ℕ))
    → n ≡ 0 → 0 < length buffer → IsAfter bytes script left → IsFilled (from_record bytes (length script)) n buffer filled left'
    → IsScript bytes script × (left' ≡ Some [])
at_end bytes script buffer filled n left left' none room after is =
    let rest : List ℕ = from_record bytes (length script) in
    let over : n ≡ length rest = is.at_end (omega arith) in
    let empty : rest ≡ [] = nil_from_length rest (sym over ∙ none) in
    let size : length rest ≡ length bytes - 62 * length script = length-drop (62 * length script) bytes in (
      record { begins = after.begins; whole = omega (arith, after.begins.within) },
      is.rest_left ∙ ap (λ k. Some (drop k rest)) none ∙ ap Some empty,
    )

-- as many records as there may be, and nothing behind them
pub nothing_more : (bytes : List ℕ) (script : List Due) (left : Option (List ℕ)) → IsAfter bytes script left → from_record bytes (length script) ≡ []
    → IsScript bytes script
nothing_more bytes script left after empty = record {
  begins = after.begins;
  whole = omega (arith, after.begins.within, length-drop (62 * length script) bytes, ap length empty);
}
