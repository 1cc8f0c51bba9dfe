-- The Joins for all served modules together are those of the claims.
use Rattle.std.proofs.Common.{◌≡◌, ℕ, zero, suc, ◌+◌, ◌<◌, ◌≤◌, Bool, true, false, cond, eqb, List, [], ◌∷◌, length, filter, count_by, Option, None, Some, inl, inr, refl, ap, sym, ◌∙◌, arith}
use Rattle.std.specs.List.{flat_map, range_with_len, sum_by}
use Rattle.std.proofs.lemmas.Bool.{cases_eq, cond-true, eq-eqb, ne_eqb}
use Rattle.std.proofs.lemmas.List.Sums.{sum_by-append}
use Rattle.m17_lists.proofs.Ranges.{one_number_more}
use Rattle.m17_control.specs.declared.event.Event.{Event}
use Rattle.m17_control.specs.Modules.{serves, letters_of}
use Rattle.m17_control.proofs.ModuleSets.{serves_within}
use Rattle.m17_directory.specs.declared.known.Request.{Request}
use Rattle.m17_directory.specs.Entries.{Notice, Claim, Entry, Setup, notice_at, claim_at}
use Rattle.m17_directory.specs.Known.{request_in}
use Rattle.m17_directory.specs.Outcome.{Here}
use Rattle.m17_directory.specs.Routed.{here_of, asks_at, past_at, routed}
use Rattle.m17_directory.specs.Laws.{is_join, join_event, joins_by, joins_at, join_by, all_joins, JoinsOfAllModules}
use Rattle.m17_directory.proofs.Same.{length_asked}
use Rattle.m17_directory.proofs.LawSent.{asks_served}
use Rattle.m17_directory.proofs.LawJoins.{joins_claims}
use Rattle.m17_directory.proofs.LawCounts.{count, count_is, count_append}

abbrev total : (ℕ → ℕ) → List ℕ → ℕ
total f [] = 0
total f (x ∷ xs) = f x + total f xs

total_is : (f : ℕ → ℕ) (xs : List ℕ) → sum_by f xs ≡ total f xs
total_is f [] = refl
total_is f (x ∷ xs) = omega (arith, sum_by-append f (x ∷ []) xs, total_is f xs)

total_same : (f g : ℕ → ℕ) (xs : List ℕ) → ((x : ℕ) → f x ≡ g x) → total f xs ≡ total g xs
total_same f g [] h = refl
total_same f g (x ∷ xs) h = ap (λ m. m + total f xs) (h x) ∙ ap (λ m. g x + m) (total_same f g xs h)

total_add : (f g : ℕ → ℕ) (xs : List ℕ) → total (λ x. f x + g x) xs ≡ total f xs + total g xs
total_add f g [] = omega arith
total_add f g (x ∷ xs) = omega (arith, total_add f g xs)

total_zero : (xs : List ℕ) → total (λ x. 0) xs ≡ 0
total_zero [] = refl
total_zero (x ∷ xs) = omega (arith, total_zero xs)

no_part : (m n : ℕ) → m ≡ n → 0 + m ≡ n
no_part m n e = omega arith

all_part : (c m : ℕ) → m ≡ 0 → c + m ≡ c
all_part c m e = omega arith

-- over the letters that pass, what stands at one of them alone
module _ (letter : ℕ) (p : ℕ → Bool) (c : ℕ) where
  abbrev at_one : ℕ → ℕ
  at_one to = cond (eqb letter to) c 0

  skipped_if : (b : Bool) (to : ℕ) (rest : List ℕ) (n : ℕ) → eqb letter to ≡ false → total at_one rest ≡ n → total at_one (cond b (to ∷ rest) rest) ≡ n
  skipped_if true to rest n e h = ap (λ b. cond b c 0 + total at_one rest) e ∙ no_part (total at_one rest) n h
  skipped_if false to rest n e h = h

  none_above : (from n : ℕ) → letter < from → total at_one (filter p (range_with_len from n)) ≡ 0
  none_above from zero l = refl
  none_above from (suc n) l =
      skipped_if (p from) from (filter p (range_with_len (from + 1) n)) 0 (ne_eqb letter from (λ e. absurd (omega arith))) (none_above (from + 1) n (omega arith))

  only_one : (from n : ℕ) → p letter ≡ true → from ≤ letter → letter < from + n → total at_one (filter p (range_with_len from n)) ≡ c
  only_one from zero passes l k = absurd (omega arith)
  only_one from (suc n) passes l k =
      let rest : List ℕ = filter p (range_with_len (from + 1) n) in
      elim (cases_eq letter from) [
        | inl same ↦
            ap (total at_one) (cond-true (p from) (from ∷ rest) rest (ap p (sym same) ∙ passes))
            ∙ ap (λ b. cond b c 0 + total at_one rest) (eq-eqb letter from same)
            ∙ all_part c (total at_one rest) (none_above (from + 1) n (omega arith))
        | inr other ↦ skipped_if (p from) from rest c (ne_eqb letter from other) (only_one (from + 1) n passes (omega arith) (omega arith))
      ]

module _ (test : Event → Bool) where
  one_count : (b : Bool) (event : Event) → count test (cond b (event ∷ []) []) ≡ cond b (cond (test event) 1 0) 0
  one_count true event = all_part (cond (test event) 1 0) 0 refl
  one_count false event = refl

  -- what one entry joins to all modules
  letters_joins : (here : Here) (notice : Notice) (request : Option Request) (claim : Option Claim) → ((r : Request) → request ≡ Some r → serves here.setup.modules r.letter ≡ true)
      → total (λ letter. count test (joins_by here letter notice request claim)) (letters_of here.setup.modules) ≡ count test (join_by here notice request claim)
  letters_joins at (Notice.Sent from m p) (Some request) (Some claim) h =
      let event : Event = join_event at from request claim in
      let served : serves at.setup.modules request.letter ≡ true = h request refl in
      let within = serves_within at.setup.modules request.letter served in
      total_same (λ letter. count test (cond (eqb request.letter letter) (event ∷ []) [])) (λ letter. cond (eqb request.letter letter) (cond (test event) 1 0) 0) (letters_of at.setup.modules) (λ letter. one_count (eqb request.letter letter) event)
      ∙ only_one request.letter (serves at.setup.modules) (cond (test event) 1 0) 65 26 served within.0 (omega (arith, within.1))
      ∙ sym (all_part (cond (test event) 1 0) 0 refl)
  letters_joins at (Notice.Sent from m p) (Some request) None h = total_zero (letters_of at.setup.modules)
  letters_joins at (Notice.Sent from m p) None claim h = total_zero (letters_of at.setup.modules)
  letters_joins at (Notice.Garbled from m refusal) request claim h = total_zero (letters_of at.setup.modules)
  letters_joins at (Notice.Quiet m) request claim h = total_zero (letters_of at.setup.modules)
  letters_joins at Notice.Fault request claim h = total_zero (letters_of at.setup.modules)
  letters_joins at Notice.End request claim h = total_zero (letters_of at.setup.modules)

  module _ (setup : Setup) (entries : List Entry) where
    abbrev letters : List ℕ
    letters = letters_of setup.modules

    abbrev join_if : ℕ → Bool → List Event
    join_if n b = cond b (join_by (here_of (past_at setup entries n)) (notice_at entries n) (request_in (notice_at entries n)) (claim_at entries n)) []

    abbrev joins_if : ℕ → Bool → ℕ → List Event
    joins_if n b letter = cond b (joins_by (here_of (past_at setup entries n)) letter (notice_at entries n) (request_in (notice_at entries n)) (claim_at entries n)) []

    joins_step : (n : ℕ) (b : Bool) → asks_at (past_at setup entries n) ≡ b → total (λ letter. count test (joins_if n b letter)) letters ≡ count test (join_if n b)
    joins_step n true asks =
        letters_joins (here_of (past_at setup entries n)) (notice_at entries n) (request_in (notice_at entries n)) (claim_at entries n)
        (λ r e. asks_served (past_at setup entries n) r asks (ap (λ m. request_in (notice_at entries m)) (length_asked setup entries n) ∙ e))
    joins_step n false asks = total_zero letters

    abbrev some_joins : ℕ → ℕ → List Event
    some_joins n letter = flat_map (joins_at setup entries letter) (range_with_len 0 n)

    joins_more : (n letter : ℕ) → count test (some_joins (suc n) letter) ≡ count test (some_joins n letter) + count test (joins_if n (asks_at (past_at setup entries n)) letter)
    unfolding joins_at
    joins_more n letter =
        ap (count test) (one_number_more (joins_at setup entries letter) n)
        ∙ count_append test (some_joins n letter) (joins_at setup entries letter n)

    abbrev each_join : ℕ → List Event
    each_join n = join_if n (asks_at (past_at setup entries n))

    upto : (n : ℕ) → total (λ letter. count test (some_joins n letter)) letters ≡ count test (flat_map each_join (range_with_len 0 n))
    upto zero = total_zero letters
    upto (suc n) =
        let asks : Bool = asks_at (past_at setup entries n) in
        let f : ℕ → ℕ = λ letter. count test (some_joins n letter) in
        let g : ℕ → ℕ = λ letter. count test (joins_if n asks letter) in
        total_same (λ letter. count test (some_joins (suc n) letter)) (λ letter. f letter + g letter) letters (joins_more n)
        ∙ total_add f g letters
        ∙ ap (λ m. m + total g letters) (upto n)
        ∙ ap (λ m. count test (flat_map each_join (range_with_len 0 n)) + m) (joins_step n asks refl)
        ∙ sym (ap (count test) (one_number_more each_join n) ∙ count_append test (flat_map each_join (range_with_len 0 n)) (each_join n))

pub all_modules : JoinsOfAllModules
unfolding all_joins
all_modules setup entries test =
    let routed_joins : ℕ → List Event = λ letter. filter (λ event. is_join event.body) (routed setup entries letter) in
    total_is (λ letter. count_by test (routed_joins letter)) (letters_of setup.modules)
    ∙ total_same (λ letter. count_by test (routed_joins letter)) (λ letter. count test (some_joins test setup entries (length entries) letter)) (letters_of setup.modules)
    (λ letter. ap (count_by test) (joins_claims setup entries letter) ∙ count_is test (some_joins test setup entries (length entries) letter))
    ∙ upto test setup entries (length entries)
    ∙ sym (count_is test (flat_map (each_join test setup entries) (range_with_len 0 (length entries))))
