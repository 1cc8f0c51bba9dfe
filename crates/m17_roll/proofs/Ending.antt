-- What the seat that all others were joined to shows of the whole roll.
use Rattle.std.proofs.Common.{◌≡◌, ℕ, zero, suc, ◌+◌, ◌<◌, ◌≤◌, List, [], ◌∷◌, ◌++◌, length, get_or, sym, refl, ap, ◌∙◌, subst, arith}
use Rattle.std.specs.List.{Contains}
use Rattle.m17_values.specs.declared.member.Member.{Member}
use Rattle.m17_roll.specs.declared.rule.Notes.{Notes}
use Rattle.m17_roll.specs.Run.{count_at, IsRollRun}
use Rattle.m17_roll.specs.Closing.{EndView, EveryPlaceStands, IsEnded}
use Rattle.m17_roll.specs.Joined.{words_from, words_of}
use Rattle.m17_roll.specs.Notes.{refusals, length_of}
use Rattle.m17_roll.specs.Rule.{claims_by, gifts_by, Shown}
use Rattle.m17_roll.proofs.Running.{Weighs, count_is, there, run_of}

-- each word has risen by one at each claim and at each giving back
words_are : (k : ℕ) (ws : List ℕ) (claimed given : List Member)
    → ((q : ℕ) → q < length ws → count_at (k + q) claimed + count_at (k + q) given ≡ get_or ws q 0)
    → words_from k (length ws) claimed given ≡ ws
words_are k [] claimed given h = refl
words_are k (w ∷ ws) claimed given h =
    let here : count_at k claimed + count_at k given ≡ w =
    subst (λ (p : ℕ). count_at p claimed + count_at p given ≡ w) (omega arith) (h 0 (omega arith)) in
    let rest = words_are (suc k) ws claimed given (λ q lt.
    subst (λ (p : ℕ). count_at p claimed + count_at p given ≡ get_or ws q 0) (omega arith) (h (suc q) (omega arith))) in
    λ i. here i ∷ rest i

words_from_length : (k n : ℕ) (claimed given : List Member) → length (words_from k n claimed given) ≡ n
words_from_length k zero claimed given = refl
words_from_length k (suc n) claimed given = let r = words_from_length (suc k) n claimed given in omega arith

pub words_length : (n : ℕ) (claimed given : List Member) → length (words_of n claimed given) ≡ n
words_length n claimed given = words_from_length 0 n claimed given

-- the words that contracts see are those that were found
pub shown_words : (v : Notes) (q r places : ℕ) (s : Shown v q r) → v.places ≡ places → words_of places v.claimed v.given ≡ s.words
shown_words v q r places s e =
    let c : Weighs claims_by s.words v.claimed = record { all = s.claims } in
    let g : Weighs gifts_by s.words v.given = record { all = s.gifts } in
    let wide : places ≡ length s.words = sym (s.wide ∙ e) in
    let at : words_from 0 (length s.words) v.claimed v.given ≡ s.words =
    words_are 0 s.words v.claimed v.given (λ p lt.
    let a = count_is claims_by s.words v.claimed c p lt in
    let b = count_is gifts_by s.words v.given g p lt in
    let same : 0 + p ≡ p = omega arith in
    subst (λ (k : ℕ). count_at k v.claimed + count_at k v.given ≡ get_or s.words p 0) (sym same) (omega arith)) in
    ap (λ (n : ℕ). words_from 0 n v.claimed v.given) wide ∙ at

pub shown_word : (v : Notes) (q r places : ℕ) (s : Shown v q r) → v.places ≡ places → r ≡ get_or (words_of places v.claimed v.given) q 0
shown_word v q r places s e = sym s.found ∙ ap (λ (ws : List ℕ). get_or ws q 0) (sym (shown_words v q r places s e))

length_of_both : (xs : List (List ℕ)) (who : List ℕ) → length_of (xs ++ who ∷ []) ≡ length_of xs + length who
length_of_both [] who = omega arith
length_of_both (x ∷ xs) who = let r = length_of_both xs who in omega arith

length_of_has : (xs : List (List ℕ)) (k : ℕ) (d : List ℕ) → k < length xs → length (get_or xs k d) ≤ length_of xs
length_of_has [] k d lt = absurd (omega arith)
length_of_has (x ∷ xs) zero d lt = omega arith
length_of_has (x ∷ xs) (suc k) d lt = let r = length_of_has xs k d (omega arith) in omega arith

-- a refused asker of some seat was counted
some_refusal : (v : Notes) (asker : ℕ) (others : List ℕ) → Contains (v.finished ++ v.refused ∷ []) (asker ∷ others) → 0 < refusals v
some_refusal v asker others t =
    let a = length_of_both v.finished v.refused in
    let b = length_of_has (v.finished ++ v.refused ∷ []) t.0 (asker ∷ others) t.1 in
    let c : length (get_or (v.finished ++ v.refused ∷ []) t.0 (asker ∷ others)) ≡ length (asker ∷ others) = ap (λ (who : List ℕ). length who) t.2 in
    let d : length (asker ∷ others) ≡ suc (length others) = refl in
    omega arith

-- the end of a roll, as contracts see it
abbrev pub shown_end : Notes → ℕ → EndView
shown_end v places = record {
  words = words_of places v.claimed v.given;
  claimed = v.claimed;
  given = v.given;
  refused = v.finished ++ v.refused ∷ [];
}

pub ended : (v : Notes) (q r places : ℕ) → Shown v q r → v.places ≡ places → IsEnded (shown_end v places)
ended v q r places s e =
    let c : Weighs claims_by s.words v.claimed = record { all = s.claims } in
    let g : Weighs gifts_by s.words v.given = record { all = s.gifts } in
    let same = sym (shown_words v q r places s e) in record {
      run = subst (λ (ws : List ℕ). IsRollRun ws v.claimed v.given) same (run_of s.words v.claimed v.given c g);
      refused_when_full = λ t.
          let some_one = some_refusal v t.0 t.1 t.2 in
          subst (λ (ws : List ℕ). EveryPlaceStands ws v.claimed) same
          (λ p lt. let more = s.asked some_one p lt in (0, there claims_by s.words v.claimed c p 0 lt (omega arith)));
    }
