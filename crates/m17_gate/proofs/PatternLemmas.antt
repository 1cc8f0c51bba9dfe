-- What patterns are written as.
use Rattle.std.proofs.Common.{◌≡◌, ◌≢◌, ◌&&◌, ℕ, zero, suc, Bool, true, false, ◌+◌, ◌-◌, ◌<◌, List, [], ◌∷◌, ◌++◌, length, take, drop, get_or, codes, refl, sym, ap, subst, ◌∙◌, inl, inr, arith, eqb, ltb, length-append}
use Rattle.std.proofs.lemmas.Bool.{false≢true, ltb-true}
use Rattle.std.proofs.lemmas.List.{take-append-drop, drop_more, drop_all}
use Rattle.std.proofs.lemmas.List.Elements.{All-contains}
use Rattle.std.proofs.lemmas.List.Sums.{AllPass-from_list_all}
use Rattle.std.proofs.lemmas.Str.Ascii.{IsAscii-from_reads}
use Rattle.std.proofs.Math.Seq.{get_or-append_seam, take-append_seam}
use Rattle.std.specs.Prelude.{not, slice_index}
use Rattle.std.specs.List.{list_all}
use Rattle.std.specs.Str.{IsAscii}
use Rattle.m17_callsign.specs.Callsign.{alphabet, IsLetter, MayStand, IsCallsignOf, IsRefused, AreLetters, group_sign}
use Rattle.m17_callsign.specs.declared.refusal.CallRefusal.{CallRefusal}
use Rattle.m17_callsign.specs.declared.refusal.CallRefusal.TheVariants as calls
use Rattle.m17_gate.specs.declared.rule.Pattern.{Pattern}
use Rattle.m17_gate.specs.declared.rule.Pattern.TheVariants.{Every, One, Begin}
use Rattle.m17_gate.specs.Patterns.{IsFront, IsPattern, front_of}
use Rattle.m17_gate.specs.Unended.{is_unended}

-- an ASCII byte other than `*`, as a test
abbrev is_plain : ℕ → Bool
is_plain x = ltb x 128 && not (eqb x 42)

first_of_two : (a b : Bool) → a && b ≡ true → a ≡ true
first_of_two true b h = refl
first_of_two false b h = h

plain_is : (x : ℕ) → is_plain x ≡ true → (x < 128) × (x ≢ 42)
plain_is x h = (
  ltb-true x 128 (first_of_two (ltb x 128) (not (eqb x 42)) h),
  λ e. false≢true
      (sym (ap is_plain e) ∙ h),
)

all_plain : list_all is_plain alphabet ≡ true
unfolding alphabet
all_plain = refl

letter_plain : (x : ℕ) → IsLetter x → (x < 128) × (x ≢ 42)
unfolding IsLetter
letter_plain x h = plain_is x (All-contains (λ y. is_plain y ≡ true) alphabet x
    (AllPass-from_list_all is_plain alphabet all_plain) h)

stands_plain : (text : List ℕ) (k : ℕ) → MayStand text k
    → (slice_index text k < 128) × (slice_index text k ≢ 42)
stands_plain text k (inl letter) = letter_plain (slice_index text k) letter
stands_plain text k (inr sign) = plain_is (slice_index text k) (ap is_plain sign.1)

pub front_ascii : (front : List ℕ) → IsFront front → IsAscii front
front_ascii front h = IsAscii-from_reads front (length front) (omega arith)
    (λ k lt. (stands_plain front k (h.letters k lt)).0)

-- callsigns are what callsigns may begin with
group_stands : (letters : List ℕ) → AreLetters 8 letters → (k : ℕ)
    → k < length (group_sign ∷ letters) → MayStand (group_sign ∷ letters) k
group_stands letters h zero lt = inr (refl, refl)
group_stands letters h (suc k) lt = inl (h.letters k 0 (omega (arith, lt)))

group_front : (letters : List ℕ) → AreLetters 8 letters → IsFront (group_sign ∷ letters)
group_front letters h = record {
  not_empty = omega arith;
  not_long = let most = h.not_long in omega arith;
  letters = group_stands letters h;
}

pub callsign_front : (text : List ℕ) (call : ℕ) → IsCallsignOf text call → IsFront text
callsign_front text call (inl plain) = record {
  not_empty = plain.spelled.not_empty;
  not_long = plain.spelled.not_long;
  letters = λ k lt. inl (plain.spelled.letters k 0 lt);
}
callsign_front text call (inr group) = subst IsFront (sym group.sign)
    (group_front group.letters group.spelled)

-- no byte of these is a `*`
no_star : (text : List ℕ) → IsFront text → (k : ℕ) → k < length text → slice_index text k ≢ 42
no_star text h k lt = (stands_plain text k (h.letters k lt)).1

star_behind : (front : List ℕ) → slice_index (front ++ codes "*") (length front) ≡ 42
star_behind front = get_or-append_seam front 42 [] 0

longer : (front : List ℕ) → length (front ++ codes "*") ≡ length front + 1
longer front = length-append front (codes "*")

-- no text is empty
pub empty_pattern : (text : List ℕ) → length text ≡ 0 → (pattern : Pattern) → IsPattern text pattern
    → ⊥
empty_pattern text none Every h = let e = ap length h in omega arith
empty_pattern text none (One call) h = let some = (callsign_front text call h).not_empty in omega
    arith
empty_pattern text none (Begin letters) h = let e = ap length h.1
    ∙ longer (front_of letters) in omega arith

-- a text with a `*` at its end
pub starred : (text : List ℕ) → 0 < length text → slice_index text (length text - 1) ≡ 42
    → take (length text - 1) text ++ codes "*" ≡ text
starred text some star =
    let last = length text - 1 in
    let more : drop last text ≡ get_or text last 0 ∷ drop (last + 1) text = drop_more text last 0
    (omega arith) in
    let none : drop (last + 1) text ≡ [] = drop_all (last + 1) text (omega arith) in
    let end : drop last text ≡ 42 ∷ [] = cc in
    ap (λ (rest : List ℕ). take last text ++ rest) (sym end) ∙ take-append-drop last text

same_front : (a b : List ℕ) → a ++ codes "*" ≡ b ++ codes "*" → a ≡ b
same_front a b e =
    let sizes : length a + 1 ≡ length b + 1 = sym (longer a) ∙ ap length e ∙ longer b in
    let same : length a ≡ length b = omega arith in
    sym (take-append_seam a (codes "*")) ∙ ap (take (length a)) e
    ∙ ap (λ n. take n (b ++ codes "*")) same
    ∙ take-append_seam b (codes "*")

pub starred_refused : (front : List ℕ) → 0 < length front → (IsFront front → ⊥)
    → (pattern : Pattern) → IsPattern (front ++ codes "*") pattern → ⊥
starred_refused front some fails Every h = let e = sym (longer front) ∙ ap length h in omega arith
starred_refused front some fails (One call) h =
    let size = longer front in
    no_star (front ++ codes "*") (callsign_front (front ++ codes "*") call h) (length front)
    (omega arith) (star_behind front)
starred_refused front some fails (Begin letters) h =
    fails (subst IsFront (sym (same_front front (front_of letters) h.1)) h.0)

pub starred_front : (front letters : List ℕ) → IsFront front → letters ≡ front
    → IsFront letters × (front ++ codes "*" ≡ letters ++ codes "*")
starred_front front letters h e = (
  subst IsFront (sym e) h,
  ap (λ (l : List ℕ). l ++ codes "*")
      (sym e),
)

-- a text without one
pub unstarred_refused : (text : List ℕ) → slice_index text (length text - 1) ≢ 42
    → ((call : ℕ) → IsCallsignOf text call → ⊥) → (pattern : Pattern) → IsPattern text pattern → ⊥
unstarred_refused text other fails Every h = other
    (ap (λ (t : List ℕ). slice_index t (length t - 1)) h)
unstarred_refused text other fails (One call) h = fails call h
unstarred_refused text other fails (Begin letters) h =
    let front = front_of letters in
    let size : length text - 1 ≡ length front = let e = ap length h.1
    ∙ longer front in omega arith in
    other (ap (slice_index text) size ∙ ap (λ (t : List ℕ). slice_index t (length front)) h.1
    ∙ star_behind front)

pub no_ascii_callsign : (text : List ℕ) → (IsAscii text → ⊥) → (call : ℕ) → IsCallsignOf text call
    → ⊥
no_ascii_callsign text fails call h = fails (front_ascii text (callsign_front text call h))

-- what is refused only for want of a letter behind it
pub unended_front : (text : List ℕ) (refusal : CallRefusal) → IsRefused text refusal
    → is_unended refusal ≡ true → IsFront text
unended_front text calls.Empty h e = absurd (false≢true e)
unended_front text (calls.Long count) h e = absurd (false≢true e)
unended_front text (calls.Letter place) h e = absurd (false≢true e)
unended_front text calls.Bare h e = subst IsFront (sym h) (record {
  not_empty = omega arith;
  not_long = omega arith;
  letters = λ k lt. inr (
    omega arith,
    ap (slice_index (group_sign ∷ []))
        (let z : k ≡ 0 = omega arith in z),
  );
})
unended_front text calls.TrailingSpace h e = record {
  not_empty = h.0;
  not_long = h.1;
  letters =
      h.2;
}

pub ended_refused : (text : List ℕ) (refusal : CallRefusal) → 0 < length text
    → IsRefused text refusal
    → is_unended refusal ≡ false → IsFront text → ⊥
ended_refused text calls.Empty some h e front = omega arith
ended_refused text (calls.Long count) some h e front = let most = front.not_long in
    let long = h.0 in omega arith
ended_refused text (calls.Letter place) some h e front = h.2 (front.letters place h.1)
ended_refused text calls.Bare some h e front = false≢true (sym e)
ended_refused text calls.TrailingSpace some h e front = false≢true (sym e)
