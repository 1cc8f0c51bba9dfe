-- The lines of a rule text, one after another.
use Rattle.std.proofs.Common.{◌≡◌, ◌≢◌, ℕ, zero, suc, true, false, cond, ◌+◌, ◌-◌, ◌<◌, ◌≤◌, List, [], ◌∷◌, ◌++◌, length, take, drop, map, Option, None, Some, refl, sym, ap, subst, ◌∙◌, inl, inr, arith, append_assoc}
use Rattle.std.proofs.lemmas.Bool.{cases_lt, false≢true, le-leb, lt-leb}
use Rattle.std.proofs.lemmas.List.{append-nil, length_push, take_all, length-drop, drop-drop}
use Rattle.std.proofs.lemmas.List.Elements.{filter-append, All-append}
use Rattle.std.proofs.lemmas.List.Sums.{fails_before_first}
use Rattle.std.proofs.lemmas.List.Splits.{slice_split_none, slice_split_first}
use Rattle.std.proofs.Math.Seq.{take-append_seam}
use Rattle.std.proofs.lemmas.Str.Ascii.{IsAscii-from_reads}
use Rattle.std.specs.Prelude.{nat_le, slice_get, filter, codes}
use Rattle.std.specs.List.{All, AllZip, slice_split, position_or_len}
use Rattle.std.specs.Str.{IsAscii}
use Rattle.m17_control.specs.Modules.{IsModulesText}
use Rattle.m17_control.specs.declared.modules.Modules.{Modules}
use Rattle.m17_gate.specs.declared.rule.Kind.{Kind}
use Rattle.m17_gate.specs.declared.rule.Kind.TheVariants.{Talk}
use Rattle.m17_gate.specs.declared.rule.Rule.{Rule}
use Rattle.m17_gate.specs.declared.refusal.Reason.{Reason}
use Rattle.m17_gate.specs.declared.refusal.RulesRefusal.{RulesRefusal}
use Rattle.m17_gate.specs.declared.refusal.RulesRefusal.TheVariants.{Large, Line, ReadFault, NoMemory}
use Rattle.m17_gate.specs.Steps.{AddsLine, StopsAt}
use Rattle.m17_gate.specs.Text.{content_of, is_feed, lines_of, is_ruled, IsRule, IsRefusedPart, IsSound, AreRules, IsRefused, IsRefusedLine, AreModules}

-- what the lines hold from a place on, the first beginning there
abbrev pub lines_at : List ℕ → ℕ → List (List ℕ)
lines_at text place =
    cond (nat_le place (length text)) (map content_of (slice_split is_feed (drop place text))) []

lines_within : (text : List ℕ) (place : ℕ) → place ≤ length text
    → lines_at text place ≡ map content_of (slice_split is_feed (drop place text))
lines_within text place h = rw (le-leb place (length text) h) refl

lines_past : (text : List ℕ) (place : ℕ) → length text < place → lines_at text place ≡ []
lines_past text place h = rw (lt-leb place (length text) h) refl

-- the first line ends at the first line feed, or at the end
pub first_line : (text : List ℕ) (place end : ℕ) → place ≤ length text
    → end ≡ position_or_len is_feed (drop place text) → end ≤ length (drop place text)
    → lines_at text place ≡ content_of (take end (drop place text)) ∷ lines_at text
    (place + (end + 1))
first_line text place end within is short =
    let rest = drop place text in
    let size : length rest ≡ length text - place = length-drop place text in
    elim (cases_lt end (length rest)) [
      | inl lt ↦
          let parts : slice_split is_feed rest ≡ take end rest ∷ slice_split is_feed
          (drop (end + 1) rest) =
          subst (λ n. slice_split is_feed rest ≡ take n rest ∷ slice_split is_feed
          (drop (n + 1) rest)) (sym is)
          (slice_split_first is_feed rest 0 (subst (λ n. n < length rest) is lt)) in
          let next : drop (end + 1) rest ≡ drop (place + (end + 1)) text = drop-drop
          (end + 1) place text in
          lines_within text place within ∙ ap (map content_of) parts
          ∙ ap (λ (after : List ℕ). content_of (take end rest) ∷ map content_of
          (slice_split is_feed after)) next
          ∙ ap (λ (after : List (List ℕ)). content_of (take end rest) ∷ after)
          (sym (lines_within text (place + (end + 1)) (omega arith)))
      | inr ge ↦
          let all : end ≡ length rest = omega arith in
          let none : All (λ byte. is_feed byte ≡ false) rest =
          λ k d lt. fails_before_first is_feed rest k d (subst (λ n. k < n) (sym all ∙ is) lt) in
          lines_within text place within ∙ ap (map content_of) (slice_split_none is_feed rest none)
          ∙ ap (λ (line : List ℕ). content_of line ∷ []) (sym (take_all end rest (omega arith)))
          ∙ ap (λ (after : List (List ℕ)). content_of (take end rest) ∷ after)
          (sym (lines_past text (place + (end + 1)) (omega arith)))
    ]

-- The next line ends at `end`, and holds this.
pub record IsNext (text : List ℕ) (place end : ℕ) (line : List ℕ) : Type 0 where
  pub is : end ≡ position_or_len is_feed (drop place text)
  pub short : end ≤ length (drop place text)
  pub content : line ≡ content_of (take end (drop place text))

-- the same of a list that is the rest of the text
pub next_of : (text : List ℕ) (place end : ℕ) (line rest : List ℕ) → rest ≡ drop place text
    → end ≡ position_or_len is_feed rest → end ≤ length rest → line ≡ content_of (take end rest)
    → IsNext text place end line
next_of text place end line rest same is short content = record {
  is = is ∙ ap (position_or_len is_feed) same;
  short = subst (λ (r : List ℕ). end ≤ length r) same short;
  content = content ∙ ap (λ (r : List ℕ). content_of (take end r)) same;
}

-- all of the text from a place on
pub rest_is : (text : List ℕ) (place : ℕ)
    → take (length text - place) (drop place text) ≡ drop place text
rest_is text place =
    take_all (length text - place) (drop place text)
    (let size = length-drop place text in omega arith)

-- The lines before the place were read: they are so many, they are written for these rules, and
-- none is refused.
pub record IsReadTo (text : List ℕ) (place number : ℕ) (rules : List Rule) : Type 0 where
  pub done : List (List ℕ)
  pub split : lines_of text ≡ done ++ lines_at text place
  pub count : length done ≡ number
  pub few : number ≤ place
  pub each : AllZip IsRule (filter is_ruled done) rules
  pub sound : All IsSound done

none_sound : All IsSound []
none_sound k d lt = absurd (omega (arith, lt))

pub read_none : (text : List ℕ) → IsReadTo text 0 0 []
read_none text = record {
  done = [];
  split = sym (lines_within text 0 (omega arith));
  count = refl;
  few = omega arith;
  each = tt;
  sound = none_sound;
}

one_sound : (line : List ℕ) → IsSound line → All IsSound (line ∷ [])
one_sound line h zero d lt = h
one_sound line h (suc k) d lt = absurd (omega (arith, lt))

pushed : (lines : List (List ℕ)) (rules : List Rule) (line : List ℕ) (rule : Rule)
    → AllZip IsRule lines rules
    → IsRule line rule → AllZip IsRule (lines ++ line ∷ []) (rules ++ rule ∷ [])
pushed [] [] line rule h one = (one, tt)
pushed [] (r ∷ rules) line rule h one = absurd h
pushed (l ∷ lines) [] line rule h one = absurd h
pushed (l ∷ lines) (r ∷ rules) line rule h one = (h.0, pushed lines rules line rule h.1 one)

kept_one : (line : List ℕ) → is_ruled line ≡ true → filter is_ruled (line ∷ []) ≡ line ∷ []
kept_one line holds = rw holds refl

kept_none : (line : List ℕ) → is_ruled line ≡ false → filter is_ruled (line ∷ []) ≡ []
kept_none line fails = rw fails refl

-- what stands behind a list
get_behind : (before : List (List ℕ)) (line : List ℕ) (after : List (List ℕ))
    → slice_get (before ++ line ∷ after) (length before) ≡ Some line
get_behind [] line after = refl
get_behind (first ∷ before) line after = get_behind before line after

module _ (text : List ℕ) (place number end : ℕ) (rules : List Rule) (line : List ℕ)
    (within : place ≤ length text) (next : IsNext text place end line)
    (read : IsReadTo text place number rules) where
  split_on : lines_of text ≡ read.done ++ line ∷ lines_at text (place + (end + 1))
  split_on = read.split
      ∙ ap (λ (after : List (List ℕ)). read.done ++ after)
      (first_line text place end within next.is next.short
      ∙ ap (λ (l : List ℕ). l ∷ lines_at text (place + (end + 1))) (sym next.content))

  split_next : lines_of text ≡ (read.done ++ line ∷ []) ++ lines_at text (place + (end + 1))
  split_next = split_on
      ∙ sym (append_assoc read.done (line ∷ []) (lines_at text (place + (end + 1))))

  -- a line that is passed over
  pub read_passed : is_ruled line ≡ false → IsReadTo text (place + (end + 1)) (number + 1) rules
  read_passed fails = record {
    done = read.done ++ line ∷ [];
    split = split_next;
    count = length_push read.done line ∙ ap (λ n. n + 1) read.count;
    few = let few = read.few in omega arith;
    each = subst (λ (ls : List (List ℕ)). AllZip IsRule ls rules)
        (sym (filter-append is_ruled read.done (line ∷ [])
        ∙ ap (λ (ls : List (List ℕ)). filter is_ruled read.done ++ ls) (kept_none line fails)
        ∙ append-nil (filter is_ruled read.done))) read.each;
    sound = All-append IsSound read.done (line ∷ []) read.sound
        (one_sound line (λ holds. absurd (false≢true (sym fails ∙ holds))));
  }

  -- a line for a rule
  pub read_rule : (rule : Rule) → is_ruled line ≡ true → IsRule line rule
      → IsReadTo text (place + (end + 1)) (number + 1) (rules ++ rule ∷ [])
  read_rule rule holds h = record {
    done = read.done ++ line ∷ [];
    split = split_next;
    count = length_push read.done line ∙ ap (λ n. n + 1) read.count;
    few = let few = read.few in omega arith;
    each = subst (λ (ls : List (List ℕ)). AllZip IsRule ls (rules ++ rule ∷ []))
        (sym (filter-append is_ruled read.done (line ∷ [])
        ∙ ap (λ (ls : List (List ℕ)). filter is_ruled read.done ++ ls) (kept_one line holds)))
        (pushed (filter is_ruled read.done) rules line rule read.each h);
    sound = All-append IsSound read.done (line ∷ []) read.sound (one_sound line (λ _. (rule, h)));
  }

  -- a line that is refused
  pub read_refused : (reason : Reason) → is_ruled line ≡ true → IsRefusedPart line reason
      → IsRefusedLine text number reason
  read_refused reason holds h = record {
    line = line;
    there = subst (λ n. slice_get (lines_of text) n ≡ Some line) read.count
        (ap (λ (ls : List (List ℕ)). slice_get ls (length read.done)) split_on
        ∙ get_behind read.done line (lines_at text (place + (end + 1))));
    ruled = holds;
    part = h;
    earlier = subst (λ n. All IsSound (take n (lines_of text))) read.count
        (subst (All IsSound) (sym (ap (take (length read.done)) split_on
        ∙ take-append_seam read.done (line ∷ lines_at text (place + (end + 1))))) read.sound);
  }

  -- one line more
  pub read_more : (new : List Rule) → AddsLine line rules new
      → IsReadTo text (place + (end + 1)) (number + 1) new
  read_more new (inl passed) = subst (λ (rs : List Rule). IsReadTo text (place + (end + 1))
      (number + 1) rs)
      (sym passed.1) (read_passed passed.0)
  read_more new (inr added) = subst (λ (rs : List Rule). IsReadTo text (place + (end + 1))
      (number + 1) rs)
      (sym added.3) (read_rule added.1 added.0 added.2)

  pub stopped : (refusal : RulesRefusal) → length text ≤ 65536 → StopsAt line number refusal
      → IsRefused text refusal
  stopped (Line at reason) small h = (
    small,
    subst (λ (n : ℕ). IsRefusedLine text n reason) (sym h.0)
        (read_refused reason h.1 h.2),
  )
  stopped NoMemory small h = tt
  stopped (Large at) small h = absurd h
  stopped ReadFault small h = absurd h

-- all lines were read
pub read_all : (text : List ℕ) (place number : ℕ) (rules : List Rule) → length text ≤ 65536
    → length text < place
    → IsReadTo text place number rules → AreRules text rules
read_all text place number rules small past read = record {
  not_large = small;
  each = subst (λ (ls : List (List ℕ)). AllZip IsRule (filter is_ruled ls) rules)
      (sym (read.split ∙ ap (λ (ls : List (List ℕ)). read.done ++ ls) (lines_past text place past)
      ∙ append-nil read.done)) read.each;
}

-- letters of modules are ASCII
pub modules_ascii : (text : List ℕ) → IsModulesText text → IsAscii text
modules_ascii text h = IsAscii-from_reads text (length text) (omega arith)
    (λ k lt. let is = h.1.letters k lt in omega (arith, is.1))

pub talk_modules : (kind : Kind) (text : List ℕ) → text ≢ codes "*" → kind ≡ Talk
    → (modules : Option Modules)
    → AreModules kind text modules → ⊥
talk_modules kind text other talks None h = other h
talk_modules kind text other talks (Some modules) h = h.0 talks

pub no_modules : (kind : Kind) (text : List ℕ) → text ≢ codes "*" → (IsModulesText text → ⊥)
    → (modules : Option Modules)
    → AreModules kind text modules → ⊥
no_modules kind text other fails None h = other h
no_modules kind text other fails (Some modules) h = fails h.1
