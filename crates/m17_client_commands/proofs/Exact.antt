-- An input is one script, or refused for one reason, and not both.
use Rattle.std.proofs.Common.{◌≡◌, ℕ, suc, ◌+◌, ◌-◌, ◌*◌, ◌<◌, ◌≤◌, ◌⊎◌, List, [], ◌∷◌, length, take, Some, get_or, refl, sym, ap, subst, ◌∙◌, arith, inl, inr}
use Rattle.std.specs.List.{slice_get}
use Rattle.std.proofs.lemmas.Option.{slice_get-get_or}
use Rattle.std.proofs.lemmas.List.{length-drop}
use Rattle.std.proofs.lemmas.Bool.{cases_lt}
use Rattle.m17_stream.specs.Laws.{OneSpelling, ReadingIsExact}
use Rattle.m17_stream.specs.Stream.{SpellsStream}
use Rattle.m17_stream.specs.declared.packet.StreamPacket.{StreamPacket}
use Rattle.m17_client_commands.specs.declared.reason.ScriptReason.{ScriptReason}
use Rattle.m17_client_commands.specs.declared.reason.ScriptReason.TheVariants.{Cut, Field, Large}
use Rattle.m17_client_commands.specs.Laws.{ScriptsAreExact}
use Rattle.m17_client_commands.specs.Script.{Due, most_records, from_record, record_at, last_moment, packet_of, BeginsWith, IsScript, RefusesMore, RefusesNext, RefusesScript, SpellsDue}
use Rattle.m17_client_commands.proofs.Records.{last_at, moment_front, packet_front}
use Rattle.m17_client_commands.proofs.Readable.{read_or_refused}

same_pair : (m n : ℕ) (p q : StreamPacket) → m ≡ n → p ≡ q → (x : Due) → x ≡ (m, p) → (y : Due) → y ≡ (n, q) → x ≡ y
same_pair m n p q e f x is y is' = cc

-- the same bytes are one record
one_due : OneSpelling → (x y : Due) (bytes : List ℕ) → SpellsDue x bytes → SpellsDue y bytes → x ≡ y
one_due law x y bytes a b =
    same_pair x.0 y.0 x.1 y.1 (a.moment_is ∙ sym b.moment_is) (law x.1 y.1 (packet_of bytes) a.packet_is b.packet_is) x refl y refl

-- lists of one length with the same items are one
same_list : (a b : List Due) → length a ≡ length b → ((n : ℕ) (x y : Due) → slice_get a n ≡ Some x → slice_get b n ≡ Some y → x ≡ y) → a ≡ b
same_list [] [] size same = refl
same_list [] (y ∷ ys) size same = absurd (omega arith)
same_list (x ∷ xs) [] size same = absurd (omega arith)
same_list (x ∷ xs) (y ∷ ys) size same =
    let head : x ≡ y = same 0 x y refl refl in
    let tail : xs ≡ ys = same_list xs ys (omega arith) (λ n a b e f. same (suc n) a b e f) in
    cc

same_begins : OneSpelling → (input : List ℕ) (a b : List Due) → length a ≡ length b → BeginsWith input a → BeginsWith input b → a ≡ b
same_begins law input a b size begins begins' =
    same_list a b size (λ n x y e f. one_due law x y (record_at input n) (begins.each n x e) (begins'.each n y f))

item_at : (b : List Due) (n : ℕ) (d : Due) → n < length b → slice_get b n ≡ Some (get_or b n d)
item_at b n d below = slice_get-get_or b n d below

-- the moment of the next record of a longer list isn't below the last one's of a shorter one
later_next : OneSpelling → (input : List ℕ) (a b : List Due) (due : Due) → BeginsWith input a → BeginsWith input b → slice_get b (length a) ≡ Some due
    → length a < length b → last_moment a ≤ due.0
later_next law input [] b due begins begins' at longer = omega arith
later_next law input (x ∷ xs) b due begins begins' at longer =
    let n : ℕ = length xs in
    let own : slice_get (x ∷ xs) n ≡ Some (get_or (x ∷ xs) n x) = item_at (x ∷ xs) n x (omega arith) in
    let other : slice_get b n ≡ Some (get_or b n x) = item_at b n x (omega arith) in
    let same : get_or (x ∷ xs) n x ≡ get_or b n x = one_due law _ _ (record_at input n) (begins.each n _ own) (begins'.each n _ other) in
    let last : last_moment (x ∷ xs) ≡ (get_or (x ∷ xs) n x).0 = last_at (x ∷ xs) n (get_or (x ∷ xs) n x) own (omega arith) in
    let size : length (x ∷ xs) ≡ n + 1 = omega arith in
    let next : slice_get b (n + 1) ≡ Some due = subst (λ (k : ℕ). slice_get b k ≡ Some due) size at in
    let ordered : (get_or b n x).0 ≤ due.0 = begins'.in_order n (get_or b n x) due other next in
    omega (arith, ap (λ (d : Due). d.0) same)

-- where a record begins, none is refused
no_next : (moment : ℕ) (rest : List ℕ) (due : Due) (k : ℕ) (reason : ScriptReason) → SpellsDue due (take 62 rest) → 62 ≤ length rest → moment ≤ due.0 → RefusesNext moment rest k reason → ⊥
no_next moment rest due k Cut spells room later wrong = omega (arith, wrong.1)
no_next moment rest due k Field spells room later (inl early) = omega (arith, early.0.1, spells.moment_is, moment_front rest)
no_next moment rest due k Field spells room later (inr wrong) = wrong.2 due.1 (subst (λ (xs : List ℕ). SpellsStream due.1 xs) (packet_front rest) spells.packet_is)
no_next moment rest due k Large spells room later wrong = wrong

-- what is refused behind some records isn't the beginning of a longer script
not_longer : OneSpelling → (input : List ℕ) (place : ℕ) (reason : ScriptReason) (r : RefusesScript input place reason) (b : List Due) → BeginsWith input b
    → length r.script < length b → ⊥
not_longer law input place reason r [] begins longer = omega arith
not_longer law input place reason r (y ∷ ys) begins longer = elim r.stops [
  | inl full ↦ omega (arith, begins.not_large, full.0)
  | inr next ↦
      let n : ℕ = length r.script in
      let at : slice_get (y ∷ ys) n ≡ Some (get_or (y ∷ ys) n y) = item_at (y ∷ ys) n y longer in
      let size : length (from_record input n) ≡ length input - 62 * n = length-drop (62 * n) input in
      no_next (last_moment r.script) (from_record input n) (get_or (y ∷ ys) n y) next.1 reason (begins.each n (get_or (y ∷ ys) n y) at)
      (omega (arith, begins.within)) (later_next law input r.script (y ∷ ys) (get_or (y ∷ ys) n y) r.begins begins at longer) next.2
]

-- where nothing is left, nothing is refused
not_behind : (moment : ℕ) (rest : List ℕ) (k : ℕ) (reason : ScriptReason) → length rest ≡ 0 → RefusesNext moment rest k reason → ⊥
not_behind moment rest k Cut none wrong = omega (arith, wrong.0)
not_behind moment rest k Field none (inl early) = omega (arith, early.0.0)
not_behind moment rest k Field none (inr wrong) = omega (arith, wrong.0)
not_behind moment rest k Large none wrong = wrong

not_after : (rest : List ℕ) (reason : ScriptReason) → length rest ≡ 0 → RefusesMore rest reason → ⊥
not_after rest Cut none wrong = wrong
not_after rest Field none wrong = wrong
not_after rest Large none wrong = omega arith

pub not_both : OneSpelling → (input : List ℕ) (script : List Due) (place : ℕ) (reason : ScriptReason) → IsScript input script → RefusesScript input place reason → ⊥
not_both law input script place reason is r = elim (cases_lt (length r.script) (length script)) [
  | inl longer ↦ not_longer law input place reason r script is.begins longer
  | inr past ↦
      let none : length (from_record input (length r.script)) ≡ 0 = omega (arith, length-drop (62 * length r.script) input, is.whole) in
      elim r.stops [
        | inl full ↦ not_after (from_record input (length r.script)) reason none full.1
        | inr next ↦ not_behind (last_moment r.script) (from_record input (length r.script)) next.1 reason none next.2
      ]
]

pub one_script : OneSpelling → (input : List ℕ) (a b : List Due) → IsScript input a → IsScript input b → a ≡ b
one_script law input a b is is' = same_begins law input a b (omega (arith, is.whole, is'.whole)) is.begins is'.begins

-- one reason behind the same records
one_next : (moment : ℕ) (rest : List ℕ) (k k' : ℕ) (reason reason' : ScriptReason) → RefusesNext moment rest k reason → RefusesNext moment rest k' reason' → (k ≡ k') × (reason ≡ reason')
one_next moment rest k k' Cut Cut a b = (a.3 ∙ sym b.3, refl)
one_next moment rest k k' Cut Field a (inl b) = absurd (a.2 b.0)
one_next moment rest k k' Cut Field a (inr b) = absurd (omega (arith, a.1, b.0))
one_next moment rest k k' Cut Large a b = absurd b
one_next moment rest k k' Field Cut (inl a) b = absurd (b.2 a.0)
one_next moment rest k k' Field Cut (inr a) b = absurd (omega (arith, b.1, a.0))
one_next moment rest k k' Field Field (inl a) (inl b) = (a.1 ∙ sym b.1, refl)
one_next moment rest k k' Field Field (inl a) (inr b) = absurd (b.1 a.0)
one_next moment rest k k' Field Field (inr a) (inl b) = absurd (a.1 b.0)
one_next moment rest k k' Field Field (inr a) (inr b) = (a.3 ∙ sym b.3, refl)
one_next moment rest k k' Field Large a b = absurd b
one_next moment rest k k' Large reason' a b = absurd a

one_more_reason : (rest : List ℕ) (reason reason' : ScriptReason) → RefusesMore rest reason → RefusesMore rest reason' → reason ≡ reason'
one_more_reason rest Cut reason' a b = absurd a
one_more_reason rest Field reason' a b = absurd a
one_more_reason rest Large Cut a b = absurd b
one_more_reason rest Large Field a b = absurd b
one_more_reason rest Large Large a b = refl

-- what stops the reading of an input behind these records
abbrev Stops : List ℕ → ℕ → ScriptReason → List Due → Type 0
Stops input place reason script = ((length script ≡ most_records) × RefusesMore (from_record input (length script)) reason × (place ≡ 62 * length script))
    ⊎ ((length script < most_records) × (k : ℕ) × RefusesNext (last_moment script) (from_record input (length script)) k reason × (place ≡ 62 * length script + k))

one_stop : (input : List ℕ) (place place' : ℕ) (reason reason' : ScriptReason) (script : List Due) → Stops input place reason script → Stops input place' reason' script
    → (place ≡ place') × (reason ≡ reason')
one_stop input place place' reason reason' script (inl a) (inl b) = (a.2 ∙ sym b.2, one_more_reason (from_record input (length script)) reason reason' a.1 b.1)
one_stop input place place' reason reason' script (inl a) (inr b) = absurd (omega (arith, a.0, b.0))
one_stop input place place' reason reason' script (inr a) (inl b) = absurd (omega (arith, a.0, b.0))
one_stop input place place' reason reason' script (inr a) (inr b) =
    let same = one_next (last_moment script) (from_record input (length script)) a.1 b.1 reason reason' a.2 b.2 in
    (omega (arith, same.0, a.3, b.3), same.1)

pub one_refusal : OneSpelling → (input : List ℕ) (place place' : ℕ) (reason reason' : ScriptReason) → RefusesScript input place reason → RefusesScript input place' reason'
    → (place ≡ place') × (reason ≡ reason')
one_refusal law input place place' reason reason' r r' = elim (cases_lt (length r.script) (length r'.script)) [
  | inl longer ↦ absurd (not_longer law input place reason r r'.script r'.begins longer)
  | inr past ↦ elim (cases_lt (length r'.script) (length r.script)) [
    | inl longer ↦ absurd (not_longer law input place' reason' r' r.script r.begins longer)
    | inr past' ↦
        let same : r.script ≡ r'.script = same_begins law input r.script r'.script (omega arith) r.begins r'.begins in
        one_stop input place place' reason reason' r'.script (subst (λ (s : List Due). Stops input place reason s) same r.stops) r'.stops
  ]
]

pub exact : OneSpelling → ReadingIsExact → ScriptsAreExact
exact law reading = record {
  read_or_refused = read_or_refused reading;
  not_both = not_both law;
  one_script = one_script law;
  one_refusal = one_refusal law;
}
