-- What all claims and all givings back weigh makes them one run of the roll.
use Rattle.std.proofs.Common.{◌≡◌, ℕ, suc, ◌+◌, ◌-◌, ◌<◌, ◌≤◌, ⊎_elim, cond, ◌&&◌, eqb, List, [], ◌∷◌, length, get_or, refl, ap, ◌∙◌, arith, lt_of_not-le}
use Rattle.std.specs.List.{Contains}
use Rattle.std.proofs.lemmas.List.Sums.{sum_by-cons}
use mathlib.Core.Logic.{dite}
use native.Mathlib.Decide.{ℕ_discrete, dec_le}
use Rattle.m17_values.specs.declared.member.Member.{Member}
use Rattle.m17_roll.specs.Sightings.{member}
use Rattle.m17_roll.specs.Run.{count_at, times, IsRollRun}
use Rattle.m17_roll.specs.Rule.{weigh, sums, claims_by, gifts_by}
use Rattle.m17_roll.proofs.Marks.{mark, mark_at, mark_here, mark_place, mark_generation, weigh_has, place_sum, one_sum, none_sum, past_sum}

-- counting is weighing
count_weighs : (q : ℕ) (ms : List Member) → count_at q ms ≡ weigh (mark_at q) ms
count_weighs q [] = refl
count_weighs q (m ∷ ms) =
    sum_by-cons (λ (x : Member). let r : ℕ = cond (eqb x.place q) 1 0 in r) m ms
    ∙ ap (λ (n : ℕ). mark_at q m.place m.generation + n) (count_weighs q ms)

pub times_weighs : (q g : ℕ) (ms : List Member) → times q g ms ≡ weigh (mark q g) ms
times_weighs q g [] = refl
times_weighs q g (m ∷ ms) =
    sum_by-cons (λ (x : Member). let r : ℕ = cond (eqb x.place q && eqb x.generation g) 1 0 in r) m ms
    ∙ ap (λ (n : ℕ). mark q g m.place m.generation + n) (times_weighs q g ms)

further : (m : Member) (ms : List Member) (q g : ℕ) → Contains ms (member q g) → Contains (m ∷ ms) (member q g)
further m ms q g t = (suc t.0, (let lt = t.1 in omega arith), t.2)

-- what has weight stands among the members
pub stands : (q g : ℕ) (ms : List Member) → 0 < weigh (mark q g) ms → Contains ms (member q g)
stands q g [] h = absurd (omega arith)
stands q g (m ∷ ms) h = dite (ℕ_discrete m.place q)
    (λ p. dite (ℕ_discrete m.generation g)
    (λ e. (0, omega arith, (λ i. record { place = p i; generation = e i })))
    (λ ne. further m ms q g (stands q g ms (let z = mark_generation q g m.place m.generation ne in omega arith))))
    (λ ne. further m ms q g (stands q g ms (let z = mark_place q g m.place m.generation ne in omega arith)))

-- and the other way round
weighs : (ms : List Member) (m : Member) → Contains ms m → 0 < weigh (mark m.place m.generation) ms
weighs ms m t =
    let same = t.2 in
    let one = mark_here m.place m.generation (get_or ms t.0 m).place (get_or ms t.0 m).generation (ap (λ (x : Member). x.place) same) (ap (λ (x : Member). x.generation) same) in
    let has = weigh_has (mark m.place m.generation) ms t.0 m t.1 in
    omega arith

-- what the words say was claimed, or given back
pub record Weighs (f : ℕ → ℕ) (words : List ℕ) (ms : List Member) : Type 0 where
  pub all : (h : ℕ → ℕ → ℕ) → weigh h ms ≡ sums h f words

pub count_is : (f : ℕ → ℕ) (words : List ℕ) (ms : List Member) → Weighs f words ms → (q : ℕ) → q < length words
    → count_at q ms ≡ f (get_or words q 0)
count_is f words ms w q lt = count_weighs q ms ∙ (w.all (mark_at q) ∙ place_sum f words q lt)

times_one : (f : ℕ → ℕ) (words : List ℕ) (ms : List Member) → Weighs f words ms → (q g : ℕ) → q < length words
    → g < f (get_or words q 0) → weigh (mark q g) ms ≡ 1
times_one f words ms w q g lt less = w.all (mark q g) ∙ one_sum f words q g lt less

times_none : (f : ℕ → ℕ) (words : List ℕ) (ms : List Member) → Weighs f words ms → (q g : ℕ) → q < length words
    → f (get_or words q 0) ≤ g → weigh (mark q g) ms ≡ 0
times_none f words ms w q g lt le = w.all (mark q g) ∙ none_sum f words q g lt le

-- a member that stands there is of a place of the roll, and of a generation that the word knows
known : (f : ℕ → ℕ) (words : List ℕ) (ms : List Member) → Weighs f words ms → (m : Member) → Contains ms m
    → (m.place < length words) × (m.generation < f (get_or words m.place 0))
known f words ms w m t =
    let has = weighs ms m t in
    dite (dec_le (length words) m.place)
    (λ past. absurd (let z = w.all (mark m.place m.generation) ∙ past_sum f words m.place m.generation past in omega arith))
    (λ not. let within = lt_of_not-le not in dite (dec_le (f (get_or words m.place 0)) m.generation)
    (λ le. absurd (let z = times_none f words ms w m.place m.generation within le in omega arith))
    (λ less. (within, lt_of_not-le less)))

-- a generation that the word knows stands there
pub there : (f : ℕ → ℕ) (words : List ℕ) (ms : List Member) → Weighs f words ms → (q g : ℕ) → q < length words
    → g < f (get_or words q 0) → Contains ms (member q g)
there f words ms w q g lt less = stands q g ms (let e = times_one f words ms w q g lt less in omega arith)

at_most_once : (f : ℕ → ℕ) (words : List ℕ) (ms : List Member) → Weighs f words ms → (q g : ℕ) → weigh (mark q g) ms ≤ 1
at_most_once f words ms w q g = dite (dec_le (length words) q)
    (λ past. let z = w.all (mark q g) ∙ past_sum f words q g past in omega arith)
    (λ not. let within = lt_of_not-le not in dite (dec_le (f (get_or words q 0)) g)
    (λ le. let z = times_none f words ms w q g within le in omega arith)
    (λ less. let z = times_one f words ms w q g within (lt_of_not-le less) in omega arith))

pub run_of : (words : List ℕ) (claimed given : List Member) → Weighs claims_by words claimed → Weighs gifts_by words given
    → IsRollRun words claimed given
run_of words claimed given c g = record {
  each_once = λ q n lt less. times_weighs q n claimed ∙ times_one claims_by words claimed c q n lt (let e = count_is claims_by words claimed c q lt in omega arith);
  no_other = λ q n lt le. times_weighs q n claimed ∙ times_none claims_by words claimed c q n lt (let e = count_is claims_by words claimed c q lt in omega arith);
  word = λ q lt. let e = count_is claims_by words claimed c q lt in (
    (λ h. ⊎_elim (λ none_yet. omega arith)
        (λ t.
        let k = known gifts_by words given g (member q (count_at q claimed - 1)) t.1 in
        let less = k.1 in
        let some_claim = t.0 in omega arith)
        h),
    (λ t.
        let some_claim = t.0 in
        dite (dec_le (gifts_by (get_or words q 0)) (count_at q claimed - 1))
        (λ le. omega arith)
        (λ more. absurd (t.1 (there gifts_by words given g q (count_at q claimed - 1) lt (lt_of_not-le more))))),
  );
  within = λ m t. (known claims_by words claimed c m t).0;
  was_claimed = λ m t.
      let k = known gifts_by words given g m t in
      let less = k.1 in there claims_by words claimed c m.place m.generation k.0 (omega arith);
  given_once = λ q n. let e = times_weighs q n given in let a = at_most_once gifts_by words given g q n in omega arith;
  given_before = λ a b s t place rise.
      let k = known claims_by words claimed c b t in
      let same : get_or words a.place 0 ≡ get_or words b.place 0 = ap (λ (p : ℕ). get_or words p 0) place in
      let in_words = k.0 in
      let less = k.1 in
      there gifts_by words given g a.place a.generation (omega arith) (omega arith);
}
