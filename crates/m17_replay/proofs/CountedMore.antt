-- Numbers of entries of each kind, with one entry more.
use Rattle.std.proofs.Common.{◌≡◌, ◌≢◌, ◌∙◌, ℕ, ◌+◌, ◌-◌, ◌^◌, ◌<◌, ◌≤◌, List, [], ◌∷◌, ◌++◌, length, get_or, set, min, cond, Some, sym, ap, arith, inl, inr, length-set}
use Rattle.std.proofs.lemmas.Bool.{eq-eqb, ne_eqb}
use Rattle.std.proofs.lemmas.Bool.Decides.{eqb_tells}
use Rattle.std.proofs.lemmas.List.Sums.{sum_by-append, count_by-le-length}
use Rattle.std.proofs.lemmas.List.{get_or-set_same, get_or-set_other}
use Rattle.m17_print.specs.declared.kind.Kind.{Kind}
use Rattle.m17_print.specs.Kinds.{kind_count, kind_place}
use Rattle.m17_replay.specs.Summary.{Outcome, kind_of, is_kind_at, count_at}
use Rattle.m17_replay.specs.Counted.{CountsAre}

-- the number of a kind with one entry more
pub count_more : (place : ℕ) (before : List Outcome) (o : Outcome)
    → count_at place (before ++ o ∷ [])
    ≡ count_at place before + (0 + cond (is_kind_at place (kind_of o.0 o.1)) 1 0)
count_more place before o =
    sum_by-append (λ (x : Outcome). cond (is_kind_at place (kind_of x.0 x.1)) 1 0) before (o ∷ [])

-- the number of the entry's kind
pub count_it : (q place : ℕ) (before : List Outcome) (o : Outcome) (kind : Kind)
    → kind_of o.0 o.1 ≡ Some kind → place ≡ kind_place kind → q ≡ place
    → count_at q (before ++ o ∷ []) ≡ count_at q before + 1
count_it q place before o kind is at same =
    count_more q before o ∙ ap (λ k. count_at q before + (0 + cond (is_kind_at q k) 1 0)) is
    ∙ ap (λ b. count_at q before + (0 + cond b 1 0)) (eq-eqb (kind_place kind) q (sym at ∙ sym same))

-- the number of another kind
pub count_other : (q place : ℕ) (before : List Outcome) (o : Outcome) (kind : Kind)
    → kind_of o.0 o.1 ≡ Some kind → place ≡ kind_place kind → q ≢ place
    → count_at q (before ++ o ∷ []) ≡ count_at q before
count_other q place before o kind is at other =
    count_more q before o ∙ ap (λ k. count_at q before + (0 + cond (is_kind_at q k) 1 0)) is
    ∙ ap (λ b. count_at q before + (0 + cond b 1 0))
    (ne_eqb (kind_place kind) q (λ e. other (sym e ∙ sym at))) ∙ omega arith

-- the numbers with one entry more of a kind
pub some_counted : (counts : List ℕ) (before : List Outcome) (o : Outcome) (kind : Kind) (place n : ℕ)
    → kind_of o.0 o.1 ≡ Some kind → place ≡ kind_place kind → place < kind_count
    → n ≡ min (get_or counts place 0 + 1) (2 ^ 64 - 1) → length before < 2 ^ 64 - 1
    → CountsAre counts before → CountsAre (set counts place n) (before ++ o ∷ [])
some_counted counts before o kind place n is at below n-is short h = record {
  of_all = length-set counts place n ∙ h.of_all;
  each = λ q q-below. elim (eqb_tells q place) [
    | inl same ↦
        let room : place < length counts = omega (arith, h.of_all) in
        let found : get_or (set counts place n) q 0 ≡ n =
        ap (λ x. get_or (set counts place n) x 0) same.1 ∙ get_or-set_same counts place n 0 room in
        let was : get_or counts place 0 ≡ count_at q before =
        ap (λ x. get_or counts x 0) (sym same.1) ∙ h.each q q-below in
        let few : count_at q before ≤ length before = count_by-le-length _ before in
        found ∙ n-is ∙ (omega (arith, was, few)) ∙ sym (count_it q place before o kind is at same.1)
    | inr other ↦
        get_or-set_other counts place q n 0 other.1 ∙ h.each q q-below
        ∙ sym (count_other q place before o kind is at other.1)
  ];
}
