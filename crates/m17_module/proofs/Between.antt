-- A member is in from behind its Join up to the event that ends its membership.
use Rattle.std.proofs.Common.{◌≡◌, ◌↔◌, ℕ, zero, suc, ◌<◌, Bool, true, false, cond, List, nat_lt, eqb, is_some, Option, None, Some, refl, ap, sym, ◌∙◌, arith, inl, inr}
use Rattle.std.proofs.lemmas.Bool.{cases_Bool, cases_eq, true≢false, lt-ltb, and_parts}
use Rattle.m17_values.specs.declared.member.Member.{Member}
use Rattle.m17_control.specs.declared.event.Event.{Event}
use Rattle.m17_floor.specs.declared.act.ActKind.{ActKind}
use Rattle.m17_floor.specs.declared.act.ActKind.TheVariants.{Join, Leave, Packet, Other}
use Rattle.std.specs.Option.{option_and_then}
use Rattle.m17_lookup.specs.Lookup.{last_below}
use Rattle.m17_floor.specs.Acts.{is_join_of, settles, kind_at, joined_at}
use Rattle.m17_module.specs.Events.{acts_of}
use Rattle.m17_module.specs.Laws.{joins, JoinsOnce, StaysBetween, InFromJoinToEnd}
use Rattle.m17_module.proofs.Life.{joined_suc}

-- a Join of the member decides whether it is in
join_settles : (k : Member) (kind : ActKind) → is_join_of k kind ≡ true → settles k kind ≡ true
join_settles k (Join member listens) e = (and_parts (eqb member.place k.place) (eqb member.generation k.generation) e).0
join_settles k (Leave member) e = absurd (true≢false (sym e))
join_settles k (Packet member p) e = absurd (true≢false (sym e))
join_settles k Other e = absurd (true≢false (sym e))

out_at_first : (below : Bool) (there : ℕ → Option ℕ) → is_some (cond below (option_and_then there None) None) ≡ false
out_at_first true there = refl
out_at_first false there = refl

none_at_first : (places : ℕ) (events : List Event) (k : Member) → is_some (joined_at places (acts_of events) k 0) ≡ false
unfolding joined_at last_below
none_at_first places events k =
    out_at_first (nat_lt k.place places) (λ j. cond (is_join_of k (kind_at (acts_of events) j)) (Some j) None)

cond_none : (b : Bool) → ◌≡◌ {A = Option ℕ} (cond b None None) None
cond_none true = refl
cond_none false = refl

module _ (places : ℕ) (events : List Event) (k : Member) (j : ℕ) where
  abbrev is_in_at : ℕ → Option ℕ
  is_in_at n = joined_at places (acts_of events) k n

  abbrev Between : ℕ → Type 0
  Between n = (is_some (is_in_at n) ≡ true) ↔ ((j < n) × StaysBetween events k j n)

  -- the event there is its Join
  comes : k.place < places → (n : ℕ) → joins events k n ≡ true → is_in_at (suc n) ≡ Some n
  comes below n is =
      joined_suc places events k n
      ∙ ap (λ b. cond b (cond (nat_lt k.place places) (cond (is_join_of k (kind_at (acts_of events) n)) (Some n) None) None) (is_in_at n))
      (join_settles k (kind_at (acts_of events) n) is)
      ∙ ap (λ b. cond b (cond (is_join_of k (kind_at (acts_of events) n)) (Some n) None) None) (lt-ltb k.place places below)
      ∙ ap (λ b. cond b (Some n) None) is

  -- the event there ends its membership
  goes : (n : ℕ) → joins events k n ≡ false → settles k (kind_at (acts_of events) n) ≡ true → is_in_at (suc n) ≡ None
  goes n other s =
      joined_suc places events k n
      ∙ ap (λ b. cond b (cond (nat_lt k.place places) (cond (is_join_of k (kind_at (acts_of events) n)) (Some n) None) None) (is_in_at n)) s
      ∙ ap (λ b. cond (nat_lt k.place places) (cond b (Some n) None) None) other
      ∙ cond_none (nat_lt k.place places)

  -- the event there is neither
  stays : (n : ℕ) → settles k (kind_at (acts_of events) n) ≡ false → is_in_at (suc n) ≡ is_in_at n
  stays n s =
      joined_suc places events k n
      ∙ ap (λ b. cond b (cond (nat_lt k.place places) (cond (is_join_of k (kind_at (acts_of events) n)) (Some n) None) None) (is_in_at n)) s

  behind : joins events k j ≡ true → (n : ℕ) → joins events k n ≡ false → j < suc n → j < n
  behind is n other l =
      elim (cases_eq j n) [ inl same ↦ absurd (true≢false (sym is ∙ ap (joins events k) same ∙ other)) | inr ne ↦ omega arith ]

  between_more : JoinsOnce events k → joins events k j ≡ true → k.place < places → (n : ℕ) → Between n → Between (suc n)
  between_more once is below n ih =
      elim (cases_Bool (joins events k n)) [
        | inl here ↦ (let same : j ≡ n = once j n is here in (
          λ e. (omega arith, λ i l m. absurd (omega arith)),
          λ r. ap is_some (comes below n here),
        ))
        | inr other ↦ elim (cases_Bool (settles k (kind_at (acts_of events) n))) [
          | inl s ↦ (
            λ e. absurd (true≢false (sym e ∙ ap is_some (goes n other s))),
            λ r. absurd (true≢false (sym s ∙ r.1 n (behind is n other r.0) (omega arith))),
          )
          | inr s ↦ (
            λ e. let was = ih.0 (sym (ap is_some (stays n s)) ∙ e) in let low = was.0 in (
              omega arith,
              λ i l m. elim (cases_eq i n) [
                | inl same ↦ ap (λ x. settles k (kind_at (acts_of events) x)) same ∙ s
                | inr ne ↦ was.1 i l (omega arith)
              ],
            ),
            λ r. ap is_some (stays n s) ∙ ih.1 (behind is n other r.0, λ i l m. r.1 i l (omega arith)),
          )
        ]
      ]

  between : JoinsOnce events k → joins events k j ≡ true → k.place < places → (n : ℕ) → Between n
  between once is below zero = (λ e. absurd (true≢false (sym e ∙ none_at_first places events k)), λ r. absurd (omega (arith, r.0)))
  between once is below (suc n) = between_more once is below n (between once is below n)

pub in_from_join_to_end : InFromJoinToEnd
in_from_join_to_end places events k j n once is below = between places events k j once is below n
