-- Who is in, where the same acts are of other members.
use Rattle.std.proofs.Common.{◌≡◌, ℕ, zero, suc, ◌<◌, ◌==◌, Bool, true, false, cond, List, Option, None, Some, nat_lt, inl, inr, refl, ap, sym, ◌∙◌, arith}
use Rattle.std.proofs.lemmas.Bool.{cases_Bool, cond-true, cond-false, eq-eqb, eqb-true, lt-ltb}
use Rattle.std.specs.Option.{option_and_then}
use Rattle.m17_values.specs.declared.member.Member.{Member}
use Rattle.m17_floor.specs.declared.act.Act.{Act}
use Rattle.m17_floor.specs.declared.act.ActKind.{ActKind}
use Rattle.m17_floor.specs.declared.act.ActKind.TheVariants.{Join, Leave, Packet, Other}
use Rattle.m17_lookup.specs.Lookup.{last_below}
use Rattle.m17_floor.specs.Acts.{kind_at, is_same, is_join_of, settles, joined_at}
use Rattle.m17_floor.specs.Renamed.{IsOneToOne, IsRenamedKind, AreRenamed, TakesFreePlace, TakeFreePlaces, AreFreelyRenamed}
use Rattle.m17_lookup.proofs.LastBelow.{last_below_same, and_then_same}
use Rattle.m17_floor.proofs.Members.{same_from_is_same}

-- the act is the member's own Join or Leave
names : Member → ActKind → Bool
names k (Join m listens) = is_same m k
names k (Leave m) = is_same m k
names k (Packet m p) = false
names k Other = false

abbrev join_by : Member → List Act → ℕ → Option ℕ
join_by k acts j = cond (is_join_of k (kind_at acts j)) (Some j) None

-- the position of the member's Join, by its own Joins and Leaves alone
own_join : List Act → Member → ℕ → Option ℕ
own_join acts k n = option_and_then (join_by k acts) (last_below (λ j. names k (kind_at acts j)) n)

no_way : (b : Bool) → cond b None None ≡ (let o : Option ℕ = None in o)
no_way true = refl
no_way false = refl

own_join_suc : (acts : List Act) (k : Member) (n : ℕ) → own_join acts k (suc n) ≡ cond (names k (kind_at acts n)) (join_by k acts n) (own_join acts k n)
unfolding own_join last_below
own_join_suc acts k n = elim (cases_Bool (names k (kind_at acts n))) [
  | inl e ↦ rw e refl
  | inr e ↦ rw e refl
]

joined_suc : (places : ℕ) (acts : List Act) (k : Member) (n : ℕ) → joined_at places acts k (suc n) ≡ cond (settles k (kind_at acts n)) (cond (nat_lt k.place places) (join_by k acts n) None) (joined_at places acts k n)
unfolding joined_at last_below
joined_suc places acts k n = elim (cases_Bool (settles k (kind_at acts n))) [
  | inl e ↦ rw e refl
  | inr e ↦ rw e refl
]

-- a Join at a free place decides as the member's own Joins do
join_case : (places : ℕ) (acts : List Act) (k m : Member) (listens : Bool) (n : ℕ) → kind_at acts n ≡ Join m listens → TakesFreePlace places acts n m → joined_at places acts k n ≡ own_join acts k n → joined_at places acts k (suc n) ≡ own_join acts k (suc n)
unfolding names
join_case places acts k m listens n is free before =
    let step = joined_suc places acts k n ∙ ap (λ kind. cond (settles k kind) (cond (nat_lt k.place places) (cond (is_join_of k kind) (Some n) None) None) (joined_at places acts k n)) is in
    let own = own_join_suc acts k n ∙ ap (λ kind. cond (names k kind) (cond (is_join_of k kind) (Some n) None) (own_join acts k n)) is in
    step ∙ elim (cases_Bool (is_same m k)) [
      | inl same ↦
          let one : m ≡ k = same_from_is_same m k same in
          let at : m.place ≡ k.place = ap (λ (x : Member). x.place) one in
          let below : k.place < places = omega (arith, at, free.below) in
          cond-true (m.place == k.place) _ _ (eq-eqb m.place k.place at)
          ∙ cond-true (nat_lt k.place places) _ None (lt-ltb k.place places below)
          ∙ sym (cond-true (is_same m k) _ (own_join acts k n) same)
      | inr other ↦
          elim (cases_Bool (m.place == k.place)) [
            | inl at ↦
                cond-true (m.place == k.place) _ _ at
                ∙ ap (λ b. cond (nat_lt k.place places) (cond b (Some n) None) None) other
                ∙ no_way (nat_lt k.place places)
                ∙ sym (free.free k (sym (eqb-true m.place k.place at)))
                ∙ before
                ∙ sym (cond-false (is_same m k) _ (own_join acts k n) other)
            | inr away ↦
                cond-false (m.place == k.place) _ _ away
                ∙ before
                ∙ sym (cond-false (is_same m k) _ (own_join acts k n) other)
          ]
    ] ∙ sym own

leave_case : (places : ℕ) (acts : List Act) (k m : Member) (n : ℕ) → kind_at acts n ≡ Leave m → joined_at places acts k n ≡ own_join acts k n → joined_at places acts k (suc n) ≡ own_join acts k (suc n)
unfolding names
leave_case places acts k m n is before =
    let step = joined_suc places acts k n ∙ ap (λ kind. cond (settles k kind) (cond (nat_lt k.place places) (cond (is_join_of k kind) (Some n) None) None) (joined_at places acts k n)) is in
    let own = own_join_suc acts k n ∙ ap (λ kind. cond (names k kind) (cond (is_join_of k kind) (Some n) None) (own_join acts k n)) is in
    step
    ∙ ap (λ o. cond (is_same m k) o (joined_at places acts k n)) (no_way (nat_lt k.place places))
    ∙ ap (cond (is_same m k) None) before
    ∙ sym own

packet_case : (places : ℕ) (acts : List Act) (k : Member) (kind : ActKind) (n : ℕ) → kind_at acts n ≡ kind → settles k kind ≡ false → names k kind ≡ false → joined_at places acts k n ≡ own_join acts k n → joined_at places acts k (suc n) ≡ own_join acts k (suc n)
packet_case places acts k kind n is s h before =
    joined_suc places acts k n
    ∙ cond-false (settles k (kind_at acts n)) _ _ (ap (settles k) is ∙ s)
    ∙ before
    ∙ sym (own_join_suc acts k n ∙ cond-false (names k (kind_at acts n)) _ _ (ap (names k) is ∙ h))

by_kind : (places : ℕ) (acts : List Act) (k : Member) (kind : ActKind) (n : ℕ) → kind_at acts n ≡ kind → TakeFreePlaces places acts → joined_at places acts k n ≡ own_join acts k n → joined_at places acts k (suc n) ≡ own_join acts k (suc n)
unfolding names
by_kind places acts k (Join m listens) n is free before = join_case places acts k m listens n is (free n m listens is) before
by_kind places acts k (Leave m) n is free before = leave_case places acts k m n is before
by_kind places acts k (Packet m p) n is free before = packet_case places acts k (Packet m p) n is refl refl before
by_kind places acts k Other n is free before = packet_case places acts k Other n is refl refl before

-- Where each Join is at a free place, a member's own Joins and Leaves decide.
own_decides : (places : ℕ) (acts : List Act) (k : Member) (n : ℕ) → TakeFreePlaces places acts → joined_at places acts k n ≡ own_join acts k n
unfolding joined_at own_join last_below
own_decides places acts k zero free = no_way (nat_lt k.place places)
own_decides places acts k (suc n) free = by_kind places acts k (kind_at acts n) n refl free (own_decides places acts k n free)

-- tests by the member
same_names : (stands : Member → Member → Bool) (k k' : Member) (a b : ActKind) → IsOneToOne stands → stands k k' ≡ true → IsRenamedKind stands a b → names k a ≡ names k' b
unfolding names
same_names stands k k' (Join m l) (Join m' l') one h r = one.same m k m' k' r.0 h
same_names stands k k' (Leave m) (Leave m') one h r = one.same m k m' k' r h
same_names stands k k' (Packet m p) (Packet m' p') one h r = refl
same_names stands k k' Other Other one h r = refl
same_names stands k k' _ _ one h r = absurd r

pub same_joins : (stands : Member → Member → Bool) (k k' : Member) (a b : ActKind) → IsOneToOne stands → stands k k' ≡ true → IsRenamedKind stands a b → is_join_of k a ≡ is_join_of k' b
same_joins stands k k' (Join m l) (Join m' l') one h r = one.same m k m' k' r.0 h
same_joins stands k k' (Leave m) (Leave m') one h r = refl
same_joins stands k k' (Packet m p) (Packet m' p') one h r = refl
same_joins stands k k' Other Other one h r = refl
same_joins stands k k' _ _ one h r = absurd r

own_renamed : (stands : Member → Member → Bool) (acts others : List Act) (k k' : Member) (n : ℕ) → IsOneToOne stands → AreRenamed stands acts others → stands k k' ≡ true → own_join acts k n ≡ own_join others k' n
unfolding own_join
own_renamed stands acts others k k' n one renamed h =
    ap (option_and_then (join_by k acts)) (last_below_same (λ j. names k (kind_at acts j)) (λ j. names k' (kind_at others j)) n (λ j l. same_names stands k k' (kind_at acts j) (kind_at others j) one h (renamed.kinds j)))
    ∙ and_then_same (last_below (λ j. names k' (kind_at others j)) n) (join_by k acts) (join_by k' others)
    (λ j e. ap (λ b. cond b (Some j) None) (same_joins stands k k' (kind_at acts j) (kind_at others j) one h (renamed.kinds j)))

-- Who is in is the same.
pub joined_renamed : (stands : Member → Member → Bool) (places : ℕ) (acts others : List Act) → AreFreelyRenamed stands places acts others → (k k' : Member) (n : ℕ) → stands k k' ≡ true → joined_at places acts k n ≡ joined_at places others k' n
joined_renamed stands places acts others r k k' n h =
    own_decides places acts k n r.free
    ∙ own_renamed stands acts others k k' n r.one_to_one r.renamed h
    ∙ sym (own_decides places others k' n r.free_others)
