-- What is shown of one record more.
use Rattle.std.proofs.Common.{◌≡◌, ℕ, suc, ◌+◌, ◌-◌, ◌<◌, ◌≤◌, Bool, true, false, true≢false, cond, List, [], ◌∷◌, ◌++◌, length, drop, Option, None, Some, slice_get, count_by, find, refl, sym, ap, ◌∙◌, arith}
use Rattle.std.specs.Prelude.{option_and_then}
use Rattle.std.specs.Option.{option_map_or}
use Rattle.std.proofs.lemmas.List.{drop-append-le}
use Rattle.std.proofs.lemmas.List.Sums.{sum_by-append, count_by-le-length}
use Rattle.m17_lookup.specs.Lookup.{last_below}
use Rattle.m17_lookup.proofs.LastBelow.{last_below_zero, last_below_suc, last_below_same, last_below_lt}
use Rattle.m17_lists.proofs.Lengths.{one_more_is_one_longer}
use Rattle.m17_lists.proofs.Places.{places_before_stay, one_more_stands_at_the_end}
use Rattle.m17_lists.proofs.Sums.{count_of_one}
use Rattle.m17_book.specs.declared.record.Record.{Record}
use Rattle.m17_book.specs.declared.record.Record.TheVariants.{Join, Leave, Packet}
use Rattle.m17_board.specs.declared.sight.Sight.{Sight}
use Rattle.m17_board.specs.declared.sight.Talk.{Talk}
use Rattle.m17_values.specs.declared.member.Member.{Member}
use Rattle.m17_board.specs.Glance.{is_admitted, is_admitted_at, is_leave_of, moment_of, unless_left, talk_by, talk_of, last_moment, sight_of, talk_after}

past_end : {A : Type 0} (xs : List A) (y : A) → drop (suc (length xs)) (xs ++ y ∷ []) ≡ []
past_end [] y = refl
past_end (x ∷ xs) y = past_end xs y

count_more : {A : Type 0} (p : A → Bool) (xs : List A) (y : A) → count_by p (xs ++ y ∷ []) ≡ count_by p xs + cond (p y) 1 0
count_more p xs y = sum_by-append (λ x. cond (p x) 1 0) xs (y ∷ []) ∙ ap (λ (c : ℕ). count_by p xs + c) (count_of_one p y)

-- the last admitted record, with one record more
last_more : (rs : List Record) (r : Record) → last_below (is_admitted_at (rs ++ r ∷ [])) (length (rs ++ r ∷ [])) ≡ cond (is_admitted r) (Some (length rs)) (last_below (is_admitted_at rs) (length rs))
last_more rs r =
    let here : is_admitted_at (rs ++ r ∷ []) (length rs) ≡ is_admitted r = ap (λ (o : Option Record). option_map_or is_admitted o false) (one_more_stands_at_the_end rs r) in
    let there = last_below_same (is_admitted_at (rs ++ r ∷ [])) (is_admitted_at rs) (length rs) (λ m h. ap (λ (o : Option Record). option_map_or is_admitted o false) (places_before_stay rs (r ∷ []) m h)) in
    ap (last_below (is_admitted_at (rs ++ r ∷ []))) (one_more_is_one_longer rs r) ∙ last_below_suc (is_admitted_at (rs ++ r ∷ [])) (length rs)
    ∙ (λ i. cond (here i) (Some (length rs)) (there i))

-- the talk of the record at a position
abbrev talk_at : List Record → ℕ → Option Talk
talk_at rs n = option_and_then (talk_by (drop (suc n) rs)) (slice_get rs n)

abbrev talk : Member → ℕ → Talk
talk m src = record { member = m; src = src }

-- the talk, unless this was a Leave of its member
abbrev unless : Bool → Option Talk → Option Talk
unless b None = None
unless b (Some t) = cond b None (Some t)

unless_first : (b : Bool) (r : Record) (t : Talk) → unless_left (cond b (Some r) None) t ≡ cond b None (Some t)
unless_first true r t = refl
unless_first false r t = refl

unless_more : (p : Record → Bool) (later : List Record) (r : Record) (t : Talk) → unless_left (find p (later ++ r ∷ [])) t ≡ unless (p r) (unless_left (find p later) t)
unless_more p [] r t = unless_first (p r) r t
unless_more p (x ∷ xs) r t = go (p x) (unless_more p xs r t)
  where
    go : (b : Bool) → unless_left (find p (xs ++ r ∷ [])) t ≡ unless (p r) (unless_left (find p xs) t) → unless_left (cond b (Some x) (find p (xs ++ r ∷ []))) t ≡ unless (p r) (unless_left (cond b (Some x) (find p xs)) t)
    go true rest = refl
    go false rest = rest

-- nobody begins to talk by a record that is not admitted
none_after : (r : Record) → is_admitted r ≡ false → None ≡ talk_after None r
none_after (Join tag moment m listen callsign) e = refl
none_after (Leave tag moment m why) e = refl
none_after (Packet tag moment m v p) e = sym (ap (λ (b : Bool). cond b (cond p.last None (Some (talk m p.lsd.src))) None) e)

is_after : (f : Option Record) (m : Member) (src : ℕ) (r : Record) → is_admitted r ≡ false → unless (is_leave_of m r) (unless_left f (talk m src)) ≡ talk_after (unless_left f (talk m src)) r
is_after (Some x) m src r e = none_after r e
is_after None m src (Join tag moment k listen callsign) e = refl
is_after None m src (Leave tag moment k why) e = refl
is_after None m src (Packet tag moment k v p) e = sym (ap (λ (b : Bool). cond b (cond p.last None (Some (talk k p.lsd.src))) (Some (talk m src))) e)

-- what a record that is not admitted does to the talk of an earlier one
grows : (later : List Record) (x r : Record) → is_admitted r ≡ false → talk_by (later ++ r ∷ []) x ≡ talk_after (talk_by later x) r
grows later (Join tag moment m listen callsign) r e = none_after r e
grows later (Leave tag moment m why) r e = none_after r e
grows later (Packet tag moment m v p) r e = go p.last
  where
    go : (b : Bool) → cond b None (unless_left (find (is_leave_of m) (later ++ r ∷ [])) (talk m p.lsd.src)) ≡ talk_after (cond b None (unless_left (find (is_leave_of m) later) (talk m p.lsd.src))) r
    go true = none_after r e
    go false = unless_more (is_leave_of m) later r (talk m p.lsd.src) ∙ is_after (find (is_leave_of m) later) m p.lsd.src r e

grows_in : (later : List Record) (s : Option Record) (r : Record) → is_admitted r ≡ false → option_and_then (talk_by (later ++ r ∷ [])) s ≡ talk_after (option_and_then (talk_by later) s) r
grows_in later None r e = none_after r e
grows_in later (Some x) r e = grows later x r e

older : (rs : List Record) (r : Record) (o : Option ℕ) → is_admitted r ≡ false → ((n : ℕ) → o ≡ Some n → n < length rs)
    → option_and_then (talk_at (rs ++ r ∷ [])) o ≡ talk_after (option_and_then (talk_at rs) o) r
older rs r None e h = none_after r e
older rs r (Some n) e h =
    let lt = h n refl in
    let le : suc n ≤ length rs = omega arith in
    (λ i. option_and_then (talk_by (drop-append-le (suc n) rs (r ∷ []) le i)) (places_before_stay rs (r ∷ []) n lt i)) ∙ grows_in (drop (suc n) rs) (slice_get rs n) r e

opened : (r : Record) (o : Option Talk) → is_admitted r ≡ true → talk_by [] r ≡ talk_after o r
opened (Join tag moment m listen callsign) o e = absurd (true≢false (sym e))
opened (Leave tag moment m why) o e = absurd (true≢false (sym e))
opened (Packet tag moment m v p) o e = sym (ap (λ (b : Bool). cond b (cond p.last None (Some (talk m p.lsd.src))) o) e)

-- who talks, with one record more
pub talk_more : (rs : List Record) (r : Record) → talk_of (rs ++ r ∷ []) ≡ talk_after (talk_of rs) r
talk_more rs r = ap (option_and_then (talk_at (rs ++ r ∷ []))) (last_more rs r) ∙ go (is_admitted r) refl
  where
    go : (b : Bool) → is_admitted r ≡ b
        → option_and_then (talk_at (rs ++ r ∷ [])) (cond b (Some (length rs)) (last_below (is_admitted_at rs) (length rs))) ≡ talk_after (option_and_then (talk_at rs) (last_below (is_admitted_at rs) (length rs))) r
    go true e = (λ i. option_and_then (talk_by (past_end rs r i)) (one_more_stands_at_the_end rs r i)) ∙ opened r (option_and_then (talk_at rs) (last_below (is_admitted_at rs) (length rs))) e
    go false e = older rs r (last_below (is_admitted_at rs) (length rs)) e (λ n found. last_below_lt (is_admitted_at rs) (length rs) n found)

moment_more : (rs : List Record) (r : Record) → last_moment (rs ++ r ∷ []) ≡ moment_of r
moment_more rs r =
    let longer = one_more_is_one_longer rs r in
    let back : length (rs ++ r ∷ []) - 1 ≡ length rs = omega arith in
    ap (λ (n : ℕ). option_map_or moment_of (slice_get (rs ++ r ∷ []) n) 0) back ∙ ap (λ (o : Option Record). option_map_or moment_of o 0) (one_more_stands_at_the_end rs r)

pub talk_none : talk_of [] ≡ None
talk_none = ap (option_and_then (talk_at [])) (last_below_zero (is_admitted_at []))

-- with one record more
pub sight_more : (rs : List Record) (r : Record) (s n : Sight) → s ≡ sight_of rs → n.records ≡ s.records + 1 → n.admitted ≡ s.admitted + cond (is_admitted r) 1 0
    → n.moment ≡ moment_of r → n.talk ≡ talk_after s.talk r → n ≡ sight_of (rs ++ r ∷ [])
sight_more rs r s n is records admitted moment talks = λ i. record {
  records = (records ∙ ap (λ (z : Sight). z.records + 1) is ∙ more) i;
  admitted = (admitted ∙ ap (λ (z : Sight). z.admitted + cond (is_admitted r) 1 0) is ∙ sym (count_more is_admitted rs r)) i;
  moment = (moment ∙ sym (moment_more rs r)) i;
  talk = (talks ∙ ap (λ (z : Sight). talk_after z.talk r) is ∙ sym (talk_more rs r)) i;
}
  where
    more : length rs + 1 ≡ length (rs ++ r ∷ [])
    more = let longer = one_more_is_one_longer rs r in omega arith

pub first_sight : record { records = 0; admitted = 0; moment = 0; talk = None } ≡ sight_of []
first_sight = λ i. record { records = 0; admitted = 0; moment = 0; talk = sym talk_none i }

-- no more are admitted than there are
pub fewer : (rs : List Record) → count_by is_admitted rs ≤ length rs
fewer rs = count_by-le-length is_admitted rs
