-- The life of a member in its share: one Hello, and nothing after a Bye.
use Rattle.std.proofs.Common.{◌≡◌, ℕ, zero, suc, ◌+◌, ◌/◌, ◌<◌, ◌≤◌, ◌⊎◌, Bool, true, false, cond, List, [], ◌∷◌, ◌++◌, length, slice_get, nat_lt, is_some, Option, None, Some, refl, ap, sym, ◌∙◌, arith, inl, inr, subst, length-append}
use Rattle.std.specs.List.{flat_map, range_with_len}
use Rattle.std.specs.Option.{option_and_then}
use Rattle.std.proofs.lemmas.Bool.{cond-true, cond-false, cases_lt, cases_Bool, cases_eq, true≢false, le-ltb, false_from_ne_true}
use Rattle.std.proofs.lemmas.Option.{slice_get_past}
use Rattle.std.proofs.lemmas.List.{append-nil, append_assoc, nil_from_length}
use Rattle.std.proofs.lemmas.List.Concat.{flat_map-append}
use Rattle.m17_values.specs.declared.member.Member.{Member}
use Rattle.m17_control.specs.declared.event.Body.{Body}
use Rattle.m17_control.specs.declared.event.Body.TheVariants.{Join, Leave, Packet, Reply, Tick, Stop}
use Rattle.m17_control.specs.declared.event.Event.{Event}
use Rattle.m17_control.specs.declared.item.Item.{Item}
use Rattle.m17_control.specs.declared.item.Said.{Said}
use Rattle.m17_control.specs.declared.item.Said.TheVariants as said
use Rattle.m17_lookup.specs.Lookup.{last_below}
use Rattle.m17_floor.specs.Acts.{is_join_of, settles, kind_at, moment_before, moment_at, joined_at}
use Rattle.m17_module.specs.declared.seat.Seat.{Seat}
use Rattle.m17_module.specs.Events.{kind_of, acts_of}
use Rattle.m17_module.specs.Seats.{seats_at, seat_of}
use Rattle.m17_module.specs.Items.{Setup, ping_every_ms, to_one, says, setting_at, pings_at, echoes_at, said_by, said_at, items_at, items_given, is_for, items_for}
use Rattle.m17_module.specs.Laws.{is_hello, is_bye, joins, JoinsOnce, IsLife, ShareIsALife, WhoNeverJoinsGetsNothing}
use Rattle.m17_module.proofs.Acts.{kind_from, kind_at_is}
use Rattle.m17_lookup.proofs.LastBelow.{last_below_suc}
use Rattle.m17_module.proofs.ItemsMore.{range_more}
use Rattle.m17_module.proofs.Places.{filter-append}
use Rattle.m17_module.proofs.FramesMine.{is_in_exactly, cond_same}
use Rattle.m17_module.proofs.SeatsMore.{same_from_is_same, length_seats}
use Rattle.m17_module.proofs.LifeParts.{hellos, byes, mine, IsPart, empty_part, pinged_part, quiet_before, no_echo_hello, no_echo_bye, no_echo_away, mine_pings, said_part, said_nothing, said_hello}

-- one position more
joined_cond : (below b : Bool) (f : ℕ → Option ℕ) (n : ℕ) (o : Option ℕ) → cond below (option_and_then f (cond b (Some n) o)) None ≡ cond b (cond below (f n) None) (cond below (option_and_then f o) None)
joined_cond below true f n o = refl
joined_cond below false f n o = refl

pub joined_suc : (places : ℕ) (events : List Event) (k : Member) (n : ℕ) → joined_at places (acts_of events) k (suc n) ≡ cond (settles k (kind_at (acts_of events) n)) (cond (nat_lt k.place places) (cond (is_join_of k (kind_at (acts_of events) n)) (Some n) None) None) (joined_at places (acts_of events) k n)
unfolding joined_at
joined_suc places events k n =
    let test : ℕ → Bool = λ j. settles k (kind_at (acts_of events) j) in
    let there : ℕ → Option ℕ = λ j. cond (is_join_of k (kind_at (acts_of events) j)) (Some j) None in
    ap (λ o. cond (nat_lt k.place places) (option_and_then there o) None) (last_below_suc test n)
    ∙ joined_cond (nat_lt k.place places) (test n) there n (last_below test n)

cond_none : (b : Bool) → ◌≡◌ {A = Option ℕ} (cond b None None) None
cond_none true = refl
cond_none false = refl

none_next : (places : ℕ) (events : List Event) (k : Member) (n : ℕ) → joined_at places (acts_of events) k n ≡ None → joins events k n ≡ false → joined_at places (acts_of events) k (suc n) ≡ None
none_next places events k n gone other =
    joined_suc places events k n
    ∙ ap (λ b. cond (settles k (kind_at (acts_of events) n)) (cond (nat_lt k.place places) (cond b (Some n) None) None) (joined_at places (acts_of events) k n)) other
    ∙ ap (λ o. cond (settles k (kind_at (acts_of events) n)) o (joined_at places (acts_of events) k n)) (cond_none (nat_lt k.place places))
    ∙ ap (cond (settles k (kind_at (acts_of events) n)) None) gone
    ∙ cond_none (settles k (kind_at (acts_of events) n))

unsettled_by : (places : ℕ) (events : List Event) (k : Member) (n : ℕ) (b : Bool) → settles k (kind_at (acts_of events) n) ≡ b → joins events k n ≡ false → is_some (joined_at places (acts_of events) k (suc n)) ≡ true → b ≡ false
unsettled_by places events k n false e other stays = refl
unsettled_by places events k n true e other stays =
    let gone : joined_at places (acts_of events) k (suc n) ≡ None =
    joined_suc places events k n
    ∙ ap (λ b. cond b (cond (nat_lt k.place places) (cond (is_join_of k (kind_at (acts_of events) n)) (Some n) None) None) (joined_at places (acts_of events) k n)) e
    ∙ ap (λ b. cond (nat_lt k.place places) (cond b (Some n) None) None) other
    ∙ cond_none (nat_lt k.place places) in
    sym stays ∙ ap is_some gone

-- what a position gives to the member
abbrev part_at : Setup → List Event → Member → ℕ → List Item
part_at setup events k n = mine k (items_at setup events n)

part_is : (setup : Setup) (events : List Event) (k : Member) (n : ℕ) → part_at setup events k n ≡ cond (nat_lt (moment_before (acts_of events) n / ping_every_ms) (moment_at (acts_of events) n / ping_every_ms)) (to_one said.Ping (seat_of (seats_at setup.places events n) k)) [] ++ (mine k (echoes_at setup events n) ++ mine k (said_by setup events n (slice_get events n)))
unfolding items_at said_at
part_is setup events k n =
    let pings : List Item = pings_at setup.places events n in
    let played : List Item = echoes_at setup events n in
    let told : List Item = said_by setup events n (slice_get events n) in
    filter-append (is_for k) (pings ++ played) told
    ∙ ap (λ xs. xs ++ mine k told) (filter-append (is_for k) pings played)
    ∙ append_assoc (mine k pings) (mine k played) (mine k told)
    ∙ ap (λ xs. xs ++ (mine k played ++ mine k told)) (mine_pings setup.places events n k)

said_by_part : (setup : Setup) (events : List Event) (n : ℕ) (k : Member) (stays : Bool) (o : Option Event) → is_join_of k (kind_from o) ≡ false → (stays ≡ true → settles k (kind_from o) ≡ false) → IsPart (mine k (said_by setup events n o)) stays
said_by_part setup events n k stays None other unsettled = empty_part stays
said_by_part setup events n k stays (Some event) other unsettled = said_part setup events n k event.tag.link stays event.body other unsettled

said_by_nothing : (setup : Setup) (events : List Event) (n : ℕ) (k : Member) (o : Option Event) → seat_of (seats_at setup.places events n) k ≡ None → is_join_of k (kind_from o) ≡ false → mine k (said_by setup events n o) ≡ []
said_by_nothing setup events n k None free other = refl
said_by_nothing setup events n k (Some event) free other = said_nothing setup events n k event.tag.link event.body free other

said_by_hello : (setup : Setup) (events : List Event) (n : ℕ) (k : Member) (o : Option Event) → seat_of (seats_at setup.places events n) k ≡ None → k.place < setup.places → is_join_of k (kind_from o) ≡ true → (hello : Item) × (is_hello hello.body ≡ true) × (mine k (said_by setup events n o) ≡ hello ∷ [])
said_by_hello setup events n k None free below is = cc
said_by_hello setup events n k (Some event) free below is = said_hello setup events n k event.tag.link event.body free below is

none_of : {X : Type 0} (o : Option X) → is_some o ≡ false → o ≡ None
none_of None e = refl
none_of (Some x) e = cc

no_seat : (places : ℕ) (events : List Event) (n : ℕ) (k : Member) → joined_at places (acts_of events) k n ≡ None → seat_of (seats_at places events n) k ≡ None
no_seat places events n k gone = none_of (seat_of (seats_at places events n) k) (sym (is_in_exactly places events n k) ∙ ap is_some gone)

no_pings_out : (b : Bool) (o : Option Seat) (rest : List Item) → o ≡ None → cond b (to_one said.Ping o) [] ++ rest ≡ rest
no_pings_out b o rest e = ap (λ x. cond b (to_one said.Ping x) [] ++ rest) e ∙ ap (λ xs. xs ++ rest) (cond_same b)

-- of a position before which it is not in
part_away : (setup : Setup) (events : List Event) (k : Member) (n : ℕ) → joined_at setup.places (acts_of events) k n ≡ None → part_at setup events k n ≡ mine k (said_by setup events n (slice_get events n))
part_away setup events k n gone =
    part_is setup events k n
    ∙ no_pings_out _ (seat_of (seats_at setup.places events n) k) (mine k (echoes_at setup events n) ++ mine k (said_by setup events n (slice_get events n))) (no_seat setup.places events n k gone)
    ∙ ap (λ xs. xs ++ mine k (said_by setup events n (slice_get events n))) (no_echo_away setup events n k (no_seat setup.places events n k gone))

part_nothing : (setup : Setup) (events : List Event) (k : Member) (n : ℕ) → joined_at setup.places (acts_of events) k n ≡ None → joins events k n ≡ false → part_at setup events k n ≡ []
part_nothing setup events k n gone other =
    part_away setup events k n gone
    ∙ said_by_nothing setup events n k (slice_get events n) (no_seat setup.places events n k gone) (ap (is_join_of k) (sym (kind_at_is events n)) ∙ other)

part_hello : (setup : Setup) (events : List Event) (k : Member) (n : ℕ) → joined_at setup.places (acts_of events) k n ≡ None → k.place < setup.places → joins events k n ≡ true → (hello : Item) × (is_hello hello.body ≡ true) × (part_at setup events k n ≡ hello ∷ [])
part_hello setup events k n gone below is =
    let said = said_by_hello setup events n k (slice_get events n) (no_seat setup.places events n k gone) below (ap (is_join_of k) (sym (kind_at_is events n)) ∙ is) in
    (said.0, said.1, part_away setup events k n gone ∙ said.2)

part_in : (setup : Setup) (events : List Event) (k : Member) (n : ℕ) → joins events k n ≡ false → IsPart (part_at setup events k n) (is_some (joined_at setup.places (acts_of events) k (suc n)))
part_in setup events k n other =
    let stays : Bool = is_some (joined_at setup.places (acts_of events) k (suc n)) in
    subst (λ xs. IsPart xs stays) (sym (part_is setup events k n))
    (pinged_part (seat_of (seats_at setup.places events n) k) _ (mine k (echoes_at setup events n) ++ mine k (said_by setup events n (slice_get events n))) stays
    (quiet_before (mine k (echoes_at setup events n)) (mine k (said_by setup events n (slice_get events n))) stays (no_echo_hello setup events n k) (no_echo_bye setup events n k)
    (said_by_part setup events n k stays (slice_get events n) (ap (is_join_of k) (sym (kind_at_is events n)) ∙ other)
    (λ e. ap (settles k) (sym (kind_at_is events n)) ∙ unsettled_by setup.places events k n (settles k (kind_at (acts_of events) n)) refl other e))))

-- what was given to the member before a position
abbrev share_to : Setup → List Event → Member → ℕ → List Item
share_to setup events k n = mine k (flat_map (items_at setup events) (range_with_len 0 n))

share_more : (setup : Setup) (events : List Event) (k : Member) (n : ℕ) → share_to setup events k (suc n) ≡ share_to setup events k n ++ part_at setup events k n
share_more setup events k n =
    let at : 0 + n ≡ n = omega arith in
    ap (λ ns. mine k (flat_map (items_at setup events) ns)) (range_more 0 n ∙ ap (λ m. range_with_len 0 n ++ m ∷ []) at)
    ∙ ap (mine k) (flat_map-append (items_at setup events) (range_with_len 0 n) (n ∷ []) ∙ ap (λ xs. flat_map (items_at setup events) (range_with_len 0 n) ++ xs) (append-nil (items_at setup events n)))
    ∙ filter-append (is_for k) (flat_map (items_at setup events) (range_with_len 0 n)) (items_at setup events n)

record Lived (items : List Item) (stays : Bool) : Type 0 where
  first : Item
  rest : List Item
  tail : List Item
  items_are : items ≡ first ∷ (rest ++ tail)
  hello : is_hello first.body ≡ true
  no_hello : hellos rest ≡ []
  no_late_hello : hellos tail ≡ []
  no_bye : byes rest ≡ []
  at_most_one : length tail ≤ 1
  stays_quiet : stays ≡ true → tail ≡ []

record Unborn (setup : Setup) (events : List Event) (k : Member) (n : ℕ) : Type 0 where
  no_join : (j : ℕ) → j < n → joins events k j ≡ false
  nothing : share_to setup events k n ≡ []
  out : joined_at setup.places (acts_of events) k n ≡ None

record Born (setup : Setup) (events : List Event) (k : Member) (n : ℕ) : Type 0 where
  at : ℕ
  below : at < n
  join : joins events k at ≡ true
  lived : Lived (share_to setup events k n) (is_some (joined_at setup.places (acts_of events) k n))

joined_none : (places : ℕ) (events : List Event) (k : Member) → joined_at places (acts_of events) k 0 ≡ None
unfolding joined_at last_below
joined_none places events k = cond_none (nat_lt k.place places)

lives_on : (old part : List Item) (before after : Bool) → before ≡ true → Lived old before → IsPart part after → Lived (old ++ part) after
lives_on old part before after here lived p = record {
  first = lived.first;
  rest = lived.rest ++ p.quiet;
  tail = p.tail;
  items_are = ap (λ xs. xs ++ part) (lived.items_are ∙ ap (λ xs. lived.first ∷ (lived.rest ++ xs)) (lived.stays_quiet here) ∙ ap (λ xs. lived.first ∷ xs) (append-nil lived.rest))
      ∙ ap (λ xs. lived.first ∷ (lived.rest ++ xs)) p.part_is
      ∙ ap (λ xs. lived.first ∷ xs) (sym (append_assoc lived.rest p.quiet p.tail));
  hello = lived.hello;
  no_hello = filter-append (λ item. is_hello item.body) lived.rest p.quiet ∙ ap (λ xs. xs ++ hellos p.quiet) lived.no_hello ∙ p.no_hello;
  no_late_hello = p.no_late_hello;
  no_bye = filter-append (λ item. is_bye item.body) lived.rest p.quiet ∙ ap (λ xs. xs ++ byes p.quiet) lived.no_bye ∙ p.no_bye;
  at_most_one = p.at_most_one;
  stays_quiet = p.stays_quiet;
}

lived_as : (old new : List Item) (before after : Bool) → new ≡ old → after ≡ false → Lived old before → Lived new after
lived_as old new before after same gone lived = record {
  first = lived.first;
  rest = lived.rest;
  tail = lived.tail;
  items_are = same ∙ lived.items_are;
  hello = lived.hello;
  no_hello = lived.no_hello;
  no_late_hello = lived.no_late_hello;
  no_bye = lived.no_bye;
  at_most_one = lived.at_most_one;
  stays_quiet = λ stays. absurd (true≢false (sym stays ∙ gone));
}

born_more : (setup : Setup) (events : List Event) (k : Member) (n : ℕ) → JoinsOnce events k → Born setup events k n → Born setup events k (suc n)
born_more setup events k n once born =
    let other : joins events k n ≡ false = false_from_ne_true (joins events k n) (λ again. let same : n ≡ born.at = once n born.at again born.join in let below : born.at < n = born.below in absurd (omega arith)) in
    record {
      at = born.at;
      below = (let below : born.at < n = born.below in omega arith);
      join = born.join;
      lived = elim (cases_Bool (is_some (joined_at setup.places (acts_of events) k n))) [
        | inl here ↦ subst (λ xs. Lived xs (is_some (joined_at setup.places (acts_of events) k (suc n)))) (sym (share_more setup events k n))
            (lives_on (share_to setup events k n) (part_at setup events k n) (is_some (joined_at setup.places (acts_of events) k n)) _ here born.lived (part_in setup events k n other))
        | inr away ↦
            let gone : joined_at setup.places (acts_of events) k n ≡ None = none_of _ away in
            lived_as (share_to setup events k n) (share_to setup events k (suc n)) _ _
            (share_more setup events k n ∙ ap (λ xs. share_to setup events k n ++ xs) (part_nothing setup events k n gone other) ∙ append-nil (share_to setup events k n))
            (ap is_some (none_next setup.places events k n gone other)) born.lived
      ];
    }

unborn_more : (setup : Setup) (events : List Event) (k : Member) (n : ℕ) → k.place < setup.places → Unborn setup events k n → (b : Bool) → joins events k n ≡ b → Unborn setup events k (suc n) ⊎ Born setup events k (suc n)
unborn_more setup events k n below unborn false other = inl (record {
  no_join = λ j l. elim (cases_eq j n) [ inl same ↦ ap (joins events k) same ∙ other | inr ne ↦ unborn.no_join j (omega arith) ];
  nothing = share_more setup events k n ∙ ap (λ xs. xs ++ part_at setup events k n) unborn.nothing ∙ part_nothing setup events k n unborn.out other;
  out = none_next setup.places events k n unborn.out other;
})
unborn_more setup events k n below unborn true is =
    let hello = part_hello setup events k n unborn.out below is in
    inr (record {
      at = n;
      below = omega arith;
      join = is;
      lived = record {
        first = hello.0;
        rest = [];
        tail = [];
        items_are = share_more setup events k n ∙ ap (λ xs. xs ++ part_at setup events k n) unborn.nothing ∙ hello.2;
        hello = hello.1;
        no_hello = refl;
        no_late_hello = refl;
        no_bye = refl;
        at_most_one = omega arith;
        stays_quiet = λ _. refl;
      };
    })

stages : (setup : Setup) (events : List Event) (k : Member) (n : ℕ) → JoinsOnce events k → k.place < setup.places → Unborn setup events k n ⊎ Born setup events k n
stages setup events k zero once below = inl (record { no_join = λ j l. absurd (omega arith); nothing = refl; out = joined_none setup.places events k })
stages setup events k (suc n) once below = elim (stages setup events k n once below) [
  | inl unborn ↦ unborn_more setup events k n below unborn (joins events k n) refl
  | inr born ↦ inr (born_more setup events k n once born)
]

-- what stands behind a Bye
no_bye_rest : (x : Item) (quiet : List Item) (b : Bool) → cond b (x ∷ byes quiet) (byes quiet) ≡ [] → byes quiet ≡ []
no_bye_rest x quiet true e = cc
no_bye_rest x quiet false e = e

after_bye : (quiet tail front after : List Item) (bye : Item) → byes quiet ≡ [] → length tail ≤ 1 → quiet ++ tail ≡ front ++ bye ∷ after → is_bye bye.body ≡ true → after ≡ []
after_bye [] tail front after bye no_bye few e is =
    nil_from_length after (omega (arith, ap length e, length-append front (bye ∷ after)))
after_bye (x ∷ quiet) tail [] after bye no_bye few e is =
    let head : x ≡ bye = cc in
    let some : byes (x ∷ quiet) ≡ x ∷ byes quiet = cond-true (is_bye x.body) _ _ (ap (λ (i : Item). is_bye i.body) head ∙ is) in
    let never : [] ≡ x ∷ byes quiet = sym no_bye ∙ some in cc
after_bye (x ∷ quiet) tail (y ∷ front) after bye no_bye few e is =
    let rest : quiet ++ tail ≡ front ++ bye ∷ after = cc in
    after_bye quiet tail front after bye (no_bye_rest x quiet (is_bye x.body) no_bye) few rest is

hello_no_bye : (what : Said) → is_hello what ≡ true → is_bye what ≡ false
hello_no_bye (said.Hello after) e = refl
hello_no_bye (said.Frame n p) e = cc
hello_no_bye (said.Echo n p) e = cc
hello_no_bye (said.Reply control) e = cc
hello_no_bye said.Ping e = cc
hello_no_bye (said.Bye why) e = cc

life_of : (items : List Item) (stays : Bool) → Lived items stays → IsLife items
life_of items stays lived = record {
  first = lived.first;
  rest = lived.rest ++ lived.tail;
  items_are = lived.items_are;
  hello = lived.hello;
  no_other = filter-append (λ item. is_hello item.body) lived.rest lived.tail ∙ ap (λ xs. xs ++ hellos lived.tail) lived.no_hello ∙ lived.no_late_hello;
  bye_is_last = λ front after bye e is.
      after_bye (lived.first ∷ lived.rest) lived.tail front after bye
      (cond-false (is_bye lived.first.body) _ _ (hello_no_bye lived.first.body lived.hello) ∙ lived.no_bye)
      lived.at_most_one (sym lived.items_are ∙ e) is;
}

kind_past : (o : Option Event) (k : Member) → o ≡ None → is_join_of k (kind_from o) ≡ false
kind_past None k e = refl
kind_past (Some event) k e = cc

join_below : (events : List Event) (k : Member) (j : ℕ) → joins events k j ≡ true → j < length events
join_below events k j is = elim (cases_lt j (length events)) [
  | inl h ↦ h
  | inr h ↦ absurd (true≢false (sym is ∙ ap (is_join_of k) (kind_at_is events j) ∙ kind_past (slice_get events j) k (slice_get_past events j h)))
]

pub share_is_a_life : ShareIsALife
unfolding items_for items_given
share_is_a_life setup events k j once is below = elim (stages setup events k (length events) once below) [
  | inl unborn ↦ absurd (true≢false (sym is ∙ unborn.no_join j (join_below events k j is)))
  | inr born ↦ life_of _ _ born.lived
]

-- One that never joins, and one whose place is none of the module's.
strangers : (setup : Setup) (events : List Event) (k : Member) (n : ℕ) → ((j : ℕ) → joins events k j ≡ false) → (share_to setup events k n ≡ []) × (joined_at setup.places (acts_of events) k n ≡ None)
strangers setup events k zero never = (refl, joined_none setup.places events k)
strangers setup events k (suc n) never =
    let before = strangers setup events k n never in (
      share_more setup events k n ∙ ap (λ xs. xs ++ part_at setup events k n) before.0 ∙ part_nothing setup events k n before.1 (never n),
      none_next setup.places events k n before.1 (never n),
    )

out_past : (places : ℕ) (events : List Event) (k : Member) (n : ℕ) → places ≤ k.place → joined_at places (acts_of events) k n ≡ None
unfolding joined_at
out_past places events k n past = cond-false (nat_lt k.place places) _ _ (le-ltb k.place places past)

said_past : (setup : Setup) (events : List Event) (n : ℕ) (k : Member) (link : ℕ) (body : Body) → setup.places ≤ k.place → is_join_of k (kind_of body) ≡ true → mine k (says (setting_at setup events n link) body) ≡ []
said_past setup events n k link (Join m peer callsign l after) past is =
    let at : m.place ≡ k.place = ap (λ (x : Member). x.place) (same_from_is_same m k is) in
    ap (mine k) (cond-false (nat_lt m.place (length (seats_at setup.places events n))) _ _ (le-ltb m.place (length (seats_at setup.places events n)) (omega (arith, length_seats setup.places events n))))
said_past setup events n k link (Leave m why) past is = cc
said_past setup events n k link (Packet m p) past is = cc
said_past setup events n k link (Reply m control) past is = cc
said_past setup events n k link Tick past is = cc
said_past setup events n k link Stop past is = cc

said_by_past : (setup : Setup) (events : List Event) (n : ℕ) (k : Member) (o : Option Event) → setup.places ≤ k.place → is_join_of k (kind_from o) ≡ true → mine k (said_by setup events n o) ≡ []
said_by_past setup events n k None past is = refl
said_by_past setup events n k (Some event) past is = said_past setup events n k event.tag.link event.body past is

part_past : (setup : Setup) (events : List Event) (k : Member) (n : ℕ) (b : Bool) → joins events k n ≡ b → setup.places ≤ k.place → part_at setup events k n ≡ []
part_past setup events k n false other past = part_nothing setup events k n (out_past setup.places events k n past) other
part_past setup events k n true is past =
    part_away setup events k n (out_past setup.places events k n past)
    ∙ said_by_past setup events n k (slice_get events n) past (ap (is_join_of k) (sym (kind_at_is events n)) ∙ is)

past_share : (setup : Setup) (events : List Event) (k : Member) (n : ℕ) → setup.places ≤ k.place → share_to setup events k n ≡ []
past_share setup events k zero past = refl
past_share setup events k (suc n) past =
    share_more setup events k n ∙ ap (λ xs. xs ++ part_at setup events k n) (past_share setup events k n past) ∙ part_past setup events k n (joins events k n) refl past

pub never_joins : WhoNeverJoinsGetsNothing
unfolding items_for items_given
never_joins setup events k h = elim h [
  | inl never ↦ (strangers setup events k (length events) never).0
  | inr past ↦ past_share setup events k (length events) past
]
