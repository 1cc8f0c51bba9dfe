-- A Join, as the last act of a list; and who is in at one place.
use Rattle.std.proofs.Common.{◌≡◌, ℕ, ◌<◌, ◌≤◌, ◌==◌, ◌&&◌, Bool, true, false, not, cond, List, length, Option, None, Some, nat_lt, IsSome, inl, inr, refl, ap, sym, ◌∙◌, arith}
use Rattle.std.proofs.lemmas.Bool.{cases_Bool, cond-true, eq-eqb, eqb-true, lt-ltb, and_from, false_from_ne_true, false≢true}
use Rattle.std.proofs.lemmas.Option.{cond_some}
use Rattle.std.specs.Option.{option_and_then}
use Rattle.m17_values.specs.declared.member.Member.{Member}
use Rattle.m17_floor.specs.declared.act.Act.{Act}
use Rattle.m17_floor.specs.declared.act.ActKind.{ActKind}
use Rattle.m17_floor.specs.declared.act.ActKind.TheVariants.{Join, Leave, Packet, Other}
use Rattle.m17_lookup.specs.Lookup.{last_below}
use Rattle.m17_floor.specs.Acts.{with_act, kind_at, is_same, is_join_of, settles, joined_at, IsMember}
use Rattle.m17_floor.specs.Setup.{FloorSetup}
use Rattle.m17_floor.specs.Rule.{Frame, FloorState, only_if}
use Rattle.m17_floor.specs.Floor.{floor_frame, own_frame, listens}
use Rattle.m17_floor.specs.StandsFor.{past_of, MaySpeak, without, FloorStandsFor, join_act, leave_act}
use Rattle.m17_floor.proofs.Frames.{leaves_in}
use Rattle.m17_floor.proofs.InRule.{floor_is_in}
use Rattle.m17_lookup.proofs.LastBelow.{last_below_ge, last_below_lt, some_from_cond}
use Rattle.m17_floor.proofs.Members.{is_same_self, is_same_from, same_from_is_same}
use Rattle.m17_floor.proofs.OneMore.{kind_end, membership_more}
use Rattle.m17_floor.proofs.Standing.{state, no_packet_admitted, floor_more, floor_same, own_more_settled}

pub joined_speaks : (setup : FloorSetup) (acts : List Act) (k : Member) (at : ℕ) → k.place < setup.places → MaySpeak setup (with_act acts (join_act at k false)) k
joined_speaks setup acts k at h =
    let act : Act = join_act at k false in
    let n : ℕ = length acts in
    let here : (is_same k k && nat_lt k.place setup.places) ≡ true = and_from _ _ (is_same_self k) (lt-ltb _ _ h) in
    let place : (k.place == k.place) ≡ true = eq-eqb k.place k.place refl in (
      n,
      membership_more setup.places acts act k
          ∙ cond-true (k.place == k.place) (cond (is_same k k && nat_lt k.place setup.places) (Some n) None) (joined_at setup.places acts k n) place
          ∙ cond-true (is_same k k && nat_lt k.place setup.places) (Some n) None here,
      ap listens (kind_end acts act),
    )

-- Nothing is kept of one that has just joined.
pub joined_anew : (setup : FloorSetup) (acts : List Act) (at : ℕ) (k : Member) (only : Bool) → own_frame (past_of setup (with_act acts (join_act at k only))) k ≡ None
joined_anew setup acts at k only = own_more_settled setup acts (join_act at k only) k (eq-eqb k.place k.place refl)

-- a Join at a place where nobody is in
pub join_free : (setup : FloorSetup) (acts : List Act) (at : ℕ) (m : Member) (only : Bool) (floor : FloorState) → ((k : Member) → k.place ≡ m.place → joined_at setup.places acts k (length acts) ≡ None) → FloorStandsFor setup acts floor → FloorStandsFor setup (with_act acts (join_act at m only)) floor
join_free setup acts at m only floor nobody stands =
    let act : Act = join_act at m only in
    stands ∙ ap (state setup.limit) (sym (floor_same setup acts act (no_packet_admitted setup acts act refl) (λ k s. nobody k (sym (eqb-true m.place k.place s)))))

-- the position of a member's Join
pub record IsJoined (acts : List Act) (k : Member) (n j : ℕ) : Type 0 where
  pub last : last_below (λ i. settles k (kind_at acts i)) n ≡ Some j
  pub join : is_join_of k (kind_at acts j) ≡ true

join_found : (acts : List Act) (k : Member) (n j : ℕ) (o : Option ℕ) → last_below (λ i. settles k (kind_at acts i)) n ≡ o → option_and_then (λ i. cond (is_join_of k (kind_at acts i)) (Some i) None) o ≡ Some j → IsJoined acts k n j
join_found acts k n j None is e = cc
join_found acts k n j (Some i) is e =
    let parts = cond_some (is_join_of k (kind_at acts i)) i j e in
    record { last = is ∙ ap Some parts.1; join = ap (λ x. is_join_of k (kind_at acts x)) (sym parts.1) ∙ parts.0 }

pub joined_from : (places : ℕ) (acts : List Act) (k : Member) (n j : ℕ) → joined_at places acts k n ≡ Some j → IsJoined acts k n j
unfolding joined_at
joined_from places acts k n j e = join_found acts k n j (last_below (λ i. settles k (kind_at acts i)) n) refl (some_from_cond (nat_lt k.place places) _ j e)

-- a Join at a place decides of each member of that place
join_settles : (k m : Member) (kind : ActKind) → k.place ≡ m.place → is_join_of k kind ≡ true → settles m kind ≡ true
join_settles k m (Join x only) same h = let e : x ≡ k = same_from_is_same x k h in eq-eqb x.place m.place (ap (λ (y : Member). y.place) e ∙ same)
join_settles k m (Leave x) same h = cc
join_settles k m (Packet x p) same h = cc
join_settles k m Other same h = cc

one_join : (k m : Member) (kind : ActKind) → is_join_of k kind ≡ true → is_join_of m kind ≡ true → k ≡ m
one_join k m (Join x only) h g = sym (same_from_is_same x k h) ∙ same_from_is_same x m g
one_join k m (Leave x) h g = cc
one_join k m (Packet x p) h g = cc
one_join k m Other h g = cc

-- At each place at most one member is in.
pub one_at_a_place : (places : ℕ) (acts : List Act) (n : ℕ) (k m : Member) (i j : ℕ) → k.place ≡ m.place → joined_at places acts k n ≡ Some i → joined_at places acts m n ≡ Some j → k ≡ m
one_at_a_place places acts n k m i j same e f =
    let mine : IsJoined acts k n i = joined_from places acts k n i e in
    let its : IsJoined acts m n j = joined_from places acts m n j f in
    let first : i ≤ j = last_below_ge _ n j i its.last (join_settles k m (kind_at acts i) same mine.join) (last_below_lt _ n i mine.last) in
    let second : j ≤ i = last_below_ge _ n i j mine.last (join_settles m k (kind_at acts j) (sym same) its.join) (last_below_lt _ n j its.last) in
    let one : i ≡ j = omega arith in
    one_join k m (kind_at acts j) (ap (λ x. is_join_of k (kind_at acts x)) (sym one) ∙ mine.join) its.join

-- A floor that has learned of a Leave.
pub left_stands : (setup : FloorSetup) (acts : List Act) (at : ℕ) (m : Member) (floor : FloorState) → FloorStandsFor setup acts floor → FloorStandsFor setup (with_act acts (leave_act at m)) (without m floor)
left_stands setup acts at m floor stands =
    let act : Act = leave_act at m in
    ap (without m) stands ∙ ap (state setup.limit) (sym (floor_more setup acts act (no_packet_admitted setup acts act refl)))

only_if_same : (p q : Frame → Bool) (o : Option Frame) → ((f : Frame) → o ≡ Some f → p f ≡ q f) → only_if p o ≡ only_if q o
only_if_same p q None h = refl
only_if_same p q (Some f) h = ap (λ b. cond b (Some f) None) (h f refl)

taken_from : (setup : FloorSetup) (acts : List Act) (at : ℕ) (m k : Member) (only : Bool) (o : Option ℕ) (floor : FloorState) → joined_at setup.places acts m (length acts) ≡ o → IsSome o → k.place ≡ m.place → FloorStandsFor setup acts floor → FloorStandsFor setup (with_act acts (join_act at k only)) (without m floor)
taken_from setup acts at m k only None floor e is_in same stands = absurd (false≢true is_in)
taken_from setup acts at m k only (Some j) floor e is_in same stands =
    let act : Act = join_act at k only in
    ap (without m) stands
    ∙ ap (state setup.limit)
    (only_if_same (λ f. not (is_same m f.member)) (leaves_in act.kind) (floor_frame (past_of setup acts))
    (λ f g.
    let its = floor_is_in (past_of setup acts) f g in
    elim (cases_Bool (k.place == f.member.place)) [
      | inl here ↦ let one : m ≡ f.member = one_at_a_place setup.places acts (length acts) m f.member j its.0 (sym same ∙ eqb-true k.place f.member.place here) e its.1 in ap not (is_same_from m f.member one ∙ sym here)
      | inr other ↦
          let differs : is_same m f.member ≡ false = false_from_ne_true (is_same m f.member) (λ s. let one : m ≡ f.member = same_from_is_same m f.member s in let at_place : (k.place == f.member.place) ≡ true = eq-eqb k.place f.member.place (same ∙ ap (λ (x : Member). x.place) one) in cc) in
          ap not (differs ∙ sym other)
    ])
    ∙ sym (floor_more setup acts act (no_packet_admitted setup acts act refl)))

-- A floor that has learned that a member's place is taken.
pub taken_stands : (setup : FloorSetup) (acts : List Act) (at : ℕ) (m k : Member) (only : Bool) (floor : FloorState) → IsMember setup.places acts m (length acts) → k.place ≡ m.place → FloorStandsFor setup acts floor → FloorStandsFor setup (with_act acts (join_act at k only)) (without m floor)
taken_stands setup acts at m k only floor is_in same stands = taken_from setup acts at m k only (joined_at setup.places acts m (length acts)) floor refl is_in same stands
