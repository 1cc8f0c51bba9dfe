-- What a module's book keeps is legal: it leaves behind what the events leave behind, position by position.
use Rattle.std.proofs.Common.{◌≡◌, ℕ, zero, suc, ◌+◌, ◌-◌, ◌<◌, ◌≤◌, Bool, true, false, List, [], ◌∷◌, ◌++◌, length, max, take, drop, slice_get, nat_lt, Option, None, Some, is_some, IsSome, option_map, inl, inr, refl, ap, sym, subst, ◌∙◌, arith}
use Rattle.std.specs.List.{flat_map, range_with_len}
use Rattle.std.proofs.lemmas.Bool.{cases_Bool, cond-true, cond-false, ltb-true, ltb-false, false≢true}
use Rattle.std.proofs.lemmas.List.{length-append, map-append, take_all, take_more, take-append-drop, length-take-le, append-nil, append_assoc}
use Rattle.std.proofs.lemmas.Option.{slice_get_within, get_or_from_slice_get, slice_get-map}
use Rattle.std.proofs.lemmas.Grind.{flat_map-append}
use Rattle.m17_values.specs.declared.member.Member.{Member}
use Rattle.m17_stream.specs.declared.packet.StreamPacket.{StreamPacket}
use Rattle.m17_control.specs.declared.event.Body.{Body}
use Rattle.m17_control.specs.declared.event.Body.TheVariants.{Join, Leave, Packet, Reply, Tick, Stop}
use Rattle.m17_control.specs.declared.event.Event.{Event}
use Rattle.m17_floor.specs.declared.act.Act.{Act}
use Rattle.m17_floor.specs.declared.act.ActKind.TheVariants as act
use Rattle.m17_floor.specs.declared.rule.Rule.{Rule}
use Rattle.m17_floor.specs.declared.rule.Rule.TheVariants as rules
use Rattle.m17_floor.specs.declared.verdict.Verdict.{Verdict}
use Rattle.m17_floor.specs.Acts.{with_act, kind_at, greatest_moment, moment_before, moment_at, is_same, joined_at}
use Rattle.m17_floor.specs.Floor.{listens, verdict_at}
use Rattle.m17_floor.specs.StandsFor.{its_join, packet_act, join_act, leave_act, KeepsStanding}
use Rattle.m17_floor.specs.Laws.{LaterActsChangeNoVerdict, LaterActsChangeNoMembership, MomentAfterOneMore, OneMemberAtAPlace, OtherActsChangeNothing, LeavesOfStrangersChangeNothing, JoinsPastThePlacesChangeNothing}
use Rattle.m17_floor.specs.Legal.{KeptAct, book_places, book_setup, acts_in, moment_written, IsLegal}
use Rattle.m17_floor.specs.Alike.{stay_of, BreaksNext, LeaveTheSame}
use Rattle.m17_floor.specs.LegalLaws.{BreachesAreInTheList, LegalWithOneMore, BreachByWhatIsLeft, StayOfOneMore, VerdictByWhatIsLeft, NothingLeavesTheSame, SameWithoutIdleActs, SameAfterJoins, SameAfterReplacements, SameAfterLeaves, SameAfterPackets}
use Rattle.m17_module.specs.Setup.{Setup, floor_setup}
use Rattle.m17_module.specs.declared.seat.Seat.{Seat}
use Rattle.m17_module.specs.Events.{act_of, acts_of, kind_of}
use Rattle.m17_module.specs.Seats.{seats_at, seat_in, if_of, seat_of}
use Rattle.m17_module.specs.Book.{leave_kept, kept_by, keeping_at, kept_from, kept_at, kept_of, RecordsAreLegal}
use Rattle.m17_module.proofs.ItemsMore.{range_more}
use Rattle.m17_module.proofs.PeopleMore.{place_there, seat_of_is}
use Rattle.m17_module.proofs.SeatsMore.{is_same_self, IsIn, seat_is_in, HasSeat, joined_has_seat, length_seats, seats_at_is}

-- What the floor's laws say of all lists of acts.
pub record FloorLaws : Type 0 where
  pub verdicts : LaterActsChangeNoVerdict
  pub members : LaterActsChangeNoMembership
  pub moments : MomentAfterOneMore
  pub one_at_a_place : OneMemberAtAPlace
  pub others : OtherActsChangeNothing
  pub strangers : LeavesOfStrangersChangeNothing
  pub past : JoinsPastThePlacesChangeNothing
  pub within : BreachesAreInTheList
  pub one_more : LegalWithOneMore
  pub next : BreachByWhatIsLeft
  pub stays : StayOfOneMore
  pub verdict : VerdictByWhatIsLeft
  pub nothing : NothingLeavesTheSame
  pub idle : SameWithoutIdleActs
  pub joins : SameAfterJoins
  pub replacements : SameAfterReplacements
  pub leaves : SameAfterLeaves
  pub packets : SameAfterPackets

-- What is kept is legal, and none of it is later than this moment.
record Fits (limit : ℕ) (kept : List KeptAct) (now : ℕ) : Type 0 where
  legal : IsLegal limit kept
  last : moment_written (acts_in kept) (length (acts_in kept) - 1) ≤ now
  greatest : moment_before (acts_in kept) (length (acts_in kept)) ≤ now

fits_later : (limit : ℕ) (kept : List KeptAct) (now later : ℕ) → now ≤ later → Fits limit kept now → Fits limit kept later
fits_later limit kept now later h fits = record { legal = fits.legal; last = omega (arith, fits.last); greatest = omega (arith, fits.greatest) }

acts_more : (kept : List KeptAct) (one : KeptAct) → acts_in (kept ++ one ∷ []) ≡ with_act (acts_in kept) one.act
acts_more kept one = map-append (λ (x : KeptAct). x.act) kept (one ∷ [])

last_written : (acts : List Act) (act : Act) → moment_written (with_act acts act) (length acts) ≡ act.at
last_written [] act = refl
last_written (one ∷ acts) act = last_written acts act

-- one act more, at this moment, that breaks neither of the other rules
fits_more : FloorLaws → (limit : ℕ) (kept : List KeptAct) (one : KeptAct) (now : ℕ) → one.act.at ≡ now → (BreaksNext limit (acts_in kept) one rules.Member → ⊥) → (BreaksNext limit (acts_in kept) one rules.Verdict → ⊥) → Fits limit kept now → Fits limit (kept ++ one ∷ []) now
fits_more laws limit kept one now at member verdict fits =
    let acts : List Act = acts_in kept in
    let keeps : (rule : Rule) → BreaksNext limit acts one rule → ⊥ = λ rule. elim rule as (λ r. BreaksNext limit acts one r → ⊥) [
      | rules.Moment ↦ λ b. omega (arith, b.1, fits.last)
      | rules.Member ↦ member
      | rules.Verdict ↦ verdict
    ] in
    let longer : acts_in (kept ++ one ∷ []) ≡ with_act acts one.act = acts_more kept one in
    let place : length (with_act acts one.act) - 1 ≡ length acts = omega (arith, length-append acts (one.act ∷ [])) in
    let P : List Act → Type 0 = λ xs. (moment_written xs (length xs - 1) ≤ now) × (moment_before xs (length xs) ≤ now) in
    let last : moment_written (with_act acts one.act) (length (with_act acts one.act) - 1) ≡ now = ap (moment_written (with_act acts one.act)) place ∙ last_written acts one.act ∙ at in
    let greatest : moment_before (with_act acts one.act) (length (with_act acts one.act)) ≡ max (moment_before acts (length acts)) one.act.at = laws.moments acts one.act in
    let both : P (acts_in (kept ++ one ∷ [])) = subst P (sym longer) (omega arith, omega (arith, fits.greatest)) in
    record {
      legal = laws.one_more limit kept one fits.legal (λ rule b. keeps rule ((laws.next limit kept one rule).0 b));
      last = both.0;
      greatest = both.1;
    }

-- The kept acts stand for the acts up to here.
record StandsIn (setup : Setup) (acts : List Act) (kept : List KeptAct) (now : ℕ) : Type 0 where
  fits : Fits setup.limit kept now
  same : LeaveTheSame (floor_setup setup) acts (book_setup setup.limit) (acts_in kept)

some_mapped : (o : Option ℕ) (f : ℕ → Bool) → is_some (option_map f o) ≡ is_some o
some_mapped None f = refl
some_mapped (Some j) f = refl

-- who is in, by what is left of it
stay_is : (places : ℕ) (acts : List Act) (m : Member) → is_some (stay_of places acts m) ≡ is_some (its_join places acts m)
unfolding stay_of
stay_is places acts m = some_mapped (its_join places acts m) (λ j. listens (kind_at acts j))

-- who is in before a position
join_is : FloorLaws → (places : ℕ) (acts : List Act) (n : ℕ) (m : Member) → n ≤ length acts → its_join places (take n acts) m ≡ joined_at places acts m n
join_is laws places acts n m h =
    let front : List Act = take n acts in
    let size : length front ≡ n = length-take-le n acts h in
    ap (joined_at places front m) size
    ∙ sym (laws.members places front (drop n acts) m n (omega arith))
    ∙ ap (λ xs. joined_at places xs m n) (take-append-drop n acts)

whole_moment : (acts : List Act) → moment_before acts (length acts) ≡ greatest_moment acts
whole_moment acts = ap greatest_moment (take_all (length acts) acts (omega arith))

-- one act more of the list
act_more : (acts : List Act) (n : ℕ) (one : Act) → slice_get acts n ≡ Some one → take (suc n) acts ≡ with_act (take n acts) one
act_more acts n one is =
    let h : n < length acts = slice_get_within acts n one is in
    let next : n + 1 ≡ suc n = omega arith in
    ap (λ m. take m acts) (sym next) ∙ take_more acts n one h ∙ ap (λ x. take n acts ++ x ∷ []) (get_or_from_slice_get acts n one one is)

moment_more : FloorLaws → (acts : List Act) (n : ℕ) (one : Act) → slice_get acts n ≡ Some one → moment_at acts n ≡ max (moment_before acts n) one.at
moment_more laws acts n one is =
    let front : List Act = take n acts in
    ap greatest_moment (act_more acts n one is)
    ∙ sym (whole_moment (with_act front one))
    ∙ laws.moments front one
    ∙ ap (λ m. max m one.at) (whole_moment front)

verdict_here : FloorLaws → (setup : Setup) (acts : List Act) (n : ℕ) (one : Act) → slice_get acts n ≡ Some one → verdict_at (floor_setup setup) acts n ≡ verdict_at (floor_setup setup) (with_act (take n acts) one) (length (take n acts))
verdict_here laws setup acts n one is =
    let h : n < length acts = slice_get_within acts n one is in
    let front : List Act = take (suc n) acts in
    let size : length front ≡ suc n = length-take-le (suc n) acts (omega arith) in
    let place : n ≡ length (take n acts) = sym (length-take-le n acts (omega arith)) in
    ap (λ xs. verdict_at (floor_setup setup) xs n) (sym (take-append-drop (suc n) acts))
    ∙ laws.verdicts (floor_setup setup) front (drop (suc n) acts) n (omega arith)
    ∙ ap (λ xs. verdict_at (floor_setup setup) xs n) (act_more acts n one is)
    ∙ ap (verdict_at (floor_setup setup) (with_act (take n acts) one)) place

-- who is in by the list of seats, and who is in at a place
seat_here : (places : ℕ) (events : List Event) (n q : ℕ) (seat : Seat) → seat_in (seats_at places events n) q ≡ Some seat → IsIn places events n q seat
seat_here places events n q seat e =
    let h : q < length (seats_at places events n) = place_there (seats_at places events n) q seat e in
    seat_is_in places events n q seat (sym (seats_at_is places events n q (omega (arith, length_seats places events n))) ∙ e)

is_some_from : (o : Option ℕ) (x : ℕ) → o ≡ Some x → IsSome o
is_some_from None x e = cc
is_some_from (Some y) x e = refl

none_from : (o : Option ℕ) → ((x : ℕ) → o ≡ Some x → ⊥) → o ≡ None
none_from None h = refl
none_from (Some x) h = absurd (h x refl)

some_of : (o : Option ℕ) → IsSome o → (x : ℕ) × (o ≡ Some x)
some_of None is = absurd (false≢true is)
some_of (Some x) is = (x, refl)

free_here : (places : ℕ) (events : List Event) (n q : ℕ) (m : Member) → seat_in (seats_at places events n) q ≡ None → m.place ≡ q → joined_at places (acts_of events) m n ≡ None
free_here places events n q m free at = none_from _ (λ j e.
    let has : HasSeat places events n m = joined_has_seat places events n m j e in
    let there : seat_in (seats_at places events n) m.place ≡ Some has.seat = seats_at_is places events n m.place has.below ∙ has.is in
    let never : None ≡ Some has.seat = sym free ∙ ap (seat_in (seats_at places events n)) (sym at) ∙ there in
    cc)

-- one without a seat isn't in
out_here : (places : ℕ) (events : List Event) (n : ℕ) (m : Member) → seat_of (seats_at places events n) m ≡ None → joined_at places (acts_of events) m n ≡ None
out_here places events n m out = none_from _ (λ j e.
    let has : HasSeat places events n m = joined_has_seat places events n m j e in
    let there : seat_in (seats_at places events n) m.place ≡ Some has.seat = seats_at_is places events n m.place has.below ∙ has.is in
    let mine : is_same has.seat.member m ≡ true = ap (λ x. is_same x m) has.mine ∙ is_same_self m in
    let is : seat_of (seats_at places events n) m ≡ Some has.seat = ap (λ o. if_of m o) there ∙ cond-true (is_same has.seat.member m) (Some has.seat) None mine in
    let never : None ≡ Some has.seat = sym out ∙ is in
    cc)

later : (setup : Setup) (acts : List Act) (kept : List KeptAct) (now after : ℕ) → now ≤ after → StandsIn setup acts kept now → StandsIn setup acts kept after
later setup acts kept now after h stands = record { fits = fits_later setup.limit kept now after h stands.fits; same = stands.same }

-- an act that changes nothing is not kept
idle_step : FloorLaws → (setup : Setup) (front : List Act) (one : Act) (kept : List KeptAct) (now : ℕ) → KeepsStanding (floor_setup setup) front (with_act front one) → StandsIn setup front kept now → StandsIn setup (with_act front one) (kept ++ []) now
idle_step laws setup front one kept now keeps stands =
    let P : List KeptAct → Type 0 = λ xs. StandsIn setup (with_act front one) xs now in
    subst P (sym (append-nil kept)) (record { fits = stands.fits; same = laws.idle (floor_setup setup) front one (book_setup setup.limit) (acts_in kept) keeps stands.same })

-- a Leave, a Join and a packet as they are kept
abbrev leave_one : ℕ → Member → KeptAct
leave_one now k = record { act = leave_act now k; verdict = None }

abbrev join_one : ℕ → Member → Bool → KeptAct
join_one now k only = record { act = join_act now k only; verdict = None }

abbrev packet_one : ℕ → Member → StreamPacket → Option Verdict → KeptAct
packet_one now k p verdict = record { act = packet_act now k p; verdict = verdict }

-- who is in by the events is in by what is kept
in_kept : (setup : Setup) (front : List Act) (kept : List KeptAct) (k : Member) → LeaveTheSame (floor_setup setup) front (book_setup setup.limit) (acts_in kept) → is_some (stay_of book_places (acts_in kept) k) ≡ is_some (its_join setup.places front k)
in_kept setup front kept k same = ap (λ o. is_some o) (sym (same.stays k)) ∙ stay_is setup.places front k

leave_fits : FloorLaws → (setup : Setup) (front : List Act) (kept : List KeptAct) (now : ℕ) (k : Member) → IsSome (its_join setup.places front k) → StandsIn setup front kept now → Fits setup.limit (kept ++ leave_one now k ∷ []) now
leave_fits laws setup front kept now k is stands =
    fits_more laws setup.limit kept (leave_one now k) now refl (λ out. out (in_kept setup front kept k stands.same ∙ is)) (λ b. b) stands.fits

leave_step : FloorLaws → (setup : Setup) (front : List Act) (at : ℕ) (kept : List KeptAct) (now : ℕ) (k : Member) → IsSome (its_join setup.places front k) → StandsIn setup front kept now → StandsIn setup (with_act front (leave_act at k)) (kept ++ leave_one now k ∷ []) now
leave_step laws setup front at kept now k is stands =
    let P : List Act → Type 0 = λ xs. LeaveTheSame (floor_setup setup) (with_act front (leave_act at k)) (book_setup setup.limit) xs in
    record {
      fits = leave_fits laws setup front kept now k is stands;
      same = subst P (sym (acts_more kept (leave_one now k))) (laws.leaves (floor_setup setup) front (book_setup setup.limit) (acts_in kept) at now k stands.same);
    }

join_step : FloorLaws → (setup : Setup) (front : List Act) (at : ℕ) (kept : List KeptAct) (now : ℕ) (k : Member) (only : Bool) → k.place < setup.places → setup.places ≤ book_places → ((m : Member) → m.place ≡ k.place → its_join setup.places front m ≡ None) → StandsIn setup front kept now → StandsIn setup (with_act front (join_act at k only)) (kept ++ join_one now k only ∷ []) now
join_step laws setup front at kept now k only h few free stands =
    let P : List Act → Type 0 = λ xs. LeaveTheSame (floor_setup setup) (with_act front (join_act at k only)) (book_setup setup.limit) xs in
    record {
      fits = fits_more laws setup.limit kept (join_one now k only) now refl
          (λ b. false≢true (ap (λ o. is_some o) (sym (free b.0 b.1)) ∙ sym (in_kept setup front kept b.0 stands.same) ∙ b.2))
          (λ b. b) stands.fits;
      same = subst P (sym (acts_more kept (join_one now k only))) (laws.joins (floor_setup setup) front (book_setup setup.limit) (acts_in kept) at now k only h (omega arith) stands.same);
    }

-- behind the Leave of who was in at a place nobody is in there
freed : FloorLaws → (setup : Setup) (front : List Act) (kept : List KeptAct) (now : ℕ) (m x : Member) (j : ℕ) → its_join setup.places front m ≡ Some j → m.place ≡ x.place → LeaveTheSame (floor_setup setup) front (book_setup setup.limit) (acts_in kept) → is_some (stay_of book_places (with_act (acts_in kept) (leave_act now m)) x) ≡ false
freed laws setup front kept now m x j is same_place same =
    let was : Option Bool = stay_of book_places (acts_in kept) x in
    let nobody : Option Bool = None in
    ap (λ o. is_some o) (laws.stays book_places (acts_in kept) (leave_act now m) x)
    ∙ elim (cases_Bool (is_same m x)) [
      | inl s ↦ ap (λ o. is_some o) (cond-true (is_same m x) nobody was s)
      | inr d ↦
          ap (λ o. is_some o) (cond-false (is_same m x) nobody was d)
          ∙ in_kept setup front kept x same
          ∙ ap (λ o. is_some o)
          (none_from (its_join setup.places front x) (λ i e.
          let one : m ≡ x = laws.one_at_a_place setup.places front (length front) m x j i same_place is e in
          false≢true (sym d ∙ ap (is_same m) (sym one) ∙ is_same_self m)))
    ]

replace_step : FloorLaws → (setup : Setup) (front : List Act) (at : ℕ) (kept : List KeptAct) (now : ℕ) (m k : Member) (only : Bool) (j : ℕ) → k.place < setup.places → setup.places ≤ book_places → m.place ≡ k.place → its_join setup.places front m ≡ Some j → StandsIn setup front kept now → StandsIn setup (with_act front (join_act at k only)) (kept ++ leave_one now m ∷ join_one now k only ∷ []) now
replace_step laws setup front at kept now m k only j h few same_place is stands =
    let gone : List KeptAct = kept ++ leave_one now m ∷ [] in
    let fits : Fits setup.limit gone now = leave_fits laws setup front kept now m (is_some_from (its_join setup.places front m) j is) stands in
    let first : acts_in gone ≡ with_act (acts_in kept) (leave_act now m) = acts_more kept (leave_one now m) in
    let both : acts_in (gone ++ join_one now k only ∷ []) ≡ with_act (with_act (acts_in kept) (leave_act now m)) (join_act now k only) =
    acts_more gone (join_one now k only) ∙ ap (λ xs. with_act xs (join_act now k only)) first in
    let P : List Act → Type 0 = λ xs. LeaveTheSame (floor_setup setup) (with_act front (join_act at k only)) (book_setup setup.limit) xs in
    let Q : List KeptAct → Type 0 = λ xs. StandsIn setup (with_act front (join_act at k only)) xs now in
    subst Q (append_assoc kept (leave_one now m ∷ []) (join_one now k only ∷ []))
    (record {
      fits = fits_more laws setup.limit gone (join_one now k only) now refl
          (λ b. false≢true (sym (freed laws setup front kept now m b.0 j is (same_place ∙ sym b.1) stands.same) ∙ ap (λ xs. is_some (stay_of book_places xs b.0)) (sym first) ∙ b.2))
          (λ b. b) fits;
      same = subst P (sym both) (laws.replacements (floor_setup setup) front (book_setup setup.limit) (acts_in kept) at now now m k only h (omega arith) same_place stands.same);
    })

packet_step : FloorLaws → (setup : Setup) (front : List Act) (at : ℕ) (kept : List KeptAct) (now : ℕ) (k : Member) (p : StreamPacket) (verdict : Option Verdict) → now ≡ max (moment_before front (length front)) at → verdict ≡ verdict_at (floor_setup setup) (with_act front (packet_act at k p)) (length front) → StandsIn setup front kept now → StandsIn setup (with_act front (packet_act at k p)) (kept ++ packet_one now k p verdict ∷ []) now
packet_step laws setup front at kept now k p verdict moment ruled stands =
    let acts : List Act = acts_in kept in
    let together : max (moment_before front (length front)) at ≡ max (moment_before acts (length acts)) now = omega (arith, moment, stands.fits.greatest) in
    let both = laws.packets (floor_setup setup) front (book_setup setup.limit) acts at now k p together stands.same in
    let P : List Act → Type 0 = λ xs. LeaveTheSame (floor_setup setup) (with_act front (packet_act at k p)) (book_setup setup.limit) xs in
    record {
      fits = fits_more laws setup.limit kept (packet_one now k p verdict) now refl (λ b. b) (λ differs. differs (ruled ∙ both.1 ∙ laws.verdict (book_setup setup.limit) acts now k p)) stands.fits;
      same = subst P (sym (acts_more kept (packet_one now k p verdict))) both.0;
    }

-- What a position is about, for one event after these: its act, its moment, and who is in before it.
record Here (places : ℕ) (events : List Event) (n : ℕ) (at : ℕ) (body : Body) : Type 0 where
  few : places ≤ book_places
  there : slice_get (acts_of events) n ≡ Some (record { at = at; kind = kind_of body })

-- who leaves, if one does
leave_from : FloorLaws → (setup : Setup) (events : List Event) (n at : ℕ) (k : Member) (kept : List KeptAct) (o : Option Seat) → n ≤ length (acts_of events) → seat_of (seats_at setup.places events n) k ≡ o → StandsIn setup (take n (acts_of events)) kept (moment_at (acts_of events) n) → StandsIn setup (with_act (take n (acts_of events)) (leave_act at k)) (kept ++ leave_kept (moment_at (acts_of events) n) o) (moment_at (acts_of events) n)
leave_from laws setup events n at k kept None h out stands =
    let front : List Act = take n (acts_of events) in
    let gone : its_join setup.places front k ≡ None = join_is laws setup.places (acts_of events) n k h ∙ out_here setup.places events n k out in
    idle_step laws setup front (leave_act at k) kept (moment_at (acts_of events) n) (laws.strangers (floor_setup setup) front at k gone) stands
leave_from laws setup events n at k kept (Some seat) h is stands =
    let front : List Act = take n (acts_of events) in
    let now : ℕ = moment_at (acts_of events) n in
    let parts = seat_of_is (seats_at setup.places events n) k seat is in
    let here : IsIn setup.places events n k.place seat = seat_here setup.places events n k.place seat parts.0 in
    let there : its_join setup.places front k ≡ Some here.position = join_is laws setup.places (acts_of events) n k h ∙ ap (λ m. joined_at setup.places (acts_of events) m n) (sym parts.1) ∙ here.joined in
    let P : Member → Type 0 = λ m. StandsIn setup (with_act front (leave_act at k)) (kept ++ leave_one now m ∷ []) now in
    subst P (sym parts.1) (leave_step laws setup front at kept now k (is_some_from (its_join setup.places front k) here.position there) stands)

join_from : FloorLaws → (setup : Setup) (events : List Event) (n at : ℕ) (k : Member) (only : Bool) (kept : List KeptAct) (o : Option Seat) → setup.places ≤ book_places → k.place < setup.places → n ≤ length (acts_of events) → seat_in (seats_at setup.places events n) k.place ≡ o → StandsIn setup (take n (acts_of events)) kept (moment_at (acts_of events) n) →
    StandsIn setup (with_act (take n (acts_of events)) (join_act at k only)) (kept ++ (leave_kept (moment_at (acts_of events) n) o ++ join_one (moment_at (acts_of events) n) k only ∷ [])) (moment_at (acts_of events) n)
join_from laws setup events n at k only kept None few below h free stands =
    let front : List Act = take n (acts_of events) in
    join_step laws setup front at kept (moment_at (acts_of events) n) k only below few
    (λ m e. join_is laws setup.places (acts_of events) n m h ∙ free_here setup.places events n k.place m free e) stands
join_from laws setup events n at k only kept (Some seat) few below h is stands =
    let front : List Act = take n (acts_of events) in
    let here : IsIn setup.places events n k.place seat = seat_here setup.places events n k.place seat is in
    replace_step laws setup front at kept (moment_at (acts_of events) n) seat.member k only here.position below few here.place
    (join_is laws setup.places (acts_of events) n seat.member h ∙ here.joined) stands

-- One event more.
event_step : FloorLaws → (setup : Setup) (events : List Event) (n at : ℕ) (kept : List KeptAct) (body : Body) → setup.places ≤ book_places → slice_get (acts_of events) n ≡ Some (record { at = at; kind = kind_of body }) → StandsIn setup (take n (acts_of events)) kept (moment_at (acts_of events) n) →
    StandsIn setup (with_act (take n (acts_of events)) (record { at = at; kind = kind_of body })) (kept ++ kept_by (keeping_at setup events n) body) (moment_at (acts_of events) n)
event_step laws setup events n at kept (Join k peer callsign only after) few is stands =
    let front : List Act = take n (acts_of events) in
    let now : ℕ = moment_at (acts_of events) n in
    let h : n < length (acts_of events) = slice_get_within (acts_of events) n _ is in
    let some : List KeptAct = leave_kept now (seat_in (seats_at setup.places events n) k.place) ++ join_one now k only ∷ [] in
    let none : List KeptAct = [] in
    let P : List KeptAct → Type 0 = λ xs. StandsIn setup (with_act front (join_act at k only)) (kept ++ xs) now in
    elim (cases_Bool (nat_lt k.place setup.places)) [
      | inl b ↦ subst P (sym (cond-true (nat_lt k.place setup.places) some none b))
          (join_from laws setup events n at k only kept (seat_in (seats_at setup.places events n) k.place) few (ltb-true k.place setup.places b) (omega arith) refl stands)
      | inr b ↦ subst P (sym (cond-false (nat_lt k.place setup.places) some none b))
          (idle_step laws setup front (join_act at k only) kept now (laws.past (floor_setup setup) front at k only (ltb-false k.place setup.places b)) stands)
    ]
event_step laws setup events n at kept (Leave k why) few is stands =
    let h : n < length (acts_of events) = slice_get_within (acts_of events) n _ is in
    leave_from laws setup events n at k kept (seat_of (seats_at setup.places events n) k) (omega arith) refl stands
event_step laws setup events n at kept (Packet k p) few is stands =
    let front : List Act = take n (acts_of events) in
    let moment : moment_at (acts_of events) n ≡ max (moment_before front (length front)) at =
    moment_more laws (acts_of events) n (packet_act at k p) is ∙ ap (λ m. max m at) (sym (whole_moment front)) in
    packet_step laws setup front at kept (moment_at (acts_of events) n) k p (verdict_at (floor_setup setup) (acts_of events) n) moment
    (verdict_here laws setup (acts_of events) n (packet_act at k p) is) stands
event_step laws setup events n at kept (Reply k control) few is stands =
    idle_step laws setup (take n (acts_of events)) (record { at = at; kind = act.Other }) kept (moment_at (acts_of events) n) (laws.others (floor_setup setup) (take n (acts_of events)) (record { at = at; kind = act.Other }) refl) stands
event_step laws setup events n at kept Tick few is stands =
    idle_step laws setup (take n (acts_of events)) (record { at = at; kind = act.Other }) kept (moment_at (acts_of events) n) (laws.others (floor_setup setup) (take n (acts_of events)) (record { at = at; kind = act.Other }) refl) stands
event_step laws setup events n at kept Stop few is stands =
    idle_step laws setup (take n (acts_of events)) (record { at = at; kind = act.Other }) kept (moment_at (acts_of events) n) (laws.others (floor_setup setup) (take n (acts_of events)) (record { at = at; kind = act.Other }) refl) stands

-- what is kept of the first positions
abbrev kept_before : Setup → List Event → ℕ → List KeptAct
kept_before setup events n = flat_map (kept_at setup events) (range_with_len 0 n)

single : {X : Type 0} (f : ℕ → List X) (n : ℕ) → flat_map f (n ∷ []) ≡ f n
single f n = append-nil (f n)

kept_next : (setup : Setup) (events : List Event) (n : ℕ) (event : Event) → slice_get events n ≡ Some event → kept_before setup events (suc n) ≡ kept_before setup events n ++ kept_by (keeping_at setup events n) event.body
unfolding kept_at
kept_next setup events n event is =
    let at : 0 + n ≡ n = omega arith in
    ap (flat_map (kept_at setup events)) (range_more 0 n)
    ∙ flat_map-append (kept_at setup events) (range_with_len 0 n) ((0 + n) ∷ [])
    ∙ ap (λ m. kept_before setup events n ++ flat_map (kept_at setup events) (m ∷ [])) at
    ∙ ap (λ xs. kept_before setup events n ++ xs) (single (kept_at setup events) n ∙ ap (kept_from setup events n) is)

some_event : (events : List Event) (n : ℕ) → n < length events → (event : Event) × (slice_get events n ≡ Some event)
some_event [] n h = absurd (omega arith)
some_event (event ∷ events) zero h = (event, refl)
some_event (event ∷ events) (suc n) h = some_event events n (omega arith)

-- What is kept of the first positions stands for the first acts.
stands_along : FloorLaws → (setup : Setup) (events : List Event) (n : ℕ) → setup.places ≤ book_places → n ≤ length events → StandsIn setup (take n (acts_of events)) (kept_before setup events n) (moment_before (acts_of events) n)
stands_along laws setup events zero few h = record {
  fits = record { legal = λ n rule b. omega (arith, laws.within setup.limit [] n rule b); last = omega arith; greatest = omega arith };
  same = laws.nothing (floor_setup setup) (book_setup setup.limit) refl;
}
stands_along laws setup events (suc n) few h =
    let found = some_event events n (omega arith) in
    let event : Event = found.0 in
    let there : slice_get (acts_of events) n ≡ Some (act_of event) = slice_get-map act_of events n ∙ ap (option_map act_of) found.1 in
    let kept : List KeptAct = kept_before setup events n in
    let now : ℕ = moment_at (acts_of events) n in
    let before : StandsIn setup (take n (acts_of events)) kept (moment_before (acts_of events) n) = stands_along laws setup events n few (omega arith) in
    let rising : moment_before (acts_of events) n ≤ now = omega (arith, moment_more laws (acts_of events) n (act_of event) there) in
    let step : StandsIn setup (with_act (take n (acts_of events)) (act_of event)) (kept ++ kept_by (keeping_at setup events n) event.body) now =
    event_step laws setup events n event.at kept event.body few there (later setup (take n (acts_of events)) kept (moment_before (acts_of events) n) now rising before) in
    let P : List KeptAct → Type 0 = λ xs. StandsIn setup (take (suc n) (acts_of events)) xs now in
    let Q : List Act → Type 0 = λ xs. StandsIn setup xs (kept ++ kept_by (keeping_at setup events n) event.body) now in
    subst P (sym (kept_next setup events n event found.1)) (subst Q (sym (act_more (acts_of events) n (act_of event) there)) step)

pub records_legal : FloorLaws → RecordsAreLegal
unfolding kept_of
records_legal laws setup events few = (stands_along laws setup events (length events) few (omega arith)).fits.legal
