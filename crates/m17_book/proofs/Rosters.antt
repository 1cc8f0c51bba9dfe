-- The roster stands for one act more.
use Rattle.std.proofs.Common.{◌≡◌, ◌≢◌, ℕ, ◌<◌, ◌≤◌, ◌==◌, ◌&&◌, Bool, true, false, cond, List, [], length, max, nat_lt, Option, None, Some, is_some, IsSome, option_map, slice_set, inl, inr, refl, ap, sym, subst, ◌∙◌, arith}
use Rattle.std.proofs.Math.Bool.{and-true}
use Rattle.std.proofs.lemmas.Bool.{cases_Bool, cases_eq, cases_lt, cond-true, cond-false, eq-eqb, eqb-true, ne_eqb, le-ltb, lt-ltb, and_left, and_right, false≢true}
use Rattle.std.proofs.lemmas.List.{get_or-set_same, get_or-set_other, get_or_past}
use Rattle.m17_values.specs.declared.member.Member.{Member}
use Rattle.m17_stream.specs.declared.packet.StreamPacket.{StreamPacket}
use Rattle.m17_floor.specs.declared.act.Act.{Act}
use Rattle.m17_floor.specs.declared.verdict.Verdict.{Verdict}
use Rattle.m17_floor.specs.declared.verdict.Verdict.TheVariants.{NotMember, ListenOnly}
use Rattle.m17_floor.specs.Acts.{with_act, kind_at, moment_before, is_same}
use Rattle.m17_floor.specs.Rule.{Frame, FloorState, incoming}
use Rattle.m17_floor.specs.Floor.{listens, floor_frame, own_frame, verdict_at}
use Rattle.m17_floor.specs.StandsFor.{past_of, its_join, FloorStandsFor, OwnStandsFor, MaySpeak, packet_act, join_act, leave_act, KeepsStanding, IsJudged}
use Rattle.m17_floor.specs.Laws.{UnheardPacketsChangeNothing, JoinsPastThePlacesChangeNothing, LeavesLeaveOthers, JoinsLeaveOthers, JoinsAtAFreePlaceLeaveTheFloor}
use Rattle.m17_floor.specs.Legal.{book_places, book_setup}
use Rattle.m17_floor.specs.Alike.{stay_of, verdict_by_stay}
use Rattle.m17_floor.specs.LegalLaws.{StayOfNone, StayOfOneMore, VerdictByWhatIsLeft}
use Rattle.m17_book.specs.declared.stay.Stay.{Stay}
use Rattle.m17_book.specs.Roster.{People, stay_in, last_in, if_of, listens_of, RosterStandsFor}

-- the table with one place changed: there, and at another place
listens_here : (stays : List (Option Stay)) (k x : Member) (o : Option Stay) → k.place ≡ x.place → k.place < length stays → listens_of (slice_set stays k.place o) x ≡ if_of x.generation o
listens_here stays k x o same h = ap (if_of x.generation) (ap (stay_in (slice_set stays k.place o)) (sym same) ∙ get_or-set_same stays k.place o None h)

listens_there : (stays : List (Option Stay)) (k x : Member) (o : Option Stay) → k.place ≢ x.place → listens_of (slice_set stays k.place o) x ≡ listens_of stays x
listens_there stays k x o ne = ap (if_of x.generation) (get_or-set_other stays k.place x.place o None (λ e. ne (sym e)))

last_here : (lasts : List (Option Frame)) (k : Member) (own : Option Frame) → k.place < length lasts → last_in (slice_set lasts k.place own) k.place ≡ own
last_here lasts k own h = get_or-set_same lasts k.place own None h

last_there : (lasts : List (Option Frame)) (k x : Member) (own : Option Frame) → k.place ≢ x.place → last_in (slice_set lasts k.place own) x.place ≡ last_in lasts x.place
last_there lasts k x own ne = get_or-set_other lasts k.place x.place own None (λ e. ne (sym e))

pub nobody_there : (stays : List (Option Stay)) (k x : Member) → stay_in stays k.place ≡ None → k.place ≡ x.place → listens_of stays x ≡ None
nobody_there stays k x free same = ap (if_of x.generation) (ap (stay_in stays) (sym same) ∙ free)

pub none_is_some : (o : Option Bool) → o ≡ None → IsSome o → ⊥
none_is_some o e is = false≢true (sym (ap (λ p. is_some p) e) ∙ is)

-- who is in is at one of the places
pub place_within : (stays : List (Option Stay)) (k : Member) → IsSome (listens_of stays k) → k.place < length stays
place_within stays k is = elim (cases_lt k.place (length stays)) [
  | inl h ↦ h
  | inr g ↦ absurd (none_is_some (listens_of stays k) (ap (if_of k.generation) (get_or_past stays k.place None g)) is)
]

member_is : (k x : Member) → k.place ≡ x.place → k.generation ≡ x.generation → k ≡ x
member_is k x place generation =
    let make : ℕ → ℕ → Member = λ p g. record { place = p; generation = g } in
    ap (λ p. make p k.generation) place ∙ ap (make x.place) generation

-- at a place one generation is in at most
other_out : (o : Option Stay) (g h : ℕ) → IsSome (if_of g o) → g ≢ h → if_of h o ≡ None
other_out None g h is ne = refl
other_out (Some stay) g h is ne = elim (cases_Bool (stay.generation == g)) [
  | inl mine ↦ cond-false (stay.generation == h) (Some stay.listens) None (ne_eqb stay.generation h (λ its. ne (sym (eqb-true stay.generation g mine) ∙ its)))
  | inr away ↦ absurd (none_is_some (cond (stay.generation == g) (Some stay.listens) None) (cond-false (stay.generation == g) (Some stay.listens) None away) is)
]

-- the same member, where both are in at one place
one_in : (stays : List (Option Stay)) (k x : Member) → IsSome (listens_of stays k) → IsSome (listens_of stays x) → k.place ≡ x.place → k ≡ x
one_in stays k x mine its same = elim (cases_eq k.generation x.generation) [
  | inl e ↦ member_is k x same e
  | inr ne ↦ absurd (none_is_some (listens_of stays x)
      (ap (λ p. if_of x.generation (stay_in stays p)) (sym same) ∙ other_out (stay_in stays k.place) k.generation x.generation mine ne) its)
]

generation_is : (k x : Member) (only : Bool) → IsSome (cond (k.generation == x.generation) (Some only) None) → k.generation ≡ x.generation
generation_is k x only is = elim (cases_Bool (k.generation == x.generation)) [
  | inl e ↦ eqb-true k.generation x.generation e
  | inr away ↦ absurd (none_is_some (cond (k.generation == x.generation) (Some only) None) (cond-false (k.generation == x.generation) (Some only) None away) is)
]

none_from_map : (o : Option ℕ) (f : ℕ → Bool) → option_map f o ≡ None → o ≡ None
none_from_map None f e = refl
none_from_map (Some j) f e = cc

-- one of whom nothing is left isn't in
join_none : (acts : List Act) (x : Member) → stay_of book_places acts x ≡ None → its_join book_places acts x ≡ None
unfolding stay_of
join_none acts x e = none_from_map (its_join book_places acts x) (λ j. listens (kind_at acts j)) e

speaks_from : (o : Option ℕ) (f : ℕ → Bool) (b : Bool) → option_map f o ≡ Some b → (j : ℕ) × (o ≡ Some j) × (f j ≡ b)
speaks_from None f b e = cc
speaks_from (Some j) f b e = (j, refl, cc)

join_some : (acts : List Act) (x : Member) (b : Bool) → stay_of book_places acts x ≡ Some b → (j : ℕ) × (its_join book_places acts x ≡ Some j) × (listens (kind_at acts j) ≡ b)
unfolding stay_of
join_some acts x b e = speaks_from (its_join book_places acts x) (λ j. listens (kind_at acts j)) b e

-- where the place is the same, and one of the module's
same_seat : (a b c : Bool) (only : Bool) → a ≡ true → c ≡ true → cond (a && b && c) (Some only) None ≡ cond b (Some only) None
same_seat a b c only ea ec =
    ap (λ v. cond (v && b && c) (Some only) None) ea
    ∙ ap (λ v. cond (b && v) (Some only) None) ec
    ∙ ap (λ v. cond v (Some only) None) (and-true b)

-- A Join at a place where nobody is.
pub join_stands : StayOfOneMore → JoinsLeaveOthers → JoinsAtAFreePlaceLeaveTheFloor → (limit : ℕ) (people : People) (k : Member) (only : Bool) (own : Option Frame) (acts : List Act) (at : ℕ) →
    k.place < length people.stays → k.place < length people.lasts → k.place < book_places → stay_in people.stays k.place ≡ None →
    OwnStandsFor (book_setup limit) (with_act acts (join_act at k only)) k own → RosterStandsFor limit acts people →
    RosterStandsFor limit (with_act acts (join_act at k only)) (record {
      stays = slice_set people.stays k.place (Some (record { generation = k.generation; listens = only }));
      lasts = slice_set people.lasts k.place own;
      floor = people.floor;
    })
join_stands one_more others floor limit people k only own acts at within_stays within_lasts place free own_stands stands =
    let longer : List Act = with_act acts (join_act at k only) in
    let new : Option Stay = Some (record { generation = k.generation; listens = only }) in
    let stays : List (Option Stay) = slice_set people.stays k.place new in
    let lasts : List (Option Frame) = slice_set people.lasts k.place own in
    record {
      stays = λ x. elim (cases_eq k.place x.place) [
        | inl e ↦
            let here : (k.place == x.place) ≡ true = eq-eqb k.place x.place e in
            let there : nat_lt x.place book_places ≡ true = lt-ltb x.place book_places (omega arith) in
            one_more book_places acts (join_act at k only) x
            ∙ cond-true (k.place == x.place) (cond (is_same k x && nat_lt x.place book_places) (Some only) None) (stay_of book_places acts x) here
            ∙ same_seat (k.place == x.place) (k.generation == x.generation) (nat_lt x.place book_places) only here there
            ∙ sym (listens_here people.stays k x new e within_stays)
        | inr ne ↦
            one_more book_places acts (join_act at k only) x
            ∙ cond-false (k.place == x.place) (cond (is_same k x && nat_lt x.place book_places) (Some only) None) (stay_of book_places acts x) (ne_eqb k.place x.place ne)
            ∙ stands.stays x
            ∙ sym (listens_there people.stays k x new ne)
      ];
      owns = λ x is. elim (cases_eq k.place x.place) [
        | inl e ↦
            let same : k ≡ x = member_is k x e (generation_is k x only (ap (λ o. is_some o) (sym (listens_here people.stays k x new e within_stays)) ∙ is)) in
            subst (λ (m : Member). OwnStandsFor (book_setup limit) longer m (last_in lasts m.place)) same (last_here people.lasts k own within_lasts ∙ own_stands)
        | inr ne ↦
            let was : IsSome (listens_of people.stays x) = ap (λ o. is_some o) (sym (listens_there people.stays k x new ne)) ∙ is in
            last_there people.lasts k x own ne
            ∙ (others (book_setup limit) acts at k only x (λ e. ne (sym e))).own (last_in people.lasts x.place) (stands.owns x was)
      ];
      floor = floor (book_setup limit) acts at k only people.floor (λ x e. join_none acts x (stands.stays x ∙ nobody_there people.stays k x free (sym e))) stands.floor;
    }

-- A Join past the places.
pub past_stands : StayOfOneMore → JoinsPastThePlacesChangeNothing → (limit : ℕ) (people : People) (k : Member) (only : Bool) (acts : List Act) (at : ℕ) → book_places ≤ k.place → stay_in people.stays k.place ≡ None → RosterStandsFor limit acts people → RosterStandsFor limit (with_act acts (join_act at k only)) people
past_stands one_more past limit people k only acts at place free stands =
    let keeps : KeepsStanding (book_setup limit) acts (with_act acts (join_act at k only)) = past (book_setup limit) acts at k only place in
    record {
      stays = λ x. elim (cases_eq k.place x.place) [
        | inl e ↦
            let none : Option Bool = None in
            one_more book_places acts (join_act at k only) x
            ∙ cond-true (k.place == x.place) (cond (is_same k x && nat_lt x.place book_places) (Some only) None) (stay_of book_places acts x) (eq-eqb k.place x.place e)
            ∙ cond-false (is_same k x && nat_lt x.place book_places) (Some only) none (and_right (is_same k x) (nat_lt x.place book_places) (le-ltb x.place book_places (omega arith)))
            ∙ sym (nobody_there people.stays k x free e)
        | inr ne ↦
            one_more book_places acts (join_act at k only) x
            ∙ cond-false (k.place == x.place) (cond (is_same k x && nat_lt x.place book_places) (Some only) None) (stay_of book_places acts x) (ne_eqb k.place x.place ne)
            ∙ stands.stays x
      ];
      owns = λ x is. keeps.own x (last_in people.lasts x.place) (stands.owns x is);
      floor = keeps.floor people.floor stands.floor;
    }

-- A Leave of a member that is in.
pub leave_stands : StayOfOneMore → LeavesLeaveOthers → (limit : ℕ) (people : People) (k : Member) (floor : FloorState) (acts : List Act) (at : ℕ) → IsSome (listens_of people.stays k) → FloorStandsFor (book_setup limit) (with_act acts (leave_act at k)) floor → RosterStandsFor limit acts people →
    RosterStandsFor limit (with_act acts (leave_act at k)) (record { stays = slice_set people.stays k.place None; lasts = people.lasts; floor = floor })
leave_stands one_more others limit people k floor acts at mine floor_stands stands =
    let none : Option Stay = None in
    let nothing : Option Bool = None in
    let within : k.place < length people.stays = place_within people.stays k mine in
    record {
      stays = λ x. elim (cases_eq k.place x.place) [
        | inl e ↦
            one_more book_places acts (leave_act at k) x
            ∙ elim (cases_eq k.generation x.generation) [
              | inl same ↦ cond-true (is_same k x) nothing (stay_of book_places acts x) (ap (λ b. b && (k.generation == x.generation)) (eq-eqb k.place x.place e) ∙ eq-eqb k.generation x.generation same)
              | inr ne ↦
                  cond-false (is_same k x) nothing (stay_of book_places acts x) (and_right (k.place == x.place) (k.generation == x.generation) (ne_eqb k.generation x.generation ne))
                  ∙ stands.stays x
                  ∙ ap (λ p. if_of x.generation (stay_in people.stays p)) (sym e)
                  ∙ other_out (stay_in people.stays k.place) k.generation x.generation mine ne
            ]
            ∙ sym (listens_here people.stays k x none e within)
        | inr ne ↦
            one_more book_places acts (leave_act at k) x
            ∙ cond-false (is_same k x) nothing (stay_of book_places acts x) (and_left (k.place == x.place) (k.generation == x.generation) (ne_eqb k.place x.place ne))
            ∙ stands.stays x
            ∙ sym (listens_there people.stays k x none ne)
      ];
      owns = λ x is. elim (cases_eq k.place x.place) [
        | inl e ↦ absurd (none_is_some (listens_of (slice_set people.stays k.place none) x) (listens_here people.stays k x none e within) is)
        | inr ne ↦
            let was : IsSome (listens_of people.stays x) = ap (λ o. is_some o) (sym (listens_there people.stays k x none ne)) ∙ is in
            (others (book_setup limit) acts at k x (λ e. ne (ap (λ (m : Member). m.place) (sym e)))).own (last_in people.lasts x.place) (stands.owns x was)
      ];
      floor = floor_stands;
    }

-- what is known of the sender, as a condition of judging
pub may_speak : (limit : ℕ) (people : People) (k : Member) (acts : List Act) → listens_of people.stays k ≡ Some false → RosterStandsFor limit acts people → MaySpeak (book_setup limit) acts k
may_speak limit people k acts speaks stands = join_some acts k false (stands.stays k ∙ speaks)

-- A packet of one that may speak.
pub speak_stands : StayOfOneMore → (limit : ℕ) (people : People) (k : Member) (p : StreamPacket) (verdict : Verdict) (floor : FloorState) (own : Option Frame) (acts : List Act) (moment : ℕ) → k.place < length people.lasts → listens_of people.stays k ≡ Some false → IsJudged (book_setup limit) acts (packet_act moment k p) k verdict floor own → RosterStandsFor limit acts people →
    RosterStandsFor limit (with_act acts (packet_act moment k p)) (record { stays = people.stays; lasts = slice_set people.lasts k.place own; floor = floor })
speak_stands one_more limit people k p verdict floor own acts moment within speaks judged stands =
    let longer : List Act = with_act acts (packet_act moment k p) in
    let lasts : List (Option Frame) = slice_set people.lasts k.place own in
    record {
      stays = λ x. one_more book_places acts (packet_act moment k p) x ∙ stands.stays x;
      owns = λ x is. elim (cases_eq k.place x.place) [
        | inl e ↦
            let same : k ≡ x = one_in people.stays k x (ap (λ o. is_some o) speaks) is e in
            subst (λ (m : Member). OwnStandsFor (book_setup limit) longer m (last_in lasts m.place)) same (last_here people.lasts k own within ∙ judged.own_stands)
        | inr ne ↦
            last_there people.lasts k x own ne
            ∙ judged.others_stand x (last_in people.lasts x.place) (λ e. ne (ap (λ (m : Member). m.place) (sym e))) (stands.owns x is)
      ];
      floor = judged.floor_stands;
    }

-- A packet of one that may not speak.
unheard_stands : StayOfOneMore → UnheardPacketsChangeNothing → (limit : ℕ) (people : People) (k : Member) (p : StreamPacket) (acts : List Act) (moment : ℕ) → (MaySpeak (book_setup limit) acts k → ⊥) → RosterStandsFor limit acts people → RosterStandsFor limit (with_act acts (packet_act moment k p)) people
unheard_stands one_more unheard limit people k p acts moment silent stands =
    let keeps : KeepsStanding (book_setup limit) acts (with_act acts (packet_act moment k p)) = unheard (book_setup limit) acts moment k p silent in
    record {
      stays = λ x. one_more book_places acts (packet_act moment k p) x ∙ stands.stays x;
      owns = λ x is. keeps.own x (last_in people.lasts x.place) (stands.owns x is);
      floor = keeps.floor people.floor stands.floor;
    }

-- the verdict on a packet of one of whom this is known
verdict_known : VerdictByWhatIsLeft → (limit : ℕ) (people : People) (k : Member) (p : StreamPacket) (acts : List Act) (moment : ℕ) (stay : Option Bool) → listens_of people.stays k ≡ stay → RosterStandsFor limit acts people →
    verdict_at (book_setup limit) (with_act acts (packet_act moment k p)) (length acts) ≡ Some (verdict_by_stay stay limit (floor_frame (past_of (book_setup limit) acts)) (own_frame (past_of (book_setup limit) acts) k) (incoming k (max (moment_before acts (length acts)) moment) p))
verdict_known ruled limit people k p acts moment stay known stands =
    ruled (book_setup limit) acts moment k p
    ∙ ap (λ o. Some (verdict_by_stay o limit (floor_frame (past_of (book_setup limit) acts)) (own_frame (past_of (book_setup limit) acts) k) (incoming k (max (moment_before acts (length acts)) moment) p))) (stands.stays k ∙ known)

not_in : (limit : ℕ) (acts : List Act) (k : Member) → stay_of book_places acts k ≡ None → MaySpeak (book_setup limit) acts k → ⊥
not_in limit acts k none speaks =
    let out : its_join book_places acts k ≡ None = join_none acts k none in
    let is : its_join book_places acts k ≡ Some speaks.0 = speaks.1 in
    cc

pub stranger_stands : StayOfOneMore → UnheardPacketsChangeNothing → VerdictByWhatIsLeft → (limit : ℕ) (people : People) (k : Member) (p : StreamPacket) (acts : List Act) (moment : ℕ) → listens_of people.stays k ≡ None → RosterStandsFor limit acts people →
    RosterStandsFor limit (with_act acts (packet_act moment k p)) people × (verdict_at (book_setup limit) (with_act acts (packet_act moment k p)) (length acts) ≡ Some NotMember)
stranger_stands one_more unheard ruled limit people k p acts moment out stands =
    (unheard_stands one_more unheard limit people k p acts moment (not_in limit acts k (stands.stays k ∙ out)) stands, verdict_known ruled limit people k p acts moment None out stands)

listens_only : (limit : ℕ) (acts : List Act) (k : Member) → stay_of book_places acts k ≡ Some true → MaySpeak (book_setup limit) acts k → ⊥
listens_only limit acts k listener speaks =
    let found = join_some acts k true listener in
    let first : its_join book_places acts k ≡ Some found.0 = found.1 in
    let second : its_join book_places acts k ≡ Some speaks.0 = speaks.1 in
    let same : found.0 ≡ speaks.0 = cc in
    let silent : listens (kind_at acts found.0) ≡ true = found.2 in
    let heard : listens (kind_at acts speaks.0) ≡ false = speaks.2 in
    false≢true (sym heard ∙ ap (λ j. listens (kind_at acts j)) (sym same) ∙ silent)

pub listener_stands : StayOfOneMore → UnheardPacketsChangeNothing → VerdictByWhatIsLeft → (limit : ℕ) (people : People) (k : Member) (p : StreamPacket) (acts : List Act) (moment : ℕ) → listens_of people.stays k ≡ Some true → RosterStandsFor limit acts people →
    RosterStandsFor limit (with_act acts (packet_act moment k p)) people × (verdict_at (book_setup limit) (with_act acts (packet_act moment k p)) (length acts) ≡ Some ListenOnly)
listener_stands one_more unheard ruled limit people k p acts moment out stands =
    (unheard_stands one_more unheard limit people k p acts moment (listens_only limit acts k (stands.stays k ∙ out)) stands, verdict_known ruled limit people k p acts moment (Some true) out stands)

-- At first nobody is in.
pub nobody_stands : StayOfNone → (limit : ℕ) (stays : List (Option Stay)) (lasts : List (Option Frame)) (floor : FloorState) → ((place : ℕ) → stay_in stays place ≡ None) → FloorStandsFor (book_setup limit) [] floor → RosterStandsFor limit [] (record { stays = stays; lasts = lasts; floor = floor })
nobody_stands none limit stays lasts floor free floor_stands = record {
  stays = λ x. none book_places x ∙ sym (ap (if_of x.generation) (free x.place));
  owns = λ x is. absurd (none_is_some (listens_of stays x) (ap (if_of x.generation) (free x.place)) is);
  floor = floor_stands;
}
