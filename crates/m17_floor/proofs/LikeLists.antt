-- What one act more makes of what a list leaves behind; lists that leave the same.
use Rattle.std.proofs.Common.{◌≡◌, ℕ, ◌<◌, ◌==◌, ◌&&◌, Bool, true, false, not, cond, List, [], ◌∷◌, length, max, Option, None, Some, option_map, nat_lt, inl, inr, refl, ap, sym, ◌∙◌, arith}
use Rattle.std.proofs.lemmas.Bool.{cases_Bool, and_left, and_right, cond-true, cond-false, lt-ltb, eqb-true, eq-eqb, false_from_ne_true, both_ways, not-true}
use Rattle.m17_values.specs.declared.member.Member.{Member}
use Rattle.m17_stream.specs.declared.packet.StreamPacket.{StreamPacket}
use Rattle.m17_floor.specs.declared.act.Act.{Act}
use Rattle.m17_floor.specs.declared.act.ActKind.{ActKind}
use Rattle.m17_floor.specs.declared.act.ActKind.TheVariants.{Join, Leave, Packet, Other}
use Rattle.m17_floor.specs.declared.verdict.Verdict.{Verdict}
use Rattle.m17_floor.specs.Setup.{FloorSetup}
use Rattle.m17_floor.specs.Acts.{with_act, kind_at, moment_before, is_packet, is_same, is_join_of, settles}
use Rattle.m17_floor.specs.Rule.{Frame, FloorState, Incoming, incoming, frame_from, only_if, verdict_by_frames, frame_beside}
use Rattle.m17_floor.specs.Floor.{Past, joined, opened_at, floor_frame, own_frame, is_packet_of, listens, verdict_after, verdict_given, admits, verdict_at}
use Rattle.m17_floor.specs.StandsFor.{past_of, floor_of, its_join, packet_act, join_act, leave_act, KeepsStanding}
use Rattle.m17_floor.specs.Alike.{stay_of, stay_after, verdict_by_stay, verdict_then, LeaveTheSame}
use Rattle.m17_floor.proofs.Frames.{leaves_in, floor_admitted, own_admitted}
use Rattle.m17_floor.proofs.InRule.{only_if_all, after_stranger, after_listener, after_speaker}
use Rattle.m17_floor.proofs.Members.{same_from_is_same}
use Rattle.m17_floor.proofs.NoPacket.{no_floor_frame, no_own_frame}
use Rattle.m17_floor.proofs.OneMore.{grown, whole, moment_there, kind_end, membership_more, verdict_last, admits_last, past_more, verdict_end}
use Rattle.m17_floor.proofs.Opened.{opening_kept}
use Rattle.m17_floor.proofs.Prefix.{kind_before, joined_lt}
use Rattle.m17_floor.proofs.Standing.{floor_more, own_more_settled, own_more_kept, no_packet_admitted}

-- whether the Join at a position is to listen only
abbrev listens_at : List Act → ℕ → Bool
listens_at acts j = listens (kind_at acts j)

map_same : (o : Option ℕ) (f g : ℕ → Bool) → ((j : ℕ) → o ≡ Some j → f j ≡ g j) → option_map f o ≡ option_map g o
map_same None f g h = refl
map_same (Some j) f g h = ap Some (h j refl)

map_cond : (b : Bool) (j : ℕ) (f : ℕ → Bool) (x : Bool) → f j ≡ x → option_map f (cond b (Some j) None) ≡ cond b (Some x) None
map_cond true j f x e = ap Some e
map_cond false j f x e = refl

-- the acts so far stay below the new one
listens_same : (places : ℕ) (acts : List Act) (act : Act) (k : Member) → option_map (listens_at (with_act acts act)) (its_join places acts k) ≡ option_map (listens_at acts) (its_join places acts k)
listens_same places acts act k = map_same (its_join places acts k) _ _ (λ j e. ap listens (kind_before acts (act ∷ []) j (joined_lt places acts k (length acts) j e)))

stay_settled : (places : ℕ) (acts : List Act) (act : Act) (k : Member) → settles k act.kind ≡ true → stay_of places (with_act acts act) k ≡ cond (is_join_of k act.kind && nat_lt k.place places) (Some (listens act.kind)) None
unfolding stay_of
stay_settled places acts act k s =
    let there : Bool = is_join_of k act.kind && nat_lt k.place places in
    ap (option_map (listens_at (with_act acts act))) (membership_more places acts act k ∙ cond-true (settles k act.kind) (cond there (Some (length acts)) None) (its_join places acts k) s)
    ∙ map_cond there (length acts) (listens_at (with_act acts act)) (listens act.kind) (ap listens (kind_end acts act))

stay_kept : (places : ℕ) (acts : List Act) (act : Act) (k : Member) → settles k act.kind ≡ false → stay_of places (with_act acts act) k ≡ stay_of places acts k
unfolding stay_of
stay_kept places acts act k s =
    let there : Bool = is_join_of k act.kind && nat_lt k.place places in
    ap (option_map (listens_at (with_act acts act))) (membership_more places acts act k ∙ cond-false (settles k act.kind) (cond there (Some (length acts)) None) (its_join places acts k) s)
    ∙ listens_same places acts act k

-- an act of this kind
abbrev act_of : ℕ → ActKind → Act
act_of at kind = record { at = at; kind = kind }

stay_by_kind : (places : ℕ) (acts : List Act) (at : ℕ) (kind : ActKind) (k : Member) → stay_of places (with_act acts (act_of at kind)) k ≡ stay_after places kind k (stay_of places acts k)
stay_by_kind places acts at (Join m only) k =
    let act : Act = act_of at (Join m only) in
    let before : Option Bool = stay_of places acts k in
    let now : Option Bool = cond (is_same m k && nat_lt k.place places) (Some only) None in
    elim (cases_Bool (m.place == k.place)) [
      | inl s ↦ stay_settled places acts act k s ∙ sym (cond-true (m.place == k.place) now before s)
      | inr s ↦ stay_kept places acts act k s ∙ sym (cond-false (m.place == k.place) now before s)
    ]
stay_by_kind places acts at (Leave m) k =
    let act : Act = act_of at (Leave m) in
    let before : Option Bool = stay_of places acts k in
    let none : Option Bool = None in
    elim (cases_Bool (is_same m k)) [
      | inl s ↦ stay_settled places acts act k s ∙ sym (cond-true (is_same m k) none before s)
      | inr s ↦ stay_kept places acts act k s ∙ sym (cond-false (is_same m k) none before s)
    ]
stay_by_kind places acts at (Packet m p) k = stay_kept places acts (act_of at (Packet m p)) k refl
stay_by_kind places acts at Other k = stay_kept places acts (act_of at Other) k refl

-- What is known of a member after one act more.
pub stay_more : (places : ℕ) (acts : List Act) (act : Act) (k : Member) → stay_of places (with_act acts act) k ≡ stay_after places act.kind k (stay_of places acts k)
stay_more places acts act k = stay_by_kind places acts act.at act.kind k

-- the sender's Join, as the rule looks it up
verdict_of_join : (past : Past) (new : Incoming) (o : Option ℕ) → joined past new.sender ≡ o → verdict_after past new ≡ verdict_by_stay (option_map (listens_at past.acts) o) past.setup.limit (floor_frame past) (own_frame past new.sender) new
verdict_of_join past new None e = after_stranger past new e
verdict_of_join past new (Some j) e = elim (cases_Bool (listens_at past.acts j)) [
  | inl l ↦ after_listener past new j e l ∙ ap (λ b. verdict_by_stay (Some b) past.setup.limit (floor_frame past) (own_frame past new.sender) new) (sym l)
  | inr l ↦ after_speaker past new j e l ∙ ap (λ b. verdict_by_stay (Some b) past.setup.limit (floor_frame past) (own_frame past new.sender) new) (sym l)
]

-- The verdict on one packet more.
pub verdict_left : (setup : FloorSetup) (acts : List Act) (at : ℕ) (k : Member) (p : StreamPacket) → verdict_at setup (with_act acts (packet_act at k p)) (length acts) ≡ Some (verdict_by_stay (stay_of setup.places acts k) setup.limit (floor_frame (past_of setup acts)) (own_frame (past_of setup acts) k) (incoming k (max (moment_before acts (length acts)) at) p))
unfolding verdict_given stay_of
verdict_left setup acts at k p =
    verdict_end setup acts (packet_act at k p)
    ∙ ap Some (verdict_of_join (past_of setup acts) (incoming k (moment_there acts at) p) (its_join setup.places acts k) refl)

nobody_yet : (o : Option ℕ) → ((j : ℕ) → o ≡ Some j → j < 0) → option_map (listens_at []) o ≡ None
nobody_yet None h = refl
nobody_yet (Some j) h = absurd (omega (arith, h j refl))

pub none_stays : (places : ℕ) (k : Member) → stay_of places [] k ≡ None
unfolding stay_of
none_stays places k = nobody_yet (its_join places [] k) (λ j e. joined_lt places [] k 0 j e)

pub nothing_alike : (setup other : FloorSetup) → setup.limit ≡ other.limit → LeaveTheSame setup [] other []
nothing_alike setup other limit = record {
  limit = limit;
  stays = λ k. none_stays setup.places k ∙ sym (none_stays other.places k);
  owns = λ k. no_own_frame setup [] k tt ∙ sym (no_own_frame other [] k tt);
  floor = no_floor_frame setup [] tt ∙ sym (no_floor_frame other [] tt);
}

pub idle_alike : (setup : FloorSetup) (acts : List Act) (act : Act) (other : FloorSetup) (others : List Act) → KeepsStanding setup acts (with_act acts act) → LeaveTheSame setup acts other others → LeaveTheSame setup (with_act acts act) other others
unfolding stay_of
idle_alike setup acts act other others keeps same = record {
  limit = same.limit;
  stays = λ k. ap (option_map (listens_at (with_act acts act))) (keeps.joined k) ∙ listens_same setup.places acts act k ∙ same.stays k;
  owns = λ k. sym (keeps.own k (own_frame (past_of setup acts) k) refl) ∙ same.owns k;
  floor = sym (ap (λ (x : FloorState). x.frame) (keeps.floor (floor_of (past_of setup acts)) refl)) ∙ same.floor;
}

-- what is kept of a member after an act that is no packet
own_after : (setup : FloorSetup) (acts : List Act) (act : Act) (k : Member) → is_packet act.kind ≡ false → own_frame (past_of setup (with_act acts act)) k ≡ cond (settles k act.kind) None (own_frame (past_of setup acts) k)
own_after setup acts act k silent =
    let own : Option Frame = own_frame (past_of setup acts) k in
    let none : Option Frame = None in
    elim (cases_Bool (settles k act.kind)) [
      | inl s ↦ own_more_settled setup acts act k s ∙ sym (cond-true (settles k act.kind) none own s)
      | inr s ↦ own_more_kept setup acts act k s (and_left (admits_last setup acts act) (is_packet_of k act.kind) (no_packet_admitted setup acts act silent)) ∙ sym (cond-false (settles k act.kind) none own s)
    ]

floor_after : (setup : FloorSetup) (acts : List Act) (act : Act) → is_packet act.kind ≡ false → floor_frame (past_of setup (with_act acts act)) ≡ only_if (leaves_in act.kind) (floor_frame (past_of setup acts))
floor_after setup acts act silent = floor_more setup acts act (no_packet_admitted setup acts act silent)

-- The same act of both lists, where it is no packet.
act_alike : (setup : FloorSetup) (acts : List Act) (other : FloorSetup) (others : List Act) (at later : ℕ) (kind : ActKind) → is_packet kind ≡ false → ((k : Member) (before : Option Bool) → stay_after setup.places kind k before ≡ stay_after other.places kind k before) → LeaveTheSame setup acts other others → LeaveTheSame setup (with_act acts (act_of at kind)) other (with_act others (act_of later kind))
act_alike setup acts other others at later kind silent seats same = record {
  limit = same.limit;
  stays = λ k. stay_by_kind setup.places acts at kind k ∙ ap (stay_after setup.places kind k) (same.stays k) ∙ seats k (stay_of other.places others k) ∙ sym (stay_by_kind other.places others later kind k);
  owns = λ k. own_after setup acts (act_of at kind) k silent ∙ ap (λ own. cond (settles k kind) None own) (same.owns k) ∙ sym (own_after other others (act_of later kind) k silent);
  floor = floor_after setup acts (act_of at kind) silent ∙ ap (only_if (leaves_in kind)) same.floor ∙ sym (floor_after other others (act_of later kind) silent);
}

-- a place of both modules
seats_alike : (places other_places : ℕ) (m : Member) (only : Bool) → m.place < places → m.place < other_places → (k : Member) (before : Option Bool) → stay_after places (Join m only) k before ≡ stay_after other_places (Join m only) k before
seats_alike places other_places m only h g k before = elim (cases_Bool (m.place == k.place)) [
  | inl s ↦
      let e : m.place ≡ k.place = eqb-true m.place k.place s in
      let here : nat_lt k.place places ≡ nat_lt k.place other_places = lt-ltb k.place places (omega arith) ∙ sym (lt-ltb k.place other_places (omega arith)) in
      ap (λ b. cond (m.place == k.place) (cond (is_same m k && b) (Some only) None) before) here
  | inr s ↦
      let one : Option Bool = cond (is_same m k && nat_lt k.place places) (Some only) None in
      let other : Option Bool = cond (is_same m k && nat_lt k.place other_places) (Some only) None in
      cond-false (m.place == k.place) one before s ∙ sym (cond-false (m.place == k.place) other before s)
]

pub joins_alike : (setup : FloorSetup) (acts : List Act) (other : FloorSetup) (others : List Act) (at later : ℕ) (k : Member) (only : Bool) → k.place < setup.places → k.place < other.places → LeaveTheSame setup acts other others → LeaveTheSame setup (with_act acts (join_act at k only)) other (with_act others (join_act later k only))
joins_alike setup acts other others at later k only h g same = act_alike setup acts other others at later (Join k only) refl (seats_alike setup.places other.places k only h g) same

pub leaves_alike : (setup : FloorSetup) (acts : List Act) (other : FloorSetup) (others : List Act) (at later : ℕ) (m : Member) → LeaveTheSame setup acts other others → LeaveTheSame setup (with_act acts (leave_act at m)) other (with_act others (leave_act later m))
leaves_alike setup acts other others at later m same = act_alike setup acts other others at later (Leave m) refl (λ k before. refl) same

-- who is at another place isn't the one that left
elsewhere : (m k x : Member) → m.place ≡ k.place → (k.place == x.place) ≡ false → is_same m x ≡ false
elsewhere m k x e away = false_from_ne_true (is_same m x) (λ s. let one : m ≡ x = same_from_is_same m x s in both_ways (k.place == x.place) away (eq-eqb k.place x.place (sym e ∙ ap (λ (y : Member). y.place) one)))

only_if_twice : (p q : Frame → Bool) (o : Option Frame) → ((f : Frame) → p f ≡ true → q f ≡ true) → only_if p (only_if q o) ≡ only_if p o
only_if_twice p q None h = refl
only_if_twice p q (Some f) h = elim (cases_Bool (p f)) [
  | inl here ↦ ap (only_if p) (cond-true (q f) (Some f) None (h f here))
  | inr gone ↦ elim (q f) as (λ b. only_if p (cond b (Some f) None) ≡ cond (p f) (Some f) None) [ true ↦ refl | false ↦ sym (cond-false (p f) (Some f) None gone) ]
]

-- A Join frees its place: a Leave there before it changes nothing after it.
replaced_leaves : (setup : FloorSetup) (acts : List Act) (left later : ℕ) (m k : Member) (only : Bool) → k.place < setup.places → m.place ≡ k.place → LeaveTheSame setup (with_act acts (join_act later k only)) setup (with_act (with_act acts (leave_act left m)) (join_act later k only))
replaced_leaves setup acts left later m k only h e =
    let gone : List Act = with_act acts (leave_act left m) in
    let nobody : Option Bool = None in
    let nothing : Option Frame = None in
    let there : Member → Option Bool = λ x. cond (is_same k x && nat_lt x.place setup.places) (Some only) None in
    record {
      limit = refl;
      stays = λ x. stay_by_kind setup.places acts later (Join k only) x
          ∙ elim (cases_Bool (k.place == x.place)) [
            | inl s ↦ cond-true (k.place == x.place) (there x) (stay_of setup.places acts x) s ∙ sym (cond-true (k.place == x.place) (there x) (stay_of setup.places gone x) s)
            | inr s ↦
                ap (λ o. cond (k.place == x.place) (there x) o)
                (sym (stay_by_kind setup.places acts left (Leave m) x ∙ cond-false (is_same m x) nobody (stay_of setup.places acts x) (elsewhere m k x e s)))
          ]
          ∙ sym (stay_by_kind setup.places gone later (Join k only) x);
      owns = λ x. own_after setup acts (join_act later k only) x refl
          ∙ elim (cases_Bool (k.place == x.place)) [
            | inl s ↦ cond-true (k.place == x.place) nothing (own_frame (past_of setup acts) x) s ∙ sym (cond-true (k.place == x.place) nothing (own_frame (past_of setup gone) x) s)
            | inr s ↦
                ap (λ o. cond (k.place == x.place) nothing o)
                (sym (own_after setup acts (leave_act left m) x refl ∙ cond-false (is_same m x) nothing (own_frame (past_of setup acts) x) (elsewhere m k x e s)))
          ]
          ∙ sym (own_after setup gone (join_act later k only) x refl);
      floor = floor_after setup acts (join_act later k only) refl
          ∙ sym (floor_after setup gone (join_act later k only) refl
          ∙ ap (only_if (leaves_in (Join k only))) (floor_after setup acts (leave_act left m) refl)
          ∙ only_if_twice (leaves_in (Join k only)) (leaves_in (Leave m)) (floor_frame (past_of setup acts)) (λ f here. ap not (elsewhere m k f.member e (not-true (k.place == f.member.place) here))));
    }

pub replacements_alike : (setup : FloorSetup) (acts : List Act) (other : FloorSetup) (others : List Act) (at left later : ℕ) (m k : Member) (only : Bool) → k.place < setup.places → k.place < other.places → m.place ≡ k.place → LeaveTheSame setup acts other others → LeaveTheSame setup (with_act acts (join_act at k only)) other (with_act (with_act others (leave_act left m)) (join_act later k only))
replacements_alike setup acts other others at left later m k only h g e same =
    let first : LeaveTheSame setup (with_act acts (join_act at k only)) other (with_act others (join_act later k only)) = joins_alike setup acts other others at later k only h g same in
    let then : LeaveTheSame other (with_act others (join_act later k only)) other (with_act (with_act others (leave_act left m)) (join_act later k only)) = replaced_leaves other others left later m k only g e in
    record {
      limit = same.limit;
      stays = λ x. first.stays x ∙ then.stays x;
      owns = λ x. first.owns x ∙ then.owns x;
      floor = first.floor ∙ then.floor;
    }

-- an admitted packet is of one that is in, and speaks
record IsHeard (o : Option ℕ) (limit : ℕ) (floor own : Option Frame) (new : Incoming) (v : Verdict) : Type 0 where
  j : ℕ
  is_in : o ≡ Some j
  by_frames : v ≡ verdict_by_frames limit floor own new

heard_from : (b : Bool) (j : ℕ) (limit : ℕ) (floor own : Option Frame) (new : Incoming) → admits (Some (verdict_by_stay (Some b) limit floor own new)) ≡ true → IsHeard (Some j) limit floor own new (verdict_by_stay (Some b) limit floor own new)
heard_from true j limit floor own new e = cc
heard_from false j limit floor own new e = record { j = j; is_in = refl; by_frames = refl }

heard_is_in : (o : Option ℕ) (f : ℕ → Bool) (limit : ℕ) (floor own : Option Frame) (new : Incoming) → admits (Some (verdict_by_stay (option_map f o) limit floor own new)) ≡ true → IsHeard o limit floor own new (verdict_by_stay (option_map f o) limit floor own new)
heard_is_in None f limit floor own new e = cc
heard_is_in (Some j) f limit floor own new e = heard_from (f j) j limit floor own new e

-- the frame of a packet that is admitted after these acts
abbrev frame_then : FloorSetup → List Act → ℕ → Member → StreamPacket → Frame
frame_then setup acts at k p = frame_beside setup.limit (floor_frame (past_of setup acts)) (incoming k (moment_there acts at) p)

-- what is left behind by an admitted packet
record Heard (setup : FloorSetup) (acts : List Act) (at : ℕ) (k : Member) (p : StreamPacket) : Type 0 where
  floor : floor_frame (past_of setup (with_act acts (packet_act at k p))) ≡ Some (frame_then setup acts at k p)
  owns : (x : Member) → own_frame (past_of setup (with_act acts (packet_act at k p))) x ≡ cond (is_same k x) (Some (frame_then setup acts at k p)) (own_frame (past_of setup acts) x)

-- the verdict on one packet more, where it is admitted
admitted_is_heard : (setup : FloorSetup) (acts : List Act) (at : ℕ) (k : Member) (p : StreamPacket) → admits_last setup acts (packet_act at k p) ≡ true → IsHeard (its_join setup.places acts k) setup.limit (floor_frame (past_of setup acts)) (own_frame (past_of setup acts) k) (incoming k (moment_there acts at) p) (verdict_then setup acts at k p)
unfolding stay_of
admitted_is_heard setup acts at k p a =
    heard_is_in (its_join setup.places acts k) (listens_at acts) setup.limit (floor_frame (past_of setup acts)) (own_frame (past_of setup acts) k) (incoming k (moment_there acts at) p) (ap admits (sym (verdict_left setup acts at k p)) ∙ a)

heard : (setup : FloorSetup) (acts : List Act) (at : ℕ) (k : Member) (p : StreamPacket) → admits_last setup acts (packet_act at k p) ≡ true → Heard setup acts at k p
heard setup acts at k p admitted =
    let act : Act = packet_act at k p in
    let past : Past = past_of setup acts in
    let new : Incoming = incoming k (moment_there acts at) p in
    let v : Verdict = verdict_then setup acts at k p in
    let is : IsHeard (its_join setup.places acts k) setup.limit (floor_frame past) (own_frame past k) new v = admitted_is_heard setup acts at k p admitted in
    let left : verdict_last setup acts act ≡ Some v = verdict_left setup acts at k p in
    let lets : admits (Some v) ≡ true = ap admits (sym left) ∙ admitted in
    let longer : past_of setup (with_act acts act) ≡ grown past act (Some v) = past_more setup acts act ∙ ap (grown past act) left in
    let frame : Option Frame = Some (frame_then setup acts at k p) in
    let opened : Some (frame_from (opened_at (grown past act (Some v)) (length acts)) new) ≡ frame = ap (λ x. Some (frame_from x new)) (opening_kept past at k p v (whole setup acts) is.by_frames lets) in
    let mine : own_frame (past_of setup (with_act acts act)) k ≡ frame = ap (λ x. own_frame x k) longer ∙ own_admitted past at k p (Some v) is.j (whole setup acts) is.is_in lets ∙ opened in
    record {
      floor = ap floor_frame longer ∙ floor_admitted past at k p (Some v) is.j (whole setup acts) is.is_in lets ∙ opened;
      owns = λ x. elim (cases_Bool (is_same k x)) [
        | inl s ↦ ap (λ (y : Member). own_frame (past_of setup (with_act acts act)) y) (sym (same_from_is_same k x s)) ∙ mine ∙ sym (cond-true (is_same k x) frame (own_frame past x) s)
        | inr s ↦ own_more_kept setup acts act x refl (and_right (admits_last setup acts act) (is_same k x) s) ∙ sym (cond-false (is_same k x) frame (own_frame past x) s)
      ];
    }

verdicts_alike : (setup : FloorSetup) (acts : List Act) (other : FloorSetup) (others : List Act) (at later : ℕ) (k : Member) (p : StreamPacket) → moment_there acts at ≡ moment_there others later → LeaveTheSame setup acts other others → verdict_at setup (with_act acts (packet_act at k p)) (length acts) ≡ verdict_at other (with_act others (packet_act later k p)) (length others)
verdicts_alike setup acts other others at later k p now same =
    let new : Incoming = incoming k (moment_there acts at) p in
    let floor : Option Frame = floor_frame (past_of setup acts) in
    let own : Option Frame = own_frame (past_of setup acts) k in
    let stay : Option Bool = stay_of other.places others k in
    let its_floor : Option Frame = floor_frame (past_of other others) in
    let its_own : Option Frame = own_frame (past_of other others) k in
    verdict_left setup acts at k p
    ∙ ap (λ x. Some (verdict_by_stay x setup.limit floor own new)) (same.stays k)
    ∙ ap (λ x. Some (verdict_by_stay stay x floor own new)) same.limit
    ∙ ap (λ x. Some (verdict_by_stay stay other.limit x own new)) same.floor
    ∙ ap (λ x. Some (verdict_by_stay stay other.limit its_floor x new)) (same.owns k)
    ∙ ap (λ x. Some (verdict_by_stay stay other.limit its_floor its_own (incoming k x p))) now
    ∙ sym (verdict_left other others later k p)

heard_alike : (setup : FloorSetup) (acts : List Act) (other : FloorSetup) (others : List Act) (at later : ℕ) (k : Member) (p : StreamPacket) → moment_there acts at ≡ moment_there others later → LeaveTheSame setup acts other others → admits_last setup acts (packet_act at k p) ≡ true → admits_last other others (packet_act later k p) ≡ true → LeaveTheSame setup (with_act acts (packet_act at k p)) other (with_act others (packet_act later k p))
heard_alike setup acts other others at later k p now same a b =
    let mine : Heard setup acts at k p = heard setup acts at k p a in
    let its : Heard other others later k p = heard other others later k p b in
    let frame : frame_then setup acts at k p ≡ frame_then other others later k p =
    ap (λ x. frame_beside x (floor_frame (past_of setup acts)) (incoming k (moment_there acts at) p)) same.limit
    ∙ ap (λ x. frame_beside other.limit x (incoming k (moment_there acts at) p)) same.floor
    ∙ ap (λ x. frame_beside other.limit (floor_frame (past_of other others)) (incoming k x p)) now in
    record {
      limit = same.limit;
      stays = λ x. stay_by_kind setup.places acts at (Packet k p) x ∙ same.stays x ∙ sym (stay_by_kind other.places others later (Packet k p) x);
      owns = λ x. mine.owns x
          ∙ ap (λ f. cond (is_same k x) (Some f) (own_frame (past_of setup acts) x)) frame
          ∙ ap (λ f. cond (is_same k x) (Some (frame_then other others later k p)) f) (same.owns x)
          ∙ sym (its.owns x);
      floor = mine.floor ∙ ap Some frame ∙ sym its.floor;
    }

-- what a packet that isn't admitted leaves of the floor
refused_floor : (setup : FloorSetup) (acts : List Act) (at : ℕ) (k : Member) (p : StreamPacket) → admits_last setup acts (packet_act at k p) ≡ false → floor_frame (past_of setup (with_act acts (packet_act at k p))) ≡ floor_frame (past_of setup acts)
refused_floor setup acts at k p r = floor_more setup acts (packet_act at k p) r ∙ only_if_all (leaves_in (Packet k p)) (floor_frame (past_of setup acts)) (λ f e. refl)

refused_own : (setup : FloorSetup) (acts : List Act) (at : ℕ) (k : Member) (p : StreamPacket) (x : Member) → admits_last setup acts (packet_act at k p) ≡ false → own_frame (past_of setup (with_act acts (packet_act at k p))) x ≡ own_frame (past_of setup acts) x
refused_own setup acts at k p x r = own_more_kept setup acts (packet_act at k p) x refl (and_left (admits_last setup acts (packet_act at k p)) (is_same k x) r)

refused_alike : (setup : FloorSetup) (acts : List Act) (other : FloorSetup) (others : List Act) (at later : ℕ) (k : Member) (p : StreamPacket) → LeaveTheSame setup acts other others → admits_last setup acts (packet_act at k p) ≡ false → admits_last other others (packet_act later k p) ≡ false → LeaveTheSame setup (with_act acts (packet_act at k p)) other (with_act others (packet_act later k p))
refused_alike setup acts other others at later k p same a b = record {
  limit = same.limit;
  stays = λ x. stay_by_kind setup.places acts at (Packet k p) x ∙ same.stays x ∙ sym (stay_by_kind other.places others later (Packet k p) x);
  owns = λ x. refused_own setup acts at k p x a ∙ same.owns x ∙ sym (refused_own other others later k p x b);
  floor = refused_floor setup acts at k p a ∙ same.floor ∙ sym (refused_floor other others later k p b);
}

pub packets_alike : (setup : FloorSetup) (acts : List Act) (other : FloorSetup) (others : List Act) (at later : ℕ) (k : Member) (p : StreamPacket) → moment_there acts at ≡ moment_there others later → LeaveTheSame setup acts other others →
    LeaveTheSame setup (with_act acts (packet_act at k p)) other (with_act others (packet_act later k p))
    × (verdict_at setup (with_act acts (packet_act at k p)) (length acts) ≡ verdict_at other (with_act others (packet_act later k p)) (length others))
packets_alike setup acts other others at later k p now same =
    let verdict = verdicts_alike setup acts other others at later k p now same in
    let both : admits_last setup acts (packet_act at k p) ≡ admits_last other others (packet_act later k p) = ap admits verdict in (
      elim (cases_Bool (admits_last setup acts (packet_act at k p))) [
        | inl a ↦ heard_alike setup acts other others at later k p now same a (sym both ∙ a)
        | inr r ↦ refused_alike setup acts other others at later k p same r (sym both ∙ r)
      ],
      verdict,
    )
