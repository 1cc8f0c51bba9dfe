-- What stands for a list still stands for the list with one more act.
use Rattle.std.proofs.Common.{◌≡◌, ◌≢◌, ℕ, ◌≤◌, ◌&&◌, Bool, true, false, not, cond, List, [], ◌∷◌, length, Option, None, Some, nat_lt, inl, inr, refl, ap, sym, ◌∙◌}
use Rattle.std.proofs.lemmas.Bool.{cases_Bool, and_left, and_right, cond-true, cond-false, false_from_ne_true, eqb-true, ne_eqb, le-ltb, false≢true}
use Rattle.m17_values.specs.declared.member.Member.{Member}
use Rattle.m17_stream.specs.declared.packet.StreamPacket.{StreamPacket}
use Rattle.m17_floor.specs.declared.act.Act.{Act}
use Rattle.m17_floor.specs.declared.act.ActKind.TheVariants.{Other}
use Rattle.m17_floor.specs.declared.verdict.Verdict.{Verdict}
use Rattle.m17_floor.specs.Acts.{with_act, kind_at, is_packet, is_same, is_join_of, settles, joined_at}
use Rattle.m17_floor.specs.Setup.{FloorSetup}
use Rattle.m17_floor.specs.Rule.{Frame, FloorState, incoming, frame_from, only_if, verdict_by_frames, frame_beside}
use Rattle.m17_floor.specs.Floor.{Past, opened_at, floor_frame, is_packet_of, own_frame, listens, verdict_after, verdict_given, admits, verdict_at}
use Rattle.m17_floor.specs.StandsFor.{past_of, FloorStandsFor, OwnStandsFor, MaySpeak, packet_act, join_act, leave_act, MemberKeepsStanding, KeepsStanding, IsJudged}
use Rattle.m17_floor.proofs.Frames.{leaves_in, floor_kept, floor_admitted, own_settled, own_kept, own_admitted}
use Rattle.m17_floor.proofs.InRule.{floor_is_in, own_out, only_if_all, after_stranger, after_listener, after_speaker, none_given}
use Rattle.m17_floor.proofs.Members.{same_from_is_same}
use Rattle.m17_floor.proofs.OneMore.{grown, whole, moment_there, membership_more, verdict_last, admits_last, past_more, verdict_end}
use Rattle.m17_floor.proofs.Opened.{opening_kept}
use Rattle.m17_floor.proofs.Prefix.{kind_before, joined_lt}

-- a floor with this frame
abbrev pub state : ℕ → Option Frame → FloorState
state limit frame = record { frame = frame; limit = limit }

-- The floor's frame after an act that isn't admitted.
pub floor_more : (setup : FloorSetup) (acts : List Act) (act : Act) → admits_last setup acts act ≡ false → floor_frame (past_of setup (with_act acts act)) ≡ only_if (leaves_in act.kind) (floor_frame (past_of setup acts))
floor_more setup acts act r =
    ap floor_frame (past_more setup acts act)
    ∙ floor_kept (past_of setup acts) act (verdict_last setup acts act) (whole setup acts) r

-- A member's frame after an act that decides whether it is in, and after another one.
pub own_more_settled : (setup : FloorSetup) (acts : List Act) (act : Act) (k : Member) → settles k act.kind ≡ true → own_frame (past_of setup (with_act acts act)) k ≡ None
own_more_settled setup acts act k s =
    ap (λ past. own_frame past k) (past_more setup acts act)
    ∙ own_settled (past_of setup acts) act (verdict_last setup acts act) k (whole setup acts) s

pub own_more_kept : (setup : FloorSetup) (acts : List Act) (act : Act) (k : Member) → settles k act.kind ≡ false → (admits_last setup acts act && is_packet_of k act.kind) ≡ false → own_frame (past_of setup (with_act acts act)) k ≡ own_frame (past_of setup acts) k
own_more_kept setup acts act k s r =
    ap (λ past. own_frame past k) (past_more setup acts act)
    ∙ own_kept (past_of setup acts) act (verdict_last setup acts act) k (whole setup acts) s r

pub joined_same : (setup : FloorSetup) (acts : List Act) (act : Act) (k : Member) → settles k act.kind ≡ false → joined_at setup.places (with_act acts act) k (length (with_act acts act)) ≡ joined_at setup.places acts k (length acts)
joined_same setup acts act k s =
    membership_more setup.places acts act k
    ∙ cond-false (settles k act.kind) (cond (is_join_of k act.kind && nat_lt k.place setup.places) (Some (length acts)) None) (joined_at setup.places acts k (length acts)) s

pub speaker_kept : (setup : FloorSetup) (acts : List Act) (act : Act) (k : Member) → settles k act.kind ≡ false → MaySpeak setup acts k → MaySpeak setup (with_act acts act) k
speaker_kept setup acts act k h s =
    (s.0, joined_same setup acts act k h ∙ s.1, ap listens (kind_before acts (act ∷ []) s.0 (joined_lt setup.places acts k (length acts) s.0 s.1)) ∙ s.2)

-- Nothing changes for a member by an act that is no packet of it and doesn't decide whether it is in.
pub member_kept : (setup : FloorSetup) (acts : List Act) (act : Act) (k : Member) → settles k act.kind ≡ false → (admits_last setup acts act && is_packet_of k act.kind) ≡ false → MemberKeepsStanding setup acts (with_act acts act) k
member_kept setup acts act k s r = record {
  own = λ own stands. stands ∙ sym (own_more_kept setup acts act k s r);
  speaks = λ speaks. speaker_kept setup acts act k s speaks;
  joined = joined_same setup acts act k s;
}

pub no_packet_admitted : (setup : FloorSetup) (acts : List Act) (act : Act) → is_packet act.kind ≡ false → admits_last setup acts act ≡ false
no_packet_admitted setup acts act h = ap admits (verdict_end setup acts act ∙ none_given (past_of setup acts) (moment_there acts act.at) act.kind h)

-- the floor stays where the act decides of nobody that is in
pub floor_same : (setup : FloorSetup) (acts : List Act) (act : Act) → admits_last setup acts act ≡ false → ((k : Member) → settles k act.kind ≡ true → joined_at setup.places acts k (length acts) ≡ None) → floor_frame (past_of setup (with_act acts act)) ≡ floor_frame (past_of setup acts)
floor_same setup acts act r nobody =
    floor_more setup acts act r
    ∙ only_if_all (leaves_in act.kind) (floor_frame (past_of setup acts))
    (λ f e.
    let is_in = floor_is_in (past_of setup acts) f e in
    ap not (false_from_ne_true (settles f.member act.kind) (λ s. let out : joined_at setup.places acts f.member (length acts) ≡ None = nobody f.member s in let is : joined_at setup.places acts f.member (length acts) ≡ Some is_in.0 = is_in.1 in cc)))

-- Nothing changes by an act that isn't admitted, decides of nobody that is in, and lets nobody in.
pub nobody_settled : (setup : FloorSetup) (acts : List Act) (act : Act) → admits_last setup acts act ≡ false → ((k : Member) → settles k act.kind ≡ true → joined_at setup.places acts k (length acts) ≡ None) → ((k : Member) → settles k act.kind ≡ true → joined_at setup.places (with_act acts act) k (length (with_act acts act)) ≡ None) → KeepsStanding setup acts (with_act acts act)
nobody_settled setup acts act r nobody still =
    let n : ℕ = length acts in
    let refused : (k : Member) → (admits_last setup acts act && is_packet_of k act.kind) ≡ false = λ k. and_left (admits_last setup acts act) (is_packet_of k act.kind) r in
    record {
      floor = λ floor stands. stands ∙ ap (state setup.limit) (sym (floor_same setup acts act r nobody));
      own = λ k own stands. elim (cases_Bool (settles k act.kind)) [
        | inl s ↦ stands ∙ own_out (past_of setup acts) k (nobody k s) ∙ sym (own_more_settled setup acts act k s)
        | inr s ↦ stands ∙ sym (own_more_kept setup acts act k s (refused k))
      ];
      speakers = λ k speaks. elim (cases_Bool (settles k act.kind)) [
        | inl s ↦ let out : joined_at setup.places acts k n ≡ None = nobody k s in let is : joined_at setup.places acts k n ≡ Some speaks.0 = speaks.1 in absurd (cc)
        | inr s ↦ speaker_kept setup acts act k s speaks
      ];
      joined = λ k. elim (cases_Bool (settles k act.kind)) [
        | inl s ↦ still k s ∙ sym (nobody k s)
        | inr s ↦ joined_same setup acts act k s
      ];
    }

settles_nobody : (setup : FloorSetup) (acts : List Act) (act : Act) → admits_last setup acts act ≡ false → ((k : Member) → settles k act.kind ≡ false) → KeepsStanding setup acts (with_act acts act)
settles_nobody setup acts act r h =
    nobody_settled setup acts act r (λ k s. absurd (false≢true (sym (h k) ∙ s))) (λ k s. absurd (false≢true (sym (h k) ∙ s)))

-- An act that is no Join, Leave or packet changes nothing of what is kept.
pub other_keeps : (setup : FloorSetup) (acts : List Act) (act : Act) → act.kind ≡ Other → KeepsStanding setup acts (with_act acts act)
other_keeps setup acts act e =
    settles_nobody setup acts act (no_packet_admitted setup acts act (ap is_packet e)) (λ k. ap (settles k) e)

-- a packet of one that may not speak
unheard : (setup : FloorSetup) (acts : List Act) (at : ℕ) (k : Member) (p : StreamPacket) (o : Option ℕ) → joined_at setup.places acts k (length acts) ≡ o → (MaySpeak setup acts k → ⊥) → admits (Some (verdict_after (past_of setup acts) (incoming k (moment_there acts at) p))) ≡ false
unheard setup acts at k p None e silent = ap (λ v. admits (Some v)) (after_stranger (past_of setup acts) (incoming k (moment_there acts at) p) e)
unheard setup acts at k p (Some j) e silent =
    elim (cases_Bool (listens (kind_at acts j))) [
      | inl h ↦ ap (λ v. admits (Some v)) (after_listener (past_of setup acts) (incoming k (moment_there acts at) p) j e h)
      | inr h ↦ absurd (silent (j, e, h))
    ]

unheard_refused : (setup : FloorSetup) (acts : List Act) (at : ℕ) (k : Member) (p : StreamPacket) → (MaySpeak setup acts k → ⊥) → admits_last setup acts (packet_act at k p) ≡ false
unfolding verdict_given
unheard_refused setup acts at k p silent =
    ap admits (verdict_end setup acts (packet_act at k p))
    ∙ unheard setup acts at k p (joined_at setup.places acts k (length acts)) refl silent

pub unheard_keeps : (setup : FloorSetup) (acts : List Act) (at : ℕ) (k : Member) (p : StreamPacket) → (MaySpeak setup acts k → ⊥) → KeepsStanding setup acts (with_act acts (packet_act at k p))
unheard_keeps setup acts at k p silent = settles_nobody setup acts (packet_act at k p) (unheard_refused setup acts at k p silent) (λ m. refl)

-- a Leave of one that is not in
pub stranger_leaves : (setup : FloorSetup) (acts : List Act) (at : ℕ) (m : Member) → joined_at setup.places acts m (length acts) ≡ None → KeepsStanding setup acts (with_act acts (leave_act at m))
stranger_leaves setup acts at m out =
    let act : Act = leave_act at m in
    nobody_settled setup acts act (no_packet_admitted setup acts act refl)
    (λ k s. ap (λ x. joined_at setup.places acts x (length acts)) (sym (same_from_is_same m k s)) ∙ out)
    (λ k s. membership_more setup.places acts act k ∙ cond-true (settles k act.kind) None (joined_at setup.places acts k (length acts)) s)

-- one at a place that is none of the module's is not in
pub no_such_place : (places : ℕ) (acts : List Act) (k : Member) (n : ℕ) → places ≤ k.place → joined_at places acts k n ≡ None
unfolding joined_at
no_such_place places acts k n h = cond-false (nat_lt k.place places) _ None (le-ltb k.place places h)

pub joins_past : (setup : FloorSetup) (acts : List Act) (at : ℕ) (k : Member) (only : Bool) → setup.places ≤ k.place → KeepsStanding setup acts (with_act acts (join_act at k only))
joins_past setup acts at k only h =
    let act : Act = join_act at k only in
    let there : (m : Member) → settles m act.kind ≡ true → k.place ≡ m.place = λ m s. eqb-true k.place m.place s in
    let past : (m : Member) → settles m act.kind ≡ true → setup.places ≤ m.place = λ m s. let e : k.place ≡ m.place = there m s in rw (← e) h in
    nobody_settled setup acts act (no_packet_admitted setup acts act refl)
    (λ m s. no_such_place setup.places acts m (length acts) (past m s))
    (λ m s. no_such_place setup.places (with_act acts act) m (length (with_act acts act)) (past m s))

pub leave_leaves : (setup : FloorSetup) (acts : List Act) (at : ℕ) (m k : Member) → k ≢ m → MemberKeepsStanding setup acts (with_act acts (leave_act at m)) k
leave_leaves setup acts at m k ne =
    let act : Act = leave_act at m in
    member_kept setup acts act k (false_from_ne_true (is_same m k) (λ same. ne (sym (same_from_is_same m k same)))) (and_left (admits_last setup acts act) false (no_packet_admitted setup acts act refl))

pub join_leaves : (setup : FloorSetup) (acts : List Act) (at : ℕ) (m : Member) (only : Bool) (k : Member) → k.place ≢ m.place → MemberKeepsStanding setup acts (with_act acts (join_act at m only)) k
join_leaves setup acts at m only k ne =
    let act : Act = join_act at m only in
    member_kept setup acts act k (ne_eqb m.place k.place (λ e. ne (sym e))) (and_left (admits_last setup acts act) false (no_packet_admitted setup acts act refl))

-- what is kept of a member other than the sender
other_own_kept : (setup : FloorSetup) (acts : List Act) (at : ℕ) (sender : Member) (p : StreamPacket) (k : Member) → k ≢ sender → own_frame (past_of setup (with_act acts (packet_act at sender p))) k ≡ own_frame (past_of setup acts) k
other_own_kept setup acts at sender p k ne =
    let act : Act = packet_act at sender p in
    let differs : is_same sender k ≡ false = false_from_ne_true (is_same sender k) (λ same. ne (sym (same_from_is_same sender k same))) in
    own_more_kept setup acts act k refl (and_right (admits_last setup acts act) (is_same sender k) differs)

-- The verdict on a new packet of one that may speak, beside the two frames that are kept.
verdict_kept : (setup : FloorSetup) (acts : List Act) (moment : ℕ) (k : Member) (p : StreamPacket) (floor : FloorState) (own : Option Frame) (at : ℕ) (verdict : Verdict) →
    FloorStandsFor setup acts floor → OwnStandsFor setup acts k own → MaySpeak setup acts k → at ≡ moment_there acts moment → verdict ≡ verdict_by_frames floor.limit floor.frame own (incoming k at p) →
    verdict_at setup (with_act acts (packet_act moment k p)) (length acts) ≡ Some verdict
unfolding verdict_given
verdict_kept setup acts moment k p floor own at verdict f o s t v =
    let past : Past = past_of setup acts in
    verdict_end setup acts (packet_act moment k p)
    ∙ ap Some
    (after_speaker past (incoming k (moment_there acts moment) p) s.0 s.1 s.2
    ∙ ap (λ (x : FloorState). verdict_by_frames x.limit x.frame (own_frame past k) (incoming k (moment_there acts moment) p)) (sym f)
    ∙ ap (λ x. verdict_by_frames floor.limit floor.frame x (incoming k (moment_there acts moment) p)) (sym o)
    ∙ ap (λ x. verdict_by_frames floor.limit floor.frame own (incoming k x p)) (sym t)
    ∙ sym v)

pub judged_admitted : (setup : FloorSetup) (acts : List Act) (moment : ℕ) (k : Member) (p : StreamPacket) (floor : FloorState) (own : Option Frame) (at : ℕ) (verdict : Verdict) →
    FloorStandsFor setup acts floor → OwnStandsFor setup acts k own → MaySpeak setup acts k → at ≡ moment_there acts moment → verdict ≡ verdict_by_frames floor.limit floor.frame own (incoming k at p) → admits (Some verdict) ≡ true →
    IsJudged setup acts (packet_act moment k p) k verdict (state floor.limit (Some (frame_beside floor.limit floor.frame (incoming k at p)))) (Some (frame_beside floor.limit floor.frame (incoming k at p)))
judged_admitted setup acts moment k p floor own at verdict f o s t v a =
    let act : Act = packet_act moment k p in
    let past : Past = past_of setup acts in
    let now : ℕ = moment_there acts moment in
    let is : verdict_last setup acts act ≡ Some verdict = verdict_kept setup acts moment k p floor own at verdict f o s t v in
    let longer : past_of setup (with_act acts act) ≡ grown past act (Some verdict) = past_more setup acts act ∙ ap (grown past act) is in
    let by_rule : verdict ≡ verdict_by_frames setup.limit (floor_frame past) (own_frame past k) (incoming k now p) =
    v
    ∙ ap (λ (x : FloorState). verdict_by_frames x.limit x.frame own (incoming k at p)) f
    ∙ ap (λ x. verdict_by_frames setup.limit (floor_frame past) x (incoming k at p)) o
    ∙ ap (λ x. verdict_by_frames setup.limit (floor_frame past) (own_frame past k) (incoming k x p)) t in
    let limit : floor.limit ≡ setup.limit = ap (λ (x : FloorState). x.limit) f in
    let kept : frame_beside floor.limit floor.frame (incoming k at p) ≡ frame_beside setup.limit (floor_frame past) (incoming k now p) =
    ap (λ (x : FloorState). frame_beside x.limit x.frame (incoming k at p)) f
    ∙ ap (λ x. frame_beside setup.limit (floor_frame past) (incoming k x p)) t in
    let opened : frame_from (opened_at (grown past act (Some verdict)) (length acts)) (incoming k now p) ≡ frame_beside setup.limit (floor_frame past) (incoming k now p) =
    ap (λ x. frame_from x (incoming k now p)) (opening_kept past moment k p verdict (whole setup acts) by_rule a) in
    record {
      verdict_is = is;
      floor_stands =
          ap (λ x. state x (Some (frame_beside floor.limit floor.frame (incoming k at p)))) limit
          ∙ ap (λ x. state setup.limit (Some x)) (kept ∙ sym opened)
          ∙ ap (state setup.limit) (sym (ap floor_frame longer ∙ floor_admitted past moment k p (Some verdict) s.0 (whole setup acts) s.1 a));
      own_stands = ap Some (kept ∙ sym opened) ∙ sym (ap (λ x. own_frame x k) longer ∙ own_admitted past moment k p (Some verdict) s.0 (whole setup acts) s.1 a);
      others_stand = λ m other ne stands. stands ∙ sym (other_own_kept setup acts moment k p m ne);
      speakers = λ m speaks. speaker_kept setup acts act m refl speaks;
      joined = λ m. joined_same setup acts act m refl;
    }

pub judged_refused : (setup : FloorSetup) (acts : List Act) (moment : ℕ) (k : Member) (p : StreamPacket) (floor : FloorState) (own : Option Frame) (at : ℕ) (verdict : Verdict) →
    FloorStandsFor setup acts floor → OwnStandsFor setup acts k own → MaySpeak setup acts k → at ≡ moment_there acts moment → verdict ≡ verdict_by_frames floor.limit floor.frame own (incoming k at p) → admits (Some verdict) ≡ false →
    IsJudged setup acts (packet_act moment k p) k verdict floor own
judged_refused setup acts moment k p floor own at verdict f o s t v a =
    let act : Act = packet_act moment k p in
    let is : verdict_last setup acts act ≡ Some verdict = verdict_kept setup acts moment k p floor own at verdict f o s t v in
    let keeps : KeepsStanding setup acts (with_act acts act) = settles_nobody setup acts act (ap admits is ∙ a) (λ m. refl) in
    record {
      verdict_is = is;
      floor_stands = keeps.floor floor f;
      own_stands = keeps.own k own o;
      others_stand = λ m other ne stands. keeps.own m other stands;
      speakers = keeps.speakers;
      joined = keeps.joined;
    }
