-- Verdicts, where the same acts are of other members.
use Rattle.std.proofs.Common.{◌≡◌, ℕ, zero, suc, ◌<◌, ◌≤◌, ◌==◌, ◌&&◌, Bool, true, false, not, cond, List, [], ◌∷◌, ◌++◌, length, take, map, Option, None, Some, slice_get, unwrap_or, is_none, nat_lt, nat_le, inl, inr, refl, ap, sym, ◌∙◌, arith}
use Rattle.std.specs.Prelude.{◌-◌, fold, max}
use Rattle.std.proofs.lemmas.Bool.{cases_lt}
use Rattle.std.proofs.lemmas.List.{take-map, length-map, map-append, length-take-le}
use Rattle.std.proofs.lemmas.Option.{slice_get_past}
use Rattle.m17_values.specs.declared.member.Member.{Member}
use Rattle.m17_stream.specs.declared.packet.StreamPacket.{StreamPacket}
use Rattle.m17_stream.specs.Stream.{steps_ahead}
use Rattle.m17_floor.specs.declared.act.Act.{Act}
use Rattle.m17_floor.specs.declared.act.ActKind.{ActKind}
use Rattle.m17_floor.specs.declared.act.ActKind.TheVariants.{Join, Leave, Packet, Other}
use Rattle.m17_floor.specs.declared.verdict.Verdict.{Verdict}
use Rattle.m17_floor.specs.declared.verdict.Verdict.TheVariants.{Opened, Busy, Repeat, Late, AfterEnd, TimedOut, ListenOnly}
use Rattle.m17_floor.specs.Setup.{FloorSetup}
use Rattle.m17_floor.specs.Acts.{kind_or_other, kind_at, moment_at, is_same}
use Rattle.m17_floor.specs.Rule.{Frame, incoming, late_from, floor_timeout_ms, stream_memory_ms, has_run_out, has_floor, is_compared, busy, after_end, repeated, late, timed_out, continued, first_fit, verdict_beside, only_if, verdict_by_frames}
use Rattle.m17_floor.specs.Floor.{Past, joined, floor_frame, own_frame, not_member, listens, listen_only, verdict_after, verdict_given, past_with, verdicts_before, past_at, verdict_at}
use Rattle.m17_floor.specs.Renamed.{IsOneToOne, IsRenamedKind, AreFreelyRenamed, unnamed, unnamed_verdict}
use Rattle.m17_floor.proofs.RenamedFrames.{IsLike, AreLikeFrames, like_cond, floor_like, own_like}
use Rattle.m17_floor.proofs.RenamedMembers.{joined_renamed}
use Rattle.m17_floor.proofs.Positions.{kind_front, moment_front, joined_front}
use Rattle.m17_floor.proofs.Prefix.{joined_lt}

-- the first line that fits, where the first lines are alike, and where what is else is
first_like : (a b : Option Verdict) (rest : List (Option Verdict)) (w : Verdict) → unnamed_verdict a ≡ unnamed_verdict b → unnamed (first_fit (a ∷ rest) w) ≡ unnamed (first_fit (b ∷ rest) w)
first_like None None rest w e = refl
first_like (Some v) (Some u) rest w e = cc
first_like None (Some u) rest w e = absurd (cc)
first_like (Some v) None rest w e = absurd (cc)

else_like : (a b : Option Verdict) (v w : Verdict) → unnamed v ≡ unnamed w → unnamed (first_fit (a ∷ b ∷ []) v) ≡ unnamed (first_fit (a ∷ b ∷ []) w)
else_like (Some u) b v w e = refl
else_like None (Some u) v w e = refl
else_like None None v w e = e

busy_line : (b : Bool) (m k : Member) → unnamed_verdict (cond b None (Some (Busy m))) ≡ unnamed_verdict (cond b None (Some (Busy k)))
busy_line true m k = refl
busy_line false m k = refl

busy_like : (stands : Member → Member → Bool) (k k' : Member) (at : ℕ) (p : StreamPacket) (h g : Option Frame) → IsOneToOne stands → stands k k' ≡ true → AreLikeFrames stands h g → unnamed_verdict (busy h (incoming k at p)) ≡ unnamed_verdict (busy g (incoming k' at p))
busy_like stands k k' at p None None one s like = refl
busy_like stands k k' at p (Some h) (Some g) one s like =
    ap (λ b. unnamed_verdict (cond (b && h.sid == p.sid) None (Some (Busy h.member)))) (one.same h.member k g.member k' like.member s)
    ∙ ap (λ x. unnamed_verdict (cond (is_same g.member k' && x == p.sid) None (Some (Busy h.member)))) like.sid
    ∙ busy_line (is_same g.member k' && g.sid == p.sid) h.member g.member
busy_like stands k k' at p None (Some g) one s like = absurd like
busy_like stands k k' at p (Some h) None one s like = absurd like

-- the lines beside the sender's own frame
abbrev rest_lines : ℕ → ℕ → Option Frame → ℕ → Option Verdict → List (Option Verdict)
rest_lines limit at own number last = after_end own ∷ repeated own number ∷ late own number ∷ timed_out limit at own ∷ last ∷ []

rest_like : (stands : Member → Member → Bool) (limit at : ℕ) (own other : Option Frame) (number : ℕ) (last : Option Verdict) → AreLikeFrames stands own other → rest_lines limit at own number last ≡ rest_lines limit at other number last
rest_like stands limit at None None number last like = refl
rest_like stands limit at (Some f) (Some g) number last like =
    ap (λ b. cond b (Some AfterEnd) None ∷ repeated (Some f) number ∷ late (Some f) number ∷ timed_out limit at (Some f) ∷ last ∷ []) like.last
    ∙ ap (λ y. cond g.last (Some AfterEnd) None ∷ cond (number == y) (Some Repeat) None ∷ cond (nat_le late_from (steps_ahead number y)) (Some (Late y)) None ∷ timed_out limit at (Some f) ∷ last ∷ []) like.number
    ∙ ap (λ y. after_end (Some g) ∷ repeated (Some g) number ∷ late (Some g) number ∷ cond (has_run_out limit at y) (Some TimedOut) None ∷ last ∷ []) like.opened
rest_like stands limit at None (Some g) number last like = absurd like
rest_like stands limit at (Some f) None number last like = absurd like

continued_like : (stands : Member → Member → Bool) (h g : Option Frame) → AreLikeFrames stands h g → continued h ≡ continued g
continued_like stands None None like = refl
continued_like stands (Some f) (Some g) like = refl
continued_like stands None (Some g) like = absurd like
continued_like stands (Some f) None like = absurd like

beside_like : (stands : Member → Member → Bool) (limit : ℕ) (k k' : Member) (at : ℕ) (p : StreamPacket) (h g own other : Option Frame) → IsOneToOne stands → stands k k' ≡ true → AreLikeFrames stands h g → AreLikeFrames stands own other → unnamed (verdict_beside limit h own (incoming k at p)) ≡ unnamed (verdict_beside limit g other (incoming k' at p))
beside_like stands limit k k' at p h g own other one s like owns =
    ap (λ lines. unnamed (first_fit (busy h (incoming k at p) ∷ lines) Opened)) (rest_like stands limit at own other p.number (continued h) owns)
    ∙ ap (λ last. unnamed (first_fit (busy h (incoming k at p) ∷ rest_lines limit at other p.number last) Opened)) (continued_like stands h g like)
    ∙ first_like (busy h (incoming k at p)) (busy g (incoming k' at p)) (rest_lines limit at other p.number (continued g)) Opened (busy_like stands k k' at p h g one s like)

floor_test : (stands : Member → Member → Bool) (limit at : ℕ) (f g : Option Frame) → AreLikeFrames stands f g → AreLikeFrames stands (only_if (has_floor limit at) f) (only_if (has_floor limit at) g)
floor_test stands limit at None None like = tt
floor_test stands limit at (Some f) (Some g) like =
    like_cond stands (has_floor limit at f) (has_floor limit at g) f g
    (ap (λ b. not b && nat_lt (at - f.at) floor_timeout_ms && not (has_run_out limit at f.opened)) like.last
    ∙ ap (λ x. not g.last && nat_lt (at - x) floor_timeout_ms && not (has_run_out limit at f.opened)) like.at
    ∙ ap (λ x. not g.last && nat_lt (at - g.at) floor_timeout_ms && not (has_run_out limit at x)) like.opened) like
floor_test stands limit at None (Some g) like = absurd like
floor_test stands limit at (Some f) None like = absurd like

own_compared : (stands : Member → Member → Bool) (sid at : ℕ) (f g : Option Frame) → AreLikeFrames stands f g → AreLikeFrames stands (only_if (is_compared sid at) f) (only_if (is_compared sid at) g)
own_compared stands sid at None None like = tt
own_compared stands sid at (Some f) (Some g) like =
    like_cond stands (is_compared sid at f) (is_compared sid at g) f g
    (ap (λ x. x == sid && nat_lt (at - f.at) stream_memory_ms) like.sid ∙ ap (λ x. g.sid == sid && nat_lt (at - x) stream_memory_ms) like.at) like
own_compared stands sid at None (Some g) like = absurd like
own_compared stands sid at (Some f) None like = absurd like

-- the first two lines
same_listens : (stands : Member → Member → Bool) (a b : ActKind) → IsRenamedKind stands a b → listens a ≡ listens b
same_listens stands (Join m l) (Join m' l') r = r.1
same_listens stands (Leave m) (Leave m') r = refl
same_listens stands (Packet m p) (Packet m' p') r = refl
same_listens stands Other Other r = refl
same_listens stands _ _ r = absurd r

listen_like : (stands : Member → Member → Bool) (past other : Past) (o : Option ℕ) → IsLike stands past other → ((j : ℕ) → o ≡ Some j → j < length past.acts) → listen_only past.acts o ≡ listen_only other.acts o
listen_like stands past other None like lt = refl
listen_like stands past other (Some j) like lt = ap (λ b. cond b (Some ListenOnly) None) (same_listens stands (kind_at past.acts j) (kind_at other.acts j) (like.kinds j (lt j refl)))

after_like : (stands : Member → Member → Bool) (past other : Past) (k k' : Member) (at : ℕ) (p : StreamPacket) → IsOneToOne stands → past.setup ≡ other.setup → IsLike stands past other → stands k k' ≡ true → unnamed (verdict_after past (incoming k at p)) ≡ unnamed (verdict_after other (incoming k' at p))
after_like stands past other k k' at p one setup like s =
    let limit : ℕ = past.setup.limit in
    let v : Verdict = verdict_by_frames limit (floor_frame past) (own_frame past k) (incoming k at p) in
    let u : Verdict = verdict_by_frames limit (floor_frame other) (own_frame other k') (incoming k' at p) in
    let same : joined past k ≡ joined other k' = like.members k k' s in
    ap (λ o. unnamed (first_fit (not_member (joined past k) ∷ o ∷ []) v)) (listen_like stands past other (joined past k) like (λ j e. joined_lt past.setup.places past.acts k (length past.acts) j e))
    ∙ ap (λ o. unnamed (first_fit (not_member o ∷ listen_only other.acts o ∷ []) v)) same
    ∙ else_like (not_member (joined other k')) (listen_only other.acts (joined other k')) v u
    (beside_like stands limit k k' at p _ _ _ _ one s
    (floor_test stands limit at (floor_frame past) (floor_frame other) (floor_like stands past other like))
    (own_compared stands p.sid at (own_frame past k) (own_frame other k') (own_like stands past other k k' one like s)))
    ∙ ap (λ (x : FloorSetup). unnamed (first_fit (not_member (joined other k') ∷ listen_only other.acts (joined other k') ∷ []) (verdict_by_frames x.limit (floor_frame other) (own_frame other k') (incoming k' at p)))) setup

given_like : (stands : Member → Member → Bool) (past other : Past) (at : ℕ) (a b : ActKind) → IsOneToOne stands → past.setup ≡ other.setup → IsLike stands past other → IsRenamedKind stands a b → unnamed_verdict (verdict_given past at a) ≡ unnamed_verdict (verdict_given other at b)
unfolding verdict_given
given_like stands past other at (Packet k p) (Packet k' p') one setup like r =
    ap Some (after_like stands past other k k' at p one setup like r.0)
    ∙ ap (λ q. unnamed_verdict (Some (verdict_after other (incoming k' at q)))) r.1
given_like stands past other at (Join m l) (Join m' l') one setup like r = refl
given_like stands past other at (Leave m) (Leave m') one setup like r = refl
given_like stands past other at Other Other one setup like r = refl
given_like stands past other at _ _ one setup like r = absurd r

-- moments and lengths
moment_renamed : (acts others : List Act) (n : ℕ) → map (λ act. act.at) acts ≡ map (λ act. act.at) others → moment_at acts n ≡ moment_at others n
moment_renamed acts others n e =
    ap (fold max 0) (sym (take-map (λ (act : Act). act.at) (suc n) acts) ∙ ap (take (suc n)) e ∙ take-map (λ (act : Act). act.at) (suc n) others)

length_renamed : (acts others : List Act) → map (λ act. act.at) acts ≡ map (λ act. act.at) others → length acts ≡ length others
length_renamed acts others e = sym (length-map acts (λ (act : Act). act.at)) ∙ ap length e ∙ length-map others (λ (act : Act). act.at)

-- the verdicts given before, but for the holders' names
abbrev all_unnamed : List (Option Verdict) → List (Option Verdict)
all_unnamed vs = map (λ v. unnamed_verdict v) vs

one_unnamed : (vs : List (Option Verdict)) (a : ℕ) → unnamed_verdict (unwrap_or (slice_get vs a) None) ≡ unwrap_or (slice_get (all_unnamed vs) a) None
one_unnamed [] zero = refl
one_unnamed [] (suc a) = refl
one_unnamed (v ∷ vs) zero = refl
one_unnamed (v ∷ vs) (suc a) = one_unnamed vs a

-- what is looked back on at a position
like_with : (stands : Member → Member → Bool) (setup : FloorSetup) (acts others : List Act) (n : ℕ) (vs us : List (Option Verdict)) → AreFreelyRenamed stands setup.places acts others → n ≤ length acts → all_unnamed vs ≡ all_unnamed us → IsLike stands (past_with setup acts n vs) (past_with setup others n us)
like_with stands setup acts others n vs us r h e =
    let same : length acts ≡ length others = length_renamed acts others r.renamed.moments in
    let h' : n ≤ length others = omega arith in
    let len : length (take n acts) ≡ n = length-take-le n acts h in
    record {
      len = len ∙ sym (length-take-le n others h');
      given_same = λ a. one_unnamed vs a ∙ ap (λ xs. unwrap_or (slice_get xs a) None) e ∙ sym (one_unnamed us a);
      kinds = λ a l. let l' : a < n = omega arith in
          rw (kind_front acts n a l' h, kind_front others n a l' h') (r.renamed.kinds a);
      moments = λ a l. let l' : a < n = omega arith in
          moment_front acts n a l' h ∙ moment_renamed acts others a r.renamed.moments ∙ sym (moment_front others n a l' h');
      members = λ k k' s. joined_front setup acts k n h ∙ joined_renamed stands setup.places acts others r k k' n s ∙ sym (joined_front setup others k' n h');
    }

-- the verdict beside those given before
with_like : (stands : Member → Member → Bool) (setup : FloorSetup) (acts others : List Act) (n : ℕ) (vs us : List (Option Verdict)) → AreFreelyRenamed stands setup.places acts others → n ≤ length acts → all_unnamed vs ≡ all_unnamed us → unnamed_verdict (verdict_given (past_with setup acts n vs) (moment_at acts n) (kind_at acts n)) ≡ unnamed_verdict (verdict_given (past_with setup others n us) (moment_at others n) (kind_at others n))
with_like stands setup acts others n vs us r h e =
    given_like stands (past_with setup acts n vs) (past_with setup others n us) (moment_at acts n) (kind_at acts n) (kind_at others n) r.one_to_one refl (like_with stands setup acts others n vs us r h e) (r.renamed.kinds n)
    ∙ ap (λ at. unnamed_verdict (verdict_given (past_with setup others n us) at (kind_at others n))) (moment_renamed acts others n r.renamed.moments)

unnamed_push : (vs us : List (Option Verdict)) (v u : Option Verdict) → all_unnamed vs ≡ all_unnamed us → unnamed_verdict v ≡ unnamed_verdict u → all_unnamed (vs ++ v ∷ []) ≡ all_unnamed (us ++ u ∷ [])
unnamed_push vs us v u e d =
    map-append (λ x. unnamed_verdict x) vs (v ∷ [])
    ∙ ap (λ xs. xs ++ unnamed_verdict v ∷ []) e
    ∙ ap (λ x. all_unnamed us ++ x ∷ []) d
    ∙ sym (map-append (λ x. unnamed_verdict x) us (u ∷ []))

verdicts_renamed : (stands : Member → Member → Bool) (setup : FloorSetup) (acts others : List Act) (n : ℕ) → AreFreelyRenamed stands setup.places acts others → n ≤ length acts → all_unnamed (verdicts_before setup acts n) ≡ all_unnamed (verdicts_before setup others n)
unfolding verdicts_before
verdicts_renamed stands setup acts others zero r h = refl
verdicts_renamed stands setup acts others (suc n) r h =
    let vs : List (Option Verdict) = verdicts_before setup acts n in
    let us : List (Option Verdict) = verdicts_before setup others n in
    let before : all_unnamed vs ≡ all_unnamed us = verdicts_renamed stands setup acts others n r (omega arith) in
    unnamed_push vs us (verdict_given (past_with setup acts n vs) (moment_at acts n) (kind_at acts n)) (verdict_given (past_with setup others n us) (moment_at others n) (kind_at others n)) before (with_like stands setup acts others n vs us r (omega arith) before)

past_the_end : (setup : FloorSetup) (acts : List Act) (n : ℕ) → length acts ≤ n → verdict_at setup acts n ≡ None
unfolding verdict_at verdict_given
past_the_end setup acts n h = ap (verdict_given (past_at setup acts n) (moment_at acts n)) (ap kind_or_other (slice_get_past acts n h))

-- Each verdict is the same, but for the member that has the floor.
pub verdict_renamed : (stands : Member → Member → Bool) (setup : FloorSetup) (acts others : List Act) → AreFreelyRenamed stands setup.places acts others → (n : ℕ) → unnamed_verdict (verdict_at setup acts n) ≡ unnamed_verdict (verdict_at setup others n)
unfolding verdict_at
verdict_renamed stands setup acts others r n =
    let same : length acts ≡ length others = length_renamed acts others r.renamed.moments in
    elim (cases_lt n (length acts)) [
      | inl h ↦ with_like stands setup acts others n (verdicts_before setup acts n) (verdicts_before setup others n) r (omega arith) (verdicts_renamed stands setup acts others n r (omega arith))
      | inr h ↦ ap unnamed_verdict (past_the_end setup acts n h ∙ sym (past_the_end setup others n (omega arith)))
    ]

-- Whether a frame has the floor is the same.
none_like : (stands : Member → Member → Bool) (f g : Option Frame) → AreLikeFrames stands f g → is_none f ≡ is_none g
none_like stands None None like = refl
none_like stands (Some f) (Some g) like = refl
none_like stands None (Some g) like = absurd like
none_like stands (Some f) None like = absurd like

pub none_renamed : (stands : Member → Member → Bool) (setup : FloorSetup) (acts others : List Act) → AreFreelyRenamed stands setup.places acts others → (n at : ℕ) → n ≤ length acts → is_none (only_if (has_floor setup.limit at) (floor_frame (past_at setup acts n))) ≡ is_none (only_if (has_floor setup.limit at) (floor_frame (past_at setup others n)))
none_renamed stands setup acts others r n at h =
    let past : Past = past_at setup acts n in
    let other : Past = past_at setup others n in
    let like : IsLike stands past other = like_with stands setup acts others n (verdicts_before setup acts n) (verdicts_before setup others n) r h (verdicts_renamed stands setup acts others n r h) in
    none_like stands _ _ (floor_test stands setup.limit at (floor_frame past) (floor_frame other) (floor_like stands past other like))
