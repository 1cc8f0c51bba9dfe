-- What a parrot plays back, where the same acts are of other members.
use Rattle.std.proofs.Common.{◌≡◌, ℕ, zero, suc, ◌-◌, ◌<◌, ◌≤◌, ◌&&◌, ◌||◌, Bool, true, false, cond, List, [], ◌∷◌, ◌++◌, length, take, drop, map, nat_lt, is_some, is_none, option_map, Option, None, Some, refl, ap, sym, subst, ◌∙◌, arith}
use Rattle.std.specs.Prelude.{fold, max}
use Rattle.std.specs.List.{count_by}
use Rattle.std.specs.Option.{option_and_then, option_map_or}
use Rattle.std.proofs.lemmas.List.{take-map}
use Rattle.m17_values.specs.declared.member.Member.{Member}
use Rattle.m17_stream.specs.declared.packet.StreamPacket.{StreamPacket}
use Rattle.m17_floor.specs.declared.act.Act.{Act}
use Rattle.m17_floor.specs.declared.act.ActKind.{ActKind}
use Rattle.m17_floor.specs.declared.act.ActKind.TheVariants.{Join, Leave, Packet, Other}
use Rattle.m17_floor.specs.declared.verdict.Verdict.{Verdict}
use Rattle.m17_floor.specs.declared.verdict.Verdict.TheVariants.{Opened, Continued, Busy, Repeat, Late, AfterEnd, TimedOut, NotMember, ListenOnly}
use Rattle.m17_floor.specs.Acts.{kind_at, moment_at, moment_before}
use Rattle.m17_floor.specs.Rule.{only_if, has_floor}
use Rattle.m17_floor.specs.Floor.{floor_frame, past_at, opens, admits, verdict_at}
use Rattle.m17_floor.specs.Renamed.{IsRenamedKind, AreFreelyRenamed, unnamed_verdict}
use Rattle.m17_module.specs.Recording.{Recording, most_frames, is_due, next_frame, due_of}
use Rattle.m17_module.specs.Setup.{Setup, floor_setup}
use Rattle.m17_module.specs.Echoes.{is_admitted_at, is_opened_at, holder_at, packet_in, admitted_packet, held_before, has_end_bit, closes, close_before, is_in_since, opening, recording_of, last_opened, recording_with, echo_with, echoed_before, echo_at}
use Rattle.m17_lookup.proofs.LastBelow.{last_below_same, last_below_lt}
use Rattle.m17_module.proofs.ItemsMore.{flat_map_same}
use Rattle.m17_module.proofs.EchoesBefore.{find_same}
use Rattle.m17_module.proofs.RenamedEvents.{FloorRenamed}

-- what of a verdict doesn't name anybody
admits_unnamed : (v : Option Verdict) → admits v ≡ admits (unnamed_verdict v)
admits_unnamed None = refl
admits_unnamed (Some Opened) = refl
admits_unnamed (Some Continued) = refl
admits_unnamed (Some (Busy k)) = refl
admits_unnamed (Some Repeat) = refl
admits_unnamed (Some (Late y)) = refl
admits_unnamed (Some AfterEnd) = refl
admits_unnamed (Some TimedOut) = refl
admits_unnamed (Some NotMember) = refl
admits_unnamed (Some ListenOnly) = refl

opens_unnamed : (v : Option Verdict) → opens v ≡ opens (unnamed_verdict v)
opens_unnamed None = refl
opens_unnamed (Some Opened) = refl
opens_unnamed (Some Continued) = refl
opens_unnamed (Some (Busy k)) = refl
opens_unnamed (Some Repeat) = refl
opens_unnamed (Some (Late y)) = refl
opens_unnamed (Some AfterEnd) = refl
opens_unnamed (Some TimedOut) = refl
opens_unnamed (Some NotMember) = refl
opens_unnamed (Some ListenOnly) = refl

pub admitted_renamed : FloorRenamed → (stands : Member → Member → Bool) (setup : Setup) (acts others : List Act) (n : ℕ) → AreFreelyRenamed stands setup.places acts others → is_admitted_at setup acts n ≡ is_admitted_at setup others n
admitted_renamed law stands setup acts others n r =
    admits_unnamed (verdict_at (floor_setup setup) acts n) ∙ ap admits (law.verdicts stands (floor_setup setup) acts others r n) ∙ sym (admits_unnamed (verdict_at (floor_setup setup) others n))

opened_renamed : FloorRenamed → (stands : Member → Member → Bool) (setup : Setup) (acts others : List Act) (n : ℕ) → AreFreelyRenamed stands setup.places acts others → is_opened_at setup acts n ≡ is_opened_at setup others n
opened_renamed law stands setup acts others n r =
    opens_unnamed (verdict_at (floor_setup setup) acts n) ∙ ap opens (law.verdicts stands (floor_setup setup) acts others r n) ∙ sym (opens_unnamed (verdict_at (floor_setup setup) others n))

greatest_renamed : (acts others : List Act) (n : ℕ) → map (λ act. act.at) acts ≡ map (λ act. act.at) others → moment_before acts n ≡ moment_before others n
greatest_renamed acts others n e =
    ap (fold max 0) (sym (take-map (λ (act : Act). act.at) n acts) ∙ ap (take n) e ∙ take-map (λ (act : Act). act.at) n others)

pub before_renamed : (stands : Member → Member → Bool) (places : ℕ) (acts others : List Act) (n : ℕ) → AreFreelyRenamed stands places acts others → moment_before acts n ≡ moment_before others n
before_renamed stands places acts others n r = greatest_renamed acts others n r.renamed.moments

pub moment_renamed : (stands : Member → Member → Bool) (places : ℕ) (acts others : List Act) (n : ℕ) → AreFreelyRenamed stands places acts others → moment_at acts n ≡ moment_at others n
moment_renamed stands places acts others n r = greatest_renamed acts others (suc n) r.renamed.moments

-- nobody has the floor
holder_renamed : FloorRenamed → (stands : Member → Member → Bool) (setup : Setup) (acts others : List Act) (n : ℕ) → AreFreelyRenamed stands setup.places acts others → n ≤ length acts → is_none (holder_at setup acts n) ≡ is_none (holder_at setup others n)
unfolding holder_at
holder_renamed law stands setup acts others n r h =
    law.floor stands (floor_setup setup) acts others r n (moment_at acts n) h
    ∙ ap (λ at. is_none (only_if (has_floor setup.limit at) (floor_frame (past_at (floor_setup setup) others n)))) (moment_renamed stands setup.places acts others n r)

same_packet : (stands : Member → Member → Bool) (a b : ActKind) → IsRenamedKind stands a b → packet_in a ≡ packet_in b
same_packet stands (Packet k p) (Packet k' p') h = ap (λ q. q ∷ []) h.1
same_packet stands (Join k l) (Join k' l') h = refl
same_packet stands (Leave k) (Leave k') h = refl
same_packet stands Other Other h = refl
same_packet stands _ _ h = absurd h

same_end : (stands : Member → Member → Bool) (a b : ActKind) → IsRenamedKind stands a b → has_end_bit a ≡ has_end_bit b
same_end stands (Packet k p) (Packet k' p') h = ap (λ (q : StreamPacket). q.last) h.1
same_end stands (Join k l) (Join k' l') h = refl
same_end stands (Leave k) (Leave k') h = refl
same_end stands Other Other h = refl
same_end stands _ _ h = absurd h

packet_renamed : FloorRenamed → (stands : Member → Member → Bool) (setup : Setup) (acts others : List Act) (n : ℕ) → AreFreelyRenamed stands setup.places acts others → admitted_packet setup acts n ≡ admitted_packet setup others n
unfolding admitted_packet
packet_renamed law stands setup acts others n r =
    ap (λ b. cond b (packet_in (kind_at acts n)) []) (admitted_renamed law stands setup acts others n r)
    ∙ ap (λ xs. cond (is_admitted_at setup others n) xs []) (same_packet stands (kind_at acts n) (kind_at others n) (r.renamed.kinds n))

closes_renamed : FloorRenamed → (stands : Member → Member → Bool) (setup : Setup) (acts others : List Act) (o n : ℕ) → AreFreelyRenamed stands setup.places acts others → n ≤ length acts → closes setup acts o n ≡ closes setup others o n
unfolding closes
closes_renamed law stands setup acts others o n r h =
    ap (λ b. (b && has_end_bit (kind_at acts n)) || (nat_lt o n && is_none (holder_at setup acts n))) (admitted_renamed law stands setup acts others n r)
    ∙ ap (λ b. (is_admitted_at setup others n && b) || (nat_lt o n && is_none (holder_at setup acts n))) (same_end stands (kind_at acts n) (kind_at others n) (r.renamed.kinds n))
    ∙ ap (λ b. (is_admitted_at setup others n && has_end_bit (kind_at others n)) || (nat_lt o n && b)) (holder_renamed law stands setup acts others n r h)

map_each : (f g : ℕ → ℕ) (o : Option ℕ) → ((c : ℕ) → f c ≡ g c) → option_map f o ≡ option_map g o
map_each f g None h = refl
map_each f g (Some c) h = ap Some (h c)

held_renamed : FloorRenamed → (stands : Member → Member → Bool) (setup : Setup) (acts others : List Act) (o n : ℕ) → AreFreelyRenamed stands setup.places acts others → held_before setup acts o n ≡ held_before setup others o n
held_renamed law stands setup acts others o n r =
    ap (take most_frames) (flat_map_same (admitted_packet setup acts) (admitted_packet setup others) o (n - o) (λ i b. packet_renamed law stands setup acts others i r))

close_renamed : FloorRenamed → (stands : Member → Member → Bool) (setup : Setup) (acts others : List Act) (o n : ℕ) → AreFreelyRenamed stands setup.places acts others → o < n → n ≤ length acts → option_map (moment_at acts) (close_before setup acts o n) ≡ option_map (moment_at others) (close_before setup others o n)
close_renamed law stands setup acts others o n r l h =
    ap (option_map (moment_at acts)) (find_same (closes setup acts o) (closes setup others o) o (n - o) (λ i b. closes_renamed law stands setup acts others o i r (omega arith)))
    ∙ map_each (moment_at acts) (moment_at others) (close_before setup others o n) (λ c. moment_renamed stands setup.places acts others c r)

-- the recording is the same, of the member that stands for the other
pub record IsLikeRecording (stands : Member → Member → Bool) (r s : Recording) : Type 0 where
  pub member : stands r.member s.member ≡ true
  pub rest : record r { member = s.member } ≡ s

abbrev AreLikeRecordings : (Member → Member → Bool) → Option Recording → Option Recording → Type 0
AreLikeRecordings stands None None = Unit {0}
AreLikeRecordings stands (Some r) (Some s) = IsLikeRecording stands r s
AreLikeRecordings stands _ _ = ⊥

record_if : (stands : Member → Member → Bool) (b c : Bool) (r s : Recording) → b ≡ c → IsLikeRecording stands r s → AreLikeRecordings stands (cond b (Some r) None) (cond c (Some s) None)
record_if stands true true r s e h = h
record_if stands false false r s e h = tt
record_if stands true false r s e h = absurd (cc)
record_if stands false true r s e h = absurd (cc)

abbrev made : Member → ℕ → List StreamPacket → Option ℕ → Recording
made k given frames close = record { member = k; frames = frames; close = close; given = given }

recording_of_renamed : FloorRenamed → (stands : Member → Member → Bool) (setup : Setup) (acts others : List Act) (n : ℕ) (echoed : List Bool) (o : ℕ) (a b : ActKind) → AreFreelyRenamed stands setup.places acts others → o < n → n ≤ length acts → IsRenamedKind stands a b → AreLikeRecordings stands (recording_of (opening setup acts o n) echoed a) (recording_of (opening setup others o n) echoed b)
recording_of_renamed law stands setup acts others n echoed o (Packet k p) (Packet k' p') r l h e =
    let given : ℕ = count_by (λ has_echo. has_echo) (drop (suc o) echoed) in
    record_if stands (is_in_since setup.places acts k o n) (is_in_since setup.places others k' o n) _ _
    (ap (λ j. option_map_or (λ i. nat_lt i o) j false) (law.members stands setup.places acts others r k k' n e.0))
    (record {
      member = e.0;
      rest =
          ap (λ frames. made k' given frames (option_map (moment_at acts) (close_before setup acts o n))) (held_renamed law stands setup acts others o n r)
          ∙ ap (made k' given (held_before setup others o n)) (close_renamed law stands setup acts others o n r l h);
    })
recording_of_renamed law stands setup acts others n echoed o (Join k x) (Join k' x') r l h e = tt
recording_of_renamed law stands setup acts others n echoed o (Leave k) (Leave k') r l h e = tt
recording_of_renamed law stands setup acts others n echoed o Other Other r l h e = tt
recording_of_renamed law stands setup acts others n echoed o _ _ r l h e = absurd e

like_then : (stands : Member → Member → Bool) (f g : ℕ → Option Recording) (o : Option ℕ) → ((j : ℕ) → o ≡ Some j → AreLikeRecordings stands (f j) (g j)) → AreLikeRecordings stands (option_and_then f o) (option_and_then g o)
like_then stands f g None h = tt
like_then stands f g (Some j) h = h j refl

recording_renamed : FloorRenamed → (stands : Member → Member → Bool) (setup : Setup) (acts others : List Act) (n : ℕ) (echoed : List Bool) → AreFreelyRenamed stands setup.places acts others → n ≤ length acts → AreLikeRecordings stands (recording_with setup acts n echoed) (recording_with setup others n echoed)
unfolding recording_with
recording_renamed law stands setup acts others n echoed r h =
    let same : last_opened setup acts n ≡ last_opened setup others n =
    last_below_same (is_opened_at setup acts) (is_opened_at setup others) n (λ m l. opened_renamed law stands setup acts others m r) in
    rw (← same)
    (like_then stands _ _ (last_opened setup acts n)
    (λ o e. recording_of_renamed law stands setup acts others n echoed o (kind_at acts o) (kind_at others o) r (last_below_lt (is_opened_at setup acts) n o e) h (r.renamed.kinds o)))

-- the echo is the same, for the member that stands for the other
abbrev pub AreLikeEchoes : (Member → Member → Bool) → Option (Member × StreamPacket) → Option (Member × StreamPacket) → Type 0
AreLikeEchoes stands None None = Unit {0}
AreLikeEchoes stands (Some e) (Some f) = (stands e.0 f.0 ≡ true) × (e.1 ≡ f.1)
AreLikeEchoes stands _ _ = ⊥

abbrev for_member : Member → StreamPacket → Member × StreamPacket
for_member k p = (k, p)

due_if : (stands : Member → Member → Bool) (k k' : Member) (b : Bool) (o : Option StreamPacket) → stands k k' ≡ true → AreLikeEchoes stands (cond b (option_map (for_member k) o) None) (cond b (option_map (for_member k') o) None)
due_if stands k k' false o h = tt
due_if stands k k' true None h = tt
due_if stands k k' true (Some p) h = (h, refl)

due_like : (stands : Member → Member → Bool) (at : ℕ) (r s : Recording) → IsLikeRecording stands r s → AreLikeEchoes stands (due_of at r) (due_of at s)
due_like stands at r s h = subst (λ (x : Recording). AreLikeEchoes stands (due_of at r) (due_of at x)) h.rest (due_if stands r.member s.member (is_due at r) (next_frame r) h.member)

echo_like : (stands : Member → Member → Bool) (at : ℕ) (r s : Option Recording) → AreLikeRecordings stands r s → AreLikeEchoes stands (option_and_then (due_of at) r) (option_and_then (due_of at) s)
echo_like stands at None None h = tt
echo_like stands at (Some r) (Some s) h = due_like stands at r s h
echo_like stands at None (Some s) h = absurd h
echo_like stands at (Some r) None h = absurd h

echo_with_renamed : FloorRenamed → (stands : Member → Member → Bool) (setup : Setup) (acts others : List Act) (n : ℕ) (echoed : List Bool) → AreFreelyRenamed stands setup.places acts others → n ≤ length acts → AreLikeEchoes stands (echo_with setup acts n echoed) (echo_with setup others n echoed)
echo_with_renamed law stands setup acts others n echoed r h =
    subst (λ (at : ℕ). AreLikeEchoes stands (echo_with setup acts n echoed) (option_and_then (due_of at) (recording_with setup others n echoed))) (moment_renamed stands setup.places acts others n r)
    (echo_like stands (moment_at acts n) (recording_with setup acts n echoed) (recording_with setup others n echoed) (recording_renamed law stands setup acts others n echoed r h))

some_like : (stands : Member → Member → Bool) (e f : Option (Member × StreamPacket)) → AreLikeEchoes stands e f → is_some e ≡ is_some f
some_like stands None None h = refl
some_like stands (Some e) (Some f) h = refl
some_like stands None (Some f) h = absurd h
some_like stands (Some e) None h = absurd h

echoed_renamed : FloorRenamed → (stands : Member → Member → Bool) (setup : Setup) (acts others : List Act) (n : ℕ) → AreFreelyRenamed stands setup.places acts others → n ≤ length acts → echoed_before setup acts n ≡ echoed_before setup others n
unfolding echoed_before
echoed_renamed law stands setup acts others zero r h = refl
echoed_renamed law stands setup acts others (suc n) r h =
    let before : List Bool = echoed_before setup acts n in
    ap (λ b. before ++ b ∷ []) (some_like stands (echo_with setup acts n before) (echo_with setup others n before) (echo_with_renamed law stands setup acts others n before r (omega arith)))
    ∙ ap (λ bits. bits ++ is_some (echo_with setup others n bits) ∷ []) (echoed_renamed law stands setup acts others n r (omega arith))

pub echo_renamed : FloorRenamed → (stands : Member → Member → Bool) (setup : Setup) (acts others : List Act) (n : ℕ) → AreFreelyRenamed stands setup.places acts others → n ≤ length acts → AreLikeEchoes stands (echo_at setup acts n) (echo_at setup others n)
unfolding echo_at
echo_renamed law stands setup acts others n r h =
    subst (λ (bits : List Bool). AreLikeEchoes stands (echo_with setup acts n (echoed_before setup acts n)) (echo_with setup others n bits)) (echoed_renamed law stands setup acts others n r h)
    (echo_with_renamed law stands setup acts others n (echoed_before setup acts n) r h)
