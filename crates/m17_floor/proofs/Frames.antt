-- What one more act makes of the floor's frame and of each member's own.
use Rattle.std.proofs.Common.{◌≡◌, ℕ, suc, ◌<◌, ◌&&◌, Bool, true, false, not, cond, List, [], ◌∷◌, length, Option, None, Some, nat_lt, refl, ap, ◌∙◌, arith}
use Rattle.std.proofs.lemmas.Bool.{cond-true, cond-false, lt-ltb, and_left, and_right, and_from}
use Rattle.std.proofs.Math.Bool.{and-true}
use Rattle.std.specs.Option.{option_and_then, option_map_or}
use Rattle.m17_values.specs.declared.member.Member.{Member}
use Rattle.m17_stream.specs.declared.packet.StreamPacket.{StreamPacket}
use Rattle.m17_floor.specs.declared.act.Act.{Act}
use Rattle.m17_floor.specs.declared.act.ActKind.{ActKind}
use Rattle.m17_floor.specs.declared.act.ActKind.TheVariants.{Join, Leave, Packet, Other}
use Rattle.m17_floor.specs.declared.verdict.Verdict.{Verdict}
use Rattle.m17_lookup.specs.Lookup.{last_below}
use Rattle.m17_floor.specs.Acts.{with_act, kind_at, moment_at, is_same, settles}
use Rattle.m17_floor.specs.Rule.{Frame, incoming, frame_from, only_if}
use Rattle.m17_floor.specs.Floor.{Past, was_opened, was_admitted, opens, admits, joined, is_in_since, opening_of, opened_at, frame_of, frame_at, has_stayed, last_admitted, floor_frame, is_packet_of, last_own, own_frame}
use Rattle.m17_floor.specs.StandsFor.{packet_act}
use Rattle.m17_lookup.proofs.LastBelow.{last_below_suc, last_below_same, last_below_none, last_below_lt, and_then_same}
use Rattle.m17_floor.proofs.Members.{is_same_self}
use Rattle.m17_floor.proofs.OneMore.{grown, IsWhole, kind_end, length_more, moment_there, moment_end, given_before, was_before, was_end, last_admitted_more, since_more}
use Rattle.m17_floor.proofs.Prefix.{kind_before, moment_at_same, joined_lt}

-- the act doesn't decide whether the frame's sender is in
abbrev pub leaves_in : ActKind → Frame → Bool
leaves_in kind frame = not (settles frame.member kind)

pub map_or_same : (o : Option ℕ) (f g : ℕ → ℕ) (d : ℕ) → ((a : ℕ) → o ≡ Some a → f a ≡ g a) → option_map_or f o d ≡ option_map_or g o d
map_or_same None f g d h = refl
map_or_same (Some a) f g d h = h a refl

-- the last opened position at or below a, and the moment there, are the same below the new act
opening_before : (past : Past) (act : Act) (v : Option Verdict) (a : ℕ) → IsWhole past → a < length past.acts → opening_of (grown past act v) a ≡ opening_of past a
opening_before past act v a len h =
    last_below_same _ _ (suc a) (λ m l. ap opens (given_before past act v m len (omega arith)))

pub opened_before : (past : Past) (act : Act) (v : Option Verdict) (a : ℕ) → IsWhole past → a < length past.acts → opened_at (grown past act v) a ≡ opened_at past a
opened_before past act v a len h =
    ap (λ o. option_map_or (moment_at (with_act past.acts act)) o 0) (opening_before past act v a len h)
    ∙ map_or_same (opening_of past a) _ _ 0 (λ o e. moment_at_same past.acts (act ∷ []) o (omega (arith, last_below_lt (was_opened past) (suc a) o e)))

frame_before : (past : Past) (act : Act) (v : Option Verdict) (a : ℕ) → IsWhole past → a < length past.acts → frame_at (grown past act v) a ≡ frame_at past a
frame_before past act v a len h =
    let longer : List Act = with_act past.acts act in
    ap (λ kind. frame_of kind (moment_at longer a) (opened_at (grown past act v) a)) (kind_before past.acts (act ∷ []) a h)
    ∙ ap (λ at. frame_of (kind_at past.acts a) at (opened_at (grown past act v) a)) (moment_at_same past.acts (act ∷ []) a h)
    ∙ ap (frame_of (kind_at past.acts a) (moment_at past.acts a)) (opened_before past act v a len h)

only_if_both : (test : Frame → Bool) (frame : Frame) (b : Bool) → cond (test frame && b) (Some frame) None ≡ only_if test (cond b (Some frame) None)
only_if_both test frame true = ap (λ c. cond c (Some frame) None) (and-true (test frame))
only_if_both test frame false = cond-false (test frame && false) (Some frame) None (and_right (test frame) false refl)

-- the frame at a position, if its sender has been in since before it
abbrev pub stayed_at : Past → ℕ → Option Frame
stayed_at past a = cond (has_stayed past a (kind_at past.acts a)) (frame_at past a) None

stayed_kind : (past : Past) (act : Act) (v : Option Verdict) (a at opened : ℕ) (kind : ActKind) → a < length past.acts → cond (has_stayed (grown past act v) a kind) (frame_of kind at opened) None ≡ only_if (leaves_in act.kind) (cond (has_stayed past a kind) (frame_of kind at opened) None)
stayed_kind past act v a at opened (Packet k p) h =
    let frame : Frame = frame_from opened (incoming k at p) in
    ap (λ c. cond c (Some frame) None) (since_more past act v k a (omega arith))
    ∙ only_if_both (leaves_in act.kind) frame (is_in_since past k a)
stayed_kind past act v a at opened (Join k only) h = refl
stayed_kind past act v a at opened (Leave k) h = refl
stayed_kind past act v a at opened Other h = refl

stayed_before : (past : Past) (act : Act) (v : Option Verdict) (a : ℕ) → IsWhole past → a < length past.acts → stayed_at (grown past act v) a ≡ only_if (leaves_in act.kind) (stayed_at past a)
stayed_before past act v a len h =
    ap (λ kind. cond (has_stayed (grown past act v) a kind) (frame_at (grown past act v) a) None) (kind_before past.acts (act ∷ []) a h)
    ∙ ap (λ frame. cond (has_stayed (grown past act v) a (kind_at past.acts a)) frame None) (frame_before past act v a len h)
    ∙ stayed_kind past act v a (moment_at past.acts a) (opened_at past a) (kind_at past.acts a) h

and_then_only_if : (test : Frame → Bool) (o : Option ℕ) (f g : ℕ → Option Frame) → ((a : ℕ) → o ≡ Some a → f a ≡ only_if test (g a)) → option_and_then f o ≡ only_if test (option_and_then g o)
and_then_only_if test None f g h = refl
and_then_only_if test (Some a) f g h = h a refl

not_admitted : (v : Option Verdict) (n : ℕ) (o : Option ℕ) → admits v ≡ false → cond (admits v) (Some n) o ≡ o
not_admitted v n o r = cond-false (admits v) (Some n) o r

-- An act that isn't admitted leaves the floor's frame, unless it decides whether the frame's sender is in.
pub floor_kept : (past : Past) (act : Act) (v : Option Verdict) → IsWhole past → admits v ≡ false → floor_frame (grown past act v) ≡ only_if (leaves_in act.kind) (floor_frame past)
unfolding floor_frame
floor_kept past act v len r =
    ap (option_and_then (stayed_at (grown past act v))) (last_admitted_more past act v len ∙ not_admitted v (length past.acts) (last_admitted past) r)
    ∙ and_then_only_if (leaves_in act.kind) (last_admitted past) _ _ (λ a e. stayed_before past act v a len (last_below_lt (was_admitted past) (length past.acts) a e))

pub frame_end : (past : Past) (moment : ℕ) (k : Member) (p : StreamPacket) (v : Option Verdict) → frame_at (grown past (packet_act moment k p) v) (length past.acts) ≡ Some (frame_from (opened_at (grown past (packet_act moment k p) v) (length past.acts)) (incoming k (moment_there past.acts moment) p))
frame_end past moment k p v =
    let act : Act = packet_act moment k p in
    let opened : ℕ = opened_at (grown past act v) (length past.acts) in
    ap (λ kind. frame_of kind (moment_at (with_act past.acts act) (length past.acts)) opened) (kind_end past.acts act)
    ∙ ap (λ at. Some (frame_from opened (incoming k at p))) (moment_end past.acts act)

-- one that is in has been in since before the new act
in_since_end : (past : Past) (k : Member) (j : ℕ) → joined past k ≡ Some j → is_in_since past k (length past.acts) ≡ true
in_since_end past k j e =
    ap (λ o. option_map_or (λ i. nat_lt i (length past.acts)) o false) e
    ∙ lt-ltb j (length past.acts) (joined_lt past.setup.places past.acts k (length past.acts) j e)

-- An admitted packet of one that is in becomes the floor's frame.
pub floor_admitted : (past : Past) (moment : ℕ) (k : Member) (p : StreamPacket) (v : Option Verdict) (j : ℕ) → IsWhole past → joined past k ≡ Some j → admits v ≡ true → floor_frame (grown past (packet_act moment k p) v) ≡ Some (frame_from (opened_at (grown past (packet_act moment k p) v) (length past.acts)) (incoming k (moment_there past.acts moment) p))
unfolding floor_frame
floor_admitted past moment k p v j len e h =
    let n : ℕ = length past.acts in
    let act : Act = packet_act moment k p in
    let longer : Past = grown past act v in
    let stayed : is_in_since longer k n ≡ true = since_more past act v k n (omega arith) ∙ in_since_end past k j e in
    ap (option_and_then (stayed_at longer)) (last_admitted_more past act v len ∙ cond-true (admits v) (Some n) (last_admitted past) h)
    ∙ ap (λ kind. cond (has_stayed longer n kind) (frame_at longer n) None) (kind_end past.acts act)
    ∙ cond-true (is_in_since longer k n) (frame_at longer n) None stayed
    ∙ frame_end past moment k p v

-- the position is an admitted packet of the member since its Join
abbrev pub own_test : Past → Member → ℕ → Bool
own_test past k a = was_admitted past a && is_packet_of k (kind_at past.acts a) && is_in_since past k a

own_before : (past : Past) (act : Act) (v : Option Verdict) (k : Member) (a : ℕ) → IsWhole past → a < length past.acts → own_test (grown past act v) k a ≡ (was_admitted past a && is_packet_of k (kind_at past.acts a) && (not (settles k act.kind) && is_in_since past k a))
own_before past act v k a len h =
    ap (λ c. c && is_packet_of k (kind_at (with_act past.acts act) a) && is_in_since (grown past act v) k a) (was_before past act v a len h)
    ∙ ap (λ kind. was_admitted past a && is_packet_of k kind && is_in_since (grown past act v) k a) (kind_before past.acts (act ∷ []) a h)
    ∙ ap (λ c. was_admitted past a && is_packet_of k (kind_at past.acts a) && c) (since_more past act v k a (omega arith))

own_end : (past : Past) (act : Act) (v : Option Verdict) (k : Member) → IsWhole past → own_test (grown past act v) k (length past.acts) ≡ (admits v && is_packet_of k act.kind && (not (settles k act.kind) && is_in_since past k (length past.acts)))
own_end past act v k len =
    let n : ℕ = length past.acts in
    ap (λ c. c && is_packet_of k (kind_at (with_act past.acts act) n) && is_in_since (grown past act v) k n) (was_end past act v len)
    ∙ ap (λ kind. admits v && is_packet_of k kind && is_in_since (grown past act v) k n) (kind_end past.acts act)
    ∙ ap (λ c. admits v && is_packet_of k act.kind && c) (since_more past act v k n (omega arith))

own_more : (past : Past) (act : Act) (v : Option Verdict) (k : Member) → last_own (grown past act v) k ≡ cond (own_test (grown past act v) k (length past.acts)) (Some (length past.acts)) (last_below (own_test (grown past act v) k) (length past.acts))
own_more past act v k = ap (last_below (own_test (grown past act v) k)) (length_more past.acts act) ∙ last_below_suc (own_test (grown past act v) k) (length past.acts)

-- An act that decides whether the member is in leaves nothing of its frame.
pub own_settled : (past : Past) (act : Act) (v : Option Verdict) (k : Member) → IsWhole past → settles k act.kind ≡ true → own_frame (grown past act v) k ≡ None
unfolding own_frame
own_settled past act v k len s =
    let n : ℕ = length past.acts in
    let out : (since : Bool) → (not (settles k act.kind) && since) ≡ false = λ since. ap (λ c. not c && since) s in
    let here : own_test (grown past act v) k n ≡ false = own_end past act v k len ∙ and_right (admits v && is_packet_of k act.kind) _ (out (is_in_since past k n)) in
    let below : last_below (own_test (grown past act v) k) n ≡ None =
    last_below_none _ n (λ a l. own_before past act v k a len l ∙ and_right (was_admitted past a && is_packet_of k (kind_at past.acts a)) _ (out (is_in_since past k a))) in
    ap (option_and_then (frame_at (grown past act v))) (own_more past act v k ∙ cond-false _ (Some n) _ here ∙ below)

-- below the new act the member's admitted packets are the same
own_same : (past : Past) (act : Act) (v : Option Verdict) (k : Member) → IsWhole past → settles k act.kind ≡ false → last_below (own_test (grown past act v) k) (length past.acts) ≡ last_own past k
own_same past act v k len s =
    last_below_same _ _ (length past.acts)
    (λ a l. own_before past act v k a len l ∙ ap (λ c. was_admitted past a && is_packet_of k (kind_at past.acts a) && (not c && is_in_since past k a)) s)

-- An act that is no admitted packet of the member, and doesn't decide whether it is in, leaves its frame.
pub own_kept : (past : Past) (act : Act) (v : Option Verdict) (k : Member) → IsWhole past → settles k act.kind ≡ false → (admits v && is_packet_of k act.kind) ≡ false → own_frame (grown past act v) k ≡ own_frame past k
unfolding own_frame
own_kept past act v k len s r =
    let n : ℕ = length past.acts in
    let here : own_test (grown past act v) k n ≡ false = own_end past act v k len ∙ and_left (admits v && is_packet_of k act.kind) _ r in
    ap (option_and_then (frame_at (grown past act v))) (own_more past act v k ∙ cond-false _ (Some n) _ here ∙ own_same past act v k len s)
    ∙ and_then_same (last_own past k) _ _ (λ a e. frame_before past act v a len (last_below_lt (own_test past k) n a e))

-- An admitted packet of one that is in becomes its sender's own frame.
pub own_admitted : (past : Past) (moment : ℕ) (k : Member) (p : StreamPacket) (v : Option Verdict) (j : ℕ) → IsWhole past → joined past k ≡ Some j → admits v ≡ true → own_frame (grown past (packet_act moment k p) v) k ≡ Some (frame_from (opened_at (grown past (packet_act moment k p) v) (length past.acts)) (incoming k (moment_there past.acts moment) p))
unfolding own_frame
own_admitted past moment k p v j len e h =
    let n : ℕ = length past.acts in
    let act : Act = packet_act moment k p in
    let of_it : (admits v && is_same k k) ≡ true = and_from (admits v) (is_same k k) h (is_same_self k) in
    let here : own_test (grown past act v) k n ≡ true = own_end past act v k len ∙ and_from (admits v && is_same k k) (is_in_since past k n) of_it (in_since_end past k j e) in
    ap (option_and_then (frame_at (grown past act v))) (own_more past act v k ∙ cond-true _ (Some n) _ here)
    ∙ frame_end past moment k p v
