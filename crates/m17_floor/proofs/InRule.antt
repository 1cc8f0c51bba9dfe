-- The frames that are looked up, and the verdict beside them.
use Rattle.std.proofs.Common.{◌≡◌, ℕ, ◌<◌, ◌&&◌, Bool, true, false, cond, [], ◌∷◌, length, Option, None, Some, nat_lt, refl, ap, sym, ◌∙◌}
use Rattle.std.proofs.lemmas.Bool.{ltb-true, and_right, cond-true}
use Rattle.std.proofs.lemmas.Option.{cond_some}
use Rattle.std.specs.Option.{option_and_then, option_map_or}
use Rattle.m17_values.specs.declared.member.Member.{Member}
use Rattle.m17_stream.specs.declared.packet.StreamPacket.{StreamPacket}
use Rattle.m17_floor.specs.declared.act.ActKind.{ActKind}
use Rattle.m17_floor.specs.declared.act.ActKind.TheVariants.{Join, Leave, Packet, Other}
use Rattle.m17_floor.specs.declared.verdict.Verdict.{Verdict}
use Rattle.m17_floor.specs.declared.verdict.Verdict.TheVariants.{NotMember, ListenOnly}
use Rattle.m17_floor.specs.Acts.{kind_at, moment_at, is_packet}
use Rattle.m17_floor.specs.Rule.{Frame, Incoming, incoming, frame_from, only_if, first_fit, verdict_by_frames}
use Rattle.m17_floor.specs.Floor.{Past, was_admitted, joined, is_in_since, opened_at, frame_of, frame_at, has_stayed, last_admitted, floor_frame, is_packet_of, own_frame, not_member, listens, listen_only, verdict_after, verdict_given}
use Rattle.m17_floor.proofs.Frames.{stayed_at, own_test}
use Rattle.m17_lookup.proofs.LastBelow.{last_below_none}

-- what it means to be in since before a position
pub since_from : (o : Option ℕ) (a : ℕ) → option_map_or (λ j. nat_lt j a) o false ≡ true → (j : ℕ) × (o ≡ Some j) × (j < a)
since_from None a e = cc
since_from (Some j) a e = (j, refl, ltb-true j a e)

-- the packet at a position made this frame, and its sender has been in since before it
pub record IsStayed (past : Past) (a : ℕ) (frame : Frame) : Type 0 where
  pub sender : Member
  pub packet : StreamPacket
  pub kind_is : kind_at past.acts a ≡ Packet sender packet
  pub since : is_in_since past sender a ≡ true
  pub frame_is : frame_from (opened_at past a) (incoming sender (moment_at past.acts a) packet) ≡ frame

stayed_kind_from : (past : Past) (a : ℕ) (kind : ActKind) (frame : Frame) → kind_at past.acts a ≡ kind → cond (has_stayed past a kind) (frame_of kind (moment_at past.acts a) (opened_at past a)) None ≡ Some frame → IsStayed past a frame
stayed_kind_from past a (Packet k p) frame is e =
    let parts = cond_some (is_in_since past k a) (frame_from (opened_at past a) (incoming k (moment_at past.acts a) p)) frame e in
    record { sender = k; packet = p; kind_is = is; since = parts.0; frame_is = parts.1 }
stayed_kind_from past a (Join k only) frame is e = cc
stayed_kind_from past a (Leave k) frame is e = cc
stayed_kind_from past a Other frame is e = cc

floor_from_option : (past : Past) (o : Option ℕ) (frame : Frame) → option_and_then (stayed_at past) o ≡ Some frame → (a : ℕ) × (o ≡ Some a) × IsStayed past a frame
floor_from_option past None frame e = cc
floor_from_option past (Some a) frame e = (a, refl, stayed_kind_from past a (kind_at past.acts a) frame refl e)

-- where the floor's frame comes from
pub floor_from : (past : Past) (frame : Frame) → floor_frame past ≡ Some frame → (a : ℕ) × (last_admitted past ≡ Some a) × IsStayed past a frame
unfolding floor_frame
floor_from past frame e = floor_from_option past (last_admitted past) frame e

-- the floor's frame is of one that is in
pub floor_is_in : (past : Past) (frame : Frame) → floor_frame past ≡ Some frame → (j : ℕ) × (joined past frame.member ≡ Some j)
floor_is_in past frame e =
    let found = floor_from past frame e in
    let stayed : IsStayed past found.0 frame = found.2 in
    let since = since_from (joined past stayed.sender) found.0 stayed.since in
    (since.0, sym (ap (λ (f : Frame). joined past f.member) stayed.frame_is) ∙ since.1)

-- Nothing is kept of one that is not in.
pub own_out : (past : Past) (k : Member) → joined past k ≡ None → own_frame past k ≡ None
unfolding own_frame
own_out past k e =
    ap (option_and_then (frame_at past))
    (last_below_none (own_test past k) (length past.acts)
    (λ a l. and_right (was_admitted past a && is_packet_of k (kind_at past.acts a)) _ (ap (λ o. option_map_or (λ j. nat_lt j a) o false) e)))

pub only_if_all : (test : Frame → Bool) (o : Option Frame) → ((f : Frame) → o ≡ Some f → test f ≡ true) → only_if test o ≡ o
only_if_all test None h = refl
only_if_all test (Some f) h = cond-true (test f) (Some f) None (h f refl)

pub after_stranger : (past : Past) (new : Incoming) → joined past new.sender ≡ None → verdict_after past new ≡ NotMember
after_stranger past new e = ap (λ o. first_fit (not_member o ∷ listen_only past.acts o ∷ []) (verdict_by_frames past.setup.limit (floor_frame past) (own_frame past new.sender) new)) e

listener_line : (b : Bool) (v : Verdict) → b ≡ true → first_fit (cond b (Some ListenOnly) None ∷ []) v ≡ ListenOnly
listener_line true v e = refl
listener_line false v e = cc

speaker_line : (b : Bool) (v : Verdict) → b ≡ false → first_fit (cond b (Some ListenOnly) None ∷ []) v ≡ v
speaker_line true v e = cc
speaker_line false v e = refl

pub after_listener : (past : Past) (new : Incoming) (j : ℕ) → joined past new.sender ≡ Some j → listens (kind_at past.acts j) ≡ true → verdict_after past new ≡ ListenOnly
after_listener past new j e h =
    let rest : Verdict = verdict_by_frames past.setup.limit (floor_frame past) (own_frame past new.sender) new in
    ap (λ o. first_fit (not_member o ∷ listen_only past.acts o ∷ []) rest) e
    ∙ listener_line (listens (kind_at past.acts j)) rest h

pub after_speaker : (past : Past) (new : Incoming) (j : ℕ) → joined past new.sender ≡ Some j → listens (kind_at past.acts j) ≡ false → verdict_after past new ≡ verdict_by_frames past.setup.limit (floor_frame past) (own_frame past new.sender) new
after_speaker past new j e h =
    let rest : Verdict = verdict_by_frames past.setup.limit (floor_frame past) (own_frame past new.sender) new in
    ap (λ o. first_fit (not_member o ∷ listen_only past.acts o ∷ []) rest) e
    ∙ speaker_line (listens (kind_at past.acts j)) rest h

pub none_given : (past : Past) (at : ℕ) (kind : ActKind) → is_packet kind ≡ false → verdict_given past at kind ≡ None
unfolding verdict_given
none_given past at (Packet k p) h = cc
none_given past at (Join k only) h = refl
none_given past at (Leave k) h = refl
none_given past at Other h = refl
