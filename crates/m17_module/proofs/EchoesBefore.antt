-- What a parrot plays back at a position is the same where the list goes on.
use Rattle.std.proofs.Common.{◌≡◌, ℕ, zero, suc, ◌+◌, ◌-◌, ◌<◌, ◌≤◌, ◌&&◌, ◌||◌, Bool, true, false, cond, List, [], ◌∷◌, ◌++◌, length, take, drop, nat_lt, is_some, is_none, option_map, Option, None, Some, refl, ap, sym, ◌∙◌, arith}
use Rattle.std.specs.List.{range_with_len, count_by, find}
use Rattle.std.specs.Option.{option_and_then, option_map_or}
use Rattle.std.proofs.lemmas.List.{take-append-le}
use Rattle.std.proofs.lemmas.Option.{same_Some}
use Rattle.m17_values.specs.declared.member.Member.{Member}
use Rattle.m17_stream.specs.declared.packet.StreamPacket.{StreamPacket}
use Rattle.m17_floor.specs.declared.act.Act.{Act}
use Rattle.m17_floor.specs.declared.act.ActKind.{ActKind}
use Rattle.m17_floor.specs.declared.act.ActKind.TheVariants.{Join, Leave, Packet, Other}
use Rattle.m17_floor.specs.declared.verdict.Verdict.{Verdict}
use Rattle.m17_floor.specs.Setup.{FloorSetup}
use Rattle.m17_floor.specs.Acts.{kind_at, moment_at}
use Rattle.m17_floor.specs.Rule.{only_if, has_floor}
use Rattle.m17_floor.specs.Floor.{Past, floor_frame, opens, admits, past_with, verdicts_before, past_at, verdict_at}
use Rattle.m17_floor.specs.Laws.{LaterActsChangeNoVerdict, LaterActsChangeNoMembership, LaterActsChangeNoMoment, LaterActsChangeNoKind}
use Rattle.m17_module.specs.Recording.{Recording, most_frames, due_of}
use Rattle.m17_module.specs.Setup.{Setup, floor_setup}
use Rattle.m17_module.specs.Echoes.{is_admitted_at, is_opened_at, holder_at, packet_in, admitted_packet, held_before, has_end_bit, closes, close_before, is_in_since, opening, recording_of, last_opened, recording_with, echo_with, echoed_before, echo_at, recording_at}
use Rattle.m17_lookup.proofs.LastBelow.{last_below_same, last_below_lt, and_then_same}
use Rattle.m17_module.proofs.Below.{length_more}
use Rattle.m17_module.proofs.ItemsMore.{flat_map_same}

-- what later acts don't change
pub record Later : Type 0 where
  pub verdicts : LaterActsChangeNoVerdict
  pub members : LaterActsChangeNoMembership
  pub moments : LaterActsChangeNoMoment
  pub kinds : LaterActsChangeNoKind

verdicts_suc : (setup : FloorSetup) (acts : List Act) (n : ℕ) → verdicts_before setup acts (suc n) ≡ verdicts_before setup acts n ++ verdict_at setup acts n ∷ []
unfolding verdicts_before verdict_at
verdicts_suc setup acts n = refl

pub verdicts_same : LaterActsChangeNoVerdict → (setup : FloorSetup) (acts more : List Act) (n : ℕ) → n ≤ length acts → verdicts_before setup (acts ++ more) n ≡ verdicts_before setup acts n
unfolding verdicts_before
verdicts_same later setup acts more zero h = refl
verdicts_same later setup acts more (suc n) h =
    verdicts_suc setup (acts ++ more) n
    ∙ ap (λ verdicts. verdicts ++ verdict_at setup (acts ++ more) n ∷ []) (verdicts_same later setup acts more n (omega arith))
    ∙ ap (λ v. verdicts_before setup acts n ++ v ∷ []) (later setup acts more n (omega arith))
    ∙ sym (verdicts_suc setup acts n)

abbrev pub past_from : FloorSetup → List (Option Verdict) → List Act → Past
past_from setup verdicts front = record { setup = setup; acts = front; verdicts = verdicts }

pub past_at_same : LaterActsChangeNoVerdict → (setup : FloorSetup) (acts more : List Act) (n : ℕ) → n ≤ length acts → past_at setup (acts ++ more) n ≡ past_at setup acts n
past_at_same later setup acts more n h =
    ap (past_with setup (acts ++ more) n) (verdicts_same later setup acts more n h)
    ∙ ap (past_from setup (verdicts_before setup acts n)) (take-append-le n acts more h)

holder_same : Later → (setup : Setup) (acts more : List Act) (n : ℕ) → n < length acts → holder_at setup (acts ++ more) n ≡ holder_at setup acts n
unfolding holder_at
holder_same later setup acts more n h =
    ap (λ at. only_if (has_floor setup.limit at) (floor_frame (past_at (floor_setup setup) (acts ++ more) n))) (later.moments acts more n h)
    ∙ ap (λ past. only_if (has_floor setup.limit (moment_at acts n)) (floor_frame past)) (past_at_same later.verdicts (floor_setup setup) acts more n (omega arith))

packet_same : Later → (setup : Setup) (acts more : List Act) (n : ℕ) → n < length acts → admitted_packet setup (acts ++ more) n ≡ admitted_packet setup acts n
unfolding admitted_packet
packet_same later setup acts more n h =
    ap (λ v. cond (admits v) (packet_in (kind_at (acts ++ more) n)) []) (later.verdicts (floor_setup setup) acts more n h)
    ∙ ap (λ kind. cond (is_admitted_at setup acts n) (packet_in kind) []) (later.kinds acts more n h)

closes_same : Later → (setup : Setup) (acts more : List Act) (o n : ℕ) → n < length acts → closes setup (acts ++ more) o n ≡ closes setup acts o n
unfolding closes
closes_same later setup acts more o n h =
    ap (λ v. (admits v && has_end_bit (kind_at (acts ++ more) n)) || (nat_lt o n && is_none (holder_at setup (acts ++ more) n))) (later.verdicts (floor_setup setup) acts more n h)
    ∙ ap (λ kind. (is_admitted_at setup acts n && has_end_bit kind) || (nat_lt o n && is_none (holder_at setup (acts ++ more) n))) (later.kinds acts more n h)
    ∙ ap (λ holder. (is_admitted_at setup acts n && has_end_bit (kind_at acts n)) || (nat_lt o n && is_none holder)) (holder_same later setup acts more n h)

pub find_same : (p q : ℕ → Bool) (from n : ℕ) → ((i : ℕ) → i < from + n → p i ≡ q i) → find p (range_with_len from n) ≡ find q (range_with_len from n)
find_same p q from zero h = refl
find_same p q from (suc n) h =
    ap (λ b. cond b (Some from) (find p (range_with_len (from + 1) n))) (h from (omega arith))
    ∙ ap (cond (q from) (Some from)) (find_same p q (from + 1) n (λ i l. h i (omega arith)))

lt_cond : (b : Bool) (from c k : ℕ) (o : Option ℕ) → from < k → (o ≡ Some c → c < k) → cond b (Some from) o ≡ Some c → c < k
lt_cond true from c k o l h e = omega (arith, same_Some from c e)
lt_cond false from c k o l h e = h e

find_lt : (p : ℕ → Bool) (from n c : ℕ) → find p (range_with_len from n) ≡ Some c → c < from + n
find_lt p from zero c e = cc
find_lt p from (suc n) c e = lt_cond (p from) from c (from + suc n) (find p (range_with_len (from + 1) n)) (omega arith) (λ f. let l : c < from + 1 + n = find_lt p (from + 1) n c f in omega arith) e

map_same : (f g : ℕ → ℕ) (o : Option ℕ) → ((c : ℕ) → o ≡ Some c → f c ≡ g c) → option_map f o ≡ option_map g o
map_same f g None h = refl
map_same f g (Some c) h = ap Some (h c refl)

within : (o n : ℕ) → o < n → o + (n - o) ≡ n
within o n h = omega arith

held_same : Later → (setup : Setup) (acts more : List Act) (o n : ℕ) → o < n → n ≤ length acts → held_before setup (acts ++ more) o n ≡ held_before setup acts o n
held_same later setup acts more o n l h =
    ap (take most_frames) (flat_map_same (admitted_packet setup (acts ++ more)) (admitted_packet setup acts) o (n - o) (λ i b. packet_same later setup acts more i (omega arith)))

close_same : Later → (setup : Setup) (acts more : List Act) (o n : ℕ) → o < n → n ≤ length acts → option_map (moment_at (acts ++ more)) (close_before setup (acts ++ more) o n) ≡ option_map (moment_at acts) (close_before setup acts o n)
close_same later setup acts more o n l h =
    ap (option_map (moment_at (acts ++ more))) (find_same (closes setup (acts ++ more) o) (closes setup acts o) o (n - o) (λ i b. closes_same later setup acts more o i (omega arith)))
    ∙ map_same (moment_at (acts ++ more)) (moment_at acts) (close_before setup acts o n) (λ c e. later.moments acts more c (let b : c < o + (n - o) = find_lt (closes setup acts o) o (n - o) c e in omega arith))

abbrev recording_made : Member → ℕ → Bool → List StreamPacket → Option ℕ → Option Recording
recording_made k given stays frames close = cond stays (Some (record { member = k; frames = frames; close = close; given = given })) None

recording_of_same : Later → (setup : Setup) (acts more : List Act) (n : ℕ) (echoed : List Bool) (o : ℕ) (kind : ActKind) → o < n → n ≤ length acts → recording_of (opening setup (acts ++ more) o n) echoed kind ≡ recording_of (opening setup acts o n) echoed kind
recording_of_same later setup acts more n echoed o (Packet k p) l h =
    let given : ℕ = count_by (λ has_echo. has_echo) (drop (suc o) echoed) in
    ap (λ j. recording_made k given (option_map_or (λ i. nat_lt i o) j false) (held_before setup (acts ++ more) o n) (option_map (moment_at (acts ++ more)) (close_before setup (acts ++ more) o n))) (later.members setup.places acts more k n h)
    ∙ ap (λ frames. recording_made k given (is_in_since setup.places acts k o n) frames (option_map (moment_at (acts ++ more)) (close_before setup (acts ++ more) o n))) (held_same later setup acts more o n l h)
    ∙ ap (recording_made k given (is_in_since setup.places acts k o n) (held_before setup acts o n)) (close_same later setup acts more o n l h)
recording_of_same later setup acts more n echoed o (Join k listens) l h = refl
recording_of_same later setup acts more n echoed o (Leave k) l h = refl
recording_of_same later setup acts more n echoed o Other l h = refl

opened_same : Later → (setup : Setup) (acts more : List Act) (n : ℕ) → n ≤ length acts → last_opened setup (acts ++ more) n ≡ last_opened setup acts n
opened_same later setup acts more n h =
    last_below_same (is_opened_at setup (acts ++ more)) (is_opened_at setup acts) n (λ m l. ap opens (later.verdicts (floor_setup setup) acts more m (omega arith)))

pub recording_with_same : Later → (setup : Setup) (acts more : List Act) (n : ℕ) (echoed : List Bool) → n ≤ length acts → recording_with setup (acts ++ more) n echoed ≡ recording_with setup acts n echoed
unfolding recording_with
recording_with_same later setup acts more n echoed h =
    ap (option_and_then (λ o. recording_of (opening setup (acts ++ more) o n) echoed (kind_at (acts ++ more) o))) (opened_same later setup acts more n h)
    ∙ and_then_same (last_opened setup acts n) _ _ (λ o e.
    let l : o < n = last_below_lt (is_opened_at setup acts) n o e in
    ap (recording_of (opening setup (acts ++ more) o n) echoed) (later.kinds acts more o (omega arith))
    ∙ recording_of_same later setup acts more n echoed o (kind_at acts o) l h)

echo_with_same : Later → (setup : Setup) (acts more : List Act) (n : ℕ) (echoed : List Bool) → n < length acts → echo_with setup (acts ++ more) n echoed ≡ echo_with setup acts n echoed
echo_with_same later setup acts more n echoed h =
    ap (λ at. option_and_then (due_of at) (recording_with setup (acts ++ more) n echoed)) (later.moments acts more n h)
    ∙ ap (option_and_then (due_of (moment_at acts n))) (recording_with_same later setup acts more n echoed (omega arith))

pub echoed_same : Later → (setup : Setup) (acts more : List Act) (n : ℕ) → n ≤ length acts → echoed_before setup (acts ++ more) n ≡ echoed_before setup acts n
unfolding echoed_before
echoed_same later setup acts more zero h = refl
echoed_same later setup acts more (suc n) h =
    ap (λ before. before ++ is_some (echo_with setup (acts ++ more) n before) ∷ []) (echoed_same later setup acts more n (omega arith))
    ∙ ap (λ echo. echoed_before setup acts n ++ is_some echo ∷ []) (echo_with_same later setup acts more n (echoed_before setup acts n) (omega arith))

-- What comes later changes no echo, ..
pub echo_same : Later → (setup : Setup) (acts more : List Act) (n : ℕ) → n < length acts → echo_at setup (acts ++ more) n ≡ echo_at setup acts n
unfolding echo_at
echo_same later setup acts more n h =
    ap (echo_with setup (acts ++ more) n) (echoed_same later setup acts more n (omega arith))
    ∙ echo_with_same later setup acts more n (echoed_before setup acts n) h

-- .. and nothing that was recorded.
pub recording_same : Later → (setup : Setup) (acts more : List Act) (n : ℕ) → n ≤ length acts → recording_at setup (acts ++ more) n ≡ recording_at setup acts n
unfolding recording_at
recording_same later setup acts more n h =
    ap (recording_with setup (acts ++ more) n) (echoed_same later setup acts more n h)
    ∙ recording_with_same later setup acts more n (echoed_before setup acts n) h

-- one position more
pub echoed_suc : (setup : Setup) (acts : List Act) (n : ℕ) → echoed_before setup acts (suc n) ≡ echoed_before setup acts n ++ is_some (echo_at setup acts n) ∷ []
unfolding echoed_before echo_at
echoed_suc setup acts n = refl

pub length_echoed : (setup : Setup) (acts : List Act) (n : ℕ) → length (echoed_before setup acts n) ≡ n
unfolding echoed_before
length_echoed setup acts zero = refl
length_echoed setup acts (suc n) = ap length (echoed_suc setup acts n) ∙ length_more (echoed_before setup acts n) (is_some (echo_at setup acts n)) ∙ ap suc (length_echoed setup acts n)
