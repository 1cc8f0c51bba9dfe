-- A list without a packet: nothing is admitted, and nothing is kept.
use Rattle.std.proofs.Common.{◌≡◌, ℕ, zero, suc, ◌&&◌, false, List, [], ◌∷◌, ◌++◌, length, Option, None, slice_get, unwrap_or, refl, ap, ◌∙◌}
use Rattle.std.proofs.lemmas.Bool.{and_left}
use Rattle.std.specs.Option.{option_and_then}
use Rattle.m17_values.specs.declared.member.Member.{Member}
use Rattle.m17_floor.specs.declared.act.Act.{Act}
use Rattle.m17_floor.specs.declared.verdict.Verdict.{Verdict}
use Rattle.m17_floor.specs.Setup.{FloorSetup}
use Rattle.m17_floor.specs.Acts.{kind_at, moment_at, is_packet}
use Rattle.m17_floor.specs.Floor.{Past, was_admitted, is_in_since, frame_at, last_admitted, floor_frame, is_packet_of, last_own, own_frame, admits, past_with, verdicts_before}
use Rattle.m17_floor.specs.StandsFor.{past_of, HasNoPacket}
use Rattle.m17_floor.proofs.Frames.{stayed_at}
use Rattle.m17_floor.proofs.InRule.{none_given}
use Rattle.m17_lookup.proofs.LastBelow.{last_below_none}

no_packet_at : (acts : List Act) (m : ℕ) → HasNoPacket acts → is_packet (kind_at acts m) ≡ false
no_packet_at [] m h = refl
no_packet_at (act ∷ acts) zero h = h.0
no_packet_at (act ∷ acts) (suc m) h = no_packet_at acts m h.1

none_at_the_end : (xs : List (Option Verdict)) (m : ℕ) → unwrap_or (slice_get (xs ++ None ∷ []) m) None ≡ unwrap_or (slice_get xs m) None
none_at_the_end [] zero = refl
none_at_the_end [] (suc m) = refl
none_at_the_end (x ∷ xs) zero = refl
none_at_the_end (x ∷ xs) (suc m) = none_at_the_end xs m

none_before : (setup : FloorSetup) (acts : List Act) (n m : ℕ) → HasNoPacket acts → unwrap_or (slice_get (verdicts_before setup acts n) m) None ≡ None
unfolding verdicts_before
none_before setup acts zero m h = refl
none_before setup acts (suc n) m h =
    let before : List (Option Verdict) = verdicts_before setup acts n in
    ap (λ v. unwrap_or (slice_get (before ++ v ∷ []) m) None) (none_given (past_with setup acts n before) (moment_at acts n) (kind_at acts n) (no_packet_at acts n h))
    ∙ none_at_the_end before m
    ∙ none_before setup acts n m h

none_admitted : (setup : FloorSetup) (acts : List Act) (m : ℕ) → HasNoPacket acts → was_admitted (past_of setup acts) m ≡ false
none_admitted setup acts m h = ap admits (none_before setup acts (length acts) m h)

pub no_floor_frame : (setup : FloorSetup) (acts : List Act) → HasNoPacket acts → floor_frame (past_of setup acts) ≡ None
unfolding floor_frame
no_floor_frame setup acts h =
    let none : last_admitted (past_of setup acts) ≡ None = last_below_none _ (length acts) (λ m l. none_admitted setup acts m h) in
    ap (option_and_then (stayed_at (past_of setup acts))) none

pub no_own_frame : (setup : FloorSetup) (acts : List Act) (k : Member) → HasNoPacket acts → own_frame (past_of setup acts) k ≡ None
unfolding own_frame
no_own_frame setup acts k h =
    let past : Past = past_of setup acts in
    let none : last_own past k ≡ None =
    last_below_none _ (length acts)
    (λ m l. and_left (was_admitted past m && is_packet_of k (kind_at acts m)) (is_in_since past k m) (and_left (was_admitted past m) (is_packet_of k (kind_at acts m)) (none_admitted setup acts m h))) in
    ap (option_and_then (frame_at past)) none
