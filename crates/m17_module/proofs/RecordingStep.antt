-- What the code records is what is recorded one event further on.
use Rattle.std.proofs.Common.{◌≡◌, ℕ, ◌+◌, ◌-◌, ◌≤◌, ◌||◌, Bool, true, false, cond, List, [], ◌∷◌, ◌++◌, length, take, nat_lt, nat_le, is_some, option_map, Option, None, Some, refl, ap, sym, ◌∙◌, arith, inl, inr}
use Rattle.std.specs.Option.{option_or, option_and_then}
use Rattle.std.proofs.lemmas.Bool.{cond-true, cond-false, cases_lt, lt-ltb}
use Rattle.std.proofs.lemmas.Bool.Decides.{nat_tests}
use Rattle.std.proofs.lemmas.List.{append-nil, take_all, take-append-le}
use Rattle.m17_values.specs.declared.member.Member.{Member}
use Rattle.m17_stream.specs.declared.packet.StreamPacket.{StreamPacket}
use Rattle.m17_module.specs.Recording.{Recording, most_frames, begun, closed, due_after, next_frame, due_of, with_given}
use Rattle.m17_module.specs.Following.{closed_if, ended, extended}
use Rattle.m17_module.proofs.Below.{length_more}
use Rattle.m17_module.proofs.EchoesMore.{moved}

-- what is moved on, field by field
abbrev made : Member → List StreamPacket → Option ℕ → ℕ → Recording
made k frames close given = record { member = k; frames = frames; close = close; given = given }

kept_all : (frames : List StreamPacket) → length frames ≤ most_frames → take most_frames (frames ++ []) ≡ frames
kept_all frames few = ap (take most_frames) (append-nil frames) ∙ take_all most_frames frames few

-- closed or not
unclosed : (o : Option ℕ) → o ≡ option_or o None
unclosed None = refl
unclosed (Some c) = refl

or_false : (b : Bool) → (b || false) ≡ b
or_false true = refl
or_false false = refl

close_if : (at : ℕ) (s : Bool) (r : Recording) → closed_if s at r ≡ made r.member r.frames (option_or r.close (cond s (Some at) None)) r.given
close_if at true r = refl
close_if at false r = ap (λ close. made r.member r.frames close r.given) (unclosed r.close)

given_if : (b : Bool) (r : Recording) → cond b (record r { given = r.given + 1 }) r ≡ made r.member r.frames r.close (r.given + cond b 1 0)
given_if true r = refl
given_if false r = let e : r.given ≡ r.given + 0 = omega arith in ap (made r.member r.frames r.close) e

-- What is closed at a moment has no frame due yet.
not_yet : (close given : ℕ) → nat_le (due_after given) (close - close) ≡ false
not_yet close given = grind (arith, nat_tests)

due_closed : (at : ℕ) (close : Option ℕ) (k : Member) (frames : List StreamPacket) (given : ℕ) → due_of at (made k frames (option_or close (Some at)) given) ≡ due_of at (made k frames close given)
due_closed at None k frames given = ap (λ b. cond b (option_map (λ p. (k, p)) (next_frame (made k frames None given))) None) (not_yet at given)
due_closed at (Some c) k frames given = refl

due_if : (at : ℕ) (s : Bool) (r : Recording) → due_of at (closed_if s at r) ≡ due_of at r
due_if at true r = due_closed at r.close r.member r.frames r.given
due_if at false r = refl

pub due_turned : (at : ℕ) (s : Bool) (recording : Option Recording) → option_and_then (due_of at) (option_map (closed_if s at) recording) ≡ option_and_then (due_of at) recording
due_turned at s None = refl
due_turned at s (Some r) = due_if at s r

-- the recording when a frame was given, if one was due
given_is : (at : ℕ) (s : Bool) (r : Recording) → with_given at (closed_if s at r) ≡ made r.member r.frames (option_or r.close (cond s (Some at) None)) (r.given + cond (is_some (due_of at (closed_if s at r))) 1 0)
given_is at s r =
    let c : Recording = closed_if s at r in
    let e : c ≡ made r.member r.frames (option_or r.close (cond s (Some at) None)) r.given = close_if at s r in
    given_if (is_some (due_of at c)) c
    ∙ ap (λ (x : Recording). made x.member x.frames x.close (x.given + cond (is_some (due_of at c)) 1 0)) e

-- A position without an admitted packet.
pub moved_silent : (at : ℕ) (s : Bool) (r : Recording) → length r.frames ≤ most_frames → moved at s [] (is_some (due_of at (closed_if s at r))) r ≡ with_given at (closed_if s at r)
moved_silent at s r few =
    ap (λ frames. made r.member frames (option_or r.close (cond s (Some at) None)) (r.given + cond (is_some (due_of at (closed_if s at r))) 1 0)) (kept_all r.frames few)
    ∙ sym (given_is at s r)

-- One frame more, if there is room.
room_for : (frames : List StreamPacket) (p : StreamPacket) → length frames ≤ most_frames → take most_frames (frames ++ p ∷ []) ≡ cond (nat_lt (length frames) most_frames) (frames ++ p ∷ []) frames
room_for frames p few = elim (cases_lt (length frames) most_frames) [
  | inl below ↦ take_all most_frames (frames ++ p ∷ []) (omega (arith, length_more frames p)) ∙ sym (cond-true (nat_lt (length frames) most_frames) (frames ++ p ∷ []) frames (lt-ltb (length frames) most_frames below))
  | inr above ↦ take-append-le most_frames frames (p ∷ []) above ∙ take_all most_frames frames few ∙ sym (cond-false (nat_lt (length frames) most_frames) (frames ++ p ∷ []) frames (grind (arith, nat_tests)))
]

with_cases : (b : Bool) (frames : List StreamPacket) (r : Recording) → cond b (record r { frames = frames }) r ≡ made r.member (cond b frames r.frames) r.close r.given
with_cases true frames r = refl
with_cases false frames r = refl

ended_is : (at : ℕ) (last : Bool) (r : Recording) → cond last (closed at r) r ≡ made r.member r.frames (option_or r.close (cond last (Some at) None)) r.given
ended_is at last r = close_if at last r

-- A position that goes on with the stream: somebody has the floor.
pub moved_on : (at : ℕ) (p : StreamPacket) (r : Recording) → length r.frames ≤ most_frames → moved at (p.last || false) (p ∷ []) (is_some (due_of at (closed_if false at r))) r ≡ extended at p (with_given at (closed_if false at r))
moved_on at p r few =
    let b : Bool = is_some (due_of at r) in
    let g : Recording = made r.member r.frames r.close (r.given + cond b 1 0) in
    let given : with_given at r ≡ g = given_if b r in
    ap (λ last. made r.member (take most_frames (r.frames ++ p ∷ [])) (option_or r.close (cond last (Some at) None)) (r.given + cond b 1 0)) (or_false p.last)
    ∙ ap (λ frames. made r.member frames (option_or r.close (cond p.last (Some at) None)) (r.given + cond b 1 0)) (room_for r.frames p few)
    ∙ sym (ended_is at p.last (made r.member (cond (nat_lt (length r.frames) most_frames) (r.frames ++ p ∷ []) r.frames) r.close (r.given + cond b 1 0)))
    ∙ ap (ended at p) (sym (with_cases (nat_lt (length r.frames) most_frames) (r.frames ++ p ∷ []) g))
    ∙ ap (extended at p) (sym given)

-- A position that opens the floor.
begun_cases : (at : ℕ) (k : Member) (frames : List StreamPacket) (last : Bool) → made k frames (cond last (Some at) None) 0 ≡ cond last (closed at (made k frames None 0)) (made k frames None 0)
begun_cases at k frames true = refl
begun_cases at k frames false = refl

pub opened_is : (at : ℕ) (k : Member) (p : StreamPacket) → made k (p ∷ []) (cond p.last (Some at) None) 0 ≡ extended at p (begun k)
opened_is at k p = begun_cases at k (p ∷ []) p.last
