-- What each verdict means of the lines of the table.
use Rattle.std.proofs.Common.{◌≡◌, ◌⊎◌, ℕ, ◌<◌, ◌≤◌, ◌==◌, Bool, true, false, cond, List, [], ◌∷◌, Option, None, Some, nat_le, inl, inr, refl, ap, sym, ◌∙◌, arith}
use Rattle.std.proofs.lemmas.Bool.{cases_Bool, false≢true, cond-true, eqb-false, le-leb}
use Rattle.std.proofs.lemmas.Option.{cond_some}
use Rattle.m17_stream.specs.Stream.{steps_ahead}
use Rattle.m17_floor.specs.declared.act.Act.{Act}
use Rattle.m17_floor.specs.declared.verdict.Verdict.{Verdict}
use Rattle.m17_floor.specs.declared.verdict.Verdict.TheVariants.{Opened, Continued, Busy, Repeat, Late, AfterEnd, TimedOut, NotMember, ListenOnly}
use Rattle.m17_floor.specs.Acts.{kind_at}
use Rattle.m17_floor.specs.Rule.{late_from, Frame, Incoming, is_of_stream, after_end, repeated, late, timed_out, has_run_out, first_fit, verdict_beside, only_if}
use Rattle.m17_floor.specs.Floor.{not_member, listens, listen_only, admits}

-- the four lines that look at the sender's own frame
abbrev pub own_lines : Bool → Bool → Bool → ℕ → Bool → List (Option Verdict) → List (Option Verdict)
own_lines ended same far y out rest = cond ended (Some AfterEnd) None ∷ cond same (Some Repeat) None ∷ cond far (Some (Late y)) None ∷ cond out (Some TimedOut) None ∷ rest

own_lines_refuse : (ended same far : Bool) (y : ℕ) (out : Bool) (rest : List (Option Verdict)) → (ended ≡ true) ⊎ ((same ≡ true) ⊎ ((far ≡ true) ⊎ (out ≡ true))) → admits (Some (first_fit (own_lines ended same far y out rest) Opened)) ≡ false
own_lines_refuse true same far y out rest h = refl
own_lines_refuse false true far y out rest h = refl
own_lines_refuse false false true y out rest h = refl
own_lines_refuse false false false y true rest h = refl
own_lines_refuse false false false y false rest h = elim h [
  | inl e ↦ absurd (false≢true e)
  | inr g ↦ elim g [
    | inl e ↦ absurd (false≢true e)
    | inr i ↦ elim i [ inl e ↦ absurd (false≢true e) | inr e ↦ absurd (false≢true e) ]
  ]
]

busy_or_refused : (b : Bool) (v : Verdict) (rest : List (Option Verdict)) → admits (Some v) ≡ false → admits (Some (first_fit rest Opened)) ≡ false → admits (Some (first_fit (cond b None (Some v) ∷ rest) Opened)) ≡ false
busy_or_refused true v rest h g = g
busy_or_refused false v rest h g = h

-- the sender's own frame ended its stream, has the number or is past it, or is of an opening that has run out
abbrev pub StandsAgainst : ℕ → Frame → Incoming → Type 0
StandsAgainst limit own new =
    (own.last ≡ true)
    ⊎ (((new.packet.number == own.number) ≡ true)
    ⊎ ((nat_le late_from (steps_ahead new.packet.number own.number) ≡ true) ⊎ (has_run_out limit new.at own.opened ≡ true)))

-- Where the sender's own frame stands against the packet, it isn't admitted.
pub beside_refused : (limit : ℕ) (holder : Option Frame) (own : Frame) (new : Incoming) → StandsAgainst limit own new → admits (Some (verdict_beside limit holder (Some own) new)) ≡ false
beside_refused limit None own new h = own_lines_refuse _ _ _ own.number _ (None ∷ []) h
beside_refused limit (Some holder) own new h = busy_or_refused (is_of_stream holder new) (Busy holder.member) _ refl (own_lines_refuse _ _ _ own.number _ (Some Continued ∷ []) h)

late_from_past : (x y : ℕ) → x < 32768 → y < 32768 → steps_ahead y x ≤ 16384 → (x ≡ y → ⊥) → 16384 ≤ steps_ahead x y
late_from_past x y hx hy h ne = omega arith

-- a number that was passed is the same, or late
pub passed_number : (number passed : ℕ) → number < 32768 → passed < 32768 → steps_ahead passed number ≤ 16384 → ((number == passed) ≡ true) ⊎ (nat_le late_from (steps_ahead number passed) ≡ true)
passed_number number passed hx hy h =
    elim (cases_Bool (number == passed)) [
      | inl same ↦ inl same
      | inr other ↦ inr (le-leb _ _ (late_from_past number passed hx hy h (eqb-false number passed other)))
    ]

-- The first two lines let no packet in.
pub first_refused : (acts : List Act) (o : Option ℕ) (v : Verdict) → admits (Some v) ≡ false → admits (Some (first_fit (not_member o ∷ listen_only acts o ∷ []) v)) ≡ false
first_refused acts None v h = refl
first_refused acts (Some j) v h = elim (cases_Bool (listens (kind_at acts j))) [
  | inl e ↦ ap (λ b. admits (Some (first_fit (cond b (Some ListenOnly) None ∷ []) v))) e
  | inr e ↦ ap (λ b. admits (Some (first_fit (cond b (Some ListenOnly) None ∷ []) v))) e ∙ h
]

listens_lets : (b : Bool) (v w : Verdict) → admits (Some w) ≡ true → first_fit (cond b (Some ListenOnly) None ∷ []) v ≡ w → v ≡ w
listens_lets true v w a e = absurd (false≢true (ap (λ x. admits (Some x)) e ∙ a))
listens_lets false v w a e = e

-- An admitted verdict comes from the lines after them.
pub first_lets : (acts : List Act) (o : Option ℕ) (v w : Verdict) → admits (Some w) ≡ true → first_fit (not_member o ∷ listen_only acts o ∷ []) v ≡ w → v ≡ w
first_lets acts None v w a e = absurd (false≢true (ap (λ x. admits (Some x)) e ∙ a))
first_lets acts (Some j) v w a e = listens_lets (listens (kind_at acts j)) v w a e

-- the sender's own frame stands not against the packet
pub record Passes (own : Frame) (number : ℕ) : Type 0 where
  pub open_ : own.last ≡ false
  pub other : (number == own.number) ≡ false
  pub near : nat_le late_from (steps_ahead number own.number) ≡ false

own_lines_let : (ended same far : Bool) (y : ℕ) (out : Bool) (rest : List (Option Verdict)) (w : Verdict) → admits (Some w) ≡ true → first_fit (own_lines ended same far y out rest) Opened ≡ w → (ended ≡ false) × (same ≡ false) × (far ≡ false) × (first_fit rest Opened ≡ w)
own_lines_let true same far y out rest w a e = absurd (false≢true (ap (λ x. admits (Some x)) e ∙ a))
own_lines_let false true far y out rest w a e = absurd (false≢true (ap (λ x. admits (Some x)) e ∙ a))
own_lines_let false false true y out rest w a e = absurd (false≢true (ap (λ x. admits (Some x)) e ∙ a))
own_lines_let false false false y true rest w a e = absurd (false≢true (ap (λ x. admits (Some x)) e ∙ a))
own_lines_let false false false y false rest w a e = (refl, refl, refl, e)

-- the lines beside the sender's own frame let an admitted packet pass
own_passes : (limit at : ℕ) (own : Option Frame) (number : ℕ) (rest : List (Option Verdict)) (w : Verdict) → admits (Some w) ≡ true → first_fit (after_end own ∷ repeated own number ∷ late own number ∷ timed_out limit at own ∷ rest) Opened ≡ w → ((f : Frame) → own ≡ Some f → Passes f number) × (first_fit rest Opened ≡ w)
own_passes limit at None number rest w a e = (λ f is. absurd (cc), e)
own_passes limit at (Some own) number rest w a e =
    let parts = own_lines_let own.last (number == own.number) (nat_le late_from (steps_ahead number own.number)) own.number (has_run_out limit at own.opened) rest w a e in
    let passes : Passes own number = record { open_ = parts.0; other = parts.1; near = parts.2 } in
    (λ f is. let same : own ≡ f = cc in rw (← same) passes, parts.3)

-- what continued means
pub record IsContinued (holder own : Option Frame) (new : Incoming) : Type 0 where
  pub frame : Frame
  pub holder_is : holder ≡ Some frame
  pub of_stream : is_of_stream frame new ≡ true
  pub passes : (f : Frame) → own ≡ Some f → Passes f new.packet.number

-- the lines after the first one
abbrev after_busy : ℕ → Option Frame → Incoming → Option Verdict → List (Option Verdict)
after_busy limit own new last = after_end own ∷ repeated own new.packet.number ∷ late own new.packet.number ∷ timed_out limit new.at own ∷ last ∷ []

continued_from : (b : Bool) (limit : ℕ) (holder : Frame) (own : Option Frame) (new : Incoming) → is_of_stream holder new ≡ b → first_fit (cond b None (Some (Busy holder.member)) ∷ after_busy limit own new (Some Continued)) Opened ≡ Continued → IsContinued (Some holder) own new
continued_from true limit holder own new b e = record {
  frame = holder;
  holder_is = refl;
  of_stream = b;
  passes = (own_passes limit new.at own new.packet.number (Some Continued ∷ []) Continued refl e).0;
}
continued_from false limit holder own new b e = absurd (cc)

pub beside_continued : (limit : ℕ) (holder own : Option Frame) (new : Incoming) → verdict_beside limit holder own new ≡ Continued → IsContinued holder own new
beside_continued limit None own new e =
    let rest : Opened ≡ Continued = (own_passes limit new.at own new.packet.number (None ∷ []) Continued refl e).1 in
    absurd (cc)
beside_continued limit (Some holder) own new e = continued_from (is_of_stream holder new) limit holder own new refl e

opened_from : (b : Bool) (limit : ℕ) (holder : Frame) (own : Option Frame) (new : Incoming) → first_fit (cond b None (Some (Busy holder.member)) ∷ after_busy limit own new (Some Continued)) Opened ≡ Opened → ⊥
opened_from true limit holder own new e =
    let rest : Continued ≡ Opened = (own_passes limit new.at own new.packet.number (Some Continued ∷ []) Opened refl e).1 in
    cc
opened_from false limit holder own new e = cc

-- A packet opens the floor only where no frame has it.
pub beside_opened : (limit : ℕ) (holder own : Option Frame) (new : Incoming) → verdict_beside limit holder own new ≡ Opened → holder ≡ None
beside_opened limit None own new e = refl
beside_opened limit (Some holder) own new e = absurd (opened_from (is_of_stream holder new) limit holder own new e)

pub only_if_from : (test : Frame → Bool) (o : Option Frame) (f : Frame) → only_if test o ≡ Some f → (o ≡ Some f) × (test f ≡ true)
only_if_from test None f e = cc
only_if_from test (Some g) f e =
    let parts = cond_some (test g) g f e in
    (ap Some parts.1, ap test (sym parts.1) ∙ parts.0)

pub only_if_true : (test : Frame → Bool) (f : Frame) → test f ≡ true → only_if test (Some f) ≡ Some f
only_if_true test f h = cond-true (test f) (Some f) None h

-- an admitted verdict that opens nothing
pub continued_is : (v : Verdict) → admits (Some v) ≡ true → (v ≡ Opened → ⊥) → v ≡ Continued
continued_is Opened a ne = absurd (ne refl)
continued_is Continued a ne = refl
continued_is (Busy m) a ne = absurd (false≢true a)
continued_is Repeat a ne = absurd (false≢true a)
continued_is (Late y) a ne = absurd (false≢true a)
continued_is AfterEnd a ne = absurd (false≢true a)
continued_is TimedOut a ne = absurd (false≢true a)
continued_is NotMember a ne = absurd (false≢true a)
continued_is ListenOnly a ne = absurd (false≢true a)

-- an admitted verdict is one of the two
pub admitted_is : (v : Verdict) → admits (Some v) ≡ true → (v ≡ Opened) ⊎ (v ≡ Continued)
admitted_is Opened a = inl refl
admitted_is Continued a = inr refl
admitted_is (Busy m) a = absurd (false≢true a)
admitted_is Repeat a = absurd (false≢true a)
admitted_is (Late y) a = absurd (false≢true a)
admitted_is AfterEnd a = absurd (false≢true a)
admitted_is TimedOut a = absurd (false≢true a)
admitted_is NotMember a = absurd (false≢true a)
admitted_is ListenOnly a = absurd (false≢true a)
