-- What holds of a module at all times, and what its turns make.
use Rattle.std.proofs.Common.{◌≡◌, ℕ, ◌<◌, ◌≤◌, true, nat_eq, nat_lt, nat_le, ◌&&◌, Option, None, Some, refl, arith, sym, subst}
use Rattle.std.proofs.lemmas.Bool.Decides.{nat_tests}
use Rattle.std.proofs.lemmas.Nat.{xor_of_16}
use Rattle.m17_text_commands.specs.declared.made.Made.{Made}
use Rattle.m17_text_commands.specs.declared.talk.Talk.{Talk}
use Rattle.m17_text_commands.specs.Draws.{drawn_after, next_number}
use Rattle.m17_text_commands.specs.Made.{IsSound}
use Rattle.m17_text_commands.specs.Talk.{IsSteady, Taken, Turned, silent, made_by, talk_by, spoken, begun, awake, taken}
use Rattle.m17_text_commands.proofs.Choices.{by_test}

pub drawn_within : (k x : ℕ) → 0 < k → drawn_after k x < k
unfolding drawn_after
drawn_within k x h = omega arith

pub steady_silent : IsSteady silent
steady_silent = record { who = omega arith; frames = omega arith; held = λ number e. cc; sid = omega arith }

made_sound : (m d : ℕ) (t : Talk) → m < 3 → IsSteady t → IsSound (made_by m d t)
unfolding made_by
made_sound m d t h s = by_test IsSound (nat_eq d 0 && nat_lt 0 t.number) _ _
    (λ e. (s.who, s.sid, omega arith))
    (λ e. by_test IsSound (nat_eq d 1) _ _
    (λ e. (omega arith, xor_of_16 t.sid 1 s.sid (omega arith), omega arith))
    (λ e. by_test IsSound (nat_eq d 2 && nat_le 3 t.left) _ _
    (λ e. (s.who, s.sid, omega arith))
    (λ e. (s.who, s.sid, omega arith))))

pub two_left : (d left : ℕ) → (nat_eq d 2 && nat_le 3 left) ≡ true → 3 ≤ left
two_left d left e = grind (arith, nat_tests)

talk_steady : (d : ℕ) (t : Talk) → IsSteady t → 0 < t.left → IsSteady (talk_by d t)
unfolding talk_by
talk_steady d t s l = by_test IsSteady (nat_eq d 0 && nat_lt 0 t.number) _ _
    (λ e. s)
    (λ e. by_test IsSteady (nat_eq d 1) _ _
    (λ e. s)
    (λ e. by_test IsSteady (nat_eq d 2 && nat_le 3 t.left) _ _
    (λ e. let more : 3 ≤ t.left = two_left d t.left e in
    record { who = s.who; frames = omega arith; held = λ number h. let same : t.number ≡ number = cc in omega arith; sid = s.sid })
    (λ e. record { who = s.who; frames = omega arith; held = s.held; sid = s.sid })))

pub begun_steady : (m x : ℕ) (t : Talk) → m < 3 → t.held ≡ None → IsSteady (begun m x t)
begun_steady m x t h none =
    let q : drawn_after 4 x < 4 = drawn_within 4 x (omega arith) in
    let sid : drawn_after 65536 (next_number x) < 65536 = drawn_within 65536 _ (omega arith) in
    let more : drawn_after 100 (next_number (next_number x)) < 100 = drawn_within 100 _ (omega arith) in
    record { who = omega arith; frames = omega arith; held = λ number e. cc; sid = omega arith }

-- a turn keeps what holds, and what it makes fits
pub record IsGoodTurn (t : Taken) : Type 0 where
  pub steady : IsSteady t.talk
  pub sound : IsSound t.made

spoken_good : (m x : ℕ) (t : Talk) → m < 3 → IsSteady t → 0 < t.left → IsGoodTurn (spoken m x t)
spoken_good m x t h s l = record { steady = talk_steady (drawn_after 20 x) t s l; sound = made_sound m (drawn_after 20 x) t h s }

awake_good : (m x : ℕ) (t : Talk) (held : Option ℕ) → t.held ≡ held → m < 3 → IsSteady t → IsGoodTurn (awake m x t held)
awake_good m x t (Some number) e h s =
    let low : number ≤ 124 = s.held number e in
    record {
      steady = record { who = s.who; frames = s.frames; held = λ n e. cc; sid = s.sid };
      sound = (s.who, s.sid, omega arith);
    }
awake_good m x t None e h s = by_test IsGoodTurn (nat_eq t.left 0) _ _
    (λ z. spoken_good m (next_number (next_number (next_number x))) (begun m x t) h (begun_steady m x t h e) (omega arith))
    (λ z. spoken_good m x t h s (grind (arith, nat_tests)))

pub turn_good : (m x : ℕ) (t : Talk) → m < 3 → IsSteady t → IsGoodTurn (taken m x t)
unfolding taken
turn_good m x t h s = by_test IsGoodTurn (nat_lt 0 t.rest) _ _
    (λ e. record { steady = record { who = s.who; frames = s.frames; held = s.held; sid = s.sid }; sound = tt })
    (λ e. awake_good m x t t.held refl h s)

pub turned_steady : (m x : ℕ) (t : Talk) (made : Made) (talk : Talk) (y : ℕ) → m < 3 → IsSteady t → Turned made talk y (taken m x t) → IsSteady talk
turned_steady m x t made talk y h s turned = subst IsSteady (sym turned.1) (turn_good m x t h s).steady

pub turned_sound : (m x : ℕ) (t : Talk) (made : Made) (talk : Talk) (y : ℕ) → m < 3 → IsSteady t → Turned made talk y (taken m x t) → IsSound made
turned_sound m x t made talk y h s turned = subst IsSound (sym turned.0) (turn_good m x t h s).sound
