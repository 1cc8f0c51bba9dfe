-- A turn, as the code takes it, is the turn of the rule.
use Rattle.std.proofs.Common.{◌≡◌, ℕ, zero, suc, ◌+◌, ◌-◌, ◌*◌, ◌/◌, ◌%◌, ◌<◌, ◌≤◌, true, false, nat_eq, nat_lt, nat_le, ◌&&◌, bit_xor, Option, None, Some, refl, sym, ap, ap₂, subst, ◌∙◌, arith, add-one, if◌then◌else◌}
use Rattle.std.proofs.lemmas.Bool.{eqb-true, eq-eqb}
use Rattle.std.proofs.lemmas.Bool.Decides.{nat_tests}
use Rattle.m17_text_commands.specs.declared.made.Made.{Made}
use Rattle.m17_text_commands.specs.declared.made.Made.TheVariants.{Frame, Quiet}
use Rattle.m17_text_commands.specs.declared.talk.Talk.{Talk}
use Rattle.m17_text_commands.specs.Draws.{next_number, number_after, drawn_after, draw}
use Rattle.m17_text_commands.specs.Streams.{Stream, stream, other, Stand, Turn, talk_turn, turn}
use Rattle.m17_text_commands.specs.Talk.{Taken, other_of, made_by, talk_by, spoken, begun, awake, taken}
use Rattle.m17_text_commands.proofs.Choices.{by_test_2, by_test_3, by_true, by_false}
use Rattle.m17_text_commands.proofs.Steady.{drawn_within, two_left}

-- ---- the numbers after some draws more

number_more : (seed n : ℕ) → number_after seed (n + 1) ≡ next_number (number_after seed n)
unfolding number_after
number_more seed n =
    let e : number_after seed (n + 1) ≡ number_after seed (suc n) = ap (number_after seed) (add-one n) in
    e

two_more : (seed n : ℕ) → number_after seed (n + 2) ≡ next_number (next_number (number_after seed n))
two_more seed n = ap (number_after seed) (omega arith) ∙ number_more seed (n + 1) ∙ ap next_number (number_more seed n)

three_more : (seed n : ℕ) → number_after seed (n + 3) ≡ next_number (next_number (next_number (number_after seed n)))
three_more seed n = ap (number_after seed) (omega arith) ∙ number_more seed (n + 2) ∙ ap next_number (two_more seed n)

-- ---- what the code has of a module that stands so

abbrev talk_with : ℕ → ℕ → ℕ → ℕ → ℕ → Option ℕ → Talk
talk_with left rest next who sid held = record { left = left; rest = rest; number = next; who = who; sid = sid; held = held }

abbrev talk_of : Stream → ℕ → Option ℕ → Talk
talk_of s next held = talk_with (s.frames - next) 0 next s.who s.sid held

pub record HasStream (m : ℕ) (s : Stream) (next : ℕ) (held : Option ℕ) (t : Talk) : Type 0 where
  pub talk : t ≡ talk_of s next held
  pub some_left : next < s.frames
  pub other_is : other_of m s.who ≡ other s

abbrev pub Has : ℕ → Stand → Talk → Type 0
Has m (Stand.Rests turns) t = (t.left ≡ 0) × (t.rest ≡ turns) × (t.held ≡ None)
Has m (Stand.Talks s next) t = HasStream m s next None t
Has m (Stand.HoldsBack s next) t = HasStream m s next (Some (next - 2)) t

-- ---- a turn of a stream

-- the code makes the same entry, and has what is left then
record IsTalkTurn (m draws : ℕ) (turn : Turn) (made : Made) (talk : Talk) : Type 0 where
  made_is : made ≡ turn.made
  draws_is : turn.draws ≡ draws
  has : Has m turn.stand talk

last_is_out : (frames next : ℕ) → nat_eq (frames - next) 1 ≡ true → frames - next - 1 ≡ 0
last_is_out frames next e = omega (arith, eqb-true (frames - next) 1 e)

more_are_left : (frames next : ℕ) → next < frames → nat_eq (frames - next) 1 ≡ false → next + 1 < frames
more_are_left frames next h e = grind (arith, nat_tests)

-- the frame after the next one comes first
swapped : (m : ℕ) (s : Stream) (next : ℕ) → 3 ≤ s.frames - next → other_of m s.who ≡ other s
    → HasStream m s (next + 2) (Some (next + 2 - 2)) (talk_with (s.frames - next - 2) 0 (next + 2) s.who s.sid (Some next))
swapped m s next three other_is =
    let left : s.frames - next - 2 ≡ s.frames - (next + 2) = omega arith in
    let held : next ≡ next + 2 - 2 = omega arith in
    record {
      talk = ap₂ (λ (l h : ℕ). talk_with l 0 (next + 2) s.who s.sid (Some h)) left held;
      some_left = omega arith;
      other_is = other_is;
    }

-- the next frame comes
gone_on : (m : ℕ) (s : Stream) (next : ℕ) → next < s.frames → other_of m s.who ≡ other s
    → Has m (if nat_eq (s.frames - next) 1 then Stand.Rests 5 else Stand.Talks s (next + 1))
    (talk_with (s.frames - next - 1) (if nat_eq (s.frames - next) 1 then 5 else 0) (next + 1) s.who s.sid None)
gone_on m s next some_left other_is =
    by_test_2 (λ (stand : Stand) (rest : ℕ). Has m stand (talk_with (s.frames - next - 1) rest (next + 1) s.who s.sid None)) (nat_eq (s.frames - next) 1)
    (Stand.Rests 5) (Stand.Talks s (next + 1)) 5 0
    (λ last. (last_is_out s.frames next last, refl, refl))
    (λ more.
    let left : s.frames - next - 1 ≡ s.frames - (next + 1) = omega arith in
    record {
      talk = ap (λ (l : ℕ). talk_with l 0 (next + 1) s.who s.sid None) left;
      some_left = more_are_left s.frames next some_left more;
      other_is = other_is;
    })

talk_turn_is : (m : ℕ) (s : Stream) (next draws d : ℕ) → next < s.frames → other_of m s.who ≡ other s
    → IsTalkTurn m draws (talk_turn s next draws d) (made_by m d (talk_of s next None)) (talk_by d (talk_of s next None))
unfolding made_by talk_by
talk_turn_is m s next draws d some_left other_is =
    by_test_3 (IsTalkTurn m draws) (nat_eq d 0 && nat_lt 0 next) _ _ _ _ _ _
    (λ e. record { made_is = refl; draws_is = refl; has = record { talk = refl; some_left = some_left; other_is = other_is } })
    (λ e. by_test_3 (IsTalkTurn m draws) (nat_eq d 1) _ _ _ _ _ _
    (λ e. record {
      made_is = ap (λ (i : ℕ). Frame i (bit_xor s.sid 1) 0 false) other_is;
      draws_is = refl;
      has = record { talk = refl; some_left = some_left; other_is = other_is };
    })
    (λ e. by_test_3 (IsTalkTurn m draws) (nat_eq d 2 && nat_le 3 (s.frames - next)) _ _ _ _ _ _
    (λ e. record { made_is = refl; draws_is = refl; has = swapped m s next (two_left d (s.frames - next) e) other_is })
    (λ e. record { made_is = refl; draws_is = refl; has = gone_on m s next some_left other_is })))

-- ---- a turn

pub record IsTurn (seed m n : ℕ) (turn : Turn) (taken : Taken) : Type 0 where
  pub made_is : taken.made ≡ turn.made
  pub drawn_is : taken.x ≡ number_after seed (n + turn.draws)
  pub has : Has m turn.stand taken.talk

-- the stream goes on after k draws
goes_on : (seed m n k draws x : ℕ) (s : Stream) (next : ℕ) (t : Talk) → x ≡ number_after seed k → n + draws ≡ k + 1 → HasStream m s next None t
    → IsTurn seed m n (talk_turn s next draws (draw seed k 20)) (spoken m x t)
goes_on seed m n k draws x s next t x_is count has =
    let it = talk_turn_is m s next draws (draw seed k 20) has.some_left has.other_is in
    let now : number_after seed (n + (talk_turn s next draws (draw seed k 20)).draws) ≡ next_number (number_after seed k) =
    ap (λ (more : ℕ). number_after seed (n + more)) it.draws_is ∙ ap (number_after seed) count ∙ number_more seed k in
    subst (λ (y : ℕ). IsTurn seed m n (talk_turn s next draws (draw seed k 20)) (spoken m y t)) (sym x_is)
    (subst (λ (u : Talk). IsTurn seed m n (talk_turn s next draws (draw seed k 20)) (spoken m (number_after seed k) u)) (sym has.talk)
    (record { made_is = it.made_is; drawn_is = sym now; has = it.has }))

-- the next of a module's four hotspots
next_of_four : (m q : ℕ) → m < 3 → q < 4 → m + 3 * ((((m + 3 * q) - m) / 3 + 1) % 4) ≡ (m + 3 * q + 3) % 12
next_of_four m q h four = omega arith

same_talk : (left left' rest rest' who who' sid sid' : ℕ) (held held' : Option ℕ) → left ≡ left' → rest ≡ rest' → who ≡ who' → sid ≡ sid' → held ≡ held'
    → talk_with left rest 0 who sid held ≡ talk_with left' rest' 0 who' sid' held'
same_talk left left' rest rest' who who' sid sid' held held' a b c d e =
    ap₂ (λ (l r : ℕ). talk_with l r 0 who sid held) a b ∙ ap₂ (λ (w i : ℕ). talk_with left' rest' 0 w i held) c d
    ∙ ap (λ (h : Option ℕ). talk_with left' rest' 0 who' sid' h) e

-- a stream begins
begun_has : (seed m n x : ℕ) (t : Talk) → m < 3 → x ≡ number_after seed n → Has m (Stand.Rests 0) t → HasStream m (stream seed m n) 0 None (begun m x t)
begun_has seed m n x t h x_is has =
    let first : next_number x ≡ number_after seed (n + 1) = ap next_number x_is ∙ sym (number_more seed n) in
    let second : next_number (next_number x) ≡ number_after seed (n + 2) = ap (λ (y : ℕ). next_number (next_number y)) x_is ∙ sym (two_more seed n) in
    let frames : drawn_after 100 (next_number (next_number x)) ≡ draw seed (n + 2) 100 = ap (drawn_after 100) second in
    let left : 25 + drawn_after 100 (next_number (next_number x)) ≡ 25 + draw seed (n + 2) 100 - 0 = omega arith in
    record {
      talk = same_talk _ _ t.rest 0 _ _ _ _ t.held None left has.1 (ap (λ (y : ℕ). m + 3 * drawn_after 4 y) x_is) (ap (drawn_after 65536) first) has.2;
      some_left = omega arith;
      other_is = next_of_four m (draw seed n 4) h (drawn_within 4 (number_after seed n) (omega arith));
    }

is_resting : (rest turns : ℕ) → rest ≡ suc turns → nat_lt 0 rest ≡ true
is_resting rest turns e = grind (arith, nat_tests)

is_awake : (rest : ℕ) → rest ≡ 0 → nat_lt 0 rest ≡ false
is_awake rest e = grind (arith, nat_tests)

has_some : (frames next : ℕ) → next < frames → nat_eq (frames - next) 0 ≡ false
has_some frames next h = grind (arith, nat_tests)

begins : (seed m n x : ℕ) (t : Talk) → m < 3 → x ≡ number_after seed n → Has m (Stand.Rests 0) t
    → IsTurn seed m n (talk_turn (stream seed m n) 0 4 (draw seed (n + 3) 20)) (taken m x t)
unfolding taken
begins seed m n x t h x_is has =
    let third : next_number (next_number (next_number x)) ≡ number_after seed (n + 3) =
    ap (λ (y : ℕ). next_number (next_number (next_number y))) x_is ∙ sym (three_more seed n) in
    by_false (IsTurn seed m n (talk_turn (stream seed m n) 0 4 (draw seed (n + 3) 20))) (nat_lt 0 t.rest) _ _ (is_awake t.rest has.1)
    (subst (λ (held : Option ℕ). IsTurn seed m n (talk_turn (stream seed m n) 0 4 (draw seed (n + 3) 20)) (awake m x t held)) (sym has.2)
    (by_true (IsTurn seed m n (talk_turn (stream seed m n) 0 4 (draw seed (n + 3) 20))) (nat_eq t.left 0) _ _ (eq-eqb t.left 0 has.0)
    (goes_on seed m n (n + 3) 4 (next_number (next_number (next_number x))) (stream seed m n) 0 (begun m x t) third (omega arith)
    (begun_has seed m n x t h x_is has))))

pub turn_is : (seed m n x : ℕ) (stand : Stand) (t : Talk) → m < 3 → x ≡ number_after seed n → Has m stand t → IsTurn seed m n (turn seed m n stand) (taken m x t)
unfolding turn taken
turn_is seed m n x (Stand.Rests zero) t h x_is has = begins seed m n x t h x_is has
turn_is seed m n x (Stand.Rests (suc turns)) t h x_is has =
    by_true (IsTurn seed m n (record { made = Quiet; draws = 0; stand = Stand.Rests turns })) (nat_lt 0 t.rest) _ _ (is_resting t.rest turns has.1)
    (record {
      made_is = refl;
      drawn_is = x_is ∙ ap (number_after seed) (omega arith);
      has = (has.0, omega (arith, has.1), has.2);
    })
turn_is seed m n x (Stand.Talks s next) t h x_is has =
    subst (λ (u : Talk). IsTurn seed m n (talk_turn s next 1 (draw seed n 20)) (taken m x u)) (sym has.talk)
    (by_false (IsTurn seed m n (talk_turn s next 1 (draw seed n 20))) (nat_eq (s.frames - next) 0) _ _ (has_some s.frames next has.some_left)
    (goes_on seed m n n 1 x s next (talk_of s next None) x_is refl (record { talk = refl; some_left = has.some_left; other_is = has.other_is })))
turn_is seed m n x (Stand.HoldsBack s next) t h x_is has =
    subst (λ (u : Talk). IsTurn seed m n (turn seed m n (Stand.HoldsBack s next)) (taken m x u)) (sym has.talk)
    (record {
      made_is = refl;
      drawn_is = x_is ∙ ap (number_after seed) (omega arith);
      has = record { talk = refl; some_left = has.some_left; other_is = has.other_is };
    })
