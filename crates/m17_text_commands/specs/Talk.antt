-- What the code keeps of a module between its turns, and what a turn makes of it. For the code's own functions alone:
-- the rule is in Streams.antt, and the proofs compare the two.
use Rattle.std.specs.Prelude.{ℕ, Bool, false, ◌==◌, ◌&&◌, nat_lt, nat_le, ◌+◌, ◌-◌, ◌*◌, ◌/◌, ◌%◌, Option, None, Some, ◌≡◌, ◌<◌, ◌≤◌, ◌^◌, bit_xor, if◌then◌else◌}
use Rattle.m17_text_commands.specs.declared.talk.Talk.{Talk}
use Rattle.m17_text_commands.specs.declared.made.Made.{Made}
use Rattle.m17_text_commands.specs.declared.made.Made.TheVariants.{Frame, Quiet}
use Rattle.m17_text_commands.specs.Draws.{next_number, drawn_after}

-- a module before its first turn
abbrev pub silent : Talk
silent = record { left = 0; rest = 0; number = 0; who = 0; sid = 0; held = None }

-- a turn: the entry that it makes, and then what the module has, and the last number drawn with
pub record Taken : Type 0 where
  pub made : Made
  pub talk : Talk
  pub x : ℕ

-- a frame of the stream that goes on
abbrev pub own_frame : Talk → ℕ → Bool → Made
own_frame t number last = Frame t.who t.sid number last

-- the hotspot that interrupts: the next of the module's four
abbrev pub other_of : ℕ → ℕ → ℕ
other_of m who = m + 3 * (((who - m) / 3 + 1) % 4)

-- the entry by the draw d of 20
unfoldable pub made_by : ℕ → ℕ → Talk → Made
made_by m d t = if d == 0 && nat_lt 0 t.number then own_frame t (t.number - 1) false else
    (if d == 1 then Frame (other_of m t.who) (bit_xor t.sid 1) 0 false else
    (if d == 2 && nat_le 3 t.left then own_frame t (t.number + 1) false else
    own_frame t t.number (t.left == 1)))

-- what the module has then
unfoldable pub talk_by : ℕ → Talk → Talk
talk_by d t = if d == 0 && nat_lt 0 t.number then t else
    (if d == 1 then t else
    (if d == 2 && nat_le 3 t.left
    then record t { held = Some t.number; number = t.number + 2; left = t.left - 2 } else
    record t {
      number = t.number + 1;
      left = t.left - 1;
      rest = if t.left == 1 then 5 else t.rest;
    }))

-- a turn of a module with a stream: one draw
abbrev pub spoken : ℕ → ℕ → Talk → Taken
spoken m x t = record {
  made = made_by m (drawn_after 20 x) t;
  talk = talk_by (drawn_after 20 x) t;
  x = next_number x;
}

-- a new stream: three draws
abbrev pub begun : ℕ → ℕ → Talk → Talk
begun m x t = record t {
  who = m + 3 * drawn_after 4 x;
  sid = drawn_after 65536 (next_number x);
  left = 25 + drawn_after 100 (next_number (next_number x));
  number = 0;
}

-- a turn of a module that doesn't rest: the frame that is held back, or the stream goes on, or a new one begins
abbrev pub awake : ℕ → ℕ → Talk → Option ℕ → Taken
awake m x t (Some number) =
    record { made = own_frame t number false; talk = record t { held = None }; x = x }
awake m x t None = if t.left == 0 then
    spoken m (next_number (next_number (next_number x))) (begun m x t) else spoken m x t

-- the turn of module m (0 to 2) after the number x was drawn with
unfoldable pub taken : ℕ → ℕ → Talk → Taken
taken m x t = if nat_lt 0 t.rest then
    record { made = Quiet; talk = record t { rest = t.rest - 1 }; x = x } else awake m x t t.held

-- What holds of a module at all times: who is a hotspot, a stream has at most 124 frames, and ids have 16 bits.
pub record IsSteady (t : Talk) : Type 0 where
  pub who : t.who < 12
  pub frames : t.number + t.left ≤ 124
  pub held : (number : ℕ) → t.held ≡ Some number → number ≤ 124
  pub sid : t.sid < 2 ^ 16

-- a turn came out so
abbrev pub Turned : Made → Talk → ℕ → Taken → Type 0
Turned made talk x t = (made ≡ t.made) × (talk ≡ t.talk) × (x ≡ t.x)
