-- The streams of a module: what is drawn for one as it begins, and what comes at a turn.
use Rattle.std.specs.Prelude.{ℕ, zero, suc, Bool, false, ◌==◌, ◌&&◌, nat_lt, nat_le, ◌+◌, ◌-◌, ◌*◌, ◌%◌, bit_xor, if◌then◌else◌}
use Rattle.m17_text_commands.specs.declared.made.Made.{Made}
use Rattle.m17_text_commands.specs.declared.made.Made.TheVariants.{Frame, Quiet}
use Rattle.m17_text_commands.specs.Draws.{draw}

-- A stream: the hotspot that talks, the id, and how many frames there are.
pub record Stream : Type 0 where
  pub who : ℕ
  pub sid : ℕ
  pub frames : ℕ

-- The stream of module m that begins with draw n: one of the module's four hotspots talks, which are m, m + 3, m + 6
-- and m + 9.
abbrev pub stream : ℕ → ℕ → ℕ → Stream
stream seed m n = record {
  who = m + 3 * draw seed n 4;
  sid = draw seed (n + 1) 65536;
  frames = 25 + draw seed (n + 2) 100;
}

-- the hotspot that interrupts it: the next one of the module's four
abbrev pub other : Stream → ℕ
other s = (s.who + 3) % 12

-- How a module stands before a turn: it is quiet for some turns, and then a stream begins; or the next frame of a
-- stream has this number; or, before that, the frame two numbers below comes, which was held back.
pub data Stand : Type 0 where
  Rests : (turns : ℕ) → Stand
  Talks : (s : Stream) (next : ℕ) → Stand
  HoldsBack : (s : Stream) (next : ℕ) → Stand

-- What comes: the entry, how many numbers are drawn for it, and how its module stands then.
pub record Turn : Type 0 where
  pub made : Made
  pub draws : ℕ
  pub stand : Stand

-- a frame of the stream
abbrev pub own : Stream → ℕ → Bool → Made
own s number last = Frame s.who s.sid number last

-- A turn of a stream with a draw d of 20, the first line that fits: 0 sends the last frame again, if there is one; 1
-- interrupts, under the id whose lowest bit differs; 2 sends the frame after the next one first, if three are left; and
-- else comes the next frame, the last one with the end bit, after which the module rests for five turns.
abbrev pub talk_turn : (s : Stream) (next draws d : ℕ) → Turn
talk_turn s next draws d =
    if d == 0 && nat_lt 0 next
    then record { made = own s (next - 1) false; draws = draws; stand = Stand.Talks s next } else
    (if d == 1
    then record {
      made = Frame (other s) (bit_xor s.sid 1) 0 false;
      draws = draws;
      stand = Stand.Talks s next;
    } else
    (if d == 2 && nat_le 3 (s.frames - next)
    then record {
      made = own s (next + 1) false;
      draws = draws;
      stand = Stand.HoldsBack s (next + 2);
    }
    else record {
      made = own s next ((s.frames - next) == 1);
      draws = draws;
      stand = if (s.frames - next) == 1 then Stand.Rests 5 else Stand.Talks s (next + 1);
    }))

-- A turn of module m that stands so, where n numbers were drawn before: four numbers are drawn where a stream begins,
-- and one where it goes on.
unfoldable pub turn : (seed m n : ℕ) → Stand → Turn
turn seed m n (Stand.Rests zero) = talk_turn (stream seed m n) 0 4 (draw seed (n + 3) 20)
turn seed m n (Stand.Rests (suc turns)) =
    record { made = Quiet; draws = 0; stand = Stand.Rests turns }
turn seed m n (Stand.Talks s next) = talk_turn s next 1 (draw seed n 20)
turn seed m n (Stand.HoldsBack s next) =
    record { made = own s (next - 2) false; draws = 0; stand = Stand.Talks s next }
