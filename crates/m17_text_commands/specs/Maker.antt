-- What the maker keeps between entries, and what an entry makes of it. Callers need `IsDrawnFrom` alone: the rule is in
-- Make.antt, and the proofs compare the two.
use Rattle.std.specs.Prelude.{◌≡◌, ℕ, zero, suc, ◌+◌, ◌-◌, ◌%◌, List, [], ◌∷◌, nat_lt, slice_set, slice_index_or, if◌then◌else◌}
use Rattle.m17_text_commands.specs.declared.made.Made.{Made}
use Rattle.m17_text_commands.specs.declared.made.Made.TheVariants.{Conn, Pong}
use Rattle.m17_text_commands.specs.Moments.{hotspots}
use Rattle.m17_text_commands.specs.Make.{is_pong}
use Rattle.m17_text_commands.specs.declared.talk.Talk.{Talk}
use Rattle.m17_text_commands.specs.Talk.{Taken, silent, taken}

-- An evening before an entry: the entry's index, the last number drawn with, and what each of the modules A, B and C
-- has.
pub record Evening : Type 0 where
  pub entry : ℕ
  pub x : ℕ
  pub talks : List Talk

abbrev pub begun_with : ℕ → Evening
begun_with seed = record { entry = 0; x = seed; talks = silent ∷ silent ∷ silent ∷ [] }

-- the turn of entry u + 12
abbrev pub taken_at : ℕ → Evening → Taken
taken_at u e = taken (u % 3) e.x (slice_index_or e.talks (u % 3) silent)

-- what the next entry is
unfoldable pub made_at : Evening → Made
made_at e = if nat_lt e.entry hotspots then Conn e.entry else
    (if is_pong (e.entry - hotspots) then Pong ((e.entry - hotspots) % 300) else
    (taken_at (e.entry - hotspots) e).made)

-- the evening after a turn, whose module keeps what it has then
abbrev pub after_turn : ℕ → Taken → Evening → Evening
after_turn m t e = record { entry = e.entry + 1; x = t.x; talks = slice_set e.talks m t.talk }

-- the evening after the next entry: only a turn changes anything
unfoldable pub after : Evening → Evening
after e = if nat_lt e.entry hotspots then record e { entry = e.entry + 1 } else
    (if is_pong (e.entry - hotspots) then record e { entry = e.entry + 1 } else
    after_turn ((e.entry - hotspots) % 3) (taken_at (e.entry - hotspots) e) e)

-- the evening before entry j
unfoldable pub kept_before : ℕ → ℕ → Evening
kept_before seed zero = begun_with seed
kept_before seed (suc j) = after (kept_before seed j)

-- The maker draws from this seed: it keeps what one that began with the seed keeps before the same entry.
abbrev pub IsDrawnFrom : ℕ → Evening → Type 0
IsDrawnFrom seed maker = maker ≡ kept_before seed maker.entry
