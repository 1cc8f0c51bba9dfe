-- The trace of an evening: twelve hotspots on the modules A, B and C, which are 0, 1 and 2 here.
use Rattle.std.specs.Prelude.{ℕ, zero, suc, Bool, ◌==◌, ◌+◌, ◌-◌, ◌%◌, List, [], ◌∷◌, ◌++◌, nat_lt, map, if◌then◌else◌}
use Rattle.std.specs.List.{flat_map, range_with_len}
use Rattle.m17_values.specs.declared.heard.Heard.{Heard}
use Rattle.m17_values.specs.declared.heard.Heard.TheVariants.{End}
use Rattle.m17_book.specs.Book.{trace_magic}
use Rattle.m17_book.specs.Entries.{entry_bytes}
use Rattle.m17_text_commands.specs.declared.made.Made.{Made}
use Rattle.m17_text_commands.specs.declared.made.Made.TheVariants.{Conn, Pong}
use Rattle.m17_text_commands.specs.Moments.{hotspots, entry_moment}
use Rattle.m17_text_commands.specs.Made.{heard_as}
use Rattle.m17_text_commands.specs.Streams.{Stand, Turn, turn}

-- What an entry finds: how many numbers were drawn for those before it, and how each module stands.
pub record Found : Type 0 where
  pub drawn : ℕ
  pub stands : ℕ → Stand

-- entry u + 12 is a PONG: the first twelve of each 300 are, one of each hotspot
abbrev pub is_pong : ℕ → Bool
is_pong u = nat_lt (u % 300) hotspots

-- What comes at entry j, which is one of module j mod 3: a CONN of each hotspot in order, then PONGs and turns.
unfoldable pub comes_at : ℕ → ℕ → Found → Turn
comes_at seed j found =
    if nat_lt j hotspots
    then record { made = Conn j; draws = 0; stand = found.stands (j % 3) } else
    (if is_pong (j - hotspots)
    then record { made = Pong ((j - hotspots) % 300); draws = 0; stand = found.stands (j % 3) }
    else turn seed (j % 3) found.drawn (found.stands (j % 3)))

-- what the entry after one of module m finds
abbrev pub found_after : ℕ → Turn → Found → Found
found_after m t found = record {
  drawn = found.drawn + t.draws;
  stands = λ k. if k == m then t.stand else found.stands k;
}

-- what entry j finds; the first one, that nothing is drawn, and that a stream begins at each module's first turn
unfoldable pub found_at : ℕ → ℕ → Found
found_at seed zero = record { drawn = 0; stands = λ k. Stand.Rests 0 }
found_at seed (suc j) = found_after (j % 3) (comes_at seed j (found_at seed j)) (found_at seed j)

-- What entry j is, and what is heard of it.
abbrev pub entry_made : ℕ → ℕ → Made
entry_made seed j = (comes_at seed j (found_at seed j)).made

abbrev pub entry_heard : ℕ → ℕ → Heard
entry_heard seed j = heard_as (entry_moment j) (entry_made seed j)

-- the entries, and all that the link heard
abbrev pub entries_of : ℕ → ℕ → List Heard
entries_of seed count = map (entry_heard seed) (range_with_len 0 count)

abbrev pub heard_of : ℕ → ℕ → List Heard
heard_of seed count = entries_of seed count ++ End ∷ []

-- The trace that is made with this seed, of this number of entries.
unfoldable pub make_text : ℕ → ℕ → List ℕ
make_text seed count = trace_magic ++ flat_map entry_bytes (entries_of seed count)
