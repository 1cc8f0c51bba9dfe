-- The rule of a module's cell, and what its steps tell.
use Rattle.std.specs.Prelude.{◌≡◌, ℕ, ◌<◌, ◌^◌, true, false, List, [], ◌∷◌, ◌++◌, slice_index}
use Rattle.std.specs.List.{All}
use mathlib.Core.Option.{some}
use lib.ListN.{get_elem?}
use Rattle.m17_book.specs.declared.record.Record.{Record}
use Rattle.m17_board.specs.declared.rule.Knows.{Knows}
use Rattle.m17_board.specs.Glance.{glance_of, glance_words, IsFirstPart, IsGlanceWithin}
use Rattle.m17_board.specs.Ends.{longer}

-- the poster's pass, which knows all that was posted
abbrev pub poster : List Record → Knows
poster posted = record { posts = true; known = posted; seen = []; taken = [] }

-- a pass that knows of these records, and has seen nothing
abbrev pub reader : List Record → Knows
reader known = record { posts = false; known = known; seen = []; taken = [] }

-- a pass that knows nothing
abbrev pub nobody : Knows
nobody = reader []

abbrev pub told_by : Knows → Knows
told_by v = reader v.known

-- the pass with what another knows, where that is more
abbrev pub hearing : Knows → Knows → Knows
hearing v w = record {
  posts = v.posts;
  known = longer v.known w.known;
  seen = v.seen;
  taken = v.taken;
}

-- the pass with what another has seen
abbrev pub gathering : Knows → Knows → Knows
gathering v w = record { posts = v.posts; known = v.known; seen = w.seen; taken = v.taken }

-- the pass with these bytes more
abbrev pub takes : List ℕ → Knows → Knows
takes more v =
    record { posts = v.posts; known = v.known; seen = v.seen; taken = v.taken ++ more }

-- What the rule says of one pass: the poster's is one, and knows all that was posted; each other knows a first part of it.
-- What was seen are glances at first parts.
pub record Fits (seat : ℕ) (posted : List Record) (by : ℕ) (v : Knows) : Type 0 where
  pub posts : v.posts ≡ true → (by ≡ seat) × (v.known ≡ posted)
  pub first : IsFirstPart v.known posted
  pub seen : All (IsGlanceWithin posted) v.seen

-- The words are those of the glance at all that was posted.
abbrev pub Kept : List ℕ → List Knows → Type 0
Kept words views = (seat : ℕ) × (posted : List Record)
    × (words ≡ glance_words (glance_of posted)) × (slice_index words 4 < 2 ^ 48)
    × ((by : ℕ) (v : Knows) → get_elem? views by ≡ some v → Fits seat posted by v)

-- these records more were posted
abbrev pub adds : List Record → Knows → List ℕ → List ℕ → Knows → Type 0
adds more v before after w =
    w ≡ record { posts = v.posts; known = v.known ++ more; seen = v.seen; taken = v.taken }

-- The words are those of the glance at all that is known now, which was posted and is what was known before and maybe more.
abbrev pub looked : Knows → List ℕ → List ℕ → Knows → Type 0
looked v before after w = (more : List Record) × (slice_index after 4 < 2 ^ 48)
    × (after ≡ glance_words (glance_of (v.known ++ more)))
    × (w ≡ record {
      posts = v.posts;
      known = v.known ++ more;
      seen = v.seen ++ glance_of (v.known ++ more) ∷ [];
      taken = v.taken;
    })

-- nothing changes, and the poster knows that what was seen are glances at first parts of what was posted
abbrev pub checked : Knows → List ℕ → List ℕ → Knows → Type 0
checked v before after w =
    (w ≡ v) × (v.posts ≡ true → All (IsGlanceWithin v.known) v.seen)
