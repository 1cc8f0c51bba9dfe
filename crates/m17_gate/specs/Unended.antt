-- Why what a callsign may begin with is none itself. For proofs alone.
use Rattle.std.specs.Prelude.{Bool, true, false}
use Rattle.m17_callsign.specs.declared.refusal.CallRefusal.{CallRefusal}
use Rattle.m17_callsign.specs.declared.refusal.CallRefusal.TheVariants.{Empty, Long, Letter, Bare, TrailingSpace}

-- it wants only a letter behind it: it is a `#` alone, or ends in a space
abbrev pub is_unended : CallRefusal → Bool
is_unended Empty = false
is_unended (Long count) = false
is_unended (Letter place) = false
is_unended Bare = true
is_unended TrailingSpace = true
