-- What contracts see of a reader of lines. No public clause cites this module.
use Rattle.std.specs.Prelude.{ℕ, ◌<◌, List, length, slice_range}
use Rattle.m17_text_commands.specs.Reading.{HasNoFeed, BeginsWithLine}
use Rattle.m17_text_commands.specs.declared.line_reader.LineReader.{LineReader}
use Rattle.m17_text_commands.specs.declared.line_reader.Next.{Next}
use Rattle.m17_text_commands.specs.declared.line_reader.Next.TheVariants.{Line, Long, Last}

-- the bytes that were read and are not taken yet
abbrev pub pending : LineReader → List ℕ
pending reader = slice_range reader.bytes reader.start reader.end

-- what the held bytes are at each answer
abbrev pub IsNext : Next → List ℕ → Type 0
IsNext (Line size) held = BeginsWithLine held size
IsNext Long held = (257 < length held) × HasNoFeed held
IsNext Last held = HasNoFeed held
