use Rattle.std.proofs.Common.{List, ℕ, subst}
use Rattle.std.specs.Prelude.{MatchOption}
use Rattle.m17_text_commands.specs.Reading.{HasNoFeed, BeginsWithLine}
use Rattle.m17_text_commands.proofs.Feeds.{first_feed}
use Rattle.m17_text_commands.proofs.line_reader.LineReader.first_feed.Goals as goal

pub returns : goal.returns
returns c =
    let P : List ℕ → Type 0 = λ xs. MatchOption c.memchr.result (HasNoFeed xs) (BeginsWithLine xs) in
    subst P c.pending.ensures (first_feed c.pending.result.now c.memchr.result c.memchr.ensures)
