-- The limit on talking, and the pace, where the words name none, as texts.
use Rattle.std.proofs.Common.{◌≡◌, List, codes, decimal, arith, ap, sym}
use Rattle.std.proofs.lemmas.Fmt.{decimal-digits_of}
use Rattle.clap.specs.Words.{Row}
use Rattle.m17_words.specs.Tables.{text_or}
use Rattle.m17_words.specs.Values.{limit_unnamed, pace_unnamed}

limit_spelled : codes "180" ≡ decimal limit_unnamed
limit_spelled = sym (decimal-digits_of limit_unnamed (omega arith) (omega arith))

-- the text of the limit, with the seconds spelled
pub limit_text : (found : List Row) → text_or found (codes "limit") (codes "180") ≡ text_or found (codes "limit") (decimal limit_unnamed)
limit_text found = ap (text_or found (codes "limit")) limit_spelled

pace_spelled : codes "100" ≡ decimal pace_unnamed
pace_spelled = sym (decimal-digits_of pace_unnamed (omega arith) (omega arith))

-- the text of the pace, spelled
pub pace_text : (found : List Row) → text_or found (codes "pace") (codes "100") ≡ text_or found (codes "pace") (decimal pace_unnamed)
pace_text found = ap (text_or found (codes "pace")) pace_spelled
