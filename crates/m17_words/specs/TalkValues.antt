-- The values of a talk that take no memory, for the code alone.
use Rattle.std.specs.Prelude.{List, [], codes}
use Rattle.clap.specs.Words.{Row}
use Rattle.m17_callsign.specs.Callsign.{IsCallsignOf}
use Rattle.m17_peer.specs.Text.{IsTextOf}
use Rattle.m17_words.specs.declared.talk_words.TalkValues.{TalkValues}
use Rattle.m17_words.specs.Tables.{text_or}
use Rattle.m17_words.specs.Values.{IsNumber, NamesLetter}

pub record HasValues (found : List Row) (values : TalkValues) : Type 0 where
  pub call_is : IsCallsignOf (text_or found (codes "call") []) values.call
  pub module_is : NamesLetter (text_or found (codes "module") []) values.letter
  pub to_is : IsTextOf values.to (text_or found (codes "to") [])
  pub stay_is : IsNumber 0 86400000 (text_or found (codes "stay") (codes "0")) values.stay
