-- The values of a bridge that take no memory, for the code alone.
use Rattle.std.specs.Prelude.{List, [], codes}
use Rattle.clap.specs.Words.{Row}
use Rattle.m17_callsign.specs.Callsign.{IsCallsignOf}
use Rattle.m17_peer.specs.Text.{IsTextOf}
use Rattle.m17_words.specs.declared.bridge_words.BridgeValues.{BridgeValues}
use Rattle.m17_words.specs.Tables.{text_of, text_or}
use Rattle.m17_words.specs.Values.{IsNumberIfAny, NamesLetter}

pub record HasBridgeValues (found : List Row) (values : BridgeValues) : Type 0 where
  pub call_is : IsCallsignOf (text_or found (codes "call") []) values.call
  pub near_peer_is : IsTextOf values.near_peer (text_or found (codes "near-peer") [])
  pub near_module_is : NamesLetter (text_or found (codes "near-module") []) values.near_letter
  pub far_peer_is : IsTextOf values.far_peer (text_or found (codes "far-peer") [])
  pub far_module_is : NamesLetter (text_or found (codes "far-module") []) values.far_letter
  pub seconds_are : IsNumberIfAny 1 1000000 (text_of found (codes "for")) values.seconds
