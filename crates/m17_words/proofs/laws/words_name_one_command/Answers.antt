use Rattle.m17_words.proofs.OneCommand.{one_command}
use Rattle.m17_words.proofs.laws.words_name_one_command.Goals as goal

pub returns : goal.returns
returns c = one_command c.sets_are_their_letters.ensures c.each_address_has_one_callsign.ensures c.each_text_is_of_one_peer.ensures
