use Rattle.m17_callsign.specs.Callsign.{alphabet}
use Rattle.m17_callsign.proofs.Alphabet.{IsLetter-at, index_of-at, ascii-at}
use Rattle.m17_callsign.proofs.letters.letter_at.Goals as goal

pub returns : goal.returns
unfolding alphabet
returns c = record {
  letter = IsLetter-at c.args.index c.requires;
  index = index_of-at c.args.index c.requires;
  ascii = ascii-at c.args.index c.requires;
}
