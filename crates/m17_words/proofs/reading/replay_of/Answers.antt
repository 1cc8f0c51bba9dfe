use Rattle.clap.specs.Words.{found_of, rows_of}
use Rattle.m17_words.proofs.Parrots.{no_replay}
use Rattle.m17_words.proofs.reading.replay_of.Goals as goal

pub returns-in-None-clause-refused : goal.returns-in-None-clause-refused
returns-in-None-clause-refused c = λ e. no_replay (rows_of (found_of c.args.matches.now)) c.in-None.ensures.none
