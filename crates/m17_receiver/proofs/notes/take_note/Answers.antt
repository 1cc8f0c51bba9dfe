use Rattle.m17_receiver.proofs.Noted.{noted_one}
use Rattle.m17_receiver.proofs.notes.take_note.Goals as goal

pub returns : goal.returns
returns c = noted_one c.args.member c.args.directory.now c.noted.new.self c.args.noted.now c.saturating_add.result c.noted.ensures.noted c.noted.ensures.waits c.saturating_add.ensures
