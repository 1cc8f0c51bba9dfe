use Rattle.m17_receiver.proofs.Noted.{noted_popped}
use Rattle.m17_receiver.proofs.notes.pop_one.Goals as goal

pub returns : goal.returns
returns g c = noted_popped c.args.notes.now c.pop_waiting-member.new.self c.args.directory.now c.take_note.new.directory c.args.noted.now c.take_note.new.noted
    c.pop_waiting-member.result c.pop_waiting-member.ensures c.take_note.ensures
