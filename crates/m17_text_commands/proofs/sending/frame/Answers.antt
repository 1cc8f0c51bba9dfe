use Rattle.m17_text_commands.proofs.sending.frame.Goals as goal

pub returns : goal.returns
returns c = rw (c.broadcast.ensures, c.address.ensures.same, c.call.ensures) at c.write.ensures.spelling
