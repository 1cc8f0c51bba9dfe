use Rattle.std.proofs.lemmas.List.{take_all}
use Rattle.m17_text_commands.proofs.sending.datagram.Goals as goal

pub returns : goal.returns
returns c = cc (take_all 64 c.args.bytes.now c.requires)
