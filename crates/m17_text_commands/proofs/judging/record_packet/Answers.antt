use Rattle.std.proofs.Common.{drop, arith, length-drop}
use Rattle.std.proofs.lemmas.List.{take_all}
use Rattle.m17_text_commands.proofs.judging.record_packet.Goals as goal

pub returns : goal.returns
returns c = take_all 54 (drop 10 c.args.bytes.now) (omega (arith, length-drop 10 c.args.bytes.now, c.told-bytes))
