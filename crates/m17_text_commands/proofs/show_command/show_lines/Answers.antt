use Rattle.m17_text_commands.specs.Pending.{pending}
use Rattle.m17_text_commands.proofs.ShowRun.{goes_to_end}
use Rattle.m17_text_commands.proofs.show_command.show_lines.Goals as goal

pub returns-then-is_some-clause-shows : goal.returns-then-is_some-clause-shows
returns-then-is_some-clause-shows g c =
    goes_to_end c.show_next-ending.result c.loop-number.number (pending c.args.reader.now) (pending c.show_next-ending.new.reader)
    (g.S.Input.told c.args.input.now).left (g.S.Input.told c.show_next-ending.new.input).left (g.K.Sink.told c.args.out.now).written (g.K.Sink.told c.show_next-ending.new.out).written
    (λ bytes first so_far. c.show_next-ending.ensures.goes_on bytes first (c.loop-number.invariant.shown bytes first so_far))
