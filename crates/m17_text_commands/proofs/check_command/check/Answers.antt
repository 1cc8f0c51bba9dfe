use Rattle.m17_text_commands.specs.Check.{legal_line}
use Rattle.m17_text_commands.proofs.CheckComing.{printed, grown, ended}
use Rattle.m17_text_commands.proofs.check_command.check.Goals as goal

pub returns-in-Ok-clause-ended : goal.returns-in-Ok-clause-ended
returns-in-Ok-clause-ended g c = λ bytes left.
    printed c.print_report.result c.in-Ok.report bytes (g.S.Input.told c.read_report.new.input).left (g.K.Sink.told c.args.out.now).written
    (g.K.Sink.told c.read_report.new.out) (g.K.Sink.told c.print_report.new.out) c.in-Ok.ensures.nothing_written (c.in-Ok.ensures.judged bytes left) c.print_report.ensures.written

pub returns-in-Ok-clause-appended : goal.returns-in-Ok-clause-appended
returns-in-Ok-clause-appended g c =
    grown c.print_report.result (legal_line c.in-Ok.report) (g.K.Sink.told c.args.out.now).written (g.K.Sink.told c.read_report.new.out)
    (g.K.Sink.told c.print_report.new.out) c.in-Ok.ensures.nothing_written c.print_report.ensures.written

pub returns-in-Err-clause-ended : goal.returns-in-Err-clause-ended
returns-in-Err-clause-ended g c = λ bytes left.
    ended c.in-Err.ending bytes (g.S.Input.told c.read_report.new.input).left (g.K.Sink.told c.args.out.now).written (g.K.Sink.told c.read_report.new.out).written
    c.in-Err.ensures.nothing_written (c.in-Err.ensures.judged bytes left)
