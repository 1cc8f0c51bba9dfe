use Rattle.m17_text_commands.proofs.Texts.{IsMaking}
use Rattle.m17_text_commands.proofs.make_command.make.Given as goal

abbrev pub invariant-loop-entry : goal.invariant-loop-entry
invariant-loop-entry g l =
    IsMaking l.seed l._entry l.maker (g.K.Sink.told l.fn.out).written (g.K.Sink.told l.out).written (g.K.Sink.told l.fn.out).faults (g.K.Sink.told l.out).faults
