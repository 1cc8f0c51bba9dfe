use Rattle.std.proofs.Common.{ℕ, List, [], take, Option, Some, Ok, Err, sym, ap, subst, arith}
use Rattle.m17_io.specs.Faults.{HasCauses}
use Rattle.m17_print.specs.Endings.{failed_device, Comes}
use Rattle.m17_print.specs.declared.ending.TextEnding.{TextEnding}
use Rattle.m17_text_commands.specs.declared.show_reason.ShowReason.{ShowReason}
use Rattle.m17_text_commands.specs.ShowRun.{ComesOfLine, AreShown}
use Rattle.m17_text_commands.specs.Show.{SaysShow, PrintsShow}
use Rattle.m17_text_commands.specs.Pending.{pending}
use Rattle.m17_text_commands.proofs.ShowCauses.{after_none}
use Rattle.m17_text_commands.proofs.ShowRun.{kept, line_shown, line_not_shown, long, read_failed, failed_at}
use Rattle.m17_text_commands.proofs.show_command.show_next.Goals as goal

pub returns-in-Ok-clause-causes : goal.returns-in-Ok-clause-causes
returns-in-Ok-clause-causes g c = after_none _ _ _ _ c.in-Ok-Line.ensures.causes (c.in-Ok.ensures.causes _)

pub returns-in-Ok-clause-goes_on : goal.returns-in-Ok-clause-goes_on
returns-in-Ok-clause-goes_on g c = λ bytes first so_far.
    let found = rw c.in-Ok-Line.field-0-is at c.in-Ok-Line.ensures.found in
    line_shown bytes _ _ c.args.number c.in-Ok-Line.size _ first _ _ c.requires (kept bytes _ _ c.args.number _ _ first _ _ so_far c.in-Ok-Line.ensures.kept c.in-Ok-Line.ensures.nothing_written)
    found (subst (λ (xs : List ℕ). ComesOfLine (take c.in-Ok-Line.size xs) (g.K.Sink.told c.next.new.out).written (g.K.Sink.told c.show_line.new.out).written (Ok tt)) c.pending.ensures c.in-Ok.ensures.comes) c.take.ensures

pub returns-in-Err-clause-causes : goal.returns-in-Err-clause-causes
returns-in-Err-clause-causes g c =
    let reads = (g.S.Input.told c.next.new.input).faults in
    after_none _ _ _ _ c.in-Ok-Line.ensures.causes
    (subst (λ (ending : TextEnding ShowReason). HasCauses (reads, (g.K.Sink.told c.next.new.out).faults) (reads, (g.K.Sink.told c.show_line.new.out).faults) (failed_device ending))
    (sym c.ending_at.ensures) (failed_at c.args.number c.in-Err.not_shown _ _ (c.in-Err.ensures.causes reads)))

pub returns-in-Err-clause-goes_on : goal.returns-in-Err-clause-goes_on
returns-in-Err-clause-goes_on g c = λ bytes first so_far.
    let found = rw c.in-Ok-Line.field-0-is at c.in-Ok-Line.ensures.found in
    subst (λ (ending : TextEnding ShowReason). Comes SaysShow PrintsShow ending bytes (g.S.Input.told c.next.new.input).left first (g.K.Sink.told c.show_line.new.out).written) (sym c.ending_at.ensures)
    (line_not_shown bytes _ c.args.number c.in-Ok-Line.size c.in-Err.not_shown _ first _ _ c.requires (kept bytes _ _ c.args.number _ _ first _ _ so_far c.in-Ok-Line.ensures.kept c.in-Ok-Line.ensures.nothing_written)
    found (subst (λ (xs : List ℕ). ComesOfLine (take c.in-Ok-Line.size xs) (g.K.Sink.told c.next.new.out).written (g.K.Sink.told c.show_line.new.out).written (Err c.in-Err.not_shown)) c.pending.ensures c.in-Err.ensures.comes))

pub returns-in-Ok-Long-clause-goes_on : goal.returns-in-Ok-Long-clause-goes_on
returns-in-Ok-Long-clause-goes_on g c = λ bytes first so_far.
    let found = rw c.in-Ok-Long.field-0-is at c.in-Ok-Long.ensures.found in
    long bytes _ c.args.number _ first _ c.requires (kept bytes _ _ c.args.number _ _ first _ _ so_far c.in-Ok-Long.ensures.kept c.in-Ok-Long.ensures.nothing_written) found.0 found.1

pub returns-in-Ok-Last-clause-causes : goal.returns-in-Ok-Last-clause-causes
returns-in-Ok-Last-clause-causes g c = after_none _ _ _ _ c.in-Ok-Last.ensures.causes (c.show_last.ensures.causes _)

pub returns-in-Ok-Last-clause-goes_on : goal.returns-in-Ok-Last-clause-goes_on
returns-in-Ok-Last-clause-goes_on g c = λ bytes first so_far.
    let none = c.in-Ok-Last.ensures.at_end (ap Ok c.in-Ok-Last.field-0-is) so_far.ahead so_far.is_ahead in
    let held = kept bytes _ _ c.args.number _ _ first _ _ so_far c.in-Ok-Last.ensures.kept c.in-Ok-Last.ensures.nothing_written in
    let written = (g.K.Sink.told c.next.new.out).written in
    let over : AreShown bytes c.args.number c.pending-in-Ok-Last.result.now (Some []) first written =
    subst (λ (xs : List ℕ). AreShown bytes c.args.number xs (Some []) first written) (sym c.pending-in-Ok-Last.ensures)
    (subst (λ (left : Option (List ℕ)). AreShown bytes c.args.number (pending c.next.new.self) left first written) none held) in
    subst (λ (left : Option (List ℕ)). Comes SaysShow PrintsShow c.show_last.result bytes left first (g.K.Sink.told c.show_last.new.out).written) (sym none) (c.show_last.ensures.shows bytes first over)

pub returns-in-Err-Read-clause-goes_on : goal.returns-in-Err-Read-clause-goes_on
returns-in-Err-Read-clause-goes_on g c = λ bytes first so_far.
    read_failed bytes _ c.args.number _ first _ (omega arith) (kept bytes _ _ c.args.number _ _ first _ _ so_far c.in-Err-Read.ensures.kept c.in-Err-Read.ensures.nothing_written) c.in-Err-Read.ensures.found
