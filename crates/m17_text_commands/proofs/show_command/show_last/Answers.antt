use Rattle.std.proofs.Common.{◌≡◌, ◌<◌, [], length, Some, refl, sym, subst, ◌∙◌, arith}
use Rattle.std.proofs.lemmas.Bool.{eqb-true}
use Rattle.std.proofs.lemmas.List.{nil_from_length}
use Rattle.m17_io.specs.Faults.{HasCauses}
use Rattle.m17_print.specs.Endings.{failed_device, Comes}
use Rattle.m17_print.specs.declared.ending.TextEnding.{TextEnding}
use Rattle.m17_text_commands.specs.declared.show_reason.ShowReason.{ShowReason}
use Rattle.m17_text_commands.specs.Show.{SaysShow, PrintsShow}
use Rattle.m17_text_commands.proofs.ShowRun.{finished, last_line, last_not_shown, failed_at}
use Rattle.m17_text_commands.proofs.show_command.show_last.Goals as goal

pub returns-then-is_empty-clause-shows : goal.returns-then-is_empty-clause-shows
returns-then-is_empty-clause-shows g c = λ bytes first so_far.
    let empty : c.args.rest.now ≡ [] = nil_from_length c.args.rest.now (eqb-true (length c.args.rest.now) 0 (sym c.is_empty.ensures ∙ c.if-is_empty.true)) in
    finished bytes c.args.rest.now c.args.number _ first _ (omega arith) so_far empty refl

pub returns-in-Ok-clause-shows : goal.returns-in-Ok-clause-shows
returns-in-Ok-clause-shows g c = λ bytes first so_far.
    let some : 0 < length c.args.rest.now = grind arith in
    last_line bytes c.args.rest.now c.args.number _ first _ _ c.requires.few so_far c.requires.no_feed some refl c.in-Ok.ensures.comes

pub returns-in-Err-clause-causes : goal.returns-in-Err-clause-causes
returns-in-Err-clause-causes g c = λ reads.
    subst (λ (ending : TextEnding ShowReason). HasCauses (reads, (g.K.Sink.told c.args.out.now).faults) (reads, (g.K.Sink.told c.show_line.new.out).faults) (failed_device ending))
    (sym c.ending_at.ensures) (failed_at c.args.number c.in-Err.not_shown _ _ (c.in-Err.ensures.causes reads))

pub returns-in-Err-clause-shows : goal.returns-in-Err-clause-shows
returns-in-Err-clause-shows g c = λ bytes first so_far.
    let some : 0 < length c.args.rest.now = grind arith in
    subst (λ (ending : TextEnding ShowReason). Comes SaysShow PrintsShow ending bytes (Some []) first (g.K.Sink.told c.show_line.new.out).written) (sym c.ending_at.ensures)
    (last_not_shown bytes c.args.rest.now c.args.number c.in-Err.not_shown (Some []) first _ _ c.requires.few so_far c.requires.no_feed some refl c.in-Err.ensures.comes)
