use Rattle.std.proofs.Common.{length, sym, ap, ◌∙◌, arith}
use Rattle.m17_control.specs.Modules.{letters_of}
use Rattle.m17_board_run.proofs.Runs.{ended_numbers}
use Rattle.m17_board_run.proofs.running.end_watch.Goals as goal

pub end-requires-clause-each : goal.end-requires-clause-each
end-requires-clause-each g c = c.requires.each ∙ sym (ap (λ m. length (letters_of m)) c.join-watch.ensures.done.modules_are)

pub end-requires-clause-numbers : goal.end-requires-clause-numbers
end-requires-clause-numbers g c =
    let long = ended_numbers g.B.Book.told c.numbers_of_lines_rise.ensures c.args.watching c.join-watch.result c.join-watch.ensures.done c.requires.fresh.going in
    (omega (arith, long, c.requires.numbers, c.args.watching.last.ok.0, c.join-watch.result.last.ok.0)) ∙ sym (ap (λ m. length (letters_of m)) c.join-watch.ensures.done.modules_are)
