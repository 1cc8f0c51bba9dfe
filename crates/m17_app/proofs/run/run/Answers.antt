use Rattle.std.proofs.Common.{rules, Err, inl, inr, sym, ap, ◌∙◌}
use Rattle.m17_app.specs.Commands.{IsRunnable}
use Rattle.m17_app.specs.Status.{code_of}
use Rattle.m17_app.proofs.Answered.{runs_answered}
use Rattle.m17_app.proofs.Boards.{same_board}
use Rattle.m17_app.proofs.Codes.{is_no_memory, not_six}
use Rattle.m17_app.proofs.Nothing.{does_nothing}
use Rattle.m17_app.proofs.Runnable.{names_runnable}
use Rattle.m17_app.proofs.run.run.Goals as goal

pub run_command-ended-requires-clause-runnable : goal.run_command-ended-requires-clause-runnable
run_command-ended-requires-clause-runnable g c =
    let runnable : IsRunnable c.in-Ok.command = names_runnable _ c.in-Ok.command c.in-Ok.ensures.named in search (runnable, rules)

pub returns-in-Ok-clause-runs : goal.returns-in-Ok-clause-runs
returns-in-Ok-clause-runs g c =
    let same = c.answer_of.ensures in (
      c.run_command-ended.result.0.status,
      same.code,
      inl (
        c.in-Ok.command,
        c.in-Ok.ensures.named,
        runs_answered g.P.Ear.Ear.told g.P.Mouth.Mouth.told g.P.Book.Book.told _ _ _ _ c.answer_of.result c.run_command-ended.result.0 c.in-Ok.command _ _ _
            same.talk same.house same.refused same.bridge same.board c.run_command-ended.ensures.runs,
      ),
    )

pub returns-in-Ok-clause-unasked : goal.returns-in-Ok-clause-unasked
returns-in-Ok-clause-unasked g c seventy none =
    c.run_command-ended.ensures.unasked (is_no_memory c.run_command-ended.result.0.status (sym c.answer_of.ensures.code ∙ seventy)) (sym c.answer_of.ensures.board ∙ none)

pub returns-in-Ok-clause-unrefused : goal.returns-in-Ok-clause-unrefused
returns-in-Ok-clause-unrefused g c seventy =
    let memory = is_no_memory c.run_command-ended.result.0.status (sym c.answer_of.ensures.code ∙ seventy) in
    c.run_command-ended.ensures.runs.0.cause.crew.stands (λ e. let no = sym memory ∙ e in cc) (λ e. let no = sym memory ∙ e in cc)

pub returns-in-Ok-clause-watch : goal.returns-in-Ok-clause-watch
returns-in-Ok-clause-watch g c some (other, names, board) none =
    c.run_command-ended.ensures.watch (λ no. some (c.answer_of.ensures.refused ∙ no))
    (same_board other c.in-Ok.command (c.words_name_one_command.ensures _ other c.in-Ok.command names c.in-Ok.ensures.named) board)
    (sym c.answer_of.ensures.board ∙ none)

pub returns-in-Err-Refused-clause-runs : goal.returns-in-Err-Refused-clause-runs
returns-in-Err-Refused-clause-runs g c =
    let answer = c.answer_of-in-Err-Refused in (
      c.run_nothing.result,
      answer.ensures.code ∙ ap code_of c.alone.ensures.status,
      inr (inl (
        c.in-Err-Refused.ensures.refused (ap Err c.in-Err-Refused.field-0-is),
        (
          c.run_nothing.ensures (g.P.Ports.told c.args.ports).faults (g.C.Crew.refusals c.args.crew.now),
          does_nothing g.P.Ear.Ear.told g.P.Mouth.Mouth.told g.P.Book.Book.told (g.P.Ports.told c.args.ports) (g.C.Crew.refusals c.args.crew.now) answer.result
              (answer.ensures.talk ∙ c.alone.ensures.none) (answer.ensures.house ∙ c.alone.ensures.no_house)
              (answer.ensures.refused ∙ c.alone.ensures.no_refusal) (answer.ensures.bridge ∙ c.alone.ensures.no_bridge) (answer.ensures.board ∙ c.alone.ensures.no_board),
        ),
      )),
    )

pub returns-in-Err-Refused-clause-refused : goal.returns-in-Err-Refused-clause-refused
returns-in-Err-Refused-clause-refused g c = λ are.
    let answer = c.answer_of-in-Err-Refused in (
      c.run_nothing.result,
      answer.ensures.code ∙ ap code_of c.alone.ensures.status,
      inl (
        c.run_nothing.ensures (g.P.Ports.told c.args.ports).faults (g.C.Crew.refusals c.args.crew.now),
        does_nothing g.P.Ear.Ear.told g.P.Mouth.Mouth.told g.P.Book.Book.told (g.P.Ports.told c.args.ports) (g.C.Crew.refusals c.args.crew.now) answer.result
            (answer.ensures.talk ∙ c.alone.ensures.none) (answer.ensures.house ∙ c.alone.ensures.no_house)
            (answer.ensures.refused ∙ c.alone.ensures.no_refusal) (answer.ensures.bridge ∙ c.alone.ensures.no_bridge) (answer.ensures.board ∙ c.alone.ensures.no_board),
      ),
    )

pub returns-in-Ok-clause-withheld : goal.returns-in-Ok-clause-withheld
returns-in-Ok-clause-withheld g c withheld = c.answer_of.ensures.board ∙ c.run_command-ended.ensures.withheld withheld

pub returns-in-Ok-clause-started : goal.returns-in-Ok-clause-started
returns-in-Ok-clause-started g c = not_six _ _ _ _ _ (returns-in-Ok-clause-runs g c)

pub returns-in-Err-Refused-clause-started : goal.returns-in-Err-Refused-clause-started
returns-in-Err-Refused-clause-started g c = not_six _ _ _ _ _ (returns-in-Err-Refused-clause-runs g c)

pub returns-in-Ok-clause-idle : goal.returns-in-Ok-clause-idle
returns-in-Ok-clause-idle g c none = c.run_command-ended.ensures.idle (none c.in-Ok.command c.in-Ok.ensures.named)
