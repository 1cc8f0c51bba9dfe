use Rattle.std.proofs.Common.{◌≡◌, ap, ◌∙◌, sym}
use Rattle.m17_print.specs.Endings.{last_line}
use Rattle.m17_app.specs.Status.{status_of}
use Rattle.m17_app.proofs.Statuses.{without_memory}
use Rattle.m17_app.proofs.conclude.conclude.Goals as goal

pub returns-in-NoMemory-clause-concluded : goal.returns-in-NoMemory-clause-concluded
returns-in-NoMemory-clause-concluded g c = λ other source.
    absurd (other (without_memory c.args.ending.now (sym c.status_of-status.ensures ∙ c.in-NoMemory.is)))

pub returns-in_default-clause-memory : goal.returns-in_default-clause-memory
returns-in_default-clause-memory g c = λ none. absurd (c.in_default.not-NoMemory (c.status_of-status.ensures ∙ ap status_of none))

pub returns-in_default-clause-concluded : goal.returns-in_default-clause-concluded
returns-in_default-clause-concluded g c = λ other source.
    let line : c.bytes.result.now ≡ last_line g.R.Reason.words c.args.ending.now = c.bytes.ensures.value ∙ c.make_last.ensures in
    let told = rw c.status_of-status.ensures at (c.end_with.ensures source) in
    rw line at told
