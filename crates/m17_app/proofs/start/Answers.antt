use Rattle.std.proofs.Common.{◌∙◌, ap, sym, subst, map, option_map, string_bytes}
use Rattle.std.proofs.lemmas.List.{length-reverse}
use Rattle.m17_net.specs.Devices.{PortsKept}
use Rattle.m17_app.specs.declared.status.Status.TheVariants.{NoMemory}
use Rattle.m17_app.specs.Started.{IsClosed}
use Rattle.m17_app.proofs.Starting.{are_wanted, as_long, has_run, none_ran}
use Rattle.m17_app.proofs.start.Goals as goal

pub returns-clause-status : goal.returns-clause-status
returns-clause-status g c = (c.close_books-closed.ensures.status.0, c.from.ensures ∙ c.close_books-closed.ensures.status.1)

pub returns-clause-books : goal.returns-clause-books
returns-clause-books g c = record {
  started = c.in-Ok-staff_books.staff;
  new = c.in-Ok-staff_books.ensures.begun;
  each = c.close_books-closed.ensures.ended;
}

pub run_words-status-requires-clause-wanted : goal.run_words-status-requires-clause-wanted
run_words-status-requires-clause-wanted g c κs lives =
    are_wanted _ c.in-Some.habits _ c.ports_of-ports.result c.in-Some.ensures.habits
    (ap (λ (p : PortsKept). p.rests) c.ports_of-ports.ensures)
    (ap (λ (p : PortsKept). p.stops) c.ports_of-ports.ensures)
    (ap (λ (p : PortsKept). p.locks) c.ports_of-ports.ensures)
    c.in-Ok-staff_books.ensures.same

pub returns-clause-ran : goal.returns-clause-ran
returns-clause-ran g c =
    has_run _ _ _ c.run_words-status.result.0 _ _ _ _ c.in-Some.habits _
    c.in-Ok-staff_books.ensures.same
    (ap (λ (p : PortsKept). p.calls) c.ports_of-ports.ensures)
    c.run_words-status.ensures
    (subst (IsClosed c.close_books-closed.result.1.items c.run_words-status.result.0) (sym c.from.ensures) c.close_books-closed.ensures.closed)
    c.in-Some.ensures.habits
    (λ none. as_long _ _ _ c.close_books-closed.ensures.ended ∙ length-reverse _ ∙ c.in-Ok-staff_books.ensures.all none)
    (ap (option_map (λ words. map string_bytes words.items)) c.in-Some.ensures.same)

pub returns-in_default-clause-status : goal.returns-in_default-clause-status
returns-in_default-clause-status g c = (NoMemory, c.no_memory.ensures.0)

pub returns-in_default-clause-ran : goal.returns-in_default-clause-ran
returns-in_default-clause-ran g c = none_ran _ c.no_memory.result.1.items _ c.no_memory.ensures.0

pub returns-in_default-new-clause-status : goal.returns-in_default-new-clause-status
returns-in_default-new-clause-status g c = (NoMemory, c.no_memory-in_default-new.ensures.0)

pub returns-in_default-new-clause-ran : goal.returns-in_default-new-clause-ran
returns-in_default-new-clause-ran g c = none_ran _ c.no_memory-in_default-new.result.1.items _ c.no_memory-in_default-new.ensures.0

pub returns-in_default-staff_books-clause-status : goal.returns-in_default-staff_books-clause-status
returns-in_default-staff_books-clause-status g c = (NoMemory, c.no_memory-in_default-staff_books.ensures.0)

pub returns-in_default-staff_books-clause-ran : goal.returns-in_default-staff_books-clause-ran
returns-in_default-staff_books-clause-ran g c = none_ran _ c.no_memory-in_default-staff_books.result.1.items _ c.no_memory-in_default-staff_books.ensures.0
