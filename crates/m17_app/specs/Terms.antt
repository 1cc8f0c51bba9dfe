-- What each command promises, over the terms of its own.
use Rattle.std.specs.Prelude.{◌≡◌, ◌⊎◌, ℕ, List, Option}
use Rattle.m17_io.specs.Faults.{HasRisen}
use Rattle.m17_app.specs.declared.status.Status.{Status}
use Rattle.m17_app.specs.declared.status.Status.TheVariants.{Finished, LinkLost, BookFailed, NoMemory}
use Rattle.m17_app.specs.Status.{Beside, HasCause, Streams}

-- No count rose: the source, the sink and the ports didn't fail, and the crew refused no start.
pub record NoneRose (before after : Streams) (others : Beside) : Type 0 where
  pub source : ¬ HasRisen before.source.faults after.source.faults
  pub sink : ¬ HasRisen before.sink.faults after.sink.faults
  pub ports : ¬ HasRisen others.ports.before others.ports.after
  pub crew : ¬ HasRisen others.crew.before others.crew.after

-- the command did all that it was to do, though a link may have been lost, or a book have failed; or there was no memory
abbrev pub IsDone : Status → Type 0
IsDone status = (status ≡ Finished) ⊎ (status ≡ LinkLost) ⊎ (status ≡ BookFailed)
    ⊎ (status ≡ NoMemory)

-- The terms of a command. `tells`: what each status says of a run of it, by what the streams tell before and after; one
-- that can't come says ⊥. `takes`: which inputs it reads to their end, by what is left before the run. `untroubled`:
-- that no link was lost and no book failed, so that nothing stood against it but its input, or a count that rose.
pub record Terms : Type 1 where
  pub tells : Status → Streams → Streams → Type 0
  pub takes : Option (List ℕ) → Type 0
  pub untroubled : Option (List ℕ) → Type 0

-- What a run of a command promises: its status has its cause, and what the terms say of that status holds. A run
-- against which nothing stood ends with 0, or there was no memory. With an input that the command takes, and no count
-- that rose, it ends with 0, 7 or 8, or there was no memory.
pub record RunsCommand (terms : Terms) (status : Status) (before after : Streams) (others : Beside)
    : Type 0 where
  pub cause : HasCause status before after others
  pub tells : terms.tells status before after
  pub done : terms.takes before.source.left → NoneRose before after others → IsDone status
  pub complete : terms.takes before.source.left → terms.untroubled before.source.left
      → NoneRose before after others → (status ≡ Finished) ⊎ (status ≡ NoMemory)
