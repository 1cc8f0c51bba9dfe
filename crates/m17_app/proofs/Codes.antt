-- The numbers of statuses, and what a run says by them.
use Rattle.std.proofs.Common.{◌≡◌, ◌≢◌, ◌⊎◌, ℕ, List, refl, sym, ap, subst, ◌∙◌, arith, inl, inr}
use Rattle.m17_words.specs.declared.command.Command.{Command}
use Rattle.m17_words.specs.declared.command.Command.TheVariants.{Judge, Show, Replay, Make, Check, Migrate, Talk, Serve, Bridge}
use Rattle.m17_app.specs.declared.status.Status.{Status}
use Rattle.m17_app.specs.declared.status.Status.TheVariants.{Finished, InputRefused, WordsRefused, ReadFailed, WriteFailed, PortFailed, CrewRefused, LinkLost, BookFailed, NoMemory}
use Rattle.m17_io.specs.Faults.{HasRisen}
use Rattle.m17_app.specs.Status.{code_of, Streams, Tells}
use Rattle.m17_app.specs.Run.{TellsRefused}
use Rattle.m17_app.specs.Commands.{terms_of, HasThreads, NameNoThreads, Runs, RunsWords, EndsRefused}
use Rattle.m17_app.specs.Doing.{Doing, crew_of}

-- the status with the number 2
pub is_words_refused : (status : Status) → code_of status ≡ 2 → status ≡ WordsRefused
is_words_refused Finished e = absurd (omega arith)
is_words_refused InputRefused e = absurd (omega arith)
is_words_refused WordsRefused e = refl
is_words_refused ReadFailed e = absurd (omega arith)
is_words_refused WriteFailed e = absurd (omega arith)
is_words_refused PortFailed e = absurd (omega arith)
is_words_refused CrewRefused e = absurd (omega arith)
is_words_refused LinkLost e = absurd (omega arith)
is_words_refused BookFailed e = absurd (omega arith)
is_words_refused NoMemory e = absurd (omega arith)

-- the statuses with the numbers 5, 6 and 70
is_port_failed : (status : Status) → code_of status ≡ 5 → status ≡ PortFailed
is_port_failed Finished e = absurd (omega arith)
is_port_failed InputRefused e = absurd (omega arith)
is_port_failed WordsRefused e = absurd (omega arith)
is_port_failed ReadFailed e = absurd (omega arith)
is_port_failed WriteFailed e = absurd (omega arith)
is_port_failed PortFailed e = refl
is_port_failed CrewRefused e = absurd (omega arith)
is_port_failed LinkLost e = absurd (omega arith)
is_port_failed BookFailed e = absurd (omega arith)
is_port_failed NoMemory e = absurd (omega arith)

pub is_crew_refused : (status : Status) → code_of status ≡ 6 → status ≡ CrewRefused
is_crew_refused Finished e = absurd (omega arith)
is_crew_refused InputRefused e = absurd (omega arith)
is_crew_refused WordsRefused e = absurd (omega arith)
is_crew_refused ReadFailed e = absurd (omega arith)
is_crew_refused WriteFailed e = absurd (omega arith)
is_crew_refused PortFailed e = absurd (omega arith)
is_crew_refused CrewRefused e = refl
is_crew_refused LinkLost e = absurd (omega arith)
is_crew_refused BookFailed e = absurd (omega arith)
is_crew_refused NoMemory e = absurd (omega arith)

pub is_no_memory : (status : Status) → code_of status ≡ 70 → status ≡ NoMemory
is_no_memory Finished e = absurd (omega arith)
is_no_memory InputRefused e = absurd (omega arith)
is_no_memory WordsRefused e = absurd (omega arith)
is_no_memory ReadFailed e = absurd (omega arith)
is_no_memory WriteFailed e = absurd (omega arith)
is_no_memory PortFailed e = absurd (omega arith)
is_no_memory CrewRefused e = absurd (omega arith)
is_no_memory LinkLost e = absurd (omega arith)
is_no_memory BookFailed e = absurd (omega arith)
is_no_memory NoMemory e = refl

-- refused words end with 2 or 4 alone
refused_status : (status : Status) (before after : Streams) → TellsRefused status before after → (status ≡ WordsRefused) ⊎ (status ≡ WriteFailed)
refused_status WordsRefused before after tells = inl refl
refused_status WriteFailed before after tells = inr refl
refused_status _ before after tells = absurd tells

module _ {E M B : Type 0} where
  -- no command ends as refused words do
  not_words : (command : Command) (before after : Streams) (run : Doing E M B) → (terms_of command run).tells WordsRefused before after → ⊥
  not_words Judge before after run tells = tells
  not_words Show before after run tells = tells
  not_words (Make seed count) before after run tells = tells
  not_words Check before after run tells = tells
  not_words Migrate before after run tells = tells
  not_words (Replay call modules parrots places summary limit threads) before after run tells = tells
  not_words (Talk order) before after run tells = tells
  not_words (Serve order) before after run tells = tells
  not_words (Bridge order) before after run tells = tells.2

  pub not_two : (command : Command) (status : Status) (before after : Streams) (run : Doing E M B) → Runs command status before after run → code_of status ≢ 2
  not_two command status before after run runs two =
      not_words command before after run (subst (λ (s : Status). (terms_of command run).tells s before after) (is_words_refused status two) runs.0.tells)

  -- the crew refused a start only of a command that has threads
  no_start : (command : Command) (before after : Streams) (run : Doing E M B) → (HasThreads command → ⊥) → (terms_of command run).tells CrewRefused before after → ⊥
  no_start Judge before after run none tells = tells
  no_start Show before after run none tells = tells
  no_start (Make seed count) before after run none tells = tells
  no_start Check before after run none tells = tells
  no_start Migrate before after run none tells = tells
  no_start (Replay call modules parrots places summary limit threads) before after run none tells = none tells.0
  no_start (Talk order) before after run none tells = tells
  no_start (Serve order) before after run none tells = none tt
  no_start (Bridge order) before after run none tells = tells.2

  pub not_six : (words : List (List ℕ)) (code : ℕ) (before after : Streams) (run : Doing E M B) → Tells code (λ status. RunsWords words status before after run)
      → code ≡ 6 → NameNoThreads words → ⊥
  not_six words code before after run (status, is, inl (command, names, runs)) six none =
      no_start command before after run (none command names)
      (subst (λ (s : Status). (terms_of command run).tells s before after) (is_crew_refused status (sym is ∙ six)) runs.0.tells)
  not_six words code before after run (status, is, inr (inl (are, refuses))) six none =
      let crew = is_crew_refused status (sym is ∙ six) in
      elim (refused_status status before after refuses.0.tells) [
        | inl e ↦ let bad : WordsRefused ≡ CrewRefused = sym e ∙ crew in cc
        | inr e ↦ let bad : WriteFailed ≡ CrewRefused = sym e ∙ crew in cc
      ]
  not_six words code before after run (status, is, inr (inr (memory, same, nothing))) six none =
      let bad : NoMemory ≡ CrewRefused = sym memory ∙ is_crew_refused status (sym is ∙ six) in cc

  -- the numbers of refused words
  pub refused_code : (status : Status) (code : ℕ) (before after : Streams) (run : Doing E M B) → code ≡ code_of status → EndsRefused status before after run → (code ≡ 2) ⊎ (code ≡ 4) ⊎ (code ≡ 70)
  refused_code status code before after run is (inl refuses) = elim (refused_status status before after refuses.0.tells) [
    | inl words ↦ inl (is ∙ ap code_of words)
    | inr write ↦ inr (inl (is ∙ ap code_of write))
  ]
  refused_code status code before after run is (inr none) = inr (inr (is ∙ ap code_of none.0))

  -- the ports failed
  pub ports_failed : (words : List (List ℕ)) (code : ℕ) (before after : Streams) (run : Doing E M B) → Tells code (λ status. RunsWords words status before after run)
      → code ≡ 5 → HasRisen run.before.faults run.after.faults
  ports_failed words code before after run (status, is, inl (command, names, runs)) five = runs.0.cause.ports.rose (is_port_failed status (sym is ∙ five))
  ports_failed words code before after run (status, is, inr (inl (are, refuses))) five = refuses.0.cause.ports.rose (is_port_failed status (sym is ∙ five))
  ports_failed words code before after run (status, is, inr (inr (memory, same, nothing))) five =
      let bad : NoMemory ≡ PortFailed = sym memory ∙ is_port_failed status (sym is ∙ five) in cc

  -- the crew refused a start
  pub crew_failed : (words : List (List ℕ)) (code : ℕ) (before after : Streams) (run : Doing E M B) → Tells code (λ status. RunsWords words status before after run)
      → code ≡ 6 → HasRisen run.crew_before run.crew_after
  crew_failed words code before after run (status, is, inl (command, names, runs)) six = runs.0.cause.crew.rose (is_crew_refused status (sym is ∙ six))
  crew_failed words code before after run (status, is, inr (inl (are, refuses))) six = refuses.0.cause.crew.rose (is_crew_refused status (sym is ∙ six))
  crew_failed words code before after run (status, is, inr (inr (memory, same, nothing))) six =
      let bad : NoMemory ≡ CrewRefused = sym memory ∙ is_crew_refused status (sym is ∙ six) in cc
