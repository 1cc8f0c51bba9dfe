-- What caused a status, and what follows where nothing stood against a run.
use Rattle.std.proofs.Common.{◌≡◌, ◌≢◌, ◌⊎◌, ℕ, ◌≤◌, List, Option, Some, refl, sym, ap, subst, ◌∙◌, arith, inl, inr}
use Rattle.m17_io.specs.Faults.{HasRisen, HasCauses}
use Rattle.m17_io.specs.Source.{SourceTold}
use Rattle.m17_io.specs.declared.fault.Fault.{Fault}
use Rattle.m17_io.specs.declared.fault.Fault.TheVariants.{Read}
use Rattle.m17_app.specs.declared.status.Status.{Status}
use Rattle.m17_app.specs.declared.status.Status.TheVariants.{Finished, InputRefused, WordsRefused, ReadFailed, WriteFailed, PortFailed, CrewRefused, LinkLost, BookFailed, NoMemory}
use Rattle.m17_app.specs.Status.{Beside, HasCause, Streams, RoseBy, WritesLast}
use Rattle.m17_app.specs.Terms.{IsDone, NoneRose, RunsCommand, Terms}
use Rattle.m17_app.proofs.Statuses.{Told, own_status}

-- a count that rose has risen later too
risen_later : (a b c : ℕ) → HasRisen a b → b ≤ c → HasRisen a c
risen_later a b c risen later = omega arith

pub risen_since : (a b c : ℕ) → a ≤ b → HasRisen b c → HasRisen a c
risen_since a b c earlier risen = omega arith

-- the counts of both streams
abbrev pub counts : Streams → ℕ × ℕ
counts o = (o.source.faults, o.sink.faults)

-- a count that a run leaves alone
pub stays : (which status : Status) (a b : ℕ) → status ≢ which → b ≡ a → RoseBy which status a b
stays which status a b other same = record { rose = λ e. absurd (other e); stands = λ _ _. same }

-- a count of the own status, where the last line may have failed
pub rose_by : (which own status : Status) (a b : ℕ) → (status ≡ own) ⊎ (status ≡ WriteFailed) → which ≢ WriteFailed → RoseBy which own a b → RoseBy which status a b
rose_by which own status a b (inl is) other rose = subst (λ (s : Status). RoseBy which s a b) (sym is) rose
rose_by which own status a b (inr is) other rose = record { rose = λ e. absurd (other (sym e ∙ is)); stands = λ _ no. absurd (no is) }

-- the cause of the status, where an ending has this own one and tells of this device
pub cause_from : (own : Status) (fault : Option Fault) (line : List ℕ) (status : Status) (before mid after : Streams) (others : Beside) → Told own fault
    → HasCauses (counts before) (counts mid) fault → WritesLast line own status mid after
    → RoseBy PortFailed own others.ports.before others.ports.after → RoseBy CrewRefused own others.crew.before others.crew.after → HasCause status before after others
cause_from own fault line status before mid after others told causes last ports crew =
    let same : after.source.faults ≡ mid.source.faults = ap (λ (told : SourceTold). told.faults) last.input_untouched in
    let reads : before.source.faults ≤ mid.source.faults = causes.reads_counted in
    let writes : before.sink.faults ≤ mid.sink.faults = causes.writes_counted in
    record {
      source = record {
        rose = λ is.
            let its = own_status own status last.answer (λ w. cc) in
            subst (λ (n : ℕ). HasRisen before.source.faults n) (sym same) (causes.read_failed (told.read_told (sym its ∙ is)));
        stands = λ not_read not_write.
            let its = own_status own status last.answer not_write in
            same ∙ causes.no_read_fault (λ is. not_read (its ∙ told.read_failed is));
      };
      sink = record {
        rose = λ is. elim (last.failed is) [
          | inl its ↦ risen_later before.sink.faults mid.sink.faults after.sink.faults (causes.write_failed (told.write_told its)) last.counted
          | inr later ↦ risen_since before.sink.faults mid.sink.faults after.sink.faults writes later
        ];
        stands = λ not_write _.
            let its = own_status own status last.answer not_write in
            last.no_fault not_write ∙ causes.no_write_fault (λ is. not_write (its ∙ told.write_failed is));
      };
      ports = rose_by PortFailed own status others.ports.before others.ports.after last.answer (λ e. cc) ports;
      crew = rose_by CrewRefused own status others.crew.before others.crew.after last.answer (λ e. cc) crew;
      reads_counted = omega arith;
      writes_counted = omega (arith, last.counted);
      handed_on = λ not_write _. last.handed_on not_write;
    }

-- the cause of want of memory, where no count rose
pub memory_cause : (before after : Streams) (others : Beside) → after.source.faults ≡ before.source.faults → after.sink.faults ≡ before.sink.faults → others.ports.after ≡ others.ports.before
    → others.crew.after ≡ others.crew.before → HasCause NoMemory before after others
memory_cause before after others reads writes ports crew = record {
  source = record { rose = λ e. cc; stands = λ _ _. reads };
  sink = record { rose = λ e. cc; stands = λ _ _. writes };
  ports = stays PortFailed NoMemory others.ports.before others.ports.after (λ e. cc) ports;
  crew = stays CrewRefused NoMemory others.crew.before others.crew.after (λ e. cc) crew;
  reads_counted = omega (arith, reads);
  writes_counted = omega (arith, writes);
  handed_on = λ _ other. absurd (other refl);
}

-- the source's count rose where the device that is told is the source
pub sound_from : (own : Status) (fault : Option Fault) (line : List ℕ) (status : Status) (before mid after : Streams) → HasCauses (counts before) (counts mid) fault
    → WritesLast line own status mid after → fault ≡ Some Read → HasRisen before.source.faults after.source.faults
sound_from own fault line status before mid after causes last is = subst (λ (n : ℕ). HasRisen before.source.faults n) (sym (ap (λ (told : SourceTold). told.faults) last.input_untouched)) (causes.read_failed is)

-- the last line was written, with the own status
pub own_last : (line : List ℕ) (own status : Status) (mid after : Streams) → WritesLast line own status mid after → status ≡ own → WritesLast line own own mid after
own_last line own status mid after last is = subst (λ (s : Status). WritesLast line own s mid after) is last

-- a run whose input is taken, and in which no count rose
done_by : (terms : Terms) (status : Status) (before after : Streams) (others : Beside) → HasCause status before after others → terms.tells status before after
    → (terms.tells InputRefused before after → terms.takes before.source.left → ⊥) → (terms.tells WordsRefused before after → ⊥) → terms.takes before.source.left
    → NoneRose before after others → IsDone status
done_by terms Finished before after others cause tells refused words takes none = inl refl
done_by terms InputRefused before after others cause tells refused words takes none = absurd (refused tells takes)
done_by terms WordsRefused before after others cause tells refused words takes none = absurd (words tells)
done_by terms ReadFailed before after others cause tells refused words takes none = absurd (none.source (cause.source.rose refl))
done_by terms WriteFailed before after others cause tells refused words takes none = absurd (none.sink (cause.sink.rose refl))
done_by terms PortFailed before after others cause tells refused words takes none = absurd (none.ports (cause.ports.rose refl))
done_by terms CrewRefused before after others cause tells refused words takes none = absurd (none.crew (cause.crew.rose refl))
done_by terms LinkLost before after others cause tells refused words takes none = inr (inl refl)
done_by terms BookFailed before after others cause tells refused words takes none = inr (inr (inl refl))
done_by terms NoMemory before after others cause tells refused words takes none = inr (inr (inr refl))

-- where nothing else stood against it either
complete_by : (terms : Terms) (status : Status) (before after : Streams) → terms.tells status before after → (terms.tells LinkLost before after → ⊥)
    → (terms.tells BookFailed before after → ⊥) → IsDone status → (status ≡ Finished) ⊎ (status ≡ NoMemory)
complete_by terms status before after tells lost failed (inl is) = inl is
complete_by terms status before after tells lost failed (inr (inl is)) = absurd (lost (subst (λ (s : Status). terms.tells s before after) is tells))
complete_by terms status before after tells lost failed (inr (inr (inl is))) = absurd (failed (subst (λ (s : Status). terms.tells s before after) is tells))
complete_by terms status before after tells lost failed (inr (inr (inr is))) = inr is

-- What a run of a command promises: its cause and what it tells, where 1 tells of an input that it doesn't take, and 7 and
-- 8 of what stood against it.
pub runs_by : (terms : Terms) (status : Status) (before after : Streams) (others : Beside) → HasCause status before after others → terms.tells status before after
    → (terms.tells InputRefused before after → terms.takes before.source.left → ⊥) → (terms.tells WordsRefused before after → ⊥)
    → (terms.tells LinkLost before after → terms.untroubled before.source.left → ⊥) → (terms.tells BookFailed before after → terms.untroubled before.source.left → ⊥)
    → RunsCommand terms status before after others
runs_by terms status before after others cause tells refused words lost failed =
    let done = λ (takes : terms.takes before.source.left) (none : NoneRose before after others). done_by terms status before after others cause tells refused words takes none in
    record {
      cause = cause;
      tells = tells;
      done = done;
      complete = λ takes untroubled none.
          complete_by terms status before after tells (λ t. lost t untroubled) (λ t. failed t untroubled) (done takes none);
    }
