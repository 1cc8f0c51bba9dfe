-- What a run of `make` promises. It reads nothing, and takes no memory.
use Rattle.std.specs.Prelude.{ℕ}
use Rattle.m17_text_commands.specs.Make.{make_text}
use Rattle.m17_app.specs.declared.status.Status.{Status}
use Rattle.m17_app.specs.declared.status.Status.TheVariants.{Finished, WriteFailed}
use Rattle.m17_app.specs.Status.{Streams}
use Rattle.m17_app.specs.Terms.{Terms}
use Rattle.m17_app.specs.Written.{Adds, AddsPart, LeavesInput}

-- The trace of the seed with this number of entries stands written, or with a sink that failed a first part of it.
abbrev pub TellsMake : ℕ → ℕ → Status → Streams → Streams → Type 0
TellsMake seed count Finished before after =
    LeavesInput before after × Adds (make_text seed count) before after
TellsMake seed count WriteFailed before after =
    LeavesInput before after × AddsPart (make_text seed count) before after
TellsMake seed count _ before after = ⊥

abbrev pub make_terms : ℕ → ℕ → Terms
make_terms seed count = record {
  tells = TellsMake seed count;
  takes = λ left. Unit {0};
  untroubled = λ left. Unit {0};
}
