-- The words of the program, and what a run promises whose words are refused.
use Rattle.std.specs.Prelude.{List, ℕ}
use Rattle.m17_print.specs.Endings.{words_refused_line}
use Rattle.m17_words.specs.declared.command.Command.{Command}
use Rattle.m17_words.specs.Words.{Names}
use Rattle.m17_app.specs.declared.status.Status.{Status}
use Rattle.m17_app.specs.declared.status.Status.TheVariants.{WordsRefused, WriteFailed}
use Rattle.m17_app.specs.Status.{Streams}
use Rattle.m17_app.specs.Terms.{Terms}
use Rattle.m17_app.specs.Written.{Adds, AddsPart, LeavesInput}

-- the words name no command
abbrev pub AreRefused : List (List ℕ) → Type 0
AreRefused words = (command : Command) → ¬ Names words command

-- Nothing was taken of the input, and a line says that the words are refused, or with a sink that failed a first part of
-- it.
abbrev pub TellsRefused : Status → Streams → Streams → Type 0
TellsRefused WordsRefused before after =
    LeavesInput before after × Adds words_refused_line before after
TellsRefused WriteFailed before after =
    LeavesInput before after × AddsPart words_refused_line before after
TellsRefused _ before after = ⊥

-- the terms of such a run: there is no input that it takes
abbrev pub refused_terms : Terms
refused_terms = record {
  tells = TellsRefused;
  takes = λ left. ⊥;
  untroubled = λ left. ⊥;
}
