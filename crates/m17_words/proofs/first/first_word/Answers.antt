use Rattle.std.proofs.Common.{◌≢◌}
use Rattle.m17_words.specs.declared.first.FirstWord.{FirstWord}
use Rattle.m17_words.specs.declared.first.FirstWord.TheVariants.{Judge, Show, Replay, Make, Check, Migrate, Talk, Serve, Bridge}
use Rattle.m17_words.specs.First.{text_of_first}
use Rattle.m17_words.proofs.first.first_word.Goals as goal

pub returns-in_default-clause-no_word : goal.returns-in_default-clause-no_word
returns-in_default-clause-no_word c = λ word. elim word as (λ (word : FirstWord). c.args.text.now ≢ text_of_first word) [
  | Judge ↦ c.in_default.not-judge
  | Show ↦ c.in_default.not-show
  | Replay ↦ c.in_default.not-replay
  | Make ↦ c.in_default.not-make
  | Check ↦ c.in_default.not-check
  | Migrate ↦ c.in_default.not-migrate
  | Talk ↦ c.in_default.not-talk
  | Serve ↦ c.in_default.not-serve
  | Bridge ↦ c.in_default.not-bridge
]
