-- The tables are those of simple commands, whose options and arguments have no rule on one another.
use Rattle.std.proofs.Common.{refl}
use Rattle.clap.proofs.OnLiterals.{clap_on_literals}
use Rattle.m17_words.specs.declared.first.FirstWord.{FirstWord}
use Rattle.m17_words.specs.declared.first.FirstWord.TheVariants.{Judge, Show, Replay, Make, Check, Migrate, Talk, Serve, Bridge}
use Rattle.m17_words.specs.First.{table_of_word}
use Rattle.m17_words.specs.Tables.{IsSimple, judge_table, show_table, replay_table, make_table, check_table, migrate_table, talk_table, serve_table, bridge_table}

pub table_simple : (word : FirstWord) → IsSimple (table_of_word word)
unfolding IsSimple judge_table show_table replay_table make_table check_table migrate_table talk_table serve_table bridge_table clap_on_literals
table_simple Judge = refl
table_simple Show = refl
table_simple Replay = refl
table_simple Make = refl
table_simple Check = refl
table_simple Migrate = refl
table_simple Talk = refl
table_simple Serve = refl
table_simple Bridge = refl
