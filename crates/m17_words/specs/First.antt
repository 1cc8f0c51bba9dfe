-- The first word of a command, and its table, for the code alone.
use Rattle.std.specs.Prelude.{codes}
use Rattle.clap.specs.Words.{App, Text}
use Rattle.m17_words.specs.declared.first.FirstWord.{FirstWord}
use Rattle.m17_words.specs.declared.first.FirstWord.TheVariants.{Judge, Show, Replay, Make, Check, Migrate, Talk, Serve, Bridge}
use Rattle.m17_words.specs.Tables.{judge_table, show_table, replay_table, make_table, check_table, migrate_table, talk_table, serve_table, bridge_table}

abbrev pub text_of_first : FirstWord → Text
text_of_first Judge = codes "judge"
text_of_first Show = codes "show"
text_of_first Replay = codes "replay"
text_of_first Make = codes "make"
text_of_first Check = codes "check"
text_of_first Migrate = codes "migrate"
text_of_first Talk = codes "talk"
text_of_first Serve = codes "serve"
text_of_first Bridge = codes "bridge"

abbrev pub table_of_word : FirstWord → App
table_of_word Judge = judge_table
table_of_word Show = show_table
table_of_word Replay = replay_table
table_of_word Make = make_table
table_of_word Check = check_table
table_of_word Migrate = migrate_table
table_of_word Talk = talk_table
table_of_word Serve = serve_table
table_of_word Bridge = bridge_table
