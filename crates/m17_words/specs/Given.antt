-- The values that the words after a command's first word give, for the code alone.
use Rattle.std.specs.Prelude.{◌≡◌, List}
use Rattle.clap.specs.Words.{Row}
use Rattle.m17_words.specs.declared.command.Command.{Command}
use Rattle.m17_words.specs.declared.command.Command.TheVariants as command
use Rattle.m17_words.specs.declared.first.FirstWord.{FirstWord}
use Rattle.m17_words.specs.declared.first.FirstWord.TheVariants.{Judge, Show, Replay, Make, Check, Migrate, Talk, Serve, Bridge}
use Rattle.m17_words.specs.Words.{IsReplayWith, IsMakeWith, IsTalkWith, IsServeWith, IsBridgeWith}

abbrev pub IsGiven : FirstWord → List Row → Command → Type 0
IsGiven Judge found given = given ≡ command.Judge
IsGiven Show found given = given ≡ command.Show
IsGiven Replay found given = IsReplayWith found given
IsGiven Make found given = IsMakeWith found given
IsGiven Check found given = given ≡ command.Check
IsGiven Migrate found given = given ≡ command.Migrate
IsGiven Talk found given = IsTalkWith found given
IsGiven Serve found given = IsServeWith found given
IsGiven Bridge found given = IsBridgeWith found given
