-- The options and arguments of each command, as `clap` takes them.
use Rattle.std.specs.Prelude.{◌≡◌, true, List, [], ◌∷◌, codes, Option, Some, fold, unwrap_or}
use Rattle.clap.specs.Lexer.{usize_max}
use Rattle.clap.specs.Words.{App, Row, Rule, Text, all_of, fault_of, first_of, is_simple_and_free, matches_of, new_app, new_rule, with_rule}
use Rattle.clap.specs.Simple.{on_top}
use Rattle.clap.specs.declared.builder.action.ArgAction.TheVariants.{SetTrue}

-- a command with no option, and without the flags that `clap` adds for help and for the version
abbrev pub bare : Text → App
bare name = on_top (λ s. record s {
  no_binary_name = true;
  disable_help_flag = true;
  disable_version_flag = true;
})
    (new_app name)

-- an option with a value, one that has to be there, a flag, and an argument that has to be there
abbrev pub option : Text → Rule
option name = record (new_rule name) { long = Some name }

abbrev pub needed : Text → Rule
needed name = record (new_rule name) { long = Some name; required = true }

abbrev pub flag : Text → Rule
flag name = record (new_rule name) { long = Some name; action = Some SetTrue }

abbrev pub argument : Text → Rule
argument name = record (new_rule name) { required = true }

-- an argument that has to be there once or more often, between options too
abbrev pub arguments : Text → Rule
arguments name = record (new_rule name) {
  required = true;
  range = Some (record { start_inclusive = 1; end_inclusive = usize_max });
}

-- a command with these options and arguments, in their order
abbrev pub table_of : Text → List Rule → App
table_of name rules = fold with_rule (bare name) rules

-- The table of each command.
unfoldable pub judge_table : App
judge_table = table_of (codes "judge") []

unfoldable pub show_table : App
show_table = table_of (codes "show") []

unfoldable pub replay_table : App
replay_table = table_of (codes "replay") (
    option (codes "call")
    ∷ option (codes "modules")
    ∷ option (codes "parrots")
    ∷ option (codes "places")
    ∷ flag (codes "summary")
    ∷ option (codes "limit")
    ∷ flag (codes "threads")
    ∷ [])

unfoldable pub make_table : App
make_table = table_of (codes "make") (argument (codes "seed") ∷ argument (codes "count") ∷ [])

unfoldable pub check_table : App
check_table = table_of (codes "check") []

unfoldable pub migrate_table : App
migrate_table = table_of (codes "migrate") []

unfoldable pub talk_table : App
talk_table = table_of (codes "talk") (
    needed (codes "call")
    ∷ needed (codes "module")
    ∷ needed (codes "bind")
    ∷ needed (codes "to")
    ∷ flag (codes "listen")
    ∷ option (codes "stay")
    ∷ option (codes "book")
    ∷ [])

unfoldable pub bridge_table : App
bridge_table = table_of (codes "bridge") (
    needed (codes "call")
    ∷ needed (codes "near")
    ∷ needed (codes "near-peer")
    ∷ needed (codes "near-module")
    ∷ needed (codes "far")
    ∷ needed (codes "far-peer")
    ∷ needed (codes "far-module")
    ∷ option (codes "for")
    ∷ option (codes "stop")
    ∷ [])

unfoldable pub serve_table : App
serve_table = table_of (codes "serve") (
    needed (codes "call")
    ∷ option (codes "modules")
    ∷ option (codes "parrots")
    ∷ option (codes "places")
    ∷ option (codes "for")
    ∷ option (codes "book")
    ∷ arguments (codes "bind")
    ∷ option (codes "limit")
    ∷ flag (codes "rules")
    ∷ option (codes "board")
    ∷ flag (codes "fill-crc")
    ∷ flag (codes "no-guard")
    ∷ option (codes "pace")
    ∷ option (codes "stop")
    ∷ [])

-- the words that such a command takes, and what it finds among them, are known from `clap`'s own definitions
unfoldable pub IsSimple : App → Type 0
IsSimple table = is_simple_and_free table ≡ true

-- `clap` takes the words after the first: there is nothing that it refuses them for
unfoldable pub Takes : App → List Text → Type 0
Takes table words = fault_of table words ≡ []

-- what `clap` finds among them, where it takes them
unfoldable pub found : App → List Text → List Row
found table words = matches_of table words

-- the text that was found for an option or an argument, if there is one
unfoldable pub text_of : List Row → Text → Option Text
text_of found name = first_of name found

-- the same, or what stands in place of an option that is left out
abbrev pub text_or : List Row → Text → Text → Text
text_or found name instead = unwrap_or (text_of found name) instead

-- all texts that were found for an argument, in order, if there are any
unfoldable pub texts_of : List Row → Text → Option (List Text)
texts_of found name = all_of name found
