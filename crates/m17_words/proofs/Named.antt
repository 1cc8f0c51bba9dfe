-- Which command words name, by the first of them and the values that the others give.
use Rattle.std.proofs.Common.{◌≡◌, List, [], ◌∷◌, String, Global, codes, get_or, map, string_bytes, refl, sym, ap, subst, ◌∙◌}
use Rattle.std.specs.Prelude.{if◌then◌else◌}
use Rattle.std.specs.Str.{bytes_eq}
use Rattle.clap.specs.Words.{Text}
use Rattle.m17_words.specs.declared.command.Command.{Command}
use Rattle.m17_words.specs.declared.command.Command.TheVariants as command
use Rattle.m17_words.specs.declared.first.FirstWord.{FirstWord}
use Rattle.m17_words.specs.declared.first.FirstWord.TheVariants.{Judge, Show, Replay, Make, Check, Migrate, Talk, Serve, Bridge}
use Rattle.m17_words.specs.First.{text_of_first, table_of_word}
use Rattle.m17_words.specs.Given.{IsGiven}
use Rattle.m17_words.specs.Tables.{Takes, found}
use Rattle.m17_words.specs.Words.{word_of, Gives, Names}

-- the first word of a command
abbrev pub first_of : Command → FirstWord
first_of command.Judge = Judge
first_of command.Show = Show
first_of (command.Replay call modules parrots places summary limit threads) = Replay
first_of (command.Make seed count) = Make
first_of command.Check = Check
first_of command.Migrate = Migrate
first_of (command.Talk order) = Talk
first_of (command.Serve order) = Serve
first_of (command.Bridge order) = Bridge

pub word_is : (given : Command) → word_of given ≡ text_of_first (first_of given)
word_is command.Judge = refl
word_is command.Show = refl
word_is (command.Replay call modules parrots places summary limit threads) = refl
word_is (command.Make seed count) = refl
word_is command.Check = refl
word_is command.Migrate = refl
word_is (command.Talk order) = refl
word_is (command.Serve order) = refl
word_is (command.Bridge order) = refl

-- the first of the words is the command's own
pub first_is : (words : List (String Global)) (d : String Global) (given : Command) → Names (map string_bytes words) given
    → string_bytes (get_or words 0 d) ≡ word_of given
first_is [] d given named = absurd named
first_is (first ∷ words) d given named = named.0

-- the word that a text is
abbrev word_back : Text → FirstWord
word_back text =
    if bytes_eq text (codes "judge") then Judge else (
    if bytes_eq text (codes "show") then Show else (
    if bytes_eq text (codes "replay") then Replay else (
    if bytes_eq text (codes "make") then Make else (
    if bytes_eq text (codes "check") then Check else (
    if bytes_eq text (codes "migrate") then Migrate else (
    if bytes_eq text (codes "talk") then Talk else (
    if bytes_eq text (codes "serve") then Serve else Bridge)))))))

back_is : (word : FirstWord) → word_back (text_of_first word) ≡ word
back_is Judge = refl
back_is Show = refl
back_is Replay = refl
back_is Make = refl
back_is Check = refl
back_is Migrate = refl
back_is Talk = refl
back_is Serve = refl
back_is Bridge = refl

-- a text is one word
pub same_word : (a b : FirstWord) → text_of_first a ≡ text_of_first b → a ≡ b
same_word a b e = sym (back_is a) ∙ ap word_back e ∙ back_is b

-- what the words after the first one give, by the table of the command's word
pub gives : (words : List Text) (given : Command) → Gives words given
    → Takes (table_of_word (first_of given)) words × IsGiven (first_of given) (found (table_of_word (first_of given)) words) given
gives words command.Judge h = (h, refl)
gives words command.Show h = (h, refl)
gives words (command.Replay call modules parrots places summary limit threads) h = h
gives words (command.Make seed count) h = h
gives words command.Check h = (h, refl)
gives words command.Migrate h = (h, refl)
gives words (command.Talk order) h = h
gives words (command.Serve order) h = h
gives words (command.Bridge order) h = h

-- and so the values of each command that begins with this word
pub values_of : (word : FirstWord) (words : List Text) (given : Command) → Names (text_of_first word ∷ words) given
    → Takes (table_of_word word) words × IsGiven word (found (table_of_word word) words) given
values_of word words given named =
    subst (λ (word : FirstWord). Takes (table_of_word word) words × IsGiven word (found (table_of_word word) words) given)
    (sym (same_word word (first_of given) (named.0 ∙ word_is given))) (gives words given named.1)

-- the values give a command that begins with this word
pub named : (word : FirstWord) (words : List Text) → Takes (table_of_word word) words → (given : Command)
    → IsGiven word (found (table_of_word word) words) given → Names (text_of_first word ∷ words) given
named Judge words taken given is = subst (λ (given : Command). Names (codes "judge" ∷ words) given) (sym is) (refl, taken)
named Show words taken given is = subst (λ (given : Command). Names (codes "show" ∷ words) given) (sym is) (refl, taken)
named Replay words taken (command.Replay call modules parrots places summary limit threads) is = (refl, (taken, is))
named Replay words taken _ is = absurd is
named Make words taken (command.Make seed count) is = (refl, (taken, is))
named Make words taken _ is = absurd is
named Check words taken given is = subst (λ (given : Command). Names (codes "check" ∷ words) given) (sym is) (refl, taken)
named Migrate words taken given is = subst (λ (given : Command). Names (codes "migrate" ∷ words) given) (sym is) (refl, taken)
named Talk words taken (command.Talk order) is = (refl, (taken, is))
named Talk words taken _ is = absurd is
named Serve words taken (command.Serve order) is = (refl, (taken, is))
named Serve words taken _ is = absurd is
named Bridge words taken (command.Bridge order) is = (refl, (taken, is))
named Bridge words taken _ is = absurd is
