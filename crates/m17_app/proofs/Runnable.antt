-- What words name can be run.
use Rattle.std.proofs.Common.{◌≡◌, ◌≢◌, ℕ, zero, suc, ◌+◌, ◌<◌, ◌≤◌, Bool, List, [], ◌∷◌, length, Option, None, Some, refl, ap, ◌∙◌, arith}
use Rattle.std.specs.Prelude.{true, false, cond, IfSome, IsTrue}
use Rattle.std.specs.List.{filter, range_with_len}
use Rattle.std.proofs.lemmas.List.Elements.{All-contains}
use Rattle.std.proofs.lemmas.Bool.Decides.{nat_tests}
use Rattle.m17_control.specs.declared.modules.Modules.{Modules}
use Rattle.m17_control.specs.Modules.{serves, letters_of}
use Rattle.m17_words.specs.declared.command.Command.{Command}
use Rattle.m17_words.specs.declared.command.Command.TheVariants.{Judge, Show, Replay, Make, Check, Migrate, Talk, Serve, Bridge}
use Rattle.m17_words.specs.Values.{IsNumberIfAny, NamesModules, NamesParrots}
use Rattle.m17_words.specs.Words.{Names, Gives}
use Rattle.m17_app.specs.Commands.{IsRunnable}

cond_some : (b : Bool) (a : ℕ) (xs : List ℕ) → (b ≡ false → 0 < length xs) → 0 < length (cond b (a ∷ xs) xs)
cond_some true a xs rest = omega arith
cond_some false a xs rest = rest refl

-- a number of a range that passes is in what passes
some_passes : (p : ℕ → Bool) (a n x : ℕ) → a ≤ x → x < a + n → p x ≡ true → 0 < length (filter p (range_with_len a n))
some_passes p a zero x low high passes = absurd (omega arith)
some_passes p a (suc n) x low high passes = cond_some (p a) a (filter p (range_with_len (a + 1) n)) (λ fails.
    let other : a ≢ x = λ same. absurd (let no : p a ≡ true = ap p same ∙ passes in cc) in
    some_passes p (a + 1) n x (omega (arith, other)) (omega arith) passes)

-- letters of modules are A to Z, by what it is to be served
serves_within : (m : Modules) (letter : ℕ) → serves m letter ≡ true → (65 ≤ letter) × (letter ≤ 90)
unfolding serves
serves_within m letter h = (grind (arith, nat_tests), grind (arith, nat_tests))

-- a text of modules names one at least
some_module : (text : List ℕ) (modules : Modules) → NamesModules text modules → 0 < length (letters_of modules)
some_module [] modules named = absurd (omega (arith, named.is_text.0))
some_module (x ∷ xs) modules named =
    let served = (named.letters x).1 (0, omega arith, refl) in
    let within = serves_within modules x served in
    some_passes (serves modules) 65 26 x within.0 (omega (arith, within.1)) served

-- parrots are among the modules
among : (text : Option (List ℕ)) (modules parrots : Modules) → NamesParrots text modules parrots → (letter : ℕ) → serves parrots letter ≡ true → serves modules letter ≡ true
among None modules parrots none letter is = absurd (let no : serves parrots letter ≡ false = none.0 letter in cc)
among (Some text) modules parrots (named, all) letter is =
    All-contains (λ l. IsTrue (serves modules l)) text letter all ((named.letters letter).0 is)

few_seconds : (text : Option (List ℕ)) (seconds : Option ℕ) → IsNumberIfAny 1 1000000 text seconds → IfSome seconds (λ s. s ≤ 1000000)
few_seconds None None h = tt
few_seconds None (Some s) h = absurd h
few_seconds (Some text) None h = absurd h
few_seconds (Some text) (Some s) h = h.at_most

gives_runnable : (words : List (List ℕ)) (command : Command) → Gives words command → IsRunnable command
gives_runnable words Judge gives = tt
gives_runnable words Show gives = tt
gives_runnable words (Make seed count) gives = gives.1.count_is.at_most
gives_runnable words Check gives = tt
gives_runnable words Migrate gives = tt
gives_runnable words (Talk order) gives = tt
gives_runnable words (Bridge order) gives = few_seconds _ order.seconds gives.1.seconds_are
gives_runnable words (Serve order) gives = record {
  plan = record {
    some_place = omega (arith, gives.1.places_are.at_least);
    at_most = omega (arith, gives.1.places_are.at_most);
    some_module = some_module _ order.modules gives.1.modules_are;
    parrots = among _ order.modules order.parrots gives.1.parrots_are;
  };
  some_link = gives.1.some_bind;
  few_links = gives.1.few_binds;
  few_seconds = few_seconds _ order.seconds gives.1.seconds_are;
}
gives_runnable words (Replay call modules parrots places summary limit threads) gives = record {
  some_place = omega (arith, gives.1.places_are.at_least);
  at_most = omega (arith, gives.1.places_are.at_most);
  some_module = some_module _ modules gives.1.modules_are;
  parrots = among _ modules parrots gives.1.parrots_are;
}

pub names_runnable : (words : List (List ℕ)) (command : Command) → Names words command → IsRunnable command
names_runnable [] command names = absurd names
names_runnable (first ∷ words) command names = gives_runnable words command names.1
