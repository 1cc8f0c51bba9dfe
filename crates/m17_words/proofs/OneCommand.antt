-- Words name one command.
use Rattle.std.proofs.Common.{◌≡◌, ℕ, ◌*◌, Bool, true, false, List, [], ◌∷◌, Option, None, Some, sym, ap, subst, ap₂, refl, ◌∙◌, rules}
use Rattle.std.specs.Prelude.{IsTrue, map, string_bytes}
use Rattle.m17_callsign.specs.Laws.{EachAddressHasOneCallsign}
use Rattle.m17_peer.specs.Laws.{EachTextIsOfOnePeer}
use Rattle.m17_words.specs.declared.order.ServeOrder.{ServeOrder}
use Rattle.clap.specs.Words.{Row, Text}
use Rattle.m17_control.specs.declared.modules.Modules.{Modules}
use Rattle.m17_control.specs.Modules.{serves}
use Rattle.m17_words.specs.declared.command.Command.{Command}
use Rattle.m17_words.specs.declared.command.Command.TheVariants as command
use Rattle.m17_words.specs.declared.first.FirstWord.{FirstWord}
use Rattle.m17_words.specs.declared.first.FirstWord.TheVariants.{Judge, Show, Replay, Make, Check, Migrate, Talk, Serve, Bridge}
use Rattle.m17_words.specs.Given.{IsGiven}
use Rattle.m17_words.proofs.Named.{first_of, word_is, gives, values_of}
use Rattle.m17_words.specs.Values.{IsLimit, IsNumberIfAny, NamesLetter, NamesModules, NamesParrots}
use Rattle.m17_words.specs.Laws.{SameCommand, OneCommand}
use Rattle.m17_control.specs.Laws.{SetsAreTheirLetters}
use Rattle.std.proofs.lemmas.Bool.{false≢true}

-- a truth value is told by whether it is true
one_truth : (a b : Bool) → (IsTrue a → IsTrue b) → (IsTrue b → IsTrue a) → a ≡ b
one_truth true true h k = refl
one_truth false false h k = refl
one_truth true false h k = absurd (false≢true (h refl))
one_truth false true h k = absurd (false≢true (k refl))

same_modules : SetsAreTheirLetters → (text : List ℕ) (m m' : Modules) → NamesModules text m → NamesModules text m' → m' ≡ m
same_modules law text m m' named named' = law m' m named'.set named.set
    (λ letter. one_truth (serves m' letter) (serves m letter)
    (λ h. (named.letters letter).1 ((named'.letters letter).0 h)) (λ h. (named'.letters letter).1 ((named.letters letter).0 h)))

same_parrots : SetsAreTheirLetters → (found : Option (List ℕ)) (m m' p p' : Modules) → NamesParrots found m p → NamesParrots found m' p' → p' ≡ p
same_parrots law None m m' p p' none none' = law p' p none'.1 none.1 (λ letter. none'.0 letter ∙ sym (none.0 letter))
same_parrots law (Some text) m m' p p' some some' = same_modules law text p p' some.0 some'.0

one_letter : (text : List ℕ) (a b : ℕ) → NamesLetter text a → NamesLetter text b → b ≡ a
one_letter text a b x y = let e = x.1 in let f = y.1 in cc

one_number : (least most : ℕ) (text : Option Text) (n n' : Option ℕ) → IsNumberIfAny least most text n
    → IsNumberIfAny least most text n' → n' ≡ n
one_number least most None None None a b = refl
one_number least most None None (Some n') a b = absurd b
one_number least most None (Some n) n' a b = absurd a
one_number least most (Some text) None n' a b = absurd a
one_number least most (Some text) (Some n) None a b = absurd b
one_number least most (Some text) (Some n) (Some n') a b = ap Some (b.value ∙ sym a.value)

one_limit : (text : List ℕ) (a b : ℕ) → IsLimit text a → IsLimit text b → b ≡ a
one_limit text a b x y =
    let seconds : y.0 ≡ x.0 = y.1.value ∙ sym x.1.value in
    let first : a ≡ 1000 * x.0 = x.2 in
    let second : b ≡ 1000 * y.0 = y.2 in
    cc

same_binds : (found : Option (List Text)) (o o' : ServeOrder) → found ≡ Some (map string_bytes o.binds.items)
    → found ≡ Some (map string_bytes o'.binds.items) → map string_bytes o'.binds.items ≡ map string_bytes o.binds.items
same_binds found o o' a b = let e : Some (map string_bytes o'.binds.items) ≡ Some (map string_bytes o.binds.items) = sym b ∙ a in cc

-- the values of a word are those of one command
one_given : SetsAreTheirLetters → EachAddressHasOneCallsign → EachTextIsOfOnePeer → (word : FirstWord) (found : List Row) (given other : Command) → IsGiven word found given → IsGiven word found other → SameCommand given other
one_given law calls peers Judge found given other a b = subst (λ (given : Command). SameCommand given other) (sym a) b
one_given law calls peers Show found given other a b = subst (λ (given : Command). SameCommand given other) (sym a) b
one_given law calls peers Replay found (command.Replay c m p n s l r) (command.Replay c' m' p' n' s' l' r') a b =
    let call : c' ≡ c = calls.one_address _ _ _ b.call_is a.call_is in
    let modules : m' ≡ m = same_modules law _ m m' a.modules_are b.modules_are in
    let parrots : p' ≡ p = same_parrots law _ m m' p p' a.parrots_are b.parrots_are in
    let places : n' ≡ n = b.places_are.value ∙ sym a.places_are.value in
    let summaries : s' ≡ s = one_truth s' s (λ h. a.summary_is.1 (b.summary_is.0 h)) (λ h. b.summary_is.1 (a.summary_is.0 h)) in
    let limits : l' ≡ l = one_limit _ l l' a.limit_is b.limit_is in
    let threads : r' ≡ r = one_truth r' r (λ h. a.threads_are.1 (b.threads_are.0 h)) (λ h. b.threads_are.1 (a.threads_are.0 h)) in
    cc
one_given law calls peers Replay found (command.Replay c m p n s l r) _ a b = absurd b
one_given law calls peers Replay found _ other a b = absurd a
one_given law calls peers Make found (command.Make seed count) (command.Make seed' count') a b =
    ap₂ command.Make (b.seed_is.value ∙ sym a.seed_is.value) (b.count_is.value ∙ sym a.count_is.value)
one_given law calls peers Make found (command.Make seed count) _ a b = absurd b
one_given law calls peers Make found _ other a b = absurd a
one_given law calls peers Check found given other a b = subst (λ (given : Command). SameCommand given other) (sym a) b
one_given law calls peers Migrate found given other a b = subst (λ (given : Command). SameCommand given other) (sym a) b
one_given law calls peers Talk found (command.Talk o) (command.Talk o') a b = record {
  call = calls.one_address _ _ _ b.call_is a.call_is;
  letter = one_letter _ o.letter o'.letter a.module_is b.module_is;
  listen = one_truth o'.listen o.listen (λ h. a.listen_is.1 (b.listen_is.0 h)) (λ h. b.listen_is.1 (a.listen_is.0 h));
  bind = b.bind_is ∙ sym a.bind_is;
  to = peers o'.to o.to _ b.to_is a.to_is;
  stay = b.stay_is.value ∙ sym a.stay_is.value;
  book = b.book_is ∙ sym a.book_is;
}
one_given law calls peers Talk found (command.Talk o) _ a b = absurd b
one_given law calls peers Talk found _ other a b = absurd a
one_given law calls peers Serve found (command.Serve o) (command.Serve o') a b = record {
  call = calls.one_address _ _ _ b.call_is a.call_is;
  modules = same_modules law _ o.modules o'.modules a.modules_are b.modules_are;
  parrots = same_parrots law _ o.modules o'.modules o.parrots o'.parrots a.parrots_are b.parrots_are;
  places = b.places_are.value ∙ sym a.places_are.value;
  seconds = one_number _ _ _ o.seconds o'.seconds a.seconds_are b.seconds_are;
  book = b.book_is ∙ sym a.book_is;
  binds = same_binds _ o o' a.binds_are b.binds_are;
  limit = one_limit _ o.limit o'.limit a.limit_is b.limit_is;
  rules = one_truth o'.rules o.rules (λ h. a.rules_are.1 (b.rules_are.0 h)) (λ h. b.rules_are.1 (a.rules_are.0 h));
  board = b.board_is ∙ sym a.board_is;
  fill = one_truth o'.fill o.fill (λ h. a.fill_is.1 (b.fill_is.0 h)) (λ h. b.fill_is.1 (a.fill_is.0 h));
  guard = one_truth o'.guard o.guard (λ h. a.guard_is.1 (b.guard_is.0 h)) (λ h. b.guard_is.1 (a.guard_is.0 h));
  pace = b.pace_is.value ∙ sym a.pace_is.value;
  stop = b.stop_is ∙ sym a.stop_is;
}
one_given law calls peers Serve found (command.Serve o) _ a b = absurd b
one_given law calls peers Serve found _ other a b = absurd a
one_given law calls peers Bridge found (command.Bridge o) (command.Bridge o') a b = record {
  call = calls.one_address _ _ _ b.call_is a.call_is;
  near = b.near_is ∙ sym a.near_is;
  near_peer = peers o'.near_peer o.near_peer _ b.near_peer_is a.near_peer_is;
  near_letter = one_letter _ o.near_letter o'.near_letter a.near_module_is b.near_module_is;
  far = b.far_is ∙ sym a.far_is;
  far_peer = peers o'.far_peer o.far_peer _ b.far_peer_is a.far_peer_is;
  far_letter = one_letter _ o.far_letter o'.far_letter a.far_module_is b.far_module_is;
  seconds = one_number _ _ _ o.seconds o'.seconds a.seconds_are b.seconds_are;
  stop = b.stop_is ∙ sym a.stop_is;
}
one_given law calls peers Bridge found (command.Bridge o) _ a b = absurd b
one_given law calls peers Bridge found _ other a b = absurd a

pub one_command : SetsAreTheirLetters → EachAddressHasOneCallsign → EachTextIsOfOnePeer → OneCommand
one_command law calls peers [] given other h h' = absurd h
one_command law calls peers (first ∷ words) given other h h' =
    let a = gives words given h.1 in
    let b = values_of (first_of given) words other ((sym (h.0 ∙ word_is given) ∙ h'.0), h'.1) in
    one_given law calls peers (first_of given) _ given other a.1 b.1
