-- Questions that are asked one after another, and the ports failing at one of them.
use Rattle.std.proofs.Common.{◌≡◌, ℕ, zero, suc, ◌+◌, ◌-◌, ◌^◌, ◌<◌, ◌≤◌, min, List, [], ◌∷◌, ◌++◌, map, length, take, get_or, Option, None, Some, Result, Ok, Err, refl, sym, ap, subst, ◌∙◌, arith, append_assoc, append-nil, add-zero, inl, inr}
use Rattle.std.specs.Prelude.{string_bytes, vec_len}
use Rattle.std.specs.Option.{option_map}
use Rattle.std.proofs.lemmas.List.{length-append, length-map, length-take-le, map-append, take-append-le, take-map, take_more}
use Rattle.m17_io.specs.Faults.{HasRisen}
use Rattle.m17_ports.specs.Told.{told_then}
use Rattle.m17_ports.specs.Ports.{FailsLast, HasAsked, PortsTold, next_number}
use Rattle.m17_ports.specs.declared.question.Question.{Question}
use Rattle.m17_ports.specs.declared.question.Question.TheVariants.{Link}
use Rattle.m17_client_commands.specs.Devices.{FailsAmong}
use Rattle.m17_words.specs.declared.order.ServeOrder.{ServeOrder}
use Rattle.m17_serve.specs.Asked.{board_questions, call_after, device_questions, link_questions, questions_of, shelf_questions, until_of}
use Rattle.m17_serve.specs.Steps.{AreAsked, Asks}

-- so many calls after so many
pub calls_on : (first a b : ℕ) → call_after (call_after first a) b ≡ call_after first (a + b)
calls_on first a zero = ap (call_after first) (sym (add-zero a))
calls_on first a (suc b) =
    let more : suc (a + b) ≡ a + suc b = omega arith in
    ap next_number (calls_on first a b) ∙ ap (call_after first) more

-- numbers stay at their type's end
calls_to : (first a k : ℕ) → min (call_after first a + k) (2 ^ 64 - 1) ≡ min (first + a + k) (2 ^ 64 - 1)
calls_to first zero k = let none : first + k ≡ first + 0 + k = omega arith in ap (λ (n : ℕ). min n (2 ^ 64 - 1)) none
calls_to first (suc a) k = omega (arith, calls_to first a (k + 1))

some_calls : (first n : ℕ) → 0 < n → call_after first n ≡ min (first + n) (2 ^ 64 - 1)
some_calls first zero some = absurd (omega arith)
some_calls first (suc n) some = omega (arith, calls_to first n 1)

-- what was told of some questions and of those after them
told_on : (p q : Option (List Question)) (a b all : List Question) → ((m : List Question) → q ≡ Some m → told_then p a ≡ Some m)
    → told_then q b ≡ Some all → told_then p (a ++ b) ≡ Some all
told_on p None a b all first then = let none = then in cc
told_on None (Some m) a b all first then = let none = first m refl in cc
told_on (Some xs) (Some m) a b all first then =
    ap Some (sym (append_assoc xs a b)) ∙ ap (λ (o : Option (List Question)). told_then o b) (first m refl) ∙ then

told_none : (p : Option (List Question)) (all : List Question) → p ≡ Some all → told_then p [] ≡ Some all
told_none None all e = e
told_none (Some xs) all e = ap Some (append-nil xs) ∙ e

pub asked_none : (p : PortsTold) → AreAsked [] p p
asked_none p = record { told = told_none p.asked; counted = refl }

asked_one : (x : Question) (p q : PortsTold) → HasAsked (x ∷ []) p q → AreAsked (x ∷ []) p q
asked_one x p q asked = record { told = asked.told; counted = asked.counted }

-- some questions, as the ports tell it
pub all_asked : (qs : List Question) (p q : PortsTold) → 0 < length qs → AreAsked qs p q → HasAsked qs p q
all_asked qs p q some asked = record { told = asked.told; counted = asked.counted ∙ some_calls p.calls (length qs) some }

pub asked_then : (a b : List Question) (p q r : PortsTold) → AreAsked a p q → AreAsked b q r → AreAsked (a ++ b) p r
asked_then a b p q r first second = record {
  told = λ all e. told_on p.asked q.asked a b all first.told (second.told all e);
  counted = second.counted ∙ ap (λ (n : ℕ). call_after n (length b)) first.counted ∙ calls_on p.calls (length a) (length b)
      ∙ ap (call_after p.calls) (sym (length-append a b));
}

-- some behind those that were asked
asked_behind : (a b : List Question) (p q r : PortsTold) → AreAsked a p q → HasAsked b q r → HasAsked (a ++ b) p r
asked_behind a b p q r first second =
    let sum : p.calls + length a + length b ≡ p.calls + length (a ++ b) = omega (arith, length-append a b) in
    record {
      told = λ all e. told_on p.asked q.asked a b all first.told (second.told all e);
      counted = second.counted ∙ ap (λ (n : ℕ). min (n + length b) (2 ^ 64 - 1)) first.counted
          ∙ calls_to p.calls (length a) (length b) ∙ ap (λ (n : ℕ). min n (2 ^ 64 - 1)) sum;
    }

-- they failed among the first
pub fails_first : (a b : List Question) (p q : PortsTold) → FailsAmong a p q → FailsAmong (a ++ b) p q
fails_first a b p q fails = record {
  count = fails.count;
  some = fails.some;
  few = omega (arith, fails.few, length-append a b);
  asked = subst (λ (qs : List Question). HasAsked qs p q) (sym (take-append-le fails.count a b fails.few)) fails.asked;
  risen = fails.risen;
}

take_past : (k : ℕ) (a b : List Question) → take (length a + k) (a ++ b) ≡ a ++ take k b
take_past k [] b = let none : 0 + k ≡ k = omega arith in ap (λ (n : ℕ). take n b) none
take_past k (x ∷ a) b =
    let more : suc (length a) + k ≡ suc (length a + k) = omega arith in
    ap (λ (n : ℕ). take n (x ∷ (a ++ b))) more ∙ ap (λ (l : List Question). x ∷ l) (take_past k a b)

-- they failed among the rest
pub fails_later : (a b : List Question) (p q r : PortsTold) → AreAsked a p q → q.faults ≡ p.faults → FailsAmong b q r → FailsAmong (a ++ b) p r
fails_later a b p q r asked same fails = record {
  count = length a + fails.count;
  some = omega (arith, fails.some);
  few = omega (arith, fails.few, length-append a b);
  asked = subst (λ (qs : List Question). HasAsked qs p r) (sym (take_past fails.count a b)) (asked_behind a (take fails.count b) p q r asked fails.asked);
  risen = subst (λ (n : ℕ). HasRisen n r.faults) same fails.risen;
}

module _ {T : Type 0} where
  one_more : (f : T → Question) (xs : List T) (i : ℕ) (d : T) → i < length xs → map f (take (i + 1) xs) ≡ map f (take i xs) ++ f (get_or xs i d) ∷ []
  one_more f xs i d lt = ap (map f) (take_more xs i d lt) ∙ map-append f (take i xs) (get_or xs i d ∷ [])

  one_of : (f : T → Question) (xs : List T) (i : ℕ) (x : T) → i < length xs → x ≡ get_or xs i x → map f (take (i + 1) xs) ≡ map f (take i xs) ++ f x ∷ []
  one_of f xs i x lt is = one_more f xs i x lt ∙ ap (λ (y : T). map f (take i xs) ++ f y ∷ []) (sym is)

  -- one more of a list was asked
  pub asked_more : (f : T → Question) (xs : List T) (i : ℕ) (x : T) (p q r : PortsTold) → i < length xs → x ≡ get_or xs i x
      → AreAsked (map f (take i xs)) p q → HasAsked (f x ∷ []) q r → AreAsked (map f (take (i + 1) xs)) p r
  asked_more f xs i x p q r lt is first next =
      subst (λ (qs : List Question). AreAsked qs p r) (sym (one_of f xs i x lt is)) (asked_then (map f (take i xs)) (f x ∷ []) p q r first (asked_one (f x) q r next))

  -- the number of the next call
  pub at_call : (f : T → Question) (xs : List T) (i : ℕ) (p q : PortsTold) → i ≤ length xs → AreAsked (map f (take i xs)) p q → q.calls ≡ call_after p.calls i
  at_call f xs i p q le asked = asked.counted ∙ ap (call_after p.calls) (length-map (take i xs) f ∙ length-take-le i xs le)

  -- the ports failed at one more of a list
  pub fails_at : (f : T → Question) (xs : List T) (i : ℕ) (x : T) (p q r : PortsTold) → i < length xs → x ≡ get_or xs i x
      → AreAsked (map f (take i xs)) p q → q.faults ≡ p.faults → HasAsked (f x ∷ []) q r → HasRisen q.faults r.faults → FailsAmong (map f xs) p r
  fails_at f xs i x p q r lt is first same next risen = record {
    count = i + 1;
    some = omega arith;
    few = omega (arith, length-map xs f);
    asked = subst (λ (qs : List Question). HasAsked qs p r) (sym (take-map f (i + 1) xs ∙ one_of f xs i x lt is)) (asked_behind (map f (take i xs)) (f x ∷ []) p q r first next);
    risen = subst (λ (n : ℕ). HasRisen n r.faults) same risen;
  }

-- questions, and those after them
pub asks_then : {T E : Type 0} (result : Result T E) (a b : List Question) (p q r : PortsTold) → AreAsked a p q → q.faults ≡ p.faults → Asks result b q r → Asks result (a ++ b) p r
asks_then (Ok v) a b p q r asked same then = record { asked = asked_then a b p q r asked then.asked; no_fault = then.no_fault ∙ same; failed = tt }
asks_then (Err v) a b p q r asked same then = record { asked = tt; no_fault = tt; failed = fails_later a b p q r asked same then.failed }

pub asks_first : {T E : Type 0} (why : E) (a b : List Question) (p q : PortsTold) → FailsAmong a p q → Asks {T = T} {E = E} (Err why) (a ++ b) p q
asks_first why a b p q fails = record { asked = tt; no_fault = tt; failed = fails_first a b p q fails }

-- where the ports fail last behind questions that they answered, they fail last
pub fails_behind : {P : Type 0} (told : P → PortsTold) (before mid after : P) → (told mid).faults ≡ (told before).faults → FailsLast told mid after → FailsLast told before after
fails_behind told before mid after same (inl stands) = inl (stands ∙ same)
fails_behind told before mid after same (inr (between, question, stood, asks)) = inr (between, question, stood ∙ same, asks)

-- the questions of words that name a link
pub served_questions : (order : ServeOrder) (p q : PortsTold) → 0 < vec_len order.binds → AreAsked (questions_of order) p q → HasAsked (questions_of order) p q
served_questions order p q some asked =
    let binds : List (List ℕ) = map string_bytes order.binds.items in
    let links : List Question = link_questions binds (until_of order.seconds) in
    let long : length links ≡ vec_len order.binds =
    omega (arith, length-map binds (λ bind. Link bind (until_of order.seconds)), length-map order.binds.items string_bytes, order.binds.ok.0) in
    let devices = length-append links (shelf_questions order (option_map string_bytes order.book)) in
    all_asked (questions_of order) p q (omega (arith, long, devices, length-append (device_questions order) (board_questions (option_map string_bytes order.board)))) asked

-- one was asked, or the ports failed at it
pub one_asks : {T E : Type 0} (v : T) (x : Question) (p q : PortsTold) → HasAsked (x ∷ []) p q → q.faults ≡ p.faults → Asks {T = T} {E = E} (Ok v) (x ∷ []) p q
one_asks v x p q asked same = record { asked = asked_one x p q asked; no_fault = same; failed = tt }

pub one_fails : {T E : Type 0} (why : E) (x : Question) (p q : PortsTold) → HasAsked (x ∷ []) p q → HasRisen p.faults q.faults → Asks {T = T} {E = E} (Err why) (x ∷ []) p q
one_fails why x p q asked risen = record { asked = tt; no_fault = tt; failed = record { count = 1; some = omega arith; few = omega arith; asked = asked; risen = risen } }

-- none was asked
pub none_asks : {T E : Type 0} (v : T) (p : PortsTold) → Asks {T = T} {E = E} (Ok v) [] p p
none_asks v p = record { asked = asked_none p; no_fault = refl; failed = tt }
