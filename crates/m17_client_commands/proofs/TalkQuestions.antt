-- The questions of a talk, asked one after another.
use Rattle.std.proofs.Common.{◌≡◌, ℕ, List, [], ◌∷◌, length, take, Option, None, Some, sym, subst, ◌∙◌, arith, inl, inr}
use Rattle.std.proofs.lemmas.List.{take_all}
use Rattle.m17_io.specs.Faults.{HasRisen}
use Rattle.m17_ports.specs.Laws.{PortsAreAskedInTurn}
use Rattle.m17_ports.specs.Ports.{FailsLast, HasAsked, PortsTold}
use Rattle.m17_ports.specs.declared.question.Question.{Question}
use Rattle.m17_ports.specs.declared.question.Question.TheVariants.{Book}
use Rattle.m17_words.specs.declared.order.TalkOrder.{TalkOrder}
use Rattle.m17_client_commands.specs.Asking.{AsksBook}
use Rattle.m17_client_commands.specs.Devices.{FailsAmong}
use Rattle.m17_client_commands.specs.Talked.{book_questions, questions_of}

-- a question, and then that for the book, where one is named
pub asked_both : PortsAreAskedInTurn → (before mid after : PortsTold) (link : Question) (name : Option (List ℕ))
    → HasAsked (link ∷ []) before mid → AsksBook name mid after → HasAsked (link ∷ book_questions name) before after
asked_both law before mid after link None asked same = subst (λ (p : PortsTold). HasAsked (link ∷ []) before p) (sym same) asked
asked_both law before mid after link (Some name) asked book = law.in_turn before mid after (link ∷ []) (Book name ∷ []) asked book

-- the ports failed at the last question of all
pub failed_at_last : (order : TalkOrder) (before mid after : PortsTold) → HasAsked (questions_of order) before after
    → mid.faults ≡ before.faults → HasRisen mid.faults after.faults → FailsAmong (questions_of order) before after
failed_at_last order before mid after asked same risen =
    let questions : List Question = questions_of order in
    let all : take (length questions) questions ≡ questions = take_all (length questions) questions (omega arith) in
    record {
      count = length questions;
      some = omega arith;
      few = omega arith;
      asked = subst (λ (qs : List Question). HasAsked qs before after) (sym all) asked;
      risen = subst (λ (n : ℕ). HasRisen n after.faults) same risen;
    }

-- where the ports fail last behind a first question that they answered, they fail last
pub fails_behind : {P : Type 0} (told : P → PortsTold) (before mid after : P) → (told mid).faults ≡ (told before).faults → FailsLast told mid after → FailsLast told before after
fails_behind told before mid after same (inl stands) = inl (stands ∙ same)
fails_behind told before mid after same (inr (between, question, stood, asks)) = inr (between, question, stood ∙ same, asks)
