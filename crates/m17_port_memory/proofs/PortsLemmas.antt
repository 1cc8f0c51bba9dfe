-- What is told of questions, by whether their texts fit.
use Rattle.std.proofs.Common.{◌≡◌, Bool, true, false, ◌&&◌, List, [], ◌∷◌, ◌++◌, length, nat_lt, nat_le, Option, None, Some, if◌then◌else◌, refl, ap, sym, ◌∙◌}
use Rattle.m17_ports.specs.Told.{told_then}
use Rattle.m17_ports.specs.declared.question.Question.{Question}
use Rattle.m17_ports.specs.Ports.{HasAsked, next_number}
use Rattle.m17_port_memory.specs.Handed.{told_with, asked_then, text_of}
use Rattle.m17_port_memory.specs.Kept.{PortsKept}
use Rattle.m17_port_memory.specs.Tells.{script_ports_told}

-- what is told of a question that does not fit as a whole does not depend on it
pub told-kept : (fits : Bool) (told : Option (List Question)) (kept question : Question)
    → (fits ≡ true → kept ≡ question) → told_with fits told kept ≡ told_with fits told question
told-kept fits None kept question same = refl
told-kept true (Some all) kept question same = rw (same refl) refl
told-kept false (Some all) kept question same = refl

-- a question whose text is told as far as it fits is told as the question is
pub told-fits : (fits : Bool) (told : Option (List Question)) (kept question : Question)
    → fits ≡ nat_le (length (text_of question)) 64 → (fits ≡ true → kept ≡ question)
    → told_with fits told kept ≡ asked_then told question
told-fits fits told kept question is same =
    told-kept fits told kept question same ∙ ap (λ (b : Bool). told_with b told question) is

-- where more is told, it is what was told and the question
told_more : (b : Bool) (before all : List Question) (question : Question)
    → (if b then Some (before ++ question ∷ []) else None) ≡ Some all
    → Some (before ++ question ∷ []) ≡ Some all
told_more true before all question e = e
told_more false before all question e = absurd (cc)

-- what is told after one question more is that question behind those before
asked_told : (told : Option (List Question)) (question : Question) (all : List Question)
    → asked_then told question ≡ Some all → told_then told (question ∷ []) ≡ Some all
asked_told None question = λ all e. e
asked_told (Some before) question = λ all e.
    told_more (nat_le (length (text_of question)) 64 && nat_lt (length before) 64) before all question e

-- ports that noted a question, and counted the call, were asked it
pub asked-told : (old new : PortsKept) (question : Question) → new.asked ≡ asked_then old.asked question
    → new.calls ≡ next_number old.calls
    → HasAsked (question ∷ []) (script_ports_told old) (script_ports_told new)
asked-told old new question noted counted = record {
  told = λ all e. asked_told old.asked question all (sym noted ∙ e);
  counted = counted;
}
