-- What ports were asked of one list of questions and then of another.
use Rattle.std.proofs.Common.{◌≡◌, ◌≤◌, ◌-◌, ◌^◌, List, [], ◌++◌, Option, None, Some, refl, sym, ap, ◌∙◌, arith}
use Rattle.std.proofs.lemmas.List.{length-append}
use Rattle.m17_ports.specs.Told.{told_then}
use Rattle.m17_ports.specs.Ports.{HasAsked, PortsTold}
use Rattle.m17_ports.specs.declared.question.Question.{Question}
use Rattle.m17_ports.proofs.Telling.{told-in-turn, nothing-more}

pub ask-nothing : (ports : PortsTold) → ports.calls ≤ 2 ^ 64 - 1 → HasAsked [] ports ports
ask-nothing ports few = record {
  told = λ all e. nothing-more ports.asked ∙ e;
  counted = omega (arith, few);
}

-- what is told behind something was told
was_told : (before : Option (List Question)) (more all : List Question) → told_then before more ≡ Some all
    → (some : List Question) × (before ≡ Some some)
was_told None more all e = absurd (cc e)
was_told (Some some) more all e = (some, refl)

pub ask-in-turn : (a b c : PortsTold) (first second : List Question)
    → HasAsked first a b → HasAsked second b c → HasAsked (first ++ second) a c
ask-in-turn a b c first second h k = record {
  told = λ all e.
      let later = k.told all e in
      let some = was_told b.asked second all later in
      let earlier = h.told some.0 some.1 in
      sym (told-in-turn a.asked first second) ∙ ap (λ t. told_then t second) (earlier ∙ sym some.1) ∙ later;
  counted = omega (arith, h.counted, k.counted, length-append first second);
}
