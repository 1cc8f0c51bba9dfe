use Rattle.std.proofs.Common.{ℕ, ◌+◌, List, [], ◌∷◌, Option, map, string_bytes, sym, ap, subst, ◌∙◌, arith, inl, inr}
use Rattle.std.proofs.lemmas.List.{take_all}
use Rattle.m17_ports.specs.Ear.{IsNewEar}
use Rattle.m17_ports.specs.Mouth.{IsNewMouth}
use Rattle.m17_ports.specs.Ports.{HasAsked, PortsTold}
use Rattle.m17_ports.specs.declared.question.Question.{Question}
use Rattle.m17_ports.specs.declared.question.Question.TheVariants.{Link}
use Rattle.m17_client_commands.specs.Devices.{FailsAmong}
use Rattle.m17_serve.proofs.Asking.{asked_more, at_call, fails_at}
use Rattle.m17_serve.proofs.Knowing.{ear_known, mouth_known, one_on}
use Rattle.m17_serve.proofs.Lists.{map_twice}
use Rattle.m17_serve.proofs.NewOnes.{new_pushed}
use Rattle.m17_serve.proofs.opening.open_links.Goals as goal

pub returns-in-Err-clause-asks : goal.returns-in-Err-clause-asks
returns-in-Err-clause-asks g c =
    let until : Option ℕ = c.args.until in
    let p : PortsTold = g.P.Ports.told c.args.ports.now in
    let q : PortsTold = g.P.Ports.told c.loop-bind.ports in
    let r : PortsTold = g.P.Ports.told c.known_link.new.self in
    let x : List ℕ = string_bytes c.bind-item.result in
    let next : HasAsked (Link x until ∷ []) q r = rw c.as_str.ensures.value at c.known_link.ensures.asked in
    record {
      asked = tt;
      no_fault = tt;
      failed = subst (λ (qs : List Question). FailsAmong qs p r) (sym (map_twice (λ bind. Link bind until) string_bytes c.args.binds.now))
          (fails_at (λ bind. Link (string_bytes bind) until) c.args.binds.now c.loop-bind.bind-index c.bind-item.result p q r c.loop-bind-test.true c.bind-item.is
          c.loop-bind.invariant.asked c.loop-bind.invariant.same next c.in-Err.ensures.cause.failed);
    }

pub loop-bind-preserved : goal.loop-bind-preserved
loop-bind-preserved g c =
    let until : Option ℕ = c.args.until in
    let p : PortsTold = g.P.Ports.told c.args.ports.now in
    let q : PortsTold = g.P.Ports.told c.loop-bind.ports in
    let r : PortsTold = g.P.Ports.told c.known_link.new.self in
    let x : List ℕ = string_bytes c.bind-item.result in
    let next : HasAsked (Link x until ∷ []) q r = rw c.as_str.ensures.value at c.known_link.ensures.asked in
    let at = at_call (λ bind. Link (string_bytes bind) until) c.args.binds.now c.loop-bind.bind-index p q (omega arith) c.loop-bind.invariant.asked in
    record {
      asked = asked_more (λ bind. Link (string_bytes bind) until) c.args.binds.now c.loop-bind.bind-index c.bind-item.result p q r c.loop-bind-test.true c.bind-item.is
          c.loop-bind.invariant.asked next;
      same = c.in-Ok.ensures.cause.no_fault ∙ c.loop-bind.invariant.same;
      ears = new_pushed g.P.Ear.Ear.told IsNewEar _ _ _ _ _ c.push_reserved.ensures.items c.loop-bind.invariant.ears
          (subst (λ (call : ℕ). IsNewEar call (g.P.Ear.Ear.told c.in-Ok.link.0)) at c.in-Ok.ensures.ear);
      mouths = new_pushed g.P.Mouth.Mouth.told IsNewMouth _ _ _ _ _ c.push_reserved-in-loop-bind.ensures.items c.loop-bind.invariant.mouths
          (subst (λ (call : ℕ). IsNewMouth call (g.P.Mouth.Mouth.told c.in-Ok.link.1)) at c.in-Ok.ensures.mouth);
      known_ears = ear_known g.P.Ear.Ear.told _ _ _ _ _ c.push_reserved.ensures.items c.loop-bind.invariant.ears.count_is c.loop-bind.invariant.known_ears
          (c.loop-bind.invariant.more_ears 0 _ c.in-Ok.ensures.known_ear);
      known_mouths = mouth_known g.P.Mouth.Mouth.told _ _ _ _ _ c.push_reserved-in-loop-bind.ensures.items c.loop-bind.invariant.mouths.count_is c.loop-bind.invariant.known_mouths
          (c.loop-bind.invariant.more_mouths 0 _ c.in-Ok.ensures.known_mouth);
      more_ears = λ i label known. one_on (g.P.KnownPorts.ears c.args.ports.now) c.loop-bind.bind-index i label (c.loop-bind.invariant.more_ears (i + 1) label (c.in-Ok.ensures.more_ears i label known));
      more_mouths = λ i label known. one_on (g.P.KnownPorts.mouths c.args.ports.now) c.loop-bind.bind-index i label (c.loop-bind.invariant.more_mouths (i + 1) label (c.in-Ok.ensures.more_mouths i label known));
      room_for_ears = omega (arith, c.loop-bind.invariant.room_for_ears, c.push_reserved.ensures.capacity);
      room_for_mouths = omega (arith, c.loop-bind.invariant.room_for_mouths, c.push_reserved-in-loop-bind.ensures.capacity);
    }

pub returns-clause-asks : goal.returns-clause-asks
returns-clause-asks g c =
    let binds = c.args.binds.now in
    let until : Option ℕ = c.args.until in
    let all = ap (map (λ bind. Link (string_bytes bind) until)) (take_all c.loop-bind.bind-index binds c.loop-bind-test.false) ∙ sym (map_twice (λ bind. Link bind until) string_bytes binds) in
    record {
      asked = rw all at c.loop-bind.invariant.asked;
      no_fault = c.loop-bind.invariant.same;
      failed = tt;
    }

pub returns-in-Err-clause-fails_last : goal.returns-in-Err-clause-fails_last
returns-in-Err-clause-fails_last g c =
    inr (c.loop-bind.ports, Link c.as_str.result.now c.args.until, c.loop-bind.invariant.same, c.known_link.ensures.asked)

pub returns-clause-fails_last : goal.returns-clause-fails_last
returns-clause-fails_last g c = inl c.loop-bind.invariant.same
