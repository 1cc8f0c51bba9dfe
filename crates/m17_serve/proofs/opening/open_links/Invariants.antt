use Rattle.std.proofs.Common.{◌≡◌, ℕ, ◌+◌, ◌≤◌, length, map, take, string_bytes, vec_capacity}
use Rattle.m17_ports.specs.declared.question.Question.TheVariants.{Link}
use Rattle.m17_ports.specs.Ear.{IsNewEar}
use Rattle.m17_ports.specs.Mouth.{IsNewMouth}
use Rattle.m17_serve.specs.Devices.{AreNewOnes, Known, ear_labels, mouth_labels}
use Rattle.m17_serve.specs.Steps.{AreAsked}
use Rattle.m17_serve.proofs.opening.open_links.Given as goal

abbrev pub invariant-loop-bind : goal.invariant-loop-bind
invariant-loop-bind g l = record {
  asked : AreAsked (map (λ bind. Link (string_bytes bind) l.until) (take l.bind-index l.binds))
      (g.P.Ports.told l.fn.ports)
      (g.P.Ports.told l.ports);
  same : (g.P.Ports.told l.ports).faults ≡ (g.P.Ports.told l.fn.ports).faults;
  ears : AreNewOnes IsNewEar (g.P.Ports.told l.fn.ports).calls l.bind-index
      (map g.P.Ear.Ear.told l.ears.items);
  mouths : AreNewOnes IsNewMouth (g.P.Ports.told l.fn.ports).calls l.bind-index
      (map g.P.Mouth.Mouth.told l.mouths.items);
  known_ears : Known (g.P.KnownPorts.ears l.fn.ports) (ear_labels (map g.P.Ear.Ear.told l.ears.items));
  known_mouths : Known (g.P.KnownPorts.mouths l.fn.ports) (mouth_labels (map g.P.Mouth.Mouth.told l.mouths.items));
  more_ears : (i : ℕ) (label : _) → g.P.KnownPorts.ears l.ports i label → g.P.KnownPorts.ears l.fn.ports (l.bind-index + i) label;
  more_mouths : (i : ℕ) (label : _) → g.P.KnownPorts.mouths l.ports i label → g.P.KnownPorts.mouths l.fn.ports (l.bind-index + i) label;
  room_for_ears : length l.binds ≤ vec_capacity l.ears;
  room_for_mouths : length l.binds ≤ vec_capacity l.mouths;
}
