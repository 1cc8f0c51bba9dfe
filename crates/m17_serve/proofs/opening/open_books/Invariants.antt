use Rattle.std.proofs.Common.{◌≡◌, ◌≤◌, All, IsSome, length, map, take, string_bytes, vec_capacity}
use Rattle.m17_ports.specs.declared.question.Question.TheVariants.{Book}
use Rattle.m17_ports.specs.Book.{IsNewBook}
use Rattle.m17_serve.specs.Devices.{AreNewOnes, told_of_shelf}
use Rattle.m17_serve.specs.Steps.{AreAsked}
use Rattle.m17_serve.proofs.opening.open_books.Given as goal

abbrev pub invariant-loop-name : goal.invariant-loop-name
invariant-loop-name g l = record {
  asked : AreAsked (map (λ name. Book (string_bytes name)) (take l.name-index l.names))
      (g.P.Ports.told l.fn.ports)
      (g.P.Ports.told l.ports);
  same : (g.P.Ports.told l.ports).faults ≡ (g.P.Ports.told l.fn.ports).faults;
  new : AreNewOnes IsNewBook (g.P.Ports.told l.fn.ports).calls l.name-index
      (map (told_of_shelf g.P.Book.Book.told) l.shelves.items);
  there : All (λ shelf. IsSome shelf.inner) l.shelves.items;
  room : length l.names ≤ vec_capacity l.shelves;
}
