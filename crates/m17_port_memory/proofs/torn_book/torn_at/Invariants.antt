use Rattle.std.proofs.Common.{◌≡◌, drop}
use Rattle.m17_port_memory.specs.Torn.{torn_at}
use Rattle.m17_port_memory.proofs.torn_book.torn_at.Given as goal

abbrev pub invariant-loop-number : goal.invariant-loop-number
invariant-loop-number l = torn_at l.fails l.call ≡ torn_at (drop l.number-index l.fails) l.call
