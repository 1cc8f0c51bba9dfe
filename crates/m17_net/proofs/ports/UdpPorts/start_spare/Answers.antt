use Rattle.std.proofs.Common.{ap, ◌∙◌}
use Rattle.m17_net.proofs.ports.UdpPorts.start_spare.Goals.{in-Ok-push, in-Err}
use Rattle.m17_net.proofs.ports.UdpPorts.start_spare.Goals as goal

pub returns-clause-begun : goal.returns-clause-begun
returns-clause-begun g c = elim c.match-push.branch [
  | in-Ok-push w ↦ rw w.result-is (record {
    book = c.in_ok-book.book;
    new = c.in_ok-book.ensures.new;
    of_book = c.in_ok-book.ensures.one_lane;
    ready = c.in_ok-book.ensures.ready;
    no_fault = ap (λ b. b.faults) (c.in_ok-book.ensures.inner ∙ c.new.ensures);
  })
  | in-Err w ↦ rw w.result-is tt
]
