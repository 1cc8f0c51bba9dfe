use Rattle.m17_ports.proofs.Writing.{write-nothing, one-went, one-failed, write-in-turn, given-up}
use Rattle.m17_ports.proofs.laws.books_are_written_in_turn.Goals as goal

pub returns : goal.returns
returns g c = record {
  nothing = write-nothing;
  one_went = one-went;
  one_failed = one-failed;
  in_turn = write-in-turn;
  given_up = given-up;
}
