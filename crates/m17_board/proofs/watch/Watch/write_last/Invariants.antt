use Rattle.std.proofs.Common.{◌≡◌, false, length, vec_len}
use Rattle.m17_control.specs.Modules.{letters_before}
use Rattle.m17_board.specs.Shows.{shown_of}
use Rattle.m17_board.specs.Ending.{GoesOn, HasLast, InOrder}
use Rattle.m17_board.proofs.watch.Watch.write_last.Given as goal

-- the lines of the letters so far are written
abbrev pub invariant-loop-letter : goal.invariant-loop-letter
invariant-loop-letter g l = record {
  at : l.place ≡ length (letters_before l.initial.self.modules l.letter);
  on : GoesOn g.B.Book.told l.initial.self.modules l.glances (shown_of l.initial.self) (shown_of l.self);
  last : l.self.failed ≡ false → HasLast l.glances l.self.last.items l.place;
  in_order : l.initial.self.failed ≡ false → InOrder g.B.Book.told l.initial.self.modules l.glances l.letter (shown_of l.initial.self) (shown_of l.self);
  modules_are : l.self.modules ≡ l.initial.self.modules;
  as_many : vec_len l.self.last ≡ vec_len l.initial.self.last;
}
