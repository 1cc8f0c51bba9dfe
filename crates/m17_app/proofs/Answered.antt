-- A run is told of in the same words once its status is a number.
use Rattle.std.proofs.Common.{◌≡◌, ℕ, refl, ap, subst}
use Rattle.m17_ports.specs.Book.{BookTold}
use Rattle.m17_ports.specs.Ear.{EarTold}
use Rattle.m17_ports.specs.Mouth.{MouthTold}
use Rattle.m17_ports.specs.Ports.{PortsTold}
use Rattle.m17_words.specs.declared.command.Command.{Command}
use Rattle.m17_app.specs.declared.done.Done.{Done}
use Rattle.m17_app.specs.declared.done.Ended.{Ended}
use Rattle.m17_app.specs.declared.status.Status.{Status}
use Rattle.m17_app.specs.Commands.{Runs}
use Rattle.m17_app.specs.Doing.{Doing, doing, done_of}
use Rattle.m17_app.specs.Status.{Streams}

module _ {E M B R X Y Z : Type 0} (ear : E → EarTold X) (mouth : M → MouthTold Y) (book : B → BookTold Z) (ports after : PortsTold) (before now : ℕ) (done : Done E M B R X) (ended : Ended E M B R X) where
  same_doing : done.talk ≡ ended.talk → done.house ≡ ended.house → done.refused ≡ ended.refused → done.bridge ≡ ended.bridge → done.board ≡ ended.board
      → doing ear mouth book ports after before now (done_of ended) ≡ doing ear mouth book ports after before now done
  same_doing talk house refused bridge board = rw (talk, house, refused, bridge, board)

  pub runs_answered : (command : Command) (status : Status) (first last : Streams)
      → done.talk ≡ ended.talk → done.house ≡ ended.house → done.refused ≡ ended.refused → done.bridge ≡ ended.bridge → done.board ≡ ended.board
      → Runs command status first last (doing ear mouth book ports after before now (done_of ended))
      → Runs command status first last (doing ear mouth book ports after before now done)
  runs_answered command status first last talk house refused bridge board runs =
      subst (λ (run : Doing X Y Z). Runs command status first last run) (same_doing talk house refused bridge board) runs
