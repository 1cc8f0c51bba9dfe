use Rattle.std.proofs.Common.{Some, refl}
use Rattle.std.proofs.lemmas.List.Elements.{All-pop}
use Rattle.m17_control.specs.Forms.{IsModule}
use Rattle.m17_reflect.proofs.NewLanes.{setup_is}
use Rattle.m17_reflect.proofs.bare_workers.bare_worker.Goals as goal

pub returns-clause-new : goal.returns-clause-new
returns-clause-new c =
    let letter = c.take_last-letter in let made = c.in_ok-module in record {
      letter = (All-pop IsModule c.args.letters.now.items letter.new.from.items (Some letter.result) letter.ensures.last c.requires.letters).1;
      links_are = refl;
      limit = refl;
      setup = setup_is c.args.plan.now letter.result c.has.result made.«module».setup made.ensures.setup c.has.ensures;
      stands = made.ensures.stands;
      patient = refl;
      missed = refl;
      cells = c.in_ok-tape.ensures.count;
      none = c.in_ok-tape.ensures.none;
      basket = c.in_ok-basket.ensures;
      book_failed = refl;
    }
