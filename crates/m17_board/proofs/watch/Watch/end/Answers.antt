use Rattle.std.proofs.Common.{◌∙◌}
use Rattle.m17_board.specs.Shows.{shown_of}
use Rattle.m17_board.proofs.LastLines.{shown_all}
use Rattle.m17_board.proofs.Order.{writes_last}
use Rattle.m17_board.proofs.watch.Watch.end.Goals as goal

pub returns : goal.returns
returns g c = record {
  shows = λ j did fresh. shown_all g.B.Book.told j c.args.self c.args.posters.items c.as_slice.result.now (shown_of c.write_last.new.self) c.books_are_written_in_turn.ensures
      (c.as_slice.ensures.value ∙ c.close_into.ensures.glances) c.close_into.ensures.seen c.new.result.items c.write_last.ensures.on c.write_last.ensures.last did fresh;
  last = λ going. writes_last g.B.Book.told c.args.self.modules c.args.posters.items c.as_slice.result.now record (shown_of c.args.self) { eyes = c.new.result.items } (shown_of c.write_last.new.self)
      (c.as_slice.ensures.value ∙ c.close_into.ensures.glances) (c.write_last.ensures.in_order going) c.write_last.ensures.last;
}
