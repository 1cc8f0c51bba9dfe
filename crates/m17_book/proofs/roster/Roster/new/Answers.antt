use Rattle.std.proofs.Common.{[], refl}
use Rattle.m17_floor.specs.Legal.{book_setup}
use Rattle.m17_book.proofs.Rosters.{nobody_stands}
use Rattle.m17_book.proofs.roster.Roster.new.Goals as goal

pub returns : goal.returns
returns c = nobody_stands c.one_act_more_goes_by_what_is_left.ensures.nobody c.args.limit c.nobody.result c.from_fn.result c.new.result c.nobody.ensures.none (c.new.ensures.stands (book_setup c.args.limit) [] refl tt)
