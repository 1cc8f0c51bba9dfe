use Rattle.m17_book.specs.declared.version.Version.TheVariants.{Two}
use Rattle.m17_board.proofs.Wholes.{one_list, of_book, first_part}
use Rattle.m17_board.proofs.laws.one_list_stands_whole.Goals as goal

pub returns : goal.returns
returns c =
    let law = (c.book_forms_are_exact.ensures Two).one_value in
    record { one = one_list law; whole = of_book law; on = first_part law }
