use Rattle.std.proofs.Common.{refl, inr}
use Rattle.m17_ports.specs.declared.question.Question.TheVariants.{Book}
use Rattle.m17_client_commands.proofs.talk_opening.open_book.Goals as goal

pub returns-in-Err-clause-fails_last : goal.returns-in-Err-clause-fails_last
returns-in-Err-clause-fails_last g c =
    inr (c.args.ports.now, Book c.as_str.result.now, refl, c.book.ensures.asked)
