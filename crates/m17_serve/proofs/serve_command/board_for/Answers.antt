use Rattle.std.proofs.Common.{arith}
use Rattle.m17_serve.proofs.ByLetter.{few_letters}
use Rattle.m17_serve.proofs.serve_command.board_for.Goals as goal

pub make_board-requires-clause-modules : goal.make_board-requires-clause-modules
make_board-requires-clause-modules g c =
    let few = few_letters c.args.order.now.modules in
    (omega (arith, c.count.ensures, c.requires.plan.some_module), omega (arith, c.count.ensures, few))
