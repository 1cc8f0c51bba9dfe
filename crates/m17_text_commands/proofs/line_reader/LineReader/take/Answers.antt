use Rattle.std.proofs.Common.{ℕ, arith}
use Rattle.std.proofs.lemmas.List.{length-take, length-drop}
use Rattle.m17_lists.proofs.Held.{taken_leaves_the_rest}
use Rattle.m17_text_commands.proofs.line_reader.LineReader.take.Goals as goal

pub returns : goal.returns
returns c =
    let reader = c.args.self.now in
    taken_leaves_the_rest reader.bytes reader.start reader.end c.args.count (omega (arith, length-take {A = ℕ}, length-drop {A = ℕ}))
