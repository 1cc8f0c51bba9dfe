use Rattle.std.proofs.Common.{ℕ, ◌-◌, ◌<◌, ◌≤◌, length, take, drop, arith, rules}
use Rattle.std.proofs.lemmas.List.{length-take, length-drop}
use Rattle.m17_text_commands.proofs.Held.{more_held}
use Rattle.m17_text_commands.proofs.line_reader.LineReader.read_more.Goals as goal

pub returns-clause-more : goal.returns-clause-more
returns-clause-more g c = λ rest told.
    let reader = c.move_to_front.new.self in
    let within : reader.end ≤ length reader.bytes = omega arith in
    let room : 0 < length (take (8192 - reader.end) (drop reader.end reader.bytes)) = omega (arith, length-take {A = ℕ}, length-drop {A = ℕ}) in
    let fits : c.in_ok-count.count ≤ length c.read_tied.new.into = search rules in
    more_held reader.bytes c.read_tied.new.into rest _ _ reader.start reader.end _ c.in_ok-count.count _ reader.ordered within fits c.move_to_front.ensures.held room (c.in_ok-count.ensures.taken rest told)
