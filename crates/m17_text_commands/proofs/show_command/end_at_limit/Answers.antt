use Rattle.std.proofs.Common.{◌≡◌, ◌<◌, [], ◌++◌, length, Ok, refl, sym, ap, subst, ◌∙◌, arith, lit≤}
use Rattle.std.proofs.lemmas.List.{nil_from_length}
use Rattle.m17_text_commands.specs.Lines.{most_lines}
use Rattle.m17_text_commands.specs.Reading.{HasNoFeed}
use Rattle.m17_text_commands.specs.Pending.{pending}
use Rattle.m17_text_commands.proofs.Held.{ahead_more, ahead_at_end}
use Rattle.m17_text_commands.proofs.ShowRun.{kept, large, finished, read_failed, write_failed}
use Rattle.m17_text_commands.proofs.show_command.end_at_limit.Goals as goal

pub returns-then-not-is_empty-clause-shows : goal.returns-then-not-is_empty-clause-shows
returns-then-not-is_empty-clause-shows g c = λ bytes first so_far.
    let some : 0 < length (pending c.args.reader.now) = grind arith in
    large bytes (pending c.args.reader.now) most_lines _ first _ refl so_far some

pub returns-in-Ok-eq0-clause-shows : goal.returns-in-Ok-eq0-clause-shows
returns-in-Ok-eq0-clause-shows g c = λ bytes first so_far.
    let old : pending c.args.reader.now ≡ [] = sym c.pending.ensures ∙ nil_from_length c.pending.result.now (grind arith) in
    let empty : pending c.read_more.new.self ≡ [] = c.in-Ok-eq0.ensures.none (ap Ok c.in-Ok-eq0.field-0-test) ∙ old in
    let none = ahead_at_end _ _ so_far.ahead _ _ c.in-Ok-eq0.field-0 c.in-Ok-eq0.field-0-test so_far.is_ahead c.in-Ok-eq0.ensures.more in
    finished bytes (pending c.read_more.new.self) most_lines _ first _ (lit≤ tt)
    (kept bytes _ _ most_lines _ _ first _ _ so_far (λ ahead before. ahead_more _ _ ahead _ _ c.in-Ok-eq0.field-0 before c.in-Ok-eq0.ensures.more) c.in-Ok-eq0.ensures.nothing_written) empty none

pub returns-in-Ok-clause-shows : goal.returns-in-Ok-clause-shows
returns-in-Ok-clause-shows g c = λ bytes first so_far.
    let some : 0 < length (pending c.read_more.new.self) = omega (arith, c.in-Ok.ensures.longer) in
    large bytes (pending c.read_more.new.self) most_lines _ first _ refl
    (kept bytes _ _ most_lines _ _ first _ _ so_far (λ ahead before. ahead_more _ _ ahead _ _ c.in-Ok.field-0 before c.in-Ok.ensures.more) c.in-Ok.ensures.nothing_written) some

pub returns-in-Err-Read-clause-shows : goal.returns-in-Err-Read-clause-shows
returns-in-Err-Read-clause-shows g c = λ bytes first so_far.
    let old : pending c.args.reader.now ≡ [] = sym c.pending.ensures ∙ nil_from_length c.pending.result.now (grind arith) in
    let empty : pending c.read_more.new.self ≡ [] = c.in-Err-Read.ensures.held ∙ old in
    read_failed bytes (pending c.read_more.new.self) most_lines _ first _ (lit≤ tt)
    (kept bytes _ _ most_lines _ _ first _ _ so_far
    (λ ahead before. (before.0, c.in-Err-Read.ensures.nothing_taken ∙ before.1, before.2 ∙ ap (λ xs. xs ++ before.0) (sym c.in-Err-Read.ensures.held))) c.in-Err-Read.ensures.nothing_written)
    (subst HasNoFeed (sym empty) refl)

pub returns-in-Err-Write-clause-shows : goal.returns-in-Err-Write-clause-shows
returns-in-Err-Write-clause-shows g c = λ bytes first so_far.
    write_failed bytes (pending c.read_more.new.self) most_lines _ first _ (lit≤ tt)
    (kept bytes _ _ most_lines _ _ first _ _ so_far
    (λ ahead before. (before.0, c.in-Err-Write.ensures.nothing_taken ∙ before.1, before.2 ∙ ap (λ xs. xs ++ before.0) (sym c.in-Err-Write.ensures.held))) c.in-Err-Write.ensures.nothing_written)
