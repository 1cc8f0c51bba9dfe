use Rattle.std.proofs.Common.{ℕ, ◌+◌, [], ap, ◌∙◌}
use Rattle.m17_book.specs.Limits.{told}
use Rattle.m17_book.specs.Walk.{spot}
use Rattle.m17_book.proofs.WholeTrace.{bad_magic, trace_ended, all_stops}
use Rattle.m17_book.proofs.trace.add_trace.Goals as goal

pub returns-in-Ok-add_entries-clause-read : goal.returns-in-Ok-add_entries-clause-read
returns-in-Ok-add_entries-clause-read g c = λ bytes zero is.
    let magic = c.in-Ok.ensures.magic bytes is in
    let place = magic.3 ∙ ap (λ n. told (n + 8)) zero in
    trace_ended c.add_to.result c.in-Ok-add_entries.field-0 bytes magic.0 c.add_entries.new.heard.items c.add_to.new.list.items c.pass_magic.new.cursor.place
    (spot c.add_entries.new.cursor (g.S.Input.told c.add_entries.new.source).left) magic.1 place (c.in-Ok-add_entries.ensures.read magic.0 magic.2)
    c.in-Ok-add_entries.ensures.few c.add_to.ensures.added c.add_to.ensures.no_memory

pub returns-in-Err-add_entries-clause-read : goal.returns-in-Err-add_entries-clause-read
returns-in-Err-add_entries-clause-read g c = λ bytes zero is.
    let magic = c.in-Ok.ensures.magic bytes is in
    let place = magic.3 ∙ ap (λ n. told (n + 8)) zero in
    all_stops ℕ ℕ c.in-Err-add_entries.refusal bytes magic.0 [] [] c.pass_magic.new.cursor.place
    (spot c.add_entries.new.cursor (g.S.Input.told c.add_entries.new.source).left) magic.1 place (c.in-Err-add_entries.ensures.read magic.0 magic.2)

pub returns-in-Err-clause-read : goal.returns-in-Err-clause-read
returns-in-Err-clause-read g c = λ bytes zero is.
    bad_magic ℕ c.in-Err.refusal bytes [] c.args.cursor.now.place (spot c.pass_magic.new.cursor (g.S.Input.told c.pass_magic.new.source).left) zero
    (c.in-Err.ensures.magic bytes is)
