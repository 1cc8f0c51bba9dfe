use Rattle.std.proofs.Common.{nat_lt, sym, ◌∙◌, rules, of_calls}
use Rattle.std.proofs.lemmas.Fn.{always_returns_same}
use Rattle.m17_tape.proofs.Rising.{all_before, parted, place_is}
use Rattle.m17_tape.proofs.notes.place_of.Goals as goal

pub returns-then-is_behind : goal.returns-then-is_behind
returns-then-is_behind g c = all_before c.args.cells c.args.notes.now c.args.index c.requires (sym c.is_behind.ensures ∙ c.if-is_behind.true)

pub returns : goal.returns
returns g c =
    place_is c.args.notes.now c.args.index c.partition_point.result c.partition_point.ensures.bound
    (c.partition_point.ensures.partitioned (λ note. nat_lt note.index c.args.index) (always_returns_same _ _ _ (λ a r f k. search (rules, of_calls)))
    (parted c.args.cells c.args.notes.now c.args.index c.requires))
