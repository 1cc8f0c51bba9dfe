use Rattle.std.proofs.Common.{refl, sym, ◌∙◌, arith}
use Rattle.m17_sender.proofs.Queued.{goes_back, goes_past}
use Rattle.m17_sender.proofs.Shapes.{held_place}
use Rattle.m17_sender.proofs.sender.Sender.take.Goals as goal

pub returns-then-not-is_said : goal.returns-then-not-is_said
returns-then-not-is_said g c = record {
  goes_on = goes_past g.M.Mouth.told
      c.args.self.now c.args.kept.now.noted c.args.row c.args.at c.args.item.now (sym c.is_said.ensures.there ∙ c.if-not-is_said.true);
}

pub fill_cell-requires-clause-place : goal.fill_cell-requires-clause-place
fill_cell-requires-clause-place g c =
    held_place c.args.self.now c.args.row c.args.at c.requires.shaped (omega (arith, c.requires.row, c.args.self.now.queues.ok.0))
    c.requires.at

pub returns-then-waits : goal.returns-then-waits
returns-then-waits g c = record {
  goes_on = goes_back g.M.Mouth.told
      c.args.self.now (record c.args.self.now { held = c.fill_cell.new.cells }) c.args.kept.now.noted c.args.row c.args.at c.args.item.now
      (record { name = refl; places = refl; mouths = refl; notes = refl; door = refl; order = refl }) refl refl c.fill_cell.ensures
      (sym c.is_said.ensures.there ∙ c.if-not-is_said.false);
}

pub returns-else-waits : goal.returns-else-waits
returns-else-waits g c = record { goes_on = c.say.ensures.goes_on c.args.row c.args.at c.requires.free }
