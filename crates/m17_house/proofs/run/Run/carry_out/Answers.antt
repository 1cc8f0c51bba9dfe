use Rattle.std.proofs.Common.{List, ◌∙◌, refl, ap, sym}
use Rattle.std.specs.List.{filter_map}
use Rattle.m17_directory.specs.declared.dispatch.Dispatch.{Dispatch}
use Rattle.m17_directory.specs.Laws.{left_member}
use Rattle.m17_house.specs.SoFar.{freeing}
use Rattle.m17_house.proofs.CarriesAll.{partway_more, partway_all, rest_taken}
use Rattle.m17_house.proofs.Taken.{freed_more}
use Rattle.m17_house.proofs.run.Run.carry_out.Goals as goal

pub loop-dispatch-preserved : goal.loop-dispatch-preserved
loop-dispatch-preserved c =
    let inv = c.loop-dispatch.invariant in
    let first = c.in-Some.ensures.first in
    let is = rest_taken c.take-done.result c.in-Some.dispatch.now first.0 c.take-done.new.self c.loop-dispatch.self.post first.1 c.take-done.ensures.first c.take-done.ensures.none in (
      c.carry.ensures.out,
      c.carry.ensures.name ∙ inv.1,
      inv.2,
      freed_more c.in-Some.dispatch.now c.take-done.new.self c.loop-dispatch.self.post c.loop-dispatch.self.taken c.note.new.taken is c.note.ensures.freed ∙ inv.3,
      partway_more c.args.self.now.post c.args.self.now.stage.name c.args.self.now.directory c.args.self.now.stage.rooms c.args.mouth.now
          c.in-Some.dispatch.now c.take-done.new.self c.loop-dispatch.self.post c.loop-dispatch.self.directory c.note.new.directory c.loop-dispatch.self.stage.rooms c.carry.new.self.rooms
          c.loop-dispatch.mouth c.carry.new.mouth c.loop-dispatch.verdict c.carry.new.verdict
          inv.4 is c.note.ensures.noted c.carry.ensures.mouth
          (λ plan done named. c.carry.ensures.carried plan done (inv.1 ∙ named)),
    )

pub returns-clause-freed : goal.returns-clause-freed
returns-clause-freed c = ap (λ (ds : List Dispatch). freeing (filter_map left_member ds) c.loop-dispatch.self.taken) (sym (c.in_default.ensures.none.0 refl)) ∙ c.loop-dispatch.invariant.3

pub returns-clause-carried : goal.returns-clause-carried
returns-clause-carried c =
    (partway_all c.args.self.now.post c.args.self.now.stage.name c.args.self.now.directory c.args.self.now.stage.rooms c.args.mouth.now
    c.loop-dispatch.self.post c.loop-dispatch.self.directory c.loop-dispatch.self.stage.rooms c.loop-dispatch.mouth c.loop-dispatch.verdict
    c.loop-dispatch.invariant.4 (c.in_default.ensures.none.0 refl)).2
