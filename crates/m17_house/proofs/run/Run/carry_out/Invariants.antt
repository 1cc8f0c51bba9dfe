use Rattle.std.proofs.Common.{◌≡◌, [], length}
use Rattle.std.specs.List.{filter_map}
use Rattle.m17_directory.specs.Laws.{left_member}
use Rattle.m17_house.specs.SoFar.{freeing}
use Rattle.m17_house.proofs.CarriesAll.{IsPartway}
use Rattle.m17_house.proofs.run.Run.carry_out.Given as goal

abbrev pub invariant-loop-dispatch : goal.invariant-loop-dispatch
invariant-loop-dispatch l = (l.self.stage.out ≡ []) × (l.self.stage.name ≡ l.initial.self.stage.name) × (l.self.given ≡ l.initial.self.given)
    × (freeing (filter_map left_member l.self.post) l.self.taken ≡ freeing (filter_map left_member l.initial.self.post) l.initial.self.taken)
    × IsPartway l.initial.self.post l.initial.self.stage.name l.initial.self.directory l.initial.self.stage.rooms l.initial.mouth
    l.self.post l.self.directory l.self.stage.rooms l.mouth l.verdict

abbrev pub decreases-loop-dispatch : goal.decreases-loop-dispatch
decreases-loop-dispatch l = length l.self.post
