use Rattle.std.proofs.Common.{ℕ, get_or, set, refl, ap, ◌∙◌, arith}
use Rattle.std.proofs.lemmas.List.{get_or_read}
use Rattle.m17_decorators.specs.declared.memory.Slot.{Slot}
use Rattle.m17_decorators.specs.GuardMemory.{blank, slot_of, with_left_slot}
use Rattle.m17_decorators.proofs.Whole.{left-whole}
use Rattle.m17_decorators.proofs.memory.Memory.leave.Goals as goal

pub returns-clause-whole : goal.returns-clause-whole
returns-clause-whole c =
    let m = c.args.self.now in
    let items = m.slots.items in
    let place = c.place_of.result in
    let many = c.requires.whole.slots in
    let read = get_or_read items place c.index_mut.result.now
    (let is = c.place_of.ensures in omega arith) c.index_mut.ensures.value blank in
    left-whole m c.args.latest _ c.requires.whole refl
    (ap (λ (s : Slot). set items place (with_left_slot s))
    (read ∙ ap (λ (n : ℕ). get_or items n blank) c.place_of.ensures)
    ∙ ap (λ (n : ℕ). set items n (with_left_slot (slot_of items c.args.latest))) c.place_of.ensures)
    refl refl refl refl
