use Rattle.std.proofs.Common.{ℕ, get_or, sym, ap, subst, ◌∙◌, arith}
use Rattle.std.proofs.lemmas.List.{get_or_read}
use Rattle.m17_decorators.specs.declared.memory.Slot.{Slot}
use Rattle.m17_decorators.specs.GuardMemory.{bytes_bucket_of, bytes_bucket, bytes_link, is_copy}
use Rattle.m17_decorators.proofs.Telling.{in-bytes, bytes-below, kept-is}
use Rattle.m17_decorators.proofs.Links.{IsAt, walk-begins, walk-goes-on}
use Rattle.m17_decorators.proofs.memory.Memory.latest_same.Goals as goal

pub walk-init : goal.walk-init
walk-init c =
    let m = c.args.self.now in
    let w = c.requires.whole in
    let number = bytes_bucket m.keys c.args.from.now c.args.bytes.now in
    let read = get_or_read m.frames.items c.args.bucket c.index-order.result.now
    (let lt = bytes-below m.keys c.args.from.now c.args.bytes.now in let many = w.frames in
    let is = c.requires.bucket in omega arith)
    c.index-order.ensures 0 in
    subst (λ (n : ℕ). IsAt m.slots.items (bytes_bucket_of m.keys) (is_copy c.args.from.now c.args.bytes.now) m.count number n)
    (ap (λ (n : ℕ). get_or m.frames.items n 0) (sym c.requires.bucket) ∙ sym read)
    (walk-begins m.slots.items (bytes_bucket_of m.keys) bytes_link (is_copy c.args.from.now c.args.bytes.now) m.count
    number m.frames.items w.by_bytes (in-bytes m.keys c.args.from.now c.args.bytes.now)
    (bytes-below m.keys c.args.from.now c.args.bytes.now))

pub walk-preserved : goal.walk-preserved
walk-preserved c =
    let m = c.args.self.now in
    let w = c.requires.whole in
    let number = bytes_bucket m.keys c.args.from.now c.args.bytes.now in
    let other = ap (λ (s : Slot). is_copy c.args.from.now c.args.bytes.now s) (sym c.slot-slot.ensures)
    ∙ sym c.is_copy.ensures ∙ c.if-is_copy.false in
    subst (λ (s : Slot). IsAt m.slots.items (bytes_bucket_of m.keys) (is_copy c.args.from.now c.args.bytes.now) m.count number
    (bytes_link s)) (sym c.slot-slot.ensures)
    (walk-goes-on m.slots.items (bytes_bucket_of m.keys) bytes_link (is_copy c.args.from.now c.args.bytes.now) m.count
    number c.walk.order m.frames.items w.by_bytes (in-bytes m.keys c.args.from.now c.args.bytes.now) c.walk.invariant
    (kept-is m.count c.walk.order (sym c.is_kept.ensures ∙ c.walk-test.true)) other)
