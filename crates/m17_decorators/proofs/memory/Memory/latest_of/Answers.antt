use Rattle.std.proofs.Common.{ℕ, get_or, sym, ap, subst, ◌∙◌, arith}
use Rattle.std.proofs.lemmas.List.{get_or_read}
use Rattle.m17_decorators.specs.declared.memory.Slot.{Slot}
use Rattle.m17_decorators.specs.GuardMemory.{peer_bucket_of, peer_bucket, peer_link, is_of}
use Rattle.m17_decorators.proofs.Telling.{in-peer, peer-below, kept-is}
use Rattle.m17_decorators.proofs.Links.{IsAt, walk-begins, walk-goes-on}
use Rattle.m17_decorators.proofs.memory.Memory.latest_of.Goals as goal

pub walk-init : goal.walk-init
walk-init c =
    let m = c.args.self.now in
    let w = c.requires.whole in
    let number = peer_bucket m.keys c.args.from.now in
    let read = get_or_read m.peers.items c.args.bucket c.index-order.result.now
    (let lt = peer-below m.keys c.args.from.now in let many = w.peers in
    let is = c.requires.bucket in omega arith)
    c.index-order.ensures 0 in
    subst (λ (n : ℕ). IsAt m.slots.items (peer_bucket_of m.keys) (is_of c.args.from.now) m.count number n)
    (ap (λ (n : ℕ). get_or m.peers.items n 0) (sym c.requires.bucket) ∙ sym read)
    (walk-begins m.slots.items (peer_bucket_of m.keys) peer_link (is_of c.args.from.now) m.count
    number m.peers.items w.by_peer (in-peer m.keys c.args.from.now)
    (peer-below m.keys c.args.from.now))

pub walk-preserved : goal.walk-preserved
walk-preserved c =
    let m = c.args.self.now in
    let w = c.requires.whole in
    let number = peer_bucket m.keys c.args.from.now in
    let other = ap (λ (s : Slot). is_of c.args.from.now s) (sym c.slot-slot.ensures)
    ∙ sym c.same_peer.ensures ∙ c.if-same_peer.false in
    subst (λ (s : Slot). IsAt m.slots.items (peer_bucket_of m.keys) (is_of c.args.from.now) m.count number
    (peer_link s)) (sym c.slot-slot.ensures)
    (walk-goes-on m.slots.items (peer_bucket_of m.keys) peer_link (is_of c.args.from.now) m.count
    number c.walk.order m.peers.items w.by_peer (in-peer m.keys c.args.from.now) c.walk.invariant
    (kept-is m.count c.walk.order (sym c.is_kept.ensures ∙ c.walk-test.true)) other)
