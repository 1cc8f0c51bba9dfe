-- Queues stay queues, and as many, whatever goes through their ends.
use Rattle.std.proofs.Common.{◌≡◌, ℕ, zero, suc, ◌<◌, List, [], ◌∷◌, length, ap, sym, subst, ◌∙◌, arith}
use Rattle.std.specs.List.{All}
use Rattle.m17_control.specs.declared.item.Item.{Item}
use Rattle.m17_lane.specs.Ends.{PushEnd}
use Rattle.m17_lane.specs.Rows.{grow_each}
use Rattle.m17_lane.specs.RowsLaws.{RowsGrow}
use Rattle.m17_worker.specs.declared.offers.LaneOffers.{LaneOffers}
use Rattle.m17_worker.specs.Offers.{Try, queued_for, missed_for, AreTried, AreQueues, IsQueue}

queues_grow : (f g : ℕ → List Item) (k : ℕ) (qs : List (PushEnd Item)) → All IsQueue qs → All IsQueue (grow_each f g k qs)
queues_grow f g k [] h j d lt = absurd (omega arith)
queues_grow f g k (q ∷ qs) h zero d lt = h zero d (omega arith)
queues_grow f g k (q ∷ qs) h (suc j) d lt = queues_grow f g (suc k) qs (λ i e l. h (suc i) e (omega arith)) j d (omega arith)

pub queues_stay : (places : ℕ) (ts : List Try) (a b : LaneOffers) → RowsGrow Item → AreTried ts a b → AreQueues places a.queues.items → AreQueues places b.queues.items
queues_stay places ts a b law tried are = (
  ap length tried.queues ∙ law.count (queued_for ts) (missed_for ts) 0 a.queues.items ∙ are.0,
  let P : List (PushEnd Item) → Type 0 = All IsQueue in
      subst P (sym tried.queues) (queues_grow (queued_for ts) (missed_for ts) 0 a.queues.items are.1),
)
