-- Handing out, one item after another.
use Rattle.std.proofs.Common.{◌≡◌, ◌<◌, Bool, List, [], ◌∷◌, ◌++◌, length, Option, None, IfSome, refl, ap, sym, ◌∙◌}
use Rattle.std.specs.List.{All}
use Rattle.std.proofs.lemmas.List.{append_assoc}
use Rattle.std.proofs.lemmas.List.Elements.{All-same, All-head, All-tail}
use Rattle.m17_control.specs.declared.item.Item.{Item}
use Rattle.m17_roll.specs.Seat.{RollView}
use Rattle.m17_lane.specs.RowsLaws.{RowsGrow}
use Rattle.m17_worker.specs.declared.offers.LaneOffers.{LaneOffers}
use Rattle.m17_worker.specs.Offers.{AreOffered, IsQueue}
use Rattle.m17_worker.specs.Gifts.{GaveBack, gifts_by}
use Rattle.m17_worker.proofs.Tries.{offered_none, offered_then, queues_stay, as_many}
use Rattle.m17_worker.proofs.Giving.{IsTheBye, given_more, no_bye, gifts_of_none}

-- where the items go: the queues and the seat
pub record Hands : Type 0 where
  pub offers : LaneOffers
  pub seat : RollView

-- these items were handed out, this is their only Bye, and the rest is for places that are there too
pub record Handed (gives : Bool) (done rest : List Item) (bye : Option Item) (from to : Hands) : Type 0 where
  pub offered : AreOffered done from.offers to.offers
  pub gave_back : GaveBack from.seat (gifts_by gives done) to.seat
  pub the_bye : IsTheBye bye done
  pub bye_place : IfSome bye (λ item. item.member.place < length from.offers.queues.items)
  pub queues : All IsQueue to.offers.queues.items
  pub as_many : length to.offers.queues.items ≡ length from.offers.queues.items
  pub places : All (λ item. item.member.place < length from.offers.queues.items) rest

pub handed_none : (gives : Bool) (rest : List Item) (from : Hands) → RowsGrow Item → All IsQueue from.offers.queues.items
    → All (λ item. item.member.place < length from.offers.queues.items) rest → Handed gives [] rest None from from
handed_none gives rest from law all places = record {
  offered = offered_none from.offers law;
  gave_back = gifts_of_none from.seat gives;
  the_bye = no_bye;
  bye_place = tt;
  queues = all;
  as_many = refl;
  places = places;
}

pub first_place : (gives : Bool) (done rest more : List Item) (item : Item) (bye : Option Item) (from to : Hands) → rest ≡ item ∷ more
    → Handed gives done rest bye from to → item.member.place < length from.offers.queues.items
first_place gives done rest more item bye from to is h =
    All-head (λ (i : Item). i.member.place < length from.offers.queues.items) item more
    (All-same (λ (i : Item). i.member.place < length from.offers.queues.items) (item ∷ more) rest (sym is) h.places)

pub handed_more : (gives : Bool) (done rest more : List Item) (item : Item) (bye later : Option Item) (from to next : Hands) → RowsGrow Item → rest ≡ item ∷ more
    → AreOffered (item ∷ []) to.offers next.offers → GaveBack to.seat (gifts_by gives (item ∷ [])) next.seat
    → IsTheBye later (done ++ item ∷ []) → IfSome later (λ i. i.member.place < length from.offers.queues.items)
    → Handed gives done rest bye from to → Handed gives (done ++ item ∷ []) more later from next
handed_more gives done rest more item bye later from to next law is offered gave the_bye bye_place h = record {
  offered = offered_then done (item ∷ []) from.offers to.offers next.offers law h.offered offered;
  gave_back = given_more from.seat to.seat next.seat gives done item h.gave_back gave;
  the_bye = the_bye;
  bye_place = bye_place;
  queues = queues_stay (item ∷ []) to.offers next.offers law offered h.queues;
  as_many = as_many (item ∷ []) to.offers next.offers law offered ∙ h.as_many;
  places = All-tail (λ (i : Item). i.member.place < length from.offers.queues.items) item more
      (All-same (λ (i : Item). i.member.place < length from.offers.queues.items) (item ∷ more) rest (sym is) h.places);
}

-- the list so far and the rest, when one goes over
pub goes_over : (all done rest more : List Item) (item : Item) → all ≡ done ++ rest → rest ≡ item ∷ more → all ≡ (done ++ item ∷ []) ++ more
goes_over all done rest more item h is = h ∙ ap (λ l. done ++ l) is ∙ sym (append_assoc done (item ∷ []) more)
