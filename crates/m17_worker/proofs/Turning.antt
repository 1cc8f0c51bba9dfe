-- One event more is popped.
use Rattle.std.proofs.Common.{◌≡◌, ℕ, ◌+◌, ◌-◌, ◌^◌, ◌<◌, Bool, true, false, cond, List, [], ◌∷◌, ◌++◌, length, ap, sym, subst, ◌∙◌, arith}
use Rattle.std.proofs.lemmas.List.{append-nil, length_push}
use Rattle.std.proofs.lemmas.List.Elements.{filter-append}
use Rattle.m17_control.specs.declared.event.Event.{Event}
use Rattle.m17_lane.specs.Ends.{PopEnd, popped_from}
use Rattle.m17_module.specs.Items.{Setup}
use Rattle.m17_worker.specs.declared.worker.Worker.{Worker}
use Rattle.m17_worker.specs.Taken.{taken, is_there}
use Rattle.m17_ports.specs.Book.{BookTold}
use Rattle.m17_worker.specs.WorkerDid.{IsSameWorker, HasServed}
use Rattle.m17_worker.specs.Underway.{AreFlags, HasRoom, CanServe, IsAt, IsServing}

taken_more : (links places : ℕ) (events : List Event) (event : Event) (b : Bool) → is_there links places event ≡ b
    → taken links places (events ++ event ∷ []) ≡ taken links places events ++ cond b (event ∷ []) []
taken_more links places events event b is =
    filter-append (is_there links places) events (event ∷ []) ∙ ap (λ v. taken links places events ++ cond v (event ∷ []) []) is

-- the event is passed over
taken_not : (links places : ℕ) (events : List Event) (event : Event) → is_there links places event ≡ false
    → taken links places (events ++ event ∷ []) ≡ taken links places events
taken_not links places events event is = taken_more links places events event false is ∙ append-nil (taken links places events)

inbox_more : (first now : PopEnd Event) (event : Event) → now ≡ record first { popped = now.popped } → popped_from now event ≡ record first { popped = now.popped ++ event ∷ [] }
inbox_more first now event is = ap (λ (q : PopEnd Event). popped_from q event) is

module _ {B L : Type 0} (told : B → BookTold L) (j k : Worker B) (event : Event) (there : is_there k.links k.module.setup.places event ≡ false) where
  -- as the worker made it
  there_too : IsSameWorker j k → is_there j.links j.module.setup.places event ≡ false
  there_too same =
      ap (λ n. is_there n j.module.setup.places event) (sym same.links)
      ∙ ap (λ (u : Setup). is_there k.links u.places event) (sym same.setup) ∙ there

  pub passed_over : (served : ℕ) (flags later : List Bool) → AreFlags later (k.inbox.popped ++ event ∷ [])
      → IsAt told j served flags k → IsAt told j served later (record k { inbox = popped_from k.inbox event })
  passed_over served flags later flagged h =
      let e : taken j.links j.module.setup.places (k.inbox.popped ++ event ∷ []) ≡ taken j.links j.module.setup.places k.inbox.popped =
      taken_not j.links j.module.setup.places k.inbox.popped event (there_too h.same) in
      let S : List Event → Type 0 = λ l. HasServed told l j (record k { inbox = popped_from k.inbox event }) in
      record {
        same = record {
          letter = h.same.letter;
          links = h.same.links;
          limit = h.same.limit;
          setup = h.same.setup;
          inbox = inbox_more j.inbox k.inbox event h.same.inbox;
          cells = h.same.cells;
          basket = h.same.basket;
        };
        room = record { links = h.room.links; places = h.room.places; queues = h.room.queues; basket = h.room.basket };
        counted = h.counted ∙ ap length (sym e);
        flagged = flagged;
        all = subst S (sym e) (record {
          stands = h.all.stands;
          offered = h.all.offered;
          gave_back = h.all.gave_back;
          booked = h.all.booked;
          spelled = h.all.spelled;
          taped = h.all.taped;
        });
      }

-- the event can be served
module _ {B L : Type 0} (told : B → BookTold L) (j k : Worker B) (event : Event) (there : is_there k.links k.module.setup.places event ≡ true) where
  there_also : IsSameWorker j k → is_there j.links j.module.setup.places event ≡ true
  there_also same =
      ap (λ n. is_there n j.module.setup.places event) (sym same.links)
      ∙ ap (λ (u : Setup). is_there k.links u.places event) (sym same.setup) ∙ there

  pub can_serve : (served : ℕ) (flags : List Bool) → served < 2 ^ 64 - 1 → IsAt told j served flags k
      → CanServe (taken j.links j.module.setup.places k.inbox.popped) event (record k { inbox = popped_from k.inbox event })
  can_serve served flags few h = record {
    room = record { links = h.room.links; places = h.room.places; queues = h.room.queues; basket = h.room.basket };
    stands = h.all.stands;
    few = omega (arith, few, h.counted);
    there = there;
  }

  pub was_served : (served : ℕ) (flags : List Bool) → IsAt told j served flags k
      → HasServed told (taken j.links j.module.setup.places k.inbox.popped) j (record k { inbox = popped_from k.inbox event })
  was_served served flags h = record {
    stands = h.all.stands;
    offered = h.all.offered;
    gave_back = h.all.gave_back;
    booked = h.all.booked;
    spelled = h.all.spelled;
    taped = h.all.taped;
  }

  pub served_one : (served more : ℕ) (flags later : List Bool) (n : Worker B) → more ≡ served + 1
      → AreFlags later (k.inbox.popped ++ event ∷ []) → HasRoom n → IsServing (record k { inbox = popped_from k.inbox event }) n
      → HasServed told (taken j.links j.module.setup.places k.inbox.popped ++ event ∷ []) j n
      → IsAt told j served flags k → IsAt told j more later n
  served_one served more flags later n is flagged room same done h =
      let e : taken j.links j.module.setup.places (k.inbox.popped ++ event ∷ []) ≡ taken j.links j.module.setup.places k.inbox.popped ++ event ∷ [] =
      taken_more j.links j.module.setup.places k.inbox.popped event true (there_also h.same) in
      let popped : n.inbox.popped ≡ k.inbox.popped ++ event ∷ [] = ap (λ (q : PopEnd Event). q.popped) same.inbox in
      let d : taken j.links j.module.setup.places n.inbox.popped ≡ taken j.links j.module.setup.places k.inbox.popped ++ event ∷ [] =
      ap (taken j.links j.module.setup.places) popped ∙ e in
      let S : List Event → Type 0 = λ l. HasServed told l j n in
      let F : List Event → Type 0 = λ l. AreFlags later l in
      record {
        same = record {
          letter = same.letter ∙ h.same.letter;
          links = same.links ∙ h.same.links;
          limit = same.limit ∙ h.same.limit;
          setup = same.setup ∙ h.same.setup;
          inbox = same.inbox ∙ inbox_more j.inbox k.inbox event h.same.inbox ∙ ap (λ l. record j.inbox { popped = l }) (sym popped);
          cells = same.cells ∙ h.same.cells;
          basket = room.basket;
        };
        room = room;
        counted = is ∙ ap (λ n. n + 1) h.counted ∙ sym (length_push (taken j.links j.module.setup.places k.inbox.popped) event) ∙ ap length (sym d);
        flagged = subst F (sym popped) flagged;
        all = subst S (sym d) done;
      }
