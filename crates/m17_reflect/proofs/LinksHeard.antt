-- What the receivers of a run have done, link by link.
use Rattle.std.proofs.Common.{◌≡◌, ℕ, zero, suc, ◌+◌, ◌<◌, Bool, true, List, [], ◌∷◌, ◌++◌, map, length, All, Option, None, Some, sym, subst, refl, ap, ◌∙◌, arith}
use Rattle.std.specs.Prelude.{◌↔◌, IsTrue, slice_get}
use Rattle.std.specs.List.{AllByRecursion}
use Rattle.std.specs.Option.{option_map_or}
use Rattle.std.proofs.lemmas.Option.{same_Some, none-some}
use Rattle.std.proofs.lemmas.List.{length-map}
use Rattle.std.proofs.lemmas.List.Elements.{recursion_from_All}
use Rattle.m17_values.specs.declared.heard.Heard.{Heard}
use Rattle.m17_ports.specs.Book.{BookTold, HasText}
use Rattle.m17_ports.specs.Ear.{EarTold}
use Rattle.m17_io.specs.Faults.{HasRisen}
use Rattle.m17_control.specs.declared.event.Event.{Event}
use Rattle.m17_lane.specs.Ends.{PushEnd}
use Rattle.m17_lane.specs.Rows.{push_each}
use Rattle.m17_lane.specs.Columns.{push_grid}
use Rattle.m17_directory.specs.Entries.{Entry, Setup}
use Rattle.m17_directory.specs.Routed.{routed}
use Rattle.m17_directory.specs.declared.verdict.LinkVerdict.{LinkVerdict}
use Rattle.m17_receiver.specs.declared.receiver.Receiver.{Receiver}
use Rattle.m17_receiver.specs.Devices.{IsCounted, HearsToTheEnd, EndsInFaults, trace_text}
use Rattle.m17_receiver.specs.Posting.{letter_at, posted_to}
use Rattle.m17_receiver.specs.Claims.{HasClaimed, IsGreetedAfter}
use Rattle.m17_receiver.specs.Tape.{IsTaped}
use Rattle.m17_receiver.specs.ReceiverDid.{HasGone, HasReceived, outlets_of}
use Rattle.m17_plan.specs.declared.plan.Plan.{Plan}
use Rattle.m17_reflect.specs.Jobs.{AreReceivers}
use Rattle.m17_reflect.specs.Links.{Link, IsLink, At, link_setup, letter_of}
use Rattle.m17_reflect.specs.Judged.{IsLinkTape, IsWritten}
use Rattle.m17_reflect.proofs.PlaceByPlace.{at_below, below_at, route_by, AllZip3, zip3_at, zip3_length, unmapped}
use Rattle.m17_ports.specs.Told.{told_then, StartsEmpty}
use Rattle.m17_reflect.specs.Run.{Run}
use Rattle.m17_reflect.specs.Headline.{Headline}

abbrev pub ear_tells : {E B EL : Type 0} → (E → EarTold EL) → Receiver E B → EarTold EL
ear_tells hears j = hears j.ear

abbrev pub trace_tells : {E B BL : Type 0} → (B → BookTold BL) → Receiver E B → BookTold BL
trace_tells writes j = writes j.trace

-- What a receiver that heard this link has done.
pub record Came {E B EL BL : Type 0} (hears : E → EarTold EL) (writes : B → BookTold BL) (j k : Receiver E B) (link : Link) : Type 0 where
  pub ear : HearsToTheEnd (ear_tells hears j) link.heard (ear_tells hears k)
  pub trace : HasText (trace_tells writes j) (trace_text link.heard) k.trace_failed (trace_tells writes k)
  pub is_link : IsLink link
  pub counted : IsCounted link.heard
  pub lost : IsTrue k.lost ↔ EndsInFaults link.heard
  pub posted : outlets_of k ≡ posted_to j.directory.setup link.entries (outlets_of j)
  pub claimed : HasClaimed j.patient j.directory.setup link.entries k.seat
  pub greeted : IsGreetedAfter link.entries k.notes.popped
  pub taped : IsTaped j.directory.setup link.entries j.tape.items k.tape.items

-- the receiver went, and its ear heard this
pub record HasHeardAll {E B EL BL : Type 0} (hears : E → EarTold EL) (writes : B → BookTold BL) (j k : Receiver E B) (heard : List Heard)
    : Type 0 where
  pub ear : HearsToTheEnd (ear_tells hears j) heard (ear_tells hears k)
  pub lost : IsTrue k.lost → HasRisen (hears j.ear).faults (hears k.ear).faults
  pub trace : HasText (trace_tells writes j) (trace_text heard) k.trace_failed (trace_tells writes k)
  pub counted : IsCounted heard
  pub received : HasReceived heard j k

module _ {E B : Type 0} where
  pub heared : {EL BL : Type 0} (hears : E → EarTold EL) (writes : B → BookTold BL) (j k : Receiver E B) → HasGone hears writes j k → (heard : List Heard) × HasHeardAll hears writes j k heard
  heared hears writes j k g = (g.heard, record { ear = g.ear; lost = g.lost; trace = g.trace; counted = g.counted; received = g.received })

  came : {EL BL : Type 0} (hears : E → EarTold EL) (writes : B → BookTold BL) (j k : Receiver E B) (heard : List Heard) → HasHeardAll hears writes j k heard → (link : Link) × Came hears writes j k link × (link.heard ≡ heard)
  came hears writes j k heard g =
      let h = g.received in
      let link : Link = record { heard = heard; entries = h.entries } in (
        link,
        record {
          ear = g.ear;
          trace = g.trace;
          is_link = record { says = h.says; ends = h.ends };
          counted = g.counted;
          lost = h.lost;
          posted = h.posted;
          claimed = h.claimed;
          greeted = h.greeted;
          taped = h.taped;
        },
        refl,
      )

  -- what each ear heard is counted
  pub all_counted : {EL BL : Type 0} (hears : E → EarTold EL) (writes : B → BookTold BL) (js ks : List (Receiver E B)) (heards : List (List Heard)) → AllZip3 (HasHeardAll hears writes) js ks heards → AllByRecursion IsCounted heards
  all_counted hears writes [] [] [] h = tt
  all_counted hears writes [] [] (z ∷ zs) h = absurd h
  all_counted hears writes [] (y ∷ ys) zs h = absurd h
  all_counted hears writes (x ∷ xs) [] zs h = absurd h
  all_counted hears writes (x ∷ xs) (y ∷ ys) [] h = absurd h
  all_counted hears writes (x ∷ xs) (y ∷ ys) (z ∷ zs) h = (h.0.counted, all_counted hears writes xs ys zs h.1)

  -- the links of a run
  pub all_came : {EL BL : Type 0} (hears : E → EarTold EL) (writes : B → BookTold BL) (js ks : List (Receiver E B)) (heards : List (List Heard)) → AllZip3 (HasHeardAll hears writes) js ks heards → (links : List Link) × AllZip3 (Came hears writes) js ks links × (map (λ (link : Link). link.heard) links ≡ heards)
  all_came hears writes [] [] [] h = ([], tt, refl)
  all_came hears writes [] [] (z ∷ zs) h = absurd h
  all_came hears writes [] (y ∷ ys) zs h = absurd h
  all_came hears writes (x ∷ xs) [] zs h = absurd h
  all_came hears writes (x ∷ xs) (y ∷ ys) [] h = absurd h
  all_came hears writes (x ∷ xs) (y ∷ ys) (z ∷ zs) h =
      let (link, here, is) = came hears writes x y z h.0 in
      let (links, rest, are) = all_came hears writes xs ys zs h.1 in
      (link ∷ links, (here, rest), ap (λ (l : List Heard). l ∷ map (λ (link : Link). link.heard) links) is ∙ ap (λ (ls : List (List Heard)). z ∷ ls) are)

  pub ears_heard : {EL BL : Type 0} (hears : E → EarTold EL) (writes : B → BookTold BL) (js ks : List (Receiver E B)) (heards : List (List Heard)) → AllZip3 (HasHeardAll hears writes) js ks heards → (i : ℕ) (entries : List Heard) (before after : EarTold EL) → At heards i entries → At (map (ear_tells hears) js) i before → At (map (ear_tells hears) ks) i after → HearsToTheEnd before entries after
  ears_heard hears writes js ks heards h i entries before after e eb ea =
      let (j, at_j, is_j) = unmapped (ear_tells hears) js i before eb in
      let (k, at_k, is_k) = unmapped (ear_tells hears) ks i after ea in
      subst (λ b. HearsToTheEnd b entries after) is_j
      (subst (λ a. HearsToTheEnd (ear_tells hears j) entries a) is_k
      (zip3_at (HasHeardAll hears writes) js ks heards h i j k entries at_j at_k e).ear)

  -- the traces
  pub traces_written : {EL BL : Type 0} (hears : E → EarTold EL) (writes : B → BookTold BL) (js ks : List (Receiver E B)) (links : List Link) (failed : Bool) → AllZip3 (Came hears writes) js ks links → ((i : ℕ) (k : Receiver E B) → slice_get ks i ≡ Some k → k.trace_failed ≡ true → failed ≡ true) → (i : ℕ) (link : Link) (before after : BookTold BL) → At links i link → At (map (trace_tells writes) js) i before → At (map (trace_tells writes) ks) i after → IsWritten failed before (trace_text link.heard) after
  traces_written hears writes js ks links failed h flags i link before after e eb ea =
      let (j, at_j, is_j) = unmapped (trace_tells writes) js i before eb in
      let (k, at_k, is_k) = unmapped (trace_tells writes) ks i after ea in
      let t = (zip3_at (Came hears writes) js ks links h i j k link at_j at_k e).trace in
      subst (λ b. IsWritten failed b (trace_text link.heard) after) is_j
      (subst (λ a. IsWritten failed (trace_tells writes j) (trace_text link.heard) a) is_k
      (k.trace_failed, t, flags i k at_k))

module _ {A : Type 0} where
  pub all_at : (P : A → Type 0) (xs : List A) → AllByRecursion P xs → (i : ℕ) (x : A) → slice_get xs i ≡ Some x → P x
  all_at P [] h i x e = absurd (none-some x e)
  all_at P (y ∷ xs) h zero x e = subst P (same_Some y x e) h.0
  all_at P (y ∷ xs) h (suc i) x e = all_at P xs h.1 i x e

-- a cell of an empty tape
empty_cell : (tape : List (Option LinkVerdict)) (n : ℕ) → All (λ cell. cell ≡ None) tape → n < length tape → slice_get tape n ≡ Some None
empty_cell tape n none lt =
    let (cell, at) = at_below tape n lt in
    at ∙ ap Some (all_at (λ cell. cell ≡ None) tape (recursion_from_All (λ cell. cell ≡ None) tape none) n cell at)

link_tape : (setup : Setup) (entries : List Entry) (cells : ℕ) (before after : List (Option LinkVerdict)) → IsTaped setup entries before after → length before ≡ cells → All (λ cell. cell ≡ None) before → IsLinkTape setup entries cells after
link_tape setup entries cells before after h long none = record {
  length_is = h.cells ∙ long;
  filled = λ n lt less. h.filled n less (omega arith);
  empty = λ n lt past. h.others n past ∙ empty_cell before n none (omega arith);
}

abbrev pub tape_of : {E B : Type 0} → Receiver E B → List (Option LinkVerdict)
tape_of k = k.tape.items

abbrev pub column_of : {E B : Type 0} → Receiver E B → List (PushEnd Event)
column_of k = k.inboxes.items

module _ {T : Type 0} where
  -- columns that were pushed to, one by one
  pub grid_from : (f : ℕ → ℕ → List T) (k : ℕ) (cols now : List (List (PushEnd T))) → length now ≡ length cols → ((i n : ℕ) (c d : List (PushEnd T)) → n ≡ k + i → slice_get cols i ≡ Some c → slice_get now i ≡ Some d → d ≡ push_each (f n) 0 c) → now ≡ push_grid f k cols
  grid_from f k [] [] e h = refl
  grid_from f k [] (d ∷ now) e h = absurd (omega arith)
  grid_from f k (c ∷ cols) [] e h = absurd (omega arith)
  grid_from f k (c ∷ cols) (d ∷ now) e h =
      ap (λ (l : List (PushEnd T)). l ∷ now) (h 0 k c d (omega arith) refl refl)
      ∙ ap (λ (ls : List (List (PushEnd T))). push_each (f k) 0 c ∷ ls) (grid_from f (suc k) cols now (omega arith) (λ i n c d is ec ed. h (suc i) n c d (omega arith) ec ed))

module _ {E B : Type 0} where
  pub link_tapes : {EL BL : Type 0} (hears : E → EarTold EL) (writes : B → BookTold BL) (plan : Plan) (js ks : List (Receiver E B)) (links : List Link) → AreReceivers plan js → AllZip3 (Came hears writes) js ks links → (i : ℕ) (link : Link) (tape : List (Option LinkVerdict)) → At links i link → At (map tape_of ks) i tape → IsLinkTape (link_setup plan i) link.entries plan.entries tape
  link_tapes hears writes plan js ks links are h i link tape e et =
      let (k, at_k, is_k) = unmapped tape_of ks i tape et in
      let lens = zip3_length (Came hears writes) js ks links h in
      let (j, at_j) = at_below js i (omega (arith, lens.0, below_at ks i k at_k)) in
      let it = are i j at_j in
      subst (IsLinkTape (link_setup plan i) link.entries plan.entries) is_k
      (subst (λ (setup : Setup). IsLinkTape setup link.entries plan.entries k.tape.items) it.setup
      (link_tape j.directory.setup link.entries plan.entries j.tape.items k.tape.items
      (zip3_at (Came hears writes) js ks links h i j k link at_j at_k e).taped it.cells it.none))

  -- the columns of inboxes when the links have routed
  pub columns_routed : {EL BL : Type 0} (hears : E → EarTold EL) (writes : B → BookTold BL) (plan : Plan) (js ks : List (Receiver E B)) (links : List Link) → AreReceivers plan js → AllZip3 (Came hears writes) js ks links → map column_of ks ≡ push_grid (λ i m. route_by plan links (letter_of plan m) i) 0 (map column_of js)
  columns_routed hears writes plan js ks links are h =
      let lens = zip3_length (Came hears writes) js ks links h in
      grid_from (λ i m. route_by plan links (letter_of plan m) i) 0 (map column_of js) (map column_of ks)
      (omega (arith, lens.0, length-map js column_of, length-map ks column_of))
      (λ i n c d is ec ed.
      let (j, at_j, is_j) = unmapped column_of js i c ec in
      let (k, at_k, is_k) = unmapped column_of ks i d ed in
      let (link, at_l) = at_below links i (omega (arith, lens.1, below_at js i j at_j)) in
      let at : i ≡ n = omega arith in
      let went = ap (λ o. o.inboxes) (zip3_at (Came hears writes) js ks links h i j k link at_j at_k at_l).posted in
      sym is_k ∙ went
      ∙ ap (λ (s : Setup). push_each (λ m. routed s link.entries (letter_at s.modules m)) 0 (column_of j)) (are i j at_j).setup
      ∙ ap (λ (x : ℕ). push_each (λ m. routed (link_setup plan x) link.entries (letter_of plan m)) 0 (column_of j)) at
      ∙ ap (λ (es : List Entry). push_each (λ m. routed (link_setup plan n) es (letter_of plan m)) 0 (column_of j))
      (sym (ap (λ (o : Option Link). option_map_or (λ (link : Link). link.entries) o []) (subst (λ (x : ℕ). slice_get links x ≡ Some link) at at_l)))
      ∙ ap (push_each (λ m. route_by plan links (letter_of plan m) n) 0) is_j)

-- What the ears of a run tell is what its links heard.

told_is : (before after : Option (List Heard)) (entries list : List Heard) → StartsEmpty before → after ≡ told_then before entries → after ≡ Some list → entries ≡ list
told_is None after entries list new then is = absurd (none-some list (sym then ∙ is))
told_is (Some all) after entries list new then is =
    ap (λ (l : List Heard). l ++ entries) (sym (new all refl)) ∙ same_Some (all ++ entries) list (sym then ∙ is)

pub headline_tells : {EL ML BL : Type 0} (run : Run EL ML BL) (headline : Headline run) (i : ℕ) (before after : EarTold EL) (list : List Heard) → At run.before.ears i before → At run.after.ears i after → StartsEmpty before.heard → after.heard ≡ Some list → (link : Link) × At headline.carried_out.links i link × (link.heard ≡ list)
headline_tells run headline i before after list at_b at_a new is =
    let ears = headline.ears in
    let inside = below_at run.before.ears i before at_b in
    let (entries, at) = at_below headline.heard i (omega (arith, ears.count)) in
    let heard = ears.each i entries before after at at_b at_a in
    let same : entries ≡ list = told_is before.heard after.heard entries list new heard.told is in
    let (link, at_link, is_link) = unmapped (λ (link : Link). link.heard) headline.carried_out.links i entries
    (ap (λ (l : List (List Heard)). slice_get l i) headline.carried_out.of_heard ∙ at) in
    (link, at_link, is_link ∙ same)
