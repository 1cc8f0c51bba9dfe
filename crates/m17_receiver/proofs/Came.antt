-- One entry more of a receiver.
use Rattle.std.proofs.Common.{◌≡◌, ◌==◌, ◌↔◌, ℕ, ◌+◌, Bool, true, false, List, [], ◌∷◌, ◌++◌, length, set, Contains, IsTrue, refl, ap, sym, subst, ◌∙◌, inl, inr, arith, Option, Some}
use Rattle.std.proofs.lemmas.Bool.{eq-eqb, eqb-true}
use Rattle.std.proofs.lemmas.List.{length-append}
use Rattle.m17_values.specs.declared.heard.Heard.{Heard}
use Rattle.m17_values.specs.declared.member.Member.{Member}
use Rattle.m17_lane.specs.Ends.{PopEnd}
use Rattle.m17_values.specs.declared.heard.Heard.TheVariants as heard
use Rattle.m17_directory.specs.declared.known.Departed.{Departed}
use Rattle.m17_directory.specs.declared.verdict.LinkVerdict.{LinkVerdict}
use Rattle.m17_directory.specs.Entries.{Notice, Setup, Says, ends_at}
use Rattle.m17_receiver.specs.declared.receiver.Receiver.{Receiver}
use Rattle.m17_ports.specs.Ear.{EarTold}
use Rattle.m17_ports.specs.Book.{BookTold, HasText}
use Rattle.m17_ports.specs.Laws.{NewEarsTell, EarsHearInTurn, BooksAreWrittenInTurn}
use Rattle.m17_receiver.specs.Devices.{HearsToTheEnd, trace_text}
use Rattle.m17_receiver.specs.Tape.{IsTaped}
use Rattle.m17_receiver.specs.Ready.{IsFit}
use Rattle.m17_receiver.specs.ReceiverDid.{IsSameReceiver, HasReceived, outlets_of}
use Rattle.m17_receiver.specs.SoFar.{Laws, IsPlanOf, IsKept, IsThrough, HasCome, HasComeBy, plan_of_job, parts_of}
use Rattle.m17_receiver.proofs.Posted.{posted_none}
use Rattle.m17_receiver.proofs.Heard.{heard_nothing}
use Rattle.m17_receiver.proofs.Greeted.{greeted_none, left_none}
use Rattle.m17_receiver.proofs.Claimed.{at_end_or_before, claimed_none}
use Rattle.m17_receiver.proofs.Ended.{length_says, says_more, ends_before, ends_once, lost_is}
use Rattle.m17_receiver.proofs.Taped.{taped_more, taped_none}

-- the header comes with the first entry
pub first_is : (index : ℕ) (heards : List Heard) → index ≡ length heards → ((index == 0) ≡ true) ↔ (heards ≡ [])
first_is index [] is = (λ _. refl, λ _. eq-eqb index 0 (omega (arith, is)))
first_is index (h ∷ heards) is = (λ e. absurd (let zero_is : index ≡ 0 = eqb-true index 0 e in omega (arith, is, zero_is)), λ e. absurd (cc))

-- the next index
pub next_index : (index next : ℕ) (heards : List Heard) (h : Heard) → index ≡ length heards → next ≡ index + 1 → next ≡ length (heards ++ h ∷ [])
next_index index next heards h is next_is = omega (arith, is, next_is, length-append heards (h ∷ []))

nobody : (d : Departed) → Contains [] d → ⊥
nobody d in_it = omega (arith, in_it.1)

module _ {E B : Type 0} where
  -- the index of the entry
  pub index_is : (j k : Receiver E B) (heards : List Heard) (noted index : ℕ) → (was : HasCome heards j k noted) → index ≡ length heards → index ≡ length was.entries
  index_is j k heards noted index was is = omega (arith, is, length_says heards was.entries was.says)

  -- what is written and heard stays while the entry is worked on
  pub trace_stays : {L : Type 0} (writes : B → BookTold L) (k s : Receiver E B) (start : BookTold L) (text : List ℕ) → IsKept k s → HasText start text k.trace_failed (writes k.trace) →
      HasText start text s.trace_failed (writes s.trace)
  trace_stays writes k s start text kept was =
      subst (λ (r : Receiver E B). HasText start text r.trace_failed (writes r.trace)) (sym kept.rest) was

  pub ear_stays : {L : Type 0} (hears : E → EarTold L) (k s : Receiver E B) (start : EarTold L) (heards : List Heard) → IsKept k s → HearsToTheEnd start heards (hears k.ear) →
      HearsToTheEnd start heards (hears s.ear)
  ear_stays hears k s start heards kept was =
      subst (λ (r : Receiver E B). HearsToTheEnd start heards (hears r.ear)) (sym kept.rest) was

  pub faults_stay : {L : Type 0} (hears : E → EarTold L) (k s : Receiver E B) → IsKept k s → (hears s.ear).faults ≡ (hears k.ear).faults
  faults_stay hears k s kept = ap (λ (r : Receiver E B). (hears r.ear).faults) kept.rest

  -- the tape with one cell more
  pub cell_put : (k s : Receiver E B) (cells : List (Option LinkVerdict)) (index n : ℕ) (verdict : LinkVerdict) → IsKept k s → cells ≡ set s.tape.items index (Some verdict) → index ≡ n → cells ≡ set k.tape.items n (Some verdict)
  cell_put k s cells index n verdict kept is at =
      is ∙ ap (λ (r : Receiver E B). set r.tape.items index (Some verdict)) kept.rest ∙ ap (λ m. set k.tape.items m (Some verdict)) at

  -- the same receiver
  pub same_itself : (j : Receiver E B) → IsSameReceiver j j
  same_itself j = record {
    link = refl;
    modules = refl;
    places = refl;
    patient = refl;
    setup = refl;
    seat = (refl, refl, refl);
    room = refl;
    notes = refl;
    lanes = record { inboxes = refl; door = refl };
  }

  pub same_devices : (j k : Receiver E B) (ear : E) (trace : B) (failed : Bool) → IsSameReceiver j k → IsSameReceiver j (record k { ear = ear; trace = trace; trace_failed = failed })
  same_devices j k ear trace failed same = record {
    link = same.link;
    modules = same.modules;
    places = same.places;
    patient = same.patient;
    setup = same.setup;
    seat = same.seat;
    room = same.room;
    notes = same.notes;
    lanes = same.lanes;
  }

  pub same_taped : (j k r : Receiver E B) → r ≡ record k { tape = r.tape; lost = r.lost } → IsSameReceiver j k → IsSameReceiver j r
  same_taped j k r is same = subst (λ (x : Receiver E B). IsSameReceiver j x) (sym is) (record {
    link = same.link;
    modules = same.modules;
    places = same.places;
    patient = same.patient;
    setup = same.setup;
    seat = same.seat;
    room = same.room;
    notes = same.notes;
    lanes = same.lanes;
  })

  pub same_kept : (j k s : Receiver E B) → IsSameReceiver j k → IsKept k s → IsSameReceiver j s
  same_kept j k s same kept = record {
    link = ap (λ (r : Receiver E B). r.link) kept.rest ∙ same.link;
    modules = ap (λ (r : Receiver E B). r.modules) kept.rest ∙ same.modules;
    places = ap (λ (r : Receiver E B). r.places) kept.rest ∙ same.places;
    patient = ap (λ (r : Receiver E B). r.patient) kept.rest ∙ same.patient;
    setup = kept.setup ∙ same.setup;
    seat = (kept.seat.0 ∙ same.seat.0, kept.seat.1 ∙ same.seat.1, kept.seat.2 ∙ same.seat.2);
    room = kept.room ∙ same.room;
    notes = kept.notes ∙ ap (λ (q : PopEnd Member). let r : PopEnd Member = record q { popped = s.notes.popped } in r) same.notes;
    lanes = record { inboxes = kept.lanes.inboxes ∙ same.lanes.inboxes; door = kept.lanes.door ∙ same.lanes.door };
  }

  pub plan_is : (j k : Receiver E B) → j.directory.setup.places ≡ j.places → j.directory.setup.modules ≡ j.modules → IsSameReceiver j k → IsPlanOf (plan_of_job j) k
  plan_is j k places modules same = record {
    patient = sym same.patient;
    places = places ∙ sym same.places;
    modules = modules ∙ sym same.modules;
  }

  -- one entry more, which goes on
  pub come_on : Laws → (j k s : Receiver E B) (heards : List Heard) (h : Heard) (notice : Notice) (noted noted' : ℕ) (verdict : LinkVerdict) →
      (was : HasCome heards j k noted) → Says h notice → (t : IsThrough (plan_of_job j) was.entries notice (parts_of s noted') verdict) →
      s.tape.items ≡ set k.tape.items (length was.entries) (Some verdict) → s.directory.ended ≡ false → HasCome (heards ++ h ∷ []) j s noted'
  come_on law j k s heards h notice noted noted' verdict was says t tape goes_on =
      let setup : Setup = j.directory.setup in
      record {
        entries = was.entries ++ t.entry ∷ [];
        says = says_more heards was.entries h t.entry was.says (subst (Says h) (sym t.says) says);
        goes_on = λ n l. elim (at_end_or_before was.entries t.entry n l) [
          | inl earlier ↦ ends_before law setup was.entries t.entry n earlier ∙ was.goes_on n earlier
          | inr last ↦ ap (ends_at (was.entries ++ t.entry ∷ [])) last ∙ sym t.ends ∙ goes_on
        ];
        so_far = t.so_far;
        taped = subst (λ (cells : List (Option LinkVerdict)). IsTaped setup (was.entries ++ t.entry ∷ []) j.tape.items cells) (sym tape)
            (taped_more law setup was.entries t.entry j.tape.items k.tape.items verdict was.taped t.is_verdict);
      }

  -- one entry more, which ends the link
  pub come_end : Laws → (j k s : Receiver E B) (heards : List Heard) (h : Heard) (notice : Notice) (noted noted' : ℕ) (verdict : LinkVerdict) →
      (was : HasCome heards j k noted) → Says h notice → (t : IsThrough (plan_of_job j) was.entries notice (parts_of s noted') verdict) →
      s.tape.items ≡ set k.tape.items (length was.entries) (Some verdict) → s.directory.ended ≡ true → IsTrue s.lost ↔ (h ≡ heard.Fault) → HasReceived (heards ++ h ∷ []) j s
  come_end law j k s heards h notice noted noted' verdict was says t tape ended lost =
      let setup : Setup = j.directory.setup in
      let ends : ends_at (was.entries ++ t.entry ∷ []) (length was.entries) ≡ true = sym t.ends ∙ ended in
      let says' : Says h t.entry.notice = subst (Says h) (sym t.says) says in
      let faults = lost_is heards h was.entries t.entry was.says says' ends in
      record {
        entries = was.entries ++ t.entry ∷ [];
        says = says_more heards was.entries h t.entry was.says says';
        ends = ends_once law setup was.entries t.entry was.goes_on ends;
        lost = (λ is. faults.0 (lost.0 is), λ has. lost.1 (faults.1 has));
        posted = t.so_far.posted;
        claimed = t.so_far.claimed;
        greeted = t.so_far.greeted;
        taped = subst (λ (cells : List (Option LinkVerdict)). IsTaped setup (was.entries ++ t.entry ∷ []) j.tape.items cells) (sym tape)
            (taped_more law setup was.entries t.entry j.tape.items k.tape.items verdict was.taped t.is_verdict);
      }

  -- nothing was heard yet
  pub come_none : {L K : Type 0} → Laws → NewEarsTell → EarsHearInTurn L → BooksAreWrittenInTurn K → (hears : E → EarTold L) (writes : B → BookTold K) (j : Receiver E B) →
      IsFit hears writes j → HasComeBy hears writes j j 0 0
  come_none law tell ears books hears writes j fit =
      let lists = fit.unused.seat in
      let none : j.notes.popped ≡ [] = fit.unused.notes in
      record {
        heard = [];
        ear = heard_nothing tell ears (hears j.ear) fit.unused.ear;
        trace = subst (λ (b : Bool). HasText (writes j.trace) (trace_text []) b (writes j.trace)) (sym fit.unused.trace_failed) (books.nothing (writes j.trace));
        no_end = λ in_it. absurd (omega (arith, in_it.1));
        count = refl;
        come = record {
          entries = [];
          says = tt;
          goes_on = λ n l. absurd (omega arith);
          so_far = record {
            setup = refl;
            stands = fit.made.stands;
            posted = posted_none law j.directory.setup (outlets_of j);
            claimed = claimed_none j.patient j.directory.setup j.seat lists.0 lists.1 lists.2;
            greeted = greeted_none j.notes.popped;
            gone = λ d in_it. absurd (nobody d (subst (λ (ds : List Departed). Contains ds d) (left_none j.directory.setup) in_it));
            count = omega (arith, ap length none);
          };
          taped = taped_none j.directory.setup j.tape.items;
        };
      }
