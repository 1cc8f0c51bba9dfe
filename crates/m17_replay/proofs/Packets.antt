-- The verdicts on packets, by the tapes of the modules.
use Rattle.std.proofs.Common.{◌≡◌, ◌==◌, ℕ, zero, suc, ◌+◌, ◌-◌, ◌<◌, Bool, true, false, cond, List, [], ◌∷◌, length, Option, None, Some, inl, inr, sym, subst, refl, ap, ◌∙◌, arith}
use Rattle.std.specs.Prelude.{◌&&◌, slice_get, nat_le, filter, option_and_then}
use Rattle.std.specs.Int.{bit_at}
use Rattle.std.specs.List.{range_with_len}
use Rattle.std.specs.Option.{option_map_or}
use Rattle.std.proofs.lemmas.Bool.{and_parts, cases_Bool, eq-eqb, false≢true, leb-true}
use Rattle.std.proofs.lemmas.Bool.Decides.{nat_tests}
use Rattle.std.proofs.lemmas.Option.{get_or_from_slice_get}
use Rattle.m17_control.specs.declared.event.Body.{Body}
use Rattle.m17_control.specs.declared.event.Body.TheVariants.{Join, Leave, Packet, Reply, Tick, Stop}
use Rattle.m17_control.specs.declared.event.Event.{Event}
use Rattle.m17_control.specs.declared.modules.Modules.{Modules}
use Rattle.m17_control.specs.Modules.{serves, letters_of, letters_before}
use Rattle.m17_floor.specs.declared.verdict.Verdict.{Verdict}
use Rattle.m17_floor.specs.Acts.{is_packet as is_packet_act}
use Rattle.m17_floor.specs.Floor.{verdict_at}
use Rattle.m17_lookup.proofs.LastBelow.{last_below_same, last_below_none}
use Rattle.m17_module.specs.Setup.{floor_setup}
use Rattle.m17_module.specs.Items as module_items
use Rattle.m17_module.specs.Events.{acts_of, kind_of}
use Rattle.m17_directory.specs.declared.verdict.Act.TheVariants as act
use Rattle.m17_directory.specs.declared.verdict.LinkVerdict.{LinkVerdict}
use Rattle.m17_directory.specs.declared.verdict.LinkVerdict.TheVariants.{Routed}
use Rattle.m17_directory.specs.Entries.{Entry, Setup}
use Rattle.m17_directory.specs.Laws.{OnlyServedAreRouted}
use Rattle.m17_directory.specs.Routed.{link_verdict, routed}
use Rattle.m17_worker.specs.Tape.{is_packet_of, position_of, verdict_on}
use Rattle.m17_plan.specs.declared.plan.Plan.{Plan}
use Rattle.m17_house.specs.Replay.{is_packet_body, is_packet_from, verdict_among, verdict_routed, packet_verdict}
use Rattle.m17_plan.specs.Planned.{setup_of, module_setup}
use Rattle.m17_reflect.specs.Links.{letter_of}
use Rattle.m17_reflect.specs.Run.{module_count}
use Rattle.m17_replay.specs.Tapes.{cell_at, cell_for, packet_by}
use Rattle.m17_replay.proofs.Lists.{at_below, below_at}

-- a packet, in the words of the floor, of the house and of the directory
packet_bodies : (body : Body) → is_packet_act (kind_of body) ≡ is_packet_body body
packet_bodies (Join k x callsign listen after) = refl
packet_bodies (Leave k why) = refl
packet_bodies (Packet k p) = refl
packet_bodies (Reply k control) = refl
packet_bodies Tick = refl
packet_bodies Stop = refl

swapped : (a b : ℕ) → (a == b) ≡ (b == a)
swapped a b = grind (arith, nat_tests)

event_same : (n : ℕ) (event : Event) → event.tag.link ≡ 0 → is_packet_of n event ≡ is_packet_from n (Some event)
event_same n event none =
    ap (λ b. b && ((n == event.tag.index) && is_packet_act (kind_of event.body))) (eq-eqb event.tag.link 0 none)
    ∙ ap (λ b. b && is_packet_act (kind_of event.body)) (swapped n event.tag.index)
    ∙ ap (λ b. event.tag.index == n && b) (packet_bodies event.body)

cell_same : (n : ℕ) (o : Option Event) → ((event : Event) → o ≡ Some event → event.tag.link ≡ 0) → option_map_or (is_packet_of n) o false ≡ is_packet_from n o
cell_same n None none = refl
cell_same n (Some event) none = event_same n event (none event refl)

-- Where all events are of link 0, the tape of their module has the verdicts of the packets among them.
pub verdict_same : (made : module_items.Setup) (n : ℕ) (events : List Event) → ((i : ℕ) (event : Event) → slice_get events i ≡ Some event → event.tag.link ≡ 0) → verdict_on made events n ≡ verdict_among made n events
unfolding position_of
verdict_same made n events none =
    ap (option_and_then (verdict_at (floor_setup made) (acts_of events)))
    (last_below_same (λ i. option_map_or (is_packet_of n) (slice_get events i) false) (λ i. is_packet_from n (slice_get events i)) (length events)
    (λ i lt. cell_same n (slice_get events i) (none i)))

first_step : (x : ℕ) (rest : List ℕ) (b : Bool) → b ≡ true → slice_get (cond b (x ∷ rest) rest) 0 ≡ Some x
first_step x rest true e = refl
first_step x rest false e = absurd (false≢true e)

later_step : (x : ℕ) (front all : List ℕ) (b : Bool) → slice_get (cond b (x ∷ all) all) (length (cond b (x ∷ front) front)) ≡ slice_get all (length front)
later_step x front all true = refl
later_step x front all false = refl

-- what passes stands behind all that passes before it
ranked : (p : ℕ → Bool) (a k n : ℕ) → k < n → p (a + k) ≡ true → slice_get (filter p (range_with_len a n)) (length (filter p (range_with_len a k))) ≡ Some (a + k)
ranked p a k zero lt is = absurd (omega arith)
ranked p a zero (suc n) lt is =
    let here : a ≡ a + 0 = omega arith in
    first_step a (filter p (range_with_len (a + 1) n)) (p a) (ap p here ∙ is) ∙ ap Some here
ranked p a (suc k) (suc n) lt is =
    let there : a + 1 + k ≡ a + suc k = omega arith in
    later_step a (filter p (range_with_len (a + 1) k)) (filter p (range_with_len (a + 1) n)) (p a)
    ∙ ranked p (a + 1) k n (omega (arith, lt)) (ap p there ∙ is)
    ∙ ap Some there

-- a served letter stands behind those before it
letter_ranked : (modules : Modules) (letter : ℕ) → serves modules letter ≡ true → slice_get (letters_of modules) (length (letters_before modules letter)) ≡ Some letter
unfolding serves
letter_ranked modules letter e =
    let (both, bit) = and_parts (nat_le 65 letter && nat_le letter 90) (bit_at modules.0 (letter - 65) == 1) e in
    let (low, high) = and_parts (nat_le 65 letter) (nat_le letter 90) both in
    let here : 65 + (letter - 65) ≡ letter = omega (arith, leb-true 65 letter low) in
    ranked (serves modules) 65 (letter - 65) 26 (omega (arith, leb-true letter 90 high)) (ap (serves modules) here ∙ e) ∙ ap Some here

module _ (served : OnlyServedAreRouted) (plan : Plan) (entries : List Entry) where
  abbrev setup : Setup
  setup = setup_of plan

  -- nothing is among the events of a module that is not served
  unserved : (letter n : ℕ) → serves plan.modules letter ≡ false → verdict_among (module_setup plan letter) n (routed setup entries letter) ≡ None
  unserved letter n e =
      ap (verdict_among (module_setup plan letter) n) (served setup entries letter e)
      ∙ ap (option_and_then (verdict_at (floor_setup (module_setup plan letter)) (acts_of []))) (last_below_none (λ i. is_packet_from n (slice_get [] i)) 0 (λ i lt. absurd (omega arith)))

  -- The tapes of the modules have the verdicts of an entry's packet.
  pub record AreCells (tapes : List (List (Option Verdict))) (n : ℕ) : Type 0 where
    pub count : length tapes ≡ module_count plan
    pub each : (m : ℕ) (tape : List (Option Verdict)) → slice_get tapes m ≡ Some tape → cell_at tape n ≡ verdict_among (module_setup plan (letter_of plan m)) n (routed setup entries (letter_of plan m))

  module _ (tapes : List (List (Option Verdict))) (n : ℕ) (h : AreCells tapes n) where
    -- the verdict of a module that is served
    in_place : (letter : ℕ) → serves plan.modules letter ≡ true
        → option_and_then (λ (tape : List (Option Verdict)). cell_at tape n) (slice_get tapes (length (letters_before plan.modules letter)))
        ≡ verdict_among (module_setup plan letter) n (routed setup entries letter)
    in_place letter e =
        let m : ℕ = length (letters_before plan.modules letter) in
        let there : slice_get (letters_of plan.modules) m ≡ Some letter = letter_ranked plan.modules letter e in
        let (tape, at) = at_below tapes m (omega (arith, h.count, below_at (letters_of plan.modules) m letter there)) in
        ap (option_and_then (λ (tape : List (Option Verdict)). cell_at tape n)) at
        ∙ h.each m tape at
        ∙ ap (λ l. verdict_among (module_setup plan l) n (routed setup entries l)) (get_or_from_slice_get (letters_of plan.modules) m letter 0 there)

    by_letter : (letter : ℕ) → cell_for plan.modules tapes letter n ≡ verdict_among (module_setup plan letter) n (routed setup entries letter)
    by_letter letter =
        let cell : Option Verdict = option_and_then (λ (tape : List (Option Verdict)). cell_at tape n) (slice_get tapes (length (letters_before plan.modules letter))) in
        elim (cases_Bool (serves plan.modules letter)) [
          | inl there ↦ ap (λ b. cond b cell None) there ∙ in_place letter there
          | inr away ↦ ap (λ b. cond b cell None) away ∙ sym (unserved letter n away)
        ]

    by_verdict : (v : LinkVerdict) → packet_by plan.modules tapes n v ≡ verdict_routed plan entries n v
    by_verdict (Routed letter act.Packet) = by_letter letter
    by_verdict v = refl

    -- The tapes have the verdict on the entry's packet.
    pub packet_is : packet_by plan.modules tapes n (link_verdict setup entries n) ≡ packet_verdict plan entries n
    unfolding packet_verdict
    packet_is = by_verdict (link_verdict setup entries n)
