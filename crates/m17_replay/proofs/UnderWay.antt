-- A replay in one thread, entry by entry.
use Rattle.std.proofs.Common.{◌≡◌, ℕ, ◌+◌, ◌-◌, ◌^◌, ◌<◌, ◌≤◌, Bool, true, false, List, [], ◌∷◌, ◌++◌, length, map, take, drop, get_or, if◌then◌else◌, refl, sym, ap, subst, ◌∙◌, arith}
use Rattle.std.specs.List.{range_with_len}
use Rattle.std.proofs.lemmas.Bool.{false≢true}
use Rattle.std.proofs.lemmas.List.{take_more, take_all, take-append-drop}
use Rattle.std.proofs.lemmas.List.FromFn.{length-map-range_with_len, map-range_with_len_more}
use Rattle.m17_lists.proofs.Lengths.{one_more_is_one_longer}
use Rattle.m17_print.proofs.TextsOfLines.{slice_get_after}
use Rattle.m17_io.specs.Sink.{SinkTold}
use Rattle.m17_values.specs.declared.heard.Heard.{Heard}
use Rattle.m17_directory.specs.Entries.{Entry, SaysEach, notice_of, notice_at, is_fault}
use Rattle.m17_port_memory.specs.Kept.{TalliesKept}
use Rattle.m17_plan.specs.declared.plan.Plan.{Plan}
use Rattle.m17_house.specs.declared.run.Run.{Run}
use Rattle.m17_house.specs.Hearing.{has_ended, HasHeard, HearsMore}
use Rattle.m17_house.specs.Replay.{EndsSomewhere, IsReplayOf}
use Rattle.m17_house.specs.SoFar.{scene}
use Rattle.m17_replay.specs.Summary.{Outcome}
use Rattle.m17_replay.specs.Replay.{is_lost, outcome_of}
use Rattle.m17_replay.specs.declared.printer.Printer.{Printer}
use Rattle.m17_replay.specs.Run.{is_fault_heard, printed_of, HasTaken, IsPlayed}
use Rattle.m17_replay.proofs.HeardLemmas.{says_fault}
use Rattle.m17_replay.proofs.Lists.{map_range}

-- what all entries came to
abbrev outcomes_of : Plan → List Entry → List Outcome
outcomes_of plan entries = map (outcome_of plan entries) (range_with_len 0 (length entries))

-- So many were heard, and the printer was handed what they came to.
pub record IsUnderWay (plan : Plan) (heard : List Heard) (index : ℕ) (run : Run) (mouth : TalliesKept) (printer : Printer) (first now : SinkTold) : Type 0 where
  pub entries : List Entry
  pub count : length entries ≡ index
  pub has : HasHeard plan (take index heard) entries run mouth
  pub taken : HasTaken printer (outcomes_of plan entries) first now

pub sets_out : (plan : Plan) (heard : List Heard) (run : Run) (mouth : TalliesKept) (printer : Printer) (first : SinkTold) → HasHeard plan [] [] run mouth → HasTaken printer [] first first → IsUnderWay plan heard 0 run mouth printer first first
sets_out plan heard run mouth printer first has taken = record { entries = []; count = refl; has = has; taken = taken }

-- there is room for one more
pub has_room : (plan : Plan) (heard : List Heard) (index : ℕ) (run : Run) (mouth : TalliesKept) (printer : Printer) (first now : SinkTold) → length heard < 2 ^ 58 → index < length heard → IsUnderWay plan heard index run mouth printer first now → printer.count < 2 ^ 64 - 1
has_room plan heard index run mouth printer first now few below way =
    omega (arith, few, below, way.count, way.taken.count, length-map-range_with_len (outcome_of plan way.entries) 0 (length way.entries))

-- Some entry ends the link: not all were heard without it.
pub never_over : (plan : Plan) (heard : List Heard) (index : ℕ) (run : Run) (mouth : TalliesKept) (printer : Printer) (first now : SinkTold) → EndsSomewhere heard → length heard ≤ index → IsUnderWay plan heard index run mouth printer first now → ⊥
never_over plan heard index run mouth printer first now somewhere all way =
    let says : SaysEach heard way.entries = subst (λ (hs : List Heard). SaysEach hs way.entries) (take_all index heard all) way.has.says in
    let it = somewhere way.entries says in
    false≢true (sym (way.has.open_still it.0 it.1) ∙ it.2)

module _ (plan : Plan) (heard : List Heard) (index : ℕ) (h : Heard) (old run : Run) (mouth mouth' : TalliesKept) (printer printer' : Printer) (first now now' : SinkTold) (o : Outcome)
    (below : index < length heard) (item : h ≡ get_or heard index h) (way : IsUnderWay plan heard index old mouth printer first now) (one : HearsMore plan (take index heard) way.entries h (scene run mouth') o) where
  abbrev longer : List Entry
  longer = way.entries ++ one.entry ∷ []

  front : take (index + 1) heard ≡ take index heard ++ h ∷ []
  front = take_more heard index h below ∙ ap (λ x. take index heard ++ x ∷ []) (sym item)

  -- what the others came to, and what all did
  others : map (outcome_of plan longer) (range_with_len 0 (length way.entries)) ≡ outcomes_of plan way.entries
  others = map_range (outcome_of plan longer) (outcome_of plan way.entries) 0 (length way.entries) (λ i from within. one.others_stay i (omega (arith, within)))

  size : length longer ≡ length way.entries + 1
  size = omega (arith, one_more_is_one_longer way.entries one.entry)

  all : outcomes_of plan longer ≡ outcomes_of plan way.entries ++ o ∷ []
  all =
      ap (λ n. map (outcome_of plan longer) (range_with_len 0 n)) size
      ∙ map-range_with_len_more (outcome_of plan longer) 0 (length way.entries) (length way.entries) (omega arith)
      ∙ ap (λ xs. xs ++ outcome_of plan longer (length way.entries) ∷ []) others
      ∙ ap (λ (x : Outcome). outcomes_of plan way.entries ++ x ∷ []) one.is_answer

  -- The link goes on.
  pub goes_on : has_ended run ≡ false → HasTaken printer' (outcomes_of plan way.entries ++ o ∷ []) first now' → IsUnderWay plan heard (index + 1) run mouth' printer' first now'
  goes_on going taken = record {
    entries = longer;
    count = omega (arith, size, way.count);
    has = subst (λ (hs : List Heard). HasHeard plan hs longer run mouth') (sym front) (one.goes_on going);
    taken = subst (λ (os : List Outcome). HasTaken printer' os first now') (sym all) taken;
  }

  -- It has ended.
  last_at : length longer - 1 ≡ length way.entries
  last_at = omega (arith, size)

  lost_is : is_lost longer ≡ is_fault_heard h
  lost_is =
      ap (λ n. is_fault (notice_at longer n)) last_at
      ∙ ap (λ e. is_fault (notice_of e)) (slice_get_after way.entries one.entry [] (length way.entries) refl)
      ∙ says_fault h one.entry.notice one.says

  printed_by : (lost : Bool) → is_lost longer ≡ lost → printed_of plan longer ≡ (if lost then outcomes_of plan way.entries ++ o ∷ [] else outcomes_of plan way.entries)
  printed_by true is = ap (λ b. map (outcome_of plan longer) (range_with_len 0 (if b then length longer else length longer - 1))) is ∙ all
  printed_by false is =
      ap (λ b. map (outcome_of plan longer) (range_with_len 0 (if b then length longer else length longer - 1))) is
      ∙ ap (λ n. map (outcome_of plan longer) (range_with_len 0 n)) last_at ∙ others

  pub arrives : (lost : Bool) → has_ended run ≡ true → lost ≡ is_fault_heard h → HasTaken printer' (if lost then outcomes_of plan way.entries ++ o ∷ [] else outcomes_of plan way.entries) first now'
      → IsPlayed plan heard printer' mouth' lost first now'
  arrives lost over is taken =
      let whole : (take index heard ++ h ∷ []) ++ drop (index + 1) heard ≡ heard = ap (λ hs. hs ++ drop (index + 1) heard) (sym front) ∙ take-append-drop (index + 1) heard in
      record {
        entries = longer;
        is_replay = subst (λ (hs : List Heard). IsReplayOf plan hs longer) whole (one.ends over (drop (index + 1) heard));
        is_lost_so = lost_is ∙ sym is;
        taken = subst (λ (os : List Outcome). HasTaken printer' os first now') (sym (printed_by lost (lost_is ∙ sym is))) taken;
        tallies = one.tallies;
      }
