-- What a printer was handed, and the text of that.
use Rattle.std.proofs.Common.{◌≡◌, ℕ, zero, suc, ◌+◌, Bool, true, false, List, [], ◌∷◌, ◌++◌, length, map, Result, Ok, refl, sym, ap, subst, ◌∙◌, arith, append_assoc}
use Rattle.std.specs.List.{flat_map, range_with_len}
use Rattle.std.proofs.lemmas.List.{append-nil}
use Rattle.std.proofs.lemmas.List.FromFn.{length-map-range_with_len}
use Rattle.m17_io.specs.Sink.{SinkTold}
use Rattle.m17_values.specs.declared.failures.Failed.{Failed}
use Rattle.m17_values.specs.declared.peer.Peer.{Peer}
use Rattle.m17_ports.specs.declared.tally.Tally.{Tally}
use Rattle.m17_directory.specs.Entries.{Entry, peers_named}
use Rattle.m17_plan.specs.declared.plan.Plan.{Plan}
use Rattle.m17_lists.proofs.Lengths.{one_more_is_one_longer}
use Rattle.m17_replay.specs.Counted.{CountsAre}
use Rattle.m17_replay.specs.Lines.{verdict_line}
use Rattle.m17_replay.specs.Summary.{counts_text, peers_text, Outcome}
use Rattle.m17_replay.specs.Replay.{heard_count, line_of, lines_text, outcome_of, replay_text, summary_text, tally_at}
use Rattle.m17_replay.specs.declared.printer.Printer.{Printer}
use Rattle.m17_replay.specs.Run.{lines_from, printed_of, text_of_all, text_so_far, HasTaken, Prints}
use Rattle.m17_replay.proofs.Writing.{prints_nothing, prints_same}

-- nothing was handed to it
no_text : (summary : Bool) → [] ≡ text_so_far summary []
no_text true = refl
no_text false = refl

pub taken_nothing : (printer : Printer) (told : SinkTold) → printer.count ≡ 0 → CountsAre printer.counts [] → printer.written ≡ Ok tt → HasTaken printer [] told told
taken_nothing printer told count counts written = record {
  count = count;
  counts = λ _. counts;
  prints = subst (λ (r : Result (Unit {0}) Failed). Prints r (text_so_far printer.summary []) told told) (sym written)
      (prints_same (Ok tt) _ _ told told (no_text printer.summary) (prints_nothing tt told));
}

-- one outcome more was counted for a summary, ..
same_text : (summary : Bool) (a b : List Outcome) → summary ≡ true → text_so_far summary a ≡ text_so_far summary b
same_text true a b e = refl
same_text false a b e = cc

pub counted_one : (old new : Printer) (before : List Outcome) (o : Outcome) (first now : SinkTold) → old.summary ≡ true → new.summary ≡ old.summary → new.count ≡ old.count + 1 → new.written ≡ old.written
    → HasTaken old before first now → CountsAre new.counts (before ++ o ∷ []) → HasTaken new (before ++ o ∷ []) first now
counted_one old new before o first now summary same count written was counts = record {
  count = omega (arith, count, was.count, one_more_is_one_longer before o);
  counts = λ _. counts;
  prints = subst (λ (r : Result (Unit {0}) Failed). Prints r (text_so_far new.summary (before ++ o ∷ [])) first now) (sym written)
      (prints_same old.written _ _ first now (same_text old.summary before (before ++ o ∷ []) summary ∙ ap (λ s. text_so_far s (before ++ o ∷ [])) (sym same)) was.prints);
}

-- .. or else printed
line_more : (n : ℕ) (before : List Outcome) (o : Outcome) → lines_from n before ++ verdict_line (n + length before) o.0 o.1 ≡ lines_from n (before ++ o ∷ [])
line_more n [] o = ap (λ k. verdict_line k o.0 o.1) (let e : n + 0 ≡ n = omega arith in e) ∙ sym (append-nil (verdict_line n o.0 o.1))
line_more n (p ∷ before) o =
    let at : n + suc (length before) ≡ (n + 1) + length before = omega arith in
    append_assoc (verdict_line n p.0 p.1) (lines_from (n + 1) before) (verdict_line (n + suc (length before)) o.0 o.1)
    ∙ ap (λ k. verdict_line n p.0 p.1 ++ (lines_from (n + 1) before ++ verdict_line k o.0 o.1)) at
    ∙ ap (λ xs. verdict_line n p.0 p.1 ++ xs) (line_more (n + 1) before o)

text_more : (summary : Bool) (count : ℕ) (before : List Outcome) (o : Outcome) → summary ≡ false → count ≡ length before → text_so_far summary before ++ verdict_line count o.0 o.1 ≡ text_so_far summary (before ++ o ∷ [])
text_more false count before o e same =
    let at : count ≡ 0 + length before = omega (arith, same) in
    ap (λ k. lines_from 0 before ++ verdict_line k o.0 o.1) at ∙ line_more 0 before o
text_more true count before o e same = cc

pub printed_one : (old new : Printer) (before : List Outcome) (o : Outcome) (first now after : SinkTold) → old.summary ≡ false → new.summary ≡ old.summary → new.count ≡ old.count + 1
    → HasTaken old before first now → Prints new.written (text_so_far old.summary before ++ verdict_line old.count o.0 o.1) first after → HasTaken new (before ++ o ∷ []) first after
printed_one old new before o first now after summary same count was prints = record {
  count = omega (arith, count, was.count, one_more_is_one_longer before o);
  counts = λ so. let no : true ≡ false = sym so ∙ same ∙ summary in cc;
  prints = prints_same new.written _ _ first after
      (text_more old.summary old.count before o summary was.count ∙ ap (λ s. text_so_far s (before ++ o ∷ [])) (sym same)) prints;
}

-- the lines are all of the text without a summary
pub all_lines : (summary : Bool) (outcomes : List Outcome) (tally : Peer → Tally) (named : List Peer) → summary ≡ false → text_so_far summary outcomes ≡ text_of_all summary outcomes tally named
all_lines false outcomes tally named e = refl
all_lines true outcomes tally named e = cc

-- and the summary comes behind nothing
pub all_counts : (summary : Bool) (outcomes : List Outcome) (tally : Peer → Tally) (named : List Peer) → summary ≡ true → text_so_far summary outcomes ++ text_of_all true outcomes tally named ≡ text_of_all summary outcomes tally named
all_counts true outcomes tally named e = refl
all_counts false outcomes tally named e = cc

-- That of all that is printed is the text of the replay.
lines_are : (plan : Plan) (entries : List Entry) (a m : ℕ) → lines_from a (map (outcome_of plan entries) (range_with_len a m)) ≡ flat_map (line_of plan entries) (range_with_len a m)
lines_are plan entries a zero = refl
lines_are plan entries a (suc m) = ap (λ xs. line_of plan entries a ++ xs) (lines_are plan entries (a + 1) m)

text_is : (plan : Plan) (summary : Bool) (entries : List Entry) (named : List Peer) → (summary ≡ true → named ≡ peers_named entries (length entries))
    → text_of_all summary (printed_of plan entries) (tally_at plan entries) named ≡ replay_text plan summary entries
unfolding summary_text lines_text
text_is plan true entries named is =
    ap (λ n. counts_text n (printed_of plan entries) ++ peers_text (tally_at plan entries) named) (length-map-range_with_len (outcome_of plan entries) 0 (heard_count entries))
    ∙ ap (λ peers. counts_text (heard_count entries) (printed_of plan entries) ++ peers_text (tally_at plan entries) peers) (is refl)
text_is plan false entries named is = lines_are plan entries 0 (heard_count entries)

pub text_printed : (plan : Plan) (summary made : Bool) (entries : List Entry) (named : List Peer) (count : ℕ) (result : Result (Unit {0}) Failed) (x y : SinkTold) → (summary ≡ true → named ≡ peers_named entries (length entries)) → count ≡ heard_count entries → made ≡ summary
    → Prints result (text_of_all made (map (outcome_of plan entries) (range_with_len 0 count)) (tally_at plan entries) named) x y → Prints result (replay_text plan summary entries) x y
text_printed plan summary made entries named count result x y named_are count_is same prints =
    prints_same result _ _ x y
    (ap (λ b. text_of_all b (map (outcome_of plan entries) (range_with_len 0 count)) (tally_at plan entries) named) same
    ∙ ap (λ n. text_of_all summary (map (outcome_of plan entries) (range_with_len 0 n)) (tally_at plan entries) named) count_is
    ∙ text_is plan summary entries named named_are) prints
