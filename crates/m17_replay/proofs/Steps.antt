-- One entry, and one more.
use Rattle.std.proofs.Common.{◌≡◌, ℕ, ◌+◌, ◌-◌, ◌<◌, List, [], ◌∷◌, ◌++◌, length, map, get_or, take, drop, slice_get, Option, Some, Ok, Err, sym, ap, ◌∙◌, arith}
use Rattle.std.specs.List.{flat_map, range_with_len}
use Rattle.std.proofs.lemmas.List.FromFn.{get_or-map-range_with_len, length-map-range_with_len, map-range_with_len_more}
use Rattle.std.proofs.lemmas.List.Concat.{flat_map-append}
use Rattle.std.proofs.lemmas.List.{append-nil, take_more, take-append-drop}
use Rattle.std.proofs.lemmas.Option.{same_Some, slice_get-get_or, slice_get_within}
use Rattle.m17_values.specs.declared.failures.Failed.{Failed}
use Rattle.m17_floor.specs.declared.verdict.Verdict.{Verdict}
use Rattle.m17_directory.specs.declared.verdict.LinkVerdict.{LinkVerdict}
use Rattle.m17_directory.specs.Entries.{Entry}
use Rattle.m17_directory.specs.Routed.{link_verdict}
use Rattle.m17_plan.specs.declared.plan.Plan.{Plan}
use Rattle.m17_house.specs.Replay.{packet_verdict}
use Rattle.m17_plan.specs.Planned.{setup_of}
use Rattle.m17_replay.specs.Summary.{Outcome}
use Rattle.m17_replay.specs.Replay.{outcome_of}
use Rattle.m17_replay.specs.Run.{AreVerdicts, Writes}
use Rattle.m17_replay.proofs.Writing.{writes_then, writes_part, writes_same}

-- what stands in a list that is made of its positions
pub made_at : {X : Type 0} (f : ℕ → X) (xs : List X) (size n : ℕ) (x : X) → xs ≡ map f (range_with_len 0 size) → slice_get xs n ≡ Some x → x ≡ f n
made_at f xs size n x made at =
    let within : n < size = omega (arith, slice_get_within xs n x at, ap length made, length-map-range_with_len f 0 size) in
    same_Some x (f n)
    (sym at ∙ slice_get-get_or xs n x (slice_get_within xs n x at)
    ∙ ap Some (ap (λ ys. get_or ys n x) made ∙ get_or-map-range_with_len f 0 size n n x within (omega arith)))

module _ {X : Type 0} (f : X → List ℕ) where
  -- the text of one more of a list
  text_more : (xs : List X) (i : ℕ) (d : X) → i < length xs → flat_map f (take i xs) ++ f (get_or xs i d) ≡ flat_map f (take (i + 1) xs)
  text_more xs i d below =
      ap (λ ys. flat_map f (take i xs) ++ ys) (sym (append-nil (f (get_or xs i d))))
      ∙ sym (flat_map-append f (take i xs) (get_or xs i d ∷ []))
      ∙ ap (flat_map f) (sym (take_more xs i d below))

  -- it was written
  pub item_written : (xs : List X) (i : ℕ) (d : X) (x y z : Option (List ℕ)) → i < length xs
      → Writes {T = Unit {0}} {E = Failed} (Ok tt) (flat_map f (take i xs)) x y → Writes {T = Unit {0}} {E = Failed} (Ok tt) (f (get_or xs i d)) y z
      → Writes {T = Unit {0}} {E = Failed} (Ok tt) (flat_map f (take (i + 1) xs)) x z
  item_written xs i d x y z below before line =
      writes_same (Ok tt) _ _ x z (text_more xs i d below) (writes_then tt (Ok tt) (flat_map f (take i xs)) (f (get_or xs i d)) x y z before line)

  -- the sink failed in it
  pub item_failed : (failed : Failed) (xs : List X) (i : ℕ) (d : X) (x y z : Option (List ℕ)) → i < length xs
      → Writes {T = Unit {0}} {E = Failed} (Ok tt) (flat_map f (take i xs)) x y → Writes {T = Unit {0}} (Err failed) (f (get_or xs i d)) y z
      → Writes {T = Unit {0}} (Err failed) (flat_map f xs) x z
  item_failed failed xs i d x y z below before part =
      let whole : flat_map f (take (i + 1) xs) ++ flat_map f (drop (i + 1) xs) ≡ flat_map f xs =
      sym (flat_map-append f (take (i + 1) xs) (drop (i + 1) xs)) ∙ ap (flat_map f) (take-append-drop (i + 1) xs) in
      let so_far = writes_same (Err failed) _ _ x z (text_more xs i d below) (writes_then tt (Err failed) (flat_map f (take i xs)) (f (get_or xs i d)) x y z before part) in
      writes_same (Err failed) _ _ x z whole (writes_part failed failed (flat_map f (take (i + 1) xs)) (flat_map f (drop (i + 1) xs)) x z so_far)

-- one more entry to be counted
pub counted_more : (plan : Plan) (entries : List Entry) (verdicts : List LinkVerdict) (packets : List (Option Verdict)) (n : ℕ) (l : LinkVerdict) (v : Option Verdict) → AreVerdicts plan entries verdicts packets
    → slice_get verdicts n ≡ Some l → slice_get packets n ≡ Some v
    → map (outcome_of plan entries) (range_with_len 0 n) ++ (l, v) ∷ [] ≡ map (outcome_of plan entries) (range_with_len 0 (n + 1))
counted_more plan entries verdicts packets n l v are at at_packet =
    let it = made_at (link_verdict (setup_of plan) entries) verdicts (length entries) n l are.each at in
    let its_packet = made_at (packet_verdict plan entries) packets (length entries) n v are.each_packet at_packet in
    ap (λ (one : LinkVerdict). let o : Outcome = (one, v) in map (outcome_of plan entries) (range_with_len 0 n) ++ o ∷ []) it
    ∙ ap (λ (one : Option Verdict). let o : Outcome = (link_verdict (setup_of plan) entries n, one) in map (outcome_of plan entries) (range_with_len 0 n) ++ o ∷ []) its_packet
    ∙ sym (map-range_with_len_more (outcome_of plan entries) 0 n n (omega arith))
