-- The link of a trace was lost exactly where 16 faults in a row stand in it.
use Rattle.std.proofs.Common.{◌≡◌, ◌⊎◌, ℕ, zero, suc, ◌+◌, ◌-◌, ◌<◌, ◌≤◌, true, false, leb, List, [], ◌∷◌, ◌++◌, length, take, drop, get_or, slice_get, Some, inl, inr, refl, ap, sym, subst, ◌∙◌, append_assoc, length-append, length-drop, arith}
use Rattle.std.specs.List.{list_all, range_with_len}
use Rattle.std.proofs.lemmas.Bool.{and_parts, or_cases, cases_Bool, cases_lt, false≢true, both_ways, leb-true}
use Rattle.std.proofs.lemmas.List.{append-nil, length-replicate, take-append-drop, nil_from_length}
use Rattle.std.proofs.lemmas.Option.{none-some, same_Some, slice_get-get_or, slice_get_within}
use Rattle.m17_lists.proofs.Places.{all_alike_are_copies, each_copy_is_it, places_before_stay, places_behind_follow, dropped_moves_places}
use Rattle.m17_values.specs.declared.heard.Heard.{Heard}
use Rattle.m17_values.specs.declared.heard.Heard.TheVariants as heard
use Rattle.m17_book.specs.Book.{IsTrace}
use Rattle.m17_book.specs.Entries.{FitsEntry, SpellsEntry}
use Rattle.m17_book.specs.Laws.{TracesAreExact}
use Rattle.m17_book.specs.Limits.{SpellsEach}
use Rattle.m17_directory.specs.Entries.{Entry, Notice, Says, SaysEach, notice_at, ends_at, is_end, is_fault, most_faults}
use Rattle.m17_plan.specs.declared.plan.Plan.{Plan}
use Rattle.m17_house.specs.Laws.{FaultsEndIt, sixteen_faults}
use Rattle.m17_house.specs.Replay.{IsReplayOf}
use Rattle.m17_replay.specs.Laws.{HasSixteenFaults, LostBySixteenFaults}
use Rattle.m17_replay.specs.Replay.{is_lost}
use Rattle.m17_replay.specs.Run.{is_fault_heard}
use Rattle.m17_replay.proofs.HeardLemmas.{length_says, says_at, says_fault}

-- what was heard, by what it says
is_the_fault : (h : Heard) → is_fault_heard h ≡ true → h ≡ heard.Fault
is_the_fault (heard.Datagram from at bytes) is = absurd (false≢true is)
is_the_fault (heard.Quiet at) is = absurd (false≢true is)
is_the_fault heard.Fault is = refl
is_the_fault heard.End is = absurd (false≢true is)

fault_is_no_end : (notice : Notice) → is_fault notice ≡ true → is_end notice ≡ true → ⊥
fault_is_no_end (Notice.Sent from at p) f e = false≢true f
fault_is_no_end (Notice.Garbled from at r) f e = false≢true f
fault_is_no_end (Notice.Quiet at) f e = false≢true f
fault_is_no_end Notice.Fault f e = false≢true e
fault_is_no_end Notice.End f e = false≢true f

says_end : (h : Heard) (notice : Notice) → Says h notice → is_end notice ≡ true → h ≡ heard.End
says_end (heard.Datagram from at bytes) notice says is = elim says [
  | inl sent ↦ absurd (false≢true (sym (ap is_end sent.2) ∙ is))
  | inr garbled ↦ absurd (false≢true (sym (ap is_end garbled.2) ∙ is))
]
says_end (heard.Quiet at) notice says is = absurd (false≢true (sym (ap is_end says) ∙ is))
says_end heard.Fault notice says is = absurd (false≢true (sym (ap is_end says) ∙ is))
says_end heard.End notice says is = refl

-- an entry of a trace is no end
no_end : (entries : List Heard) (body : List ℕ) (i : ℕ) → SpellsEach SpellsEntry entries body → slice_get entries i ≡ Some heard.End → ⊥
no_end [] body i each is = none-some heard.End is
no_end (h ∷ entries) body zero each is = subst FitsEntry (same_Some h heard.End is) each.2.0
no_end (h ∷ entries) body (suc i) each is = no_end entries each.1 i each.3 is

-- a link that ends at a fault ends at the last of a row of 16
pub row_at : (entries : List Entry) (a m i : ℕ) → list_all (λ k. is_fault (notice_at entries k)) (range_with_len a m) ≡ true → a ≤ i → i < a + m → is_fault (notice_at entries i) ≡ true
row_at entries a zero i row from below = absurd (omega arith)
row_at entries a (suc m) i row from below =
    let parts = and_parts (is_fault (notice_at entries a)) (list_all (λ k. is_fault (notice_at entries k)) (range_with_len (a + 1) m)) row in
    elim (cases_lt a i) [
      | inl later ↦ row_at entries (a + 1) m i parts.1 (omega arith) (omega arith)
      | inr first ↦ let e : a ≡ i = omega arith in subst (λ (n : ℕ). is_fault (notice_at entries n) ≡ true) e parts.0
    ]

pub row_of : (entries : List Entry) (n : ℕ) → ends_at entries n ≡ true
    → (is_end (notice_at entries n) ≡ true) ⊎ ((most_faults ≤ suc n) × (list_all (λ k. is_fault (notice_at entries k)) (range_with_len (suc n - most_faults) most_faults) ≡ true))
unfolding ends_at
row_of entries n ends = elim (or_cases (is_end (notice_at entries n)) _ ends) [
  | inl end ↦ inl end
  | inr row ↦
      let parts = and_parts (leb most_faults (suc n)) (list_all (λ k. is_fault (notice_at entries k)) (range_with_len (suc n - most_faults) most_faults)) row in
      inr (leb-true most_faults (suc n) parts.0, parts.1)
]

module _ (plan : Plan) (heards : List Heard) (entries : List Entry) (r : IsReplayOf plan heards entries) where
  size : length r.front ≡ length entries
  size = length_says r.front entries r.says

  -- the entry that ended the link, by either name
  last_is : length entries - 1 ≡ r.ends.last
  last_is = omega (arith, r.ends.is_last)

  heard_at : (i : ℕ) → i < length r.front → slice_get r.front i ≡ Some (get_or r.front i heard.Fault)
  heard_at i below = slice_get-get_or r.front i heard.Fault below

  fault_at : (i : ℕ) → i < length r.front → is_fault (notice_at entries i) ≡ true → slice_get r.front i ≡ Some heard.Fault
  fault_at i below is =
      let h = get_or r.front i heard.Fault in
      let at = heard_at i below in
      let fault : h ≡ heard.Fault = is_the_fault h (sym (says_fault h (notice_at entries i) (says_at r.front entries i h r.says at)) ∙ is) in
      at ∙ ap Some fault

  -- a link that was lost heard 16 faults last
  row_there : is_fault (notice_at entries r.ends.last) ≡ true
      → (most_faults ≤ suc r.ends.last) × (list_all (λ k. is_fault (notice_at entries k)) (range_with_len (suc r.ends.last - most_faults) most_faults) ≡ true)
  row_there is = elim (row_of entries r.ends.last r.ends.ends) [
    | inl end ↦ absurd (fault_is_no_end (notice_at entries r.ends.last) is end)
    | inr row ↦ row
  ]

  pub heard_last : is_fault (notice_at entries r.ends.last) ≡ true → HasSixteenFaults heards
  heard_last is =
      let row = row_there is in
      let k = suc r.ends.last - most_faults in
      let long : length (drop k r.front) ≡ most_faults = omega (arith, length-drop k r.front, size, r.ends.is_last, row.0) in
      let faults : drop k r.front ≡ sixteen_faults =
      all_alike_are_copies heard.Fault (drop k r.front) most_faults long
      (λ i below. dropped_moves_places r.front k i (k + i) refl ∙ fault_at (k + i) (omega (arith, size, r.ends.is_last, row.0)) (row_at entries k most_faults (k + i) row.1 (omega arith) (omega arith))) in
      (take k r.front, r.rest, r.heard_is ∙ ap (λ (hs : List Heard). hs ++ r.rest) (sym (take-append-drop k r.front) ∙ ap (λ (hs : List Heard). take k r.front ++ hs) faults))

  -- and one that was not, its end
  ended_by_end : is_fault (notice_at entries r.ends.last) ≡ false → is_end (notice_at entries r.ends.last) ≡ true
  ended_by_end is_not = elim (row_of entries r.ends.last r.ends.ends) [
    | inl end ↦ end
    | inr row ↦
        absurd (both_ways (is_fault (notice_at entries r.ends.last)) is_not
        (row_at entries (suc r.ends.last - most_faults) most_faults r.ends.last row.1 (omega arith) (omega (arith, row.0))))
  ]

  module _ (bytes : List ℕ) (trace : IsTrace bytes heards) where
    -- behind the end of a trace nothing is left
    nothing_left : is_end (notice_at entries r.ends.last) ≡ true → r.rest ≡ []
    nothing_left is =
        let n = r.ends.last in
        let inside : n < length r.front = omega (arith, size, r.ends.is_last) in
        let h = get_or r.front n heard.Fault in
        let at = heard_at n inside in
        let is_the_end : h ≡ heard.End = says_end h (notice_at entries n) (says_at r.front entries n h r.says at) is in
        let lists : trace.1 ++ heard.End ∷ [] ≡ r.front ++ r.rest = sym trace.4 ∙ r.heard_is in
        let there : slice_get (trace.1 ++ heard.End ∷ []) n ≡ Some heard.End =
        ap (λ (hs : List Heard). slice_get hs n) lists ∙ places_before_stay r.front r.rest n inside ∙ at ∙ ap Some is_the_end in
        let at_end : length trace.1 ≤ n = elim (cases_lt n (length trace.1)) [
          | inl below ↦ absurd (no_end trace.1 trace.3.0 n trace.3.1 (sym (places_before_stay trace.1 (heard.End ∷ []) n below) ∙ there))
          | inr not_below ↦ not_below
        ] in
        nil_from_length r.rest (omega (arith, at_end, size, r.ends.is_last, ap length lists, length-append trace.1 (heard.End ∷ []), length-append r.front r.rest))

    not_otherwise : FaultsEndIt → HasSixteenFaults heards → is_fault (notice_at entries r.ends.last) ≡ false → ⊥
    not_otherwise law has is_not =
        let all : r.front ≡ heards =
        sym (append-nil r.front) ∙ ap (λ (hs : List Heard). r.front ++ hs) (sym (nothing_left (ended_by_end is_not))) ∙ sym r.heard_is in
        let says = subst (λ (hs : List Heard). SaysEach hs entries) (all ∙ has.2) r.says in
        let p = length has.0 + 15 in
        let there : slice_get (has.0 ++ sixteen_faults ++ has.1) p ≡ Some heard.Fault =
        ap (λ (hs : List Heard). slice_get hs p) (append_assoc has.0 sixteen_faults has.1)
        ∙ places_behind_follow has.0 (sixteen_faults ++ has.1) 15 p refl
        ∙ places_before_stay sixteen_faults has.1 15 (omega (arith, length-replicate 16 heard.Fault))
        ∙ each_copy_is_it heard.Fault 16 15 (omega arith) in
        let within : p < length entries = omega (arith, slice_get_within (has.0 ++ sixteen_faults ++ has.1) p heard.Fault there, length_says (has.0 ++ sixteen_faults ++ has.1) entries says) in
        let fault : is_fault (notice_at entries p) ≡ true =
        says_fault heard.Fault (notice_at entries p) (says_at (has.0 ++ sixteen_faults ++ has.1) entries p heard.Fault says there) in
        elim (cases_lt p r.ends.last) [
          | inl below ↦ both_ways (ends_at entries p) (r.ends.not_before p below) (law.at_the_last has.0 has.1 entries says)
          | inr not_below ↦
              let e : p ≡ r.ends.last = omega (arith, within, r.ends.is_last) in
              both_ways (is_fault (notice_at entries r.ends.last)) is_not (subst (λ (n : ℕ). is_fault (notice_at entries n) ≡ true) e fault)
        ]

    pub lost_if : FaultsEndIt → HasSixteenFaults heards → is_fault (notice_at entries r.ends.last) ≡ true
    lost_if law has = elim (cases_Bool (is_fault (notice_at entries r.ends.last))) [
      | inl is ↦ is
      | inr is_not ↦ absurd (not_otherwise law has is_not)
    ]

pub lost_by_faults : TracesAreExact → FaultsEndIt → LostBySixteenFaults
lost_by_faults exact law plan summary lost bytes text heards r trace =
    let same : r.heard ≡ heards = exact.one_value bytes r.heard heards r.is_trace trace in
    let there : IsReplayOf plan heards r.entries = subst (λ (hs : List Heard). IsReplayOf plan hs r.entries) same r.is_replay in
    let by : is_lost r.entries ≡ is_fault (notice_at r.entries there.ends.last) = ap (λ n. is_fault (notice_at r.entries n)) (last_is plan heards r.entries there) in (
      λ is. heard_last plan heards r.entries there (sym by ∙ r.is_lost_so ∙ is),
      λ has. sym r.is_lost_so ∙ by ∙ lost_if plan heards r.entries there bytes trace law has,
    )
