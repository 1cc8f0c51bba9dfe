-- The tape after one event more.
use Rattle.std.proofs.Common.{◌≡◌, ℕ, zero, suc, ◌<◌, Bool, true, false, ◌&&◌, cond, List, [], ◌∷◌, ◌++◌, length, set, slice_get, Option, None, Some, inl, inr, refl, ap, sym, ◌∙◌, arith}
use Rattle.std.specs.Prelude.{◌==◌, is_some, option_and_then}
use Rattle.std.specs.Option.{option_map_or}
use Rattle.std.proofs.lemmas.Bool.{cases_eq, and_parts, eq-eqb, ne_eqb, and_left, and_right}
use Rattle.std.proofs.lemmas.List.{length-set}
use Rattle.m17_control.specs.declared.event.Event.{Event}
use Rattle.m17_floor.specs.declared.verdict.Verdict.{Verdict}
use Rattle.m17_lookup.specs.Lookup.{last_below}
use Rattle.m17_lookup.proofs.LastBelow.{last_below_same, last_below_lt, last_below_suc, and_then_same}
use Rattle.m17_floor.specs.Acts.{is_packet}
use Rattle.m17_floor.specs.Floor.{verdict_at}
use Rattle.m17_floor.specs.Laws.{LaterActsChangeNoVerdict}
use Rattle.m17_module.specs.Events.{acts_of, kind_of}
use Rattle.m17_module.specs.Items.{Setup, floor_setup}
use Rattle.m17_worker.specs.Underway.{filled}
use Rattle.m17_worker.specs.Tape.{is_packet_of, position_of, verdict_on, IsTaped}
use Rattle.m17_worker.proofs.Lists.{slice_get_before, slice_get_end, length_more}
use Rattle.m17_worker.proofs.Gathered.{acts_append, length_acts}

-- no event, no position
pub none_taped : (setup : Setup) (index : ℕ) → verdict_on setup [] index ≡ None
unfolding last_below position_of
none_taped setup index = refl

-- whether the event at a position is the one that is sought
abbrev test_of : List Event → ℕ → ℕ → Bool
test_of events index n = option_map_or (is_packet_of index) (slice_get events n) false

position_more : (events : List Event) (event : Event) (index : ℕ)
    → position_of (events ++ event ∷ []) index ≡ cond (is_packet_of index event) (Some (length events)) (position_of events index)
unfolding position_of
position_more events event index =
    let longer : List Event = events ++ event ∷ [] in
    ap (last_below (test_of longer index)) (length_more events event)
    ∙ last_below_suc (test_of longer index) (length events)
    ∙ ap (λ o. cond (option_map_or (is_packet_of index) o false) (Some (length events)) (last_below (test_of longer index) (length events))) (slice_get_end events event)
    ∙ ap (λ o. cond (is_packet_of index event) (Some (length events)) o)
    (last_below_same (test_of longer index) (test_of events index) (length events)
    (λ m l. ap (λ o. option_map_or (is_packet_of index) o false) (slice_get_before events (event ∷ []) m l)))

position_lt : (events : List Event) (index n : ℕ) → position_of events index ≡ Some n → n < length events
unfolding position_of
position_lt events index n e = last_below_lt (test_of events index) (length events) n e

-- the verdict on an entry, if the event is its packet, and if not
verdict_here : (setup : Setup) (events : List Event) (event : Event) (index : ℕ) → is_packet_of index event ≡ true
    → verdict_on setup (events ++ event ∷ []) index ≡ verdict_at (floor_setup setup) (acts_of (events ++ event ∷ [])) (length events)
verdict_here setup events event index is =
    ap (option_and_then (verdict_at (floor_setup setup) (acts_of (events ++ event ∷ []))))
    (position_more events event index ∙ ap (λ b. cond b (Some (length events)) (position_of events index)) is)

verdict_else : LaterActsChangeNoVerdict → (setup : Setup) (events : List Event) (event : Event) (index : ℕ) → is_packet_of index event ≡ false
    → verdict_on setup (events ++ event ∷ []) index ≡ verdict_on setup events index
verdict_else later setup events event index is =
    ap (option_and_then (verdict_at (floor_setup setup) (acts_of (events ++ event ∷ []))))
    (position_more events event index ∙ ap (λ b. cond b (Some (length events)) (position_of events index)) is)
    ∙ and_then_same (position_of events index) (verdict_at (floor_setup setup) (acts_of (events ++ event ∷ []))) (verdict_at (floor_setup setup) (acts_of events))
    (λ n e. ap (λ acts. verdict_at (floor_setup setup) acts n) (acts_append events (event ∷ []))
    ∙ later (floor_setup setup) (acts_of events) (acts_of (event ∷ [])) n (omega (arith, position_lt events index n e, length_acts events)))

pub set_here : {A : Type 0} (xs : List A) (i : ℕ) (x : A) → i < length xs → slice_get (set xs i x) i ≡ Some x
set_here [] i x lt = absurd (omega arith)
set_here (y ∷ xs) zero x lt = refl
set_here (y ∷ xs) (suc i) x lt = set_here xs i x (omega arith)

pub set_else : {A : Type 0} (xs : List A) (i j : ℕ) (x : A) → (j ≡ i → ⊥) → slice_get (set xs i x) j ≡ slice_get xs j
set_else [] i j x ne = refl
set_else (y ∷ xs) zero zero x ne = absurd (ne refl)
set_else (y ∷ xs) zero (suc j) x ne = refl
set_else (y ∷ xs) (suc i) zero x ne = refl
set_else (y ∷ xs) (suc i) (suc j) x ne = set_else xs i j x (λ e. ne (ap suc e))

-- the tape is as long as before
filled_length : (tape : List (Option Verdict)) (event : Event) (verdict : Option Verdict) (b : Bool)
    → length (cond b (set tape event.tag.index verdict) tape) ≡ length tape
filled_length tape event verdict true = length-set tape event.tag.index verdict
filled_length tape event verdict false = refl

pub as_long : (tape : List (Option Verdict)) (event : Event) (verdict : Option Verdict) → length (filled tape event verdict) ≡ length tape
as_long tape event verdict = filled_length tape event verdict ((event.tag.link == 0) && is_some verdict)

no_hit : (a b c : Bool) → (a && c) ≡ false → (a && (b && c)) ≡ false
no_hit true true c h = h
no_hit true false c h = refl
no_hit false b c h = refl

cell_is : LaterActsChangeNoVerdict → (setup : Setup) (events : List Event) (event : Event) (verdict : Option Verdict) (tape : List (Option Verdict)) (b : Bool)
    → b ≡ ((event.tag.link == 0) && is_packet (kind_of event.body))
    → verdict ≡ verdict_at (floor_setup setup) (acts_of (events ++ event ∷ [])) (length events)
    → IsTaped setup events tape → (index : ℕ) → index < length tape
    → slice_get (cond b (set tape event.tag.index verdict) tape) index ≡ Some (verdict_on setup (events ++ event ∷ []) index)
cell_is later setup events event verdict tape true is told h index lt =
    let parts = and_parts (event.tag.link == 0) (is_packet (kind_of event.body)) (sym is) in
    elim (cases_eq index event.tag.index) [
      | inl same ↦
          let hit : is_packet_of index event ≡ true =
          ap (λ b. b && ((index == event.tag.index) && is_packet (kind_of event.body))) parts.0
          ∙ ap (λ b. b && is_packet (kind_of event.body)) (eq-eqb index event.tag.index same) ∙ parts.1 in
          ap (λ i. slice_get (set tape event.tag.index verdict) i) same
          ∙ set_here tape event.tag.index verdict (omega (arith, lt, same))
          ∙ ap Some (told ∙ sym (verdict_here setup events event index hit))
      | inr ne ↦
          let miss : is_packet_of index event ≡ false =
          and_right (event.tag.link == 0) ((index == event.tag.index) && is_packet (kind_of event.body))
          (and_left (index == event.tag.index) (is_packet (kind_of event.body)) (ne_eqb index event.tag.index ne)) in
          set_else tape event.tag.index index verdict ne ∙ h index lt ∙ ap Some (sym (verdict_else later setup events event index miss))
    ]
cell_is later setup events event verdict tape false is told h index lt =
    h index lt ∙ ap Some (sym (verdict_else later setup events event index (no_hit (event.tag.link == 0) (index == event.tag.index) (is_packet (kind_of event.body)) (sym is))))

pub taped_more : LaterActsChangeNoVerdict → (setup : Setup) (events : List Event) (event : Event) (verdict : Option Verdict) (tape : List (Option Verdict))
    → is_some verdict ≡ is_packet (kind_of event.body)
    → verdict ≡ verdict_at (floor_setup setup) (acts_of (events ++ event ∷ [])) (length events)
    → IsTaped setup events tape → IsTaped setup (events ++ event ∷ []) (filled tape event verdict)
taped_more later setup events event verdict tape packet told h index lt =
    cell_is later setup events event verdict tape ((event.tag.link == 0) && is_some verdict) (ap (λ b. (event.tag.link == 0) && b) packet) told h
    index (omega (arith, lt, as_long tape event verdict))
