-- A seat stays in order at each kind of step.
use Rattle.std.proofs.Common.{◌≡◌, ◌≢◌, ℕ, suc, ◌/◌, ◌<◌, ◌≤◌, List, [], ◌∷◌, ◌++◌, sym, refl, ap, ◌∙◌, subst, inr, append_assoc, arith}
use Rattle.std.specs.Arc.{arc_value}
use Rattle.std.proofs.lemmas.List.Quantifiers.{all_pairs_push}
use Rattle.atomic_table.specs.Table.{Me}
use Rattle.atomic_table.specs.declared.shared.Seat.{Seat}
use Rattle.m17_values.specs.declared.member.Member.{Member}
use Rattle.m17_roll.specs.declared.rule.Notes.{Notes}
use Rattle.m17_roll.specs.declared.rule.Sighting.{Sighting}
use Rattle.m17_roll.specs.declared.seat.RollSeat.TheInside.{Inside}
use Rattle.m17_roll.specs.Sightings.{sighting, member, NeverFalls, RisesAtPlaces, IsNotBelow, IsNewAt, IsTaken}
use Rattle.m17_roll.specs.Seat.{RollView, with_refused, PassesAt}
use Rattle.m17_roll.specs.Notes.{sees, claiming, refusing}
use Rattle.m17_roll.specs.Rule.{LookedFor, ClaimedFor}
use Rattle.m17_roll.specs.SeatModel.{seat_view, IsSeated}

-- the seat's notes became v
pub reseat : (s : Inside) (seat : Seat (Unit {0}) Notes) (v : Notes) → IsSeated s → seat.table_id ≡ s.seat.table_id
    → ◌≡◌ {A = Me (Unit {0}) Notes} seat.me (v, s.seat.me.1)
    → v.places ≡ s.seat.me.0.places → v.parts ≡ s.seat.me.0.parts → v.finished ≡ s.seat.me.0.finished
    → NeverFalls v.seen → RisesAtPlaces v.claimed
    → IsSeated record { table = s.table; seat = seat; places = s.places }
reseat s seat v in_order same_table me places parts finished falls rises =
    let same : seat.me.0 ≡ v = ap (λ (m : Me (Unit {0}) Notes). m.0) me in record {
      fits = same_table ∙ in_order.fits;
      words = in_order.words;
      key = in_order.key;
      some_place = in_order.some_place;
      same = ap (λ (u : Notes). u.places) same ∙ (places ∙ in_order.same);
      one = ap (λ (u : Notes). u.parts) same ∙ (parts ∙ in_order.one);
      no_slot = ap (λ (m : Me (Unit {0}) Notes). m.1) me ∙ in_order.no_slot;
      alone = ap (λ (u : Notes). u.finished) same ∙ (finished ∙ in_order.alone);
      falls = subst (λ (u : Notes). NeverFalls u.seen) (sym same) falls;
      rises = subst (λ (u : Notes). RisesAtPlaces u.claimed) (sym same) rises;
    }

-- one word more was seen
pub falls_more : (seen : List Sighting) (q r : ℕ) → NeverFalls seen → IsNotBelow seen q r → NeverFalls (seen ++ sighting q r ∷ [])
falls_more seen q r falls below =
    all_pairs_push (λ x y. x.place ≡ y.place → x.word ≤ y.word) seen (sighting q r) falls below

-- one member more was claimed
pub rises_more : (claimed : List Member) (q g : ℕ) → RisesAtPlaces claimed → IsNewAt claimed q g → RisesAtPlaces (claimed ++ member q g ∷ [])
rises_more claimed q g rises newer =
    all_pairs_push (λ a b. a.place ≡ b.place → a.generation < b.generation) claimed (member q g) rises newer

-- a look of a claim that found the place taken, and refused askers
pub look_taken : (s : Inside) (seat : Seat (Unit {0}) Notes) (q r : ℕ) (who : List ℕ) → IsSeated s → seat.table_id ≡ s.seat.table_id
    → LookedFor who s.seat.me q r seat.me → IsTaken r → IsSeated record { table = s.table; seat = seat; places = s.places }
look_taken s seat q r who in_order same_table look found =
    reseat s seat (refusing (sees s.seat.me.0 q r) who) in_order same_table (look.taken found) refl refl refl
    (falls_more s.seat.me.0.seen q r in_order.falls look.not_below) in_order.rises

-- a look of a claim that found the place free
pub look_free : (s : Inside) (seat : Seat (Unit {0}) Notes) (q r : ℕ) (who : List ℕ) → IsSeated s → seat.table_id ≡ s.seat.table_id
    → LookedFor who s.seat.me q r seat.me → ¬ IsTaken r → IsSeated record { table = s.table; seat = seat; places = s.places }
look_free s seat q r who in_order same_table look found =
    reseat s seat (sees s.seat.me.0 q r) in_order same_table (look.free found) refl refl refl
    (falls_more s.seat.me.0.seen q r in_order.falls look.not_below) in_order.rises

-- a lost exchange of a claim
pub lost : (s : Inside) (seat : Seat (Unit {0}) Notes) (q old r : ℕ) (who : List ℕ) → IsSeated s → seat.table_id ≡ s.seat.table_id
    → ClaimedFor who s.seat.me q old r seat.me → r ≢ old → IsSeated record { table = s.table; seat = seat; places = s.places }
lost s seat q old r who in_order same_table exchange miss =
    reseat s seat (refusing (sees s.seat.me.0 q r) who) in_order same_table (exchange.lost miss).0 refl refl refl
    (falls_more s.seat.me.0.seen q r in_order.falls (exchange.lost miss).1) in_order.rises

-- a won exchange of a claim
pub won : (s : Inside) (seat : Seat (Unit {0}) Notes) (q old r : ℕ) (who : List ℕ) → IsSeated s → seat.table_id ≡ s.seat.table_id
    → ClaimedFor who s.seat.me q old r seat.me → r ≡ old → IsSeated record { table = s.table; seat = seat; places = s.places }
won s seat q old r who in_order same_table exchange hit =
    reseat s seat (claiming s.seat.me.0 q (old / 2)) in_order same_table (exchange.won hit).0 refl refl refl
    in_order.falls (rises_more s.seat.me.0.claimed q (old / 2) in_order.rises (exchange.won hit).1)

-- no word that is not below a seen one is below it
last_le : (seen : List Sighting) (q w x : ℕ) → IsNotBelow (seen ++ sighting q w ∷ []) q x → w ≤ x
last_le [] q w x h = h 0 (sighting q w) (omega arith) refl
last_le (y ∷ ys) q w x h = last_le ys q w x (λ k d lt. h (suc k) d (omega arith))

abbrev seen_by : Inside → Seat (Unit {0}) Notes → RollView
seen_by s seat = seat_view record { table = s.table; seat = seat; places = s.places }

-- what contracts see of a seat that has these notes
abbrev pub view_at : Inside → Me (Unit {0}) Notes → RollView
view_at s m = record {
  roll = (arc_value s.table).shared.table_id;
  seats = (arc_value s.table).shared.key.seats;
  places = s.places;
  claimed = m.0.claimed;
  given = m.0.given;
  missed = m.0.missed;
  refused = m.0.refused;
  seen = m.0.seen;
}

abbrev pair_of : Me (Unit {0}) Notes → ℕ → ℕ → List ℕ → Me (Unit {0}) Notes
pair_of m q r who = (refusing (sees m.0 q r) who, m.1)

-- what a claim's look at a free place did, and then its lost exchange
pub passes_two : (s : Inside) (one two : Seat (Unit {0}) Notes) (q old r : ℕ) (who : List ℕ)
    → LookedFor who s.seat.me q old one.me → ¬ IsTaken old → ClaimedFor who one.me q old r two.me → r ≢ old → q < s.places
    → PassesAt (seat_view s) q who (seen_by s two)
passes_two s one two q old r who look free exchange miss in_roll =
    let before = s.seat.me.0 in
    let at : ◌≡◌ {A = Me (Unit {0}) Notes} one.me (sees before q old, s.seat.me.1) = look.free free in
    let below = subst (λ (m : Me (Unit {0}) Notes). IsNotBelow m.0.seen q r) at (exchange.lost miss).1 in
    let le = last_le before.seen q old r below in
    let then : ◌≡◌ {A = Me (Unit {0}) Notes} two.me (refusing (sees (sees before q old) q r) who, s.seat.me.1) =
    (exchange.lost miss).0 ∙ ap (λ (m : Me (Unit {0}) Notes). pair_of m q r who) at in record {
      looks = sighting q old ∷ sighting q r ∷ [];
      few = omega arith;
      in_roll = in_roll;
      taken = inr (0, 1, old, r, omega arith, refl, refl, omega arith);
      after = ap (λ (m : Me (Unit {0}) Notes). view_at s m) then
          ∙ ap (λ (xs : List Sighting). with_refused (record (seat_view s) { seen = xs }) who) (append_assoc before.seen (sighting q old ∷ []) (sighting q r ∷ []));
    }
