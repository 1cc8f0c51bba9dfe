-- The seats that `make` hands out.
use Rattle.std.proofs.Common.{◌≡◌, ℕ, zero, suc, ◌+◌, ◌<◌, List, [], ◌∷◌, ◌++◌, get_or, replicate, sym, refl, ap, ◌∙◌, subst, arith}
use Rattle.std.specs.Arc.{arc_value}
use Rattle.std.proofs.lemmas.List.{replicate-append-replicate}
use Rattle.atomic_table.specs.Table.{Me}
use Rattle.m17_roll.specs.declared.rule.Notes.{Notes}
use Rattle.m17_roll.specs.declared.seat.RollSeat.TheInside.{Inside}
use Rattle.m17_roll.specs.Seat.{RollView, new_seat}
use Rattle.m17_roll.specs.Notes.{newcomer}
use Rattle.m17_roll.specs.SeatModel.{seat_view, IsSeated}
use Rattle.m17_roll.proofs.Seated.{view_at}

abbrev pair_of : ℕ → Me (Unit {0}) Notes
pair_of p = (newcomer p 1, [])

abbrev left_of : ℕ → ℕ → Me (Unit {0}) Notes
left_of p k = (newcomer p k, [])

-- words that were written as 0
pub none_taken : (n q : ℕ) → ◌≡◌ {A = ℕ} (get_or (replicate n 0) q 0) 0
none_taken zero q = refl
none_taken (suc n) zero = refl
none_taken (suc n) (suc q) = none_taken n q

-- a seat that has done nothing is in order
pub new_seated : (s : Inside) → s.seat.table_id ≡ (arc_value s.table).shared.table_id → (arc_value s.table).shared.table_id.words ≡ s.places
    → (arc_value s.table).shared.key.places ≡ s.places → 0 < s.places → ◌≡◌ {A = Me (Unit {0}) Notes} s.seat.me (newcomer s.places 1, [])
    → IsSeated s
new_seated s fits words key more me =
    let same : s.seat.me.0 ≡ newcomer s.places 1 = ap (λ (m : Me (Unit {0}) Notes). m.0) me in record {
      fits = fits;
      words = words;
      key = key;
      some_place = more;
      same = ap (λ (u : Notes). u.places) same;
      one = ap (λ (u : Notes). u.parts) same;
      no_slot = ap (λ (m : Me (Unit {0}) Notes). m.1) me;
      alone = ap (λ (u : Notes). u.finished) same;
      falls = rw same (λ i j d a b. absurd (omega arith));
      rises = rw same (λ i j d a b. absurd (omega arith));
    }

pub new_viewed : (s : Inside) → ◌≡◌ {A = Me (Unit {0}) Notes} s.seat.me (newcomer s.places 1, [])
    → seat_view s ≡ new_seat (arc_value s.table).shared.table_id (arc_value s.table).shared.key.seats s.places
new_viewed s me = ap (λ (m : Me (Unit {0}) Notes). view_at s m) me

pub one_more : (n : ℕ) (v : RollView) → replicate n v ++ v ∷ [] ≡ replicate (n + 1) v
one_more n v = replicate-append-replicate n 1 v

-- n seats were handed out, all alike, and the one that is left is the others
pub record IsDealt (s : Inside) (seats n : ℕ) (items : List RollView) : Type 0 where
  pub fits : s.seat.table_id ≡ (arc_value s.table).shared.table_id
  pub words : (arc_value s.table).shared.table_id.words ≡ s.places
  pub key : (arc_value s.table).shared.key.places ≡ s.places
  pub all : (arc_value s.table).shared.key.seats ≡ seats
  pub parts : ℕ
  pub me : ◌≡◌ {A = Me (Unit {0}) Notes} s.seat.me (newcomer s.places parts, [])
  pub left : parts + n ≡ seats
  pub same : items ≡ replicate n (new_seat (arc_value s.table).shared.table_id seats s.places)

-- before the last seat the one that is left can be cut
pub many : (s : Inside) (seats n : ℕ) (items : List RollView) → IsDealt s seats n items → n + 1 < seats → 1 < s.seat.me.0.parts
many s seats n items d lt =
    let parts : s.seat.me.0.parts ≡ d.parts = ap (λ (m : Me (Unit {0}) Notes). m.0.parts) d.me in let left = d.left in omega arith

-- the seat that was cut off
pub other_me : (s t : Inside) (seats n : ℕ) (items : List RollView) → IsDealt s seats n items → t.places ≡ s.places
    → ◌≡◌ {A = Me (Unit {0}) Notes} t.seat.me (newcomer s.seat.me.0.places 1, []) → ◌≡◌ {A = Me (Unit {0}) Notes} t.seat.me (newcomer t.places 1, [])
other_me s t seats n items d places me =
    let same : s.seat.me.0.places ≡ t.places = ap (λ (m : Me (Unit {0}) Notes). m.0.places) d.me ∙ sym places in
    me ∙ ap (λ (p : ℕ). pair_of p) same

pub other_seated : (s t : Inside) (seats n : ℕ) (items : List RollView) → IsDealt s seats n items → 0 < s.places
    → arc_value t.table ≡ arc_value s.table → t.seat.table_id ≡ s.seat.table_id → t.places ≡ s.places
    → ◌≡◌ {A = Me (Unit {0}) Notes} t.seat.me (newcomer s.seat.me.0.places 1, []) → IsSeated t
other_seated s t seats n items d more table same places me =
    new_seated t (same ∙ (d.fits ∙ sym (ap (λ u. u.shared.table_id) table)))
    (ap (λ u. u.shared.table_id.words) table ∙ (d.words ∙ sym places)) (ap (λ u. u.shared.key.places) table ∙ (d.key ∙ sym places))
    (subst (λ (p : ℕ). 0 < p) (sym places) more) (other_me s t seats n items d places me)

-- the last seat is the one that is left
last_me : (s : Inside) (seats n : ℕ) (items : List RollView) → IsDealt s seats n items → n + 1 ≡ seats
    → ◌≡◌ {A = Me (Unit {0}) Notes} s.seat.me (newcomer s.places 1, [])
last_me s seats n items d e =
    let one : d.parts ≡ 1 = (let left = d.left in omega arith) in d.me ∙ ap (λ (k : ℕ). left_of s.places k) one

pub last_seated : (s : Inside) (seats n : ℕ) (items : List RollView) → IsDealt s seats n items → 0 < s.places → n + 1 ≡ seats → IsSeated s
last_seated s seats n items d more e = new_seated s d.fits d.words d.key more (last_me s seats n items d e)

pub last_viewed : (s : Inside) (seats n : ℕ) (items all : List RollView) → IsDealt s seats n items → n + 1 ≡ seats
    → all ≡ items ++ seat_view s ∷ [] → all ≡ replicate seats (new_seat (arc_value s.table).shared.table_id seats s.places)
last_viewed s seats n items all d e is =
    is ∙ ap (λ (xs : List RollView). xs ++ seat_view s ∷ []) d.same
    ∙ ap (λ (u : RollView). replicate n (new_seat (arc_value s.table).shared.table_id seats s.places) ++ u ∷ [])
    (new_viewed s (last_me s seats n items d e) ∙ ap (λ (k : ℕ). new_seat (arc_value s.table).shared.table_id k s.places) d.all)
    ∙ one_more n (new_seat (arc_value s.table).shared.table_id seats s.places)
    ∙ ap (λ (k : ℕ). replicate k (new_seat (arc_value s.table).shared.table_id seats s.places)) e
