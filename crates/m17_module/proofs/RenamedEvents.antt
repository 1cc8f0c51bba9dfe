-- The same events of other members, position by position, and what the floor sees of them.
use Rattle.std.proofs.Common.{◌≡◌, ℕ, zero, suc, ◌<◌, ◌≤◌, Bool, true, List, [], ◌∷◌, length, map, slice_get, option_and_then, Option, None, Some, refl, ap, sym, ◌∙◌, arith}
use Rattle.std.proofs.lemmas.Option.{same_Some}
use Rattle.m17_floor.specs.declared.act.ActKind.TheVariants as act
use Rattle.m17_floor.specs.Acts.{kind_at, is_same, is_join_of, settles, joined_at}
use Rattle.m17_values.specs.declared.member.Member.{Member}
use Rattle.m17_control.specs.declared.event.Body.{Body}
use Rattle.m17_control.specs.declared.event.Body.TheVariants as body
use Rattle.m17_control.specs.declared.event.Event.{Event}
use Rattle.m17_control.specs.Renamed.{joiner_of, leaver_of, joiner_at, LeavesBetween, TakeFreePlaces, IsRenamedBody, IsRenamedEvent, AreRenamedEvents}
use Rattle.m17_floor.specs.declared.act.Act.{Act}
use Rattle.m17_floor.specs.Renamed as floor
use Rattle.m17_floor.specs.Renamed.{IsRenamedKind, unnamed_verdict}
use Rattle.m17_floor.specs.Laws as floor_law
use Rattle.m17_module.specs.Setup.{floor_setup}
use Rattle.m17_module.specs.Events.{kind_of, acts_of}
use Rattle.m17_module.specs.Laws.{AreFreelyRenamed, RenamingChangesNoVerdict}
use Rattle.m17_module.proofs.Acts.{kind_from, kind_at_is}
use Rattle.m17_lookup.proofs.LastBelow.{last_below_ge}
use Rattle.m17_module.proofs.SeatsMore.{same_from_is_same, is_same_self, join_parts, joined_below}

-- what the floor promises of such lists
pub record FloorRenamed : Type 0 where
  pub members : floor_law.RenamingChangesNoMembership
  pub verdicts : floor_law.RenamingChangesNoVerdict
  pub floor : floor_law.RenamingChangesNoFloor

-- the event of a position
abbrev pub IsRenamedAt : (Member → Member → Bool) → Option Event → Option Event → Type 0
IsRenamedAt stands None None = Unit {0}
IsRenamedAt stands (Some a) (Some b) = IsRenamedEvent stands a b
IsRenamedAt stands _ _ = ⊥

pub renamed_at : (stands : Member → Member → Bool) (events others : List Event) (n : ℕ) → AreRenamedEvents stands events others → IsRenamedAt stands (slice_get events n) (slice_get others n)
renamed_at stands [] [] n h = tt
renamed_at stands (a ∷ events) (b ∷ others) zero h = h.0
renamed_at stands (a ∷ events) (b ∷ others) (suc n) h = renamed_at stands events others n h.1
renamed_at stands [] (b ∷ others) n h = absurd h
renamed_at stands (a ∷ events) [] n h = absurd h

pub length_renamed : (stands : Member → Member → Bool) (events others : List Event) → AreRenamedEvents stands events others → length events ≡ length others
length_renamed stands [] [] h = refl
length_renamed stands (a ∷ events) (b ∷ others) h = ap suc (length_renamed stands events others h.1)
length_renamed stands [] (b ∷ others) h = absurd h
length_renamed stands (a ∷ events) [] h = absurd h

moments_renamed : (stands : Member → Member → Bool) (events others : List Event) → AreRenamedEvents stands events others → map (λ (act : Act). act.at) (acts_of events) ≡ map (λ (act : Act). act.at) (acts_of others)
moments_renamed stands [] [] h = refl
moments_renamed stands (a ∷ events) (b ∷ others) h = ap (λ x. x ∷ map (λ (act : Act). act.at) (acts_of events)) h.0.at ∙ ap (λ xs. b.at ∷ xs) (moments_renamed stands events others h.1)
moments_renamed stands [] (b ∷ others) h = absurd h
moments_renamed stands (a ∷ events) [] h = absurd h

kind_renamed : (stands : Member → Member → Bool) (a b : Body) → IsRenamedBody stands a b → IsRenamedKind stands (kind_of a) (kind_of b)
kind_renamed stands (body.Join k x c l after) (body.Join k' x' c' l' after') h = (h.0, h.3)
kind_renamed stands (body.Leave k why) (body.Leave k' why') h = h.0
kind_renamed stands (body.Packet k p) (body.Packet k' p') h = (h.0, h.1)
kind_renamed stands (body.Reply k c) (body.Reply k' c') h = tt
kind_renamed stands body.Tick body.Tick h = tt
kind_renamed stands body.Stop body.Stop h = tt
kind_renamed stands _ _ h = absurd h

from_renamed : (stands : Member → Member → Bool) (a b : Option Event) → IsRenamedAt stands a b → IsRenamedKind stands (kind_from a) (kind_from b)
from_renamed stands None None h = tt
from_renamed stands (Some a) (Some b) h = kind_renamed stands a.body b.body h.what
from_renamed stands None (Some b) h = absurd h
from_renamed stands (Some a) None h = absurd h

-- who joins, and who leaves
joins_body : (b : Body) (k : Member) (listens : Bool) → kind_of b ≡ act.Join k listens → joiner_of b ≡ Some k
joins_body (body.Join m x c l after) k listens e = cc
joins_body (body.Leave m why) k listens e = cc
joins_body (body.Packet m p) k listens e = cc
joins_body (body.Reply m c) k listens e = cc
joins_body body.Tick k listens e = cc
joins_body body.Stop k listens e = cc

is_join_body : (b : Body) (k : Member) → is_join_of k (kind_of b) ≡ true → joiner_of b ≡ Some k
is_join_body (body.Join m x c l after) k e = ap Some (same_from_is_same m k e)
is_join_body (body.Leave m why) k e = cc
is_join_body (body.Packet m p) k e = cc
is_join_body (body.Reply m c) k e = cc
is_join_body body.Tick k e = cc
is_join_body body.Stop k e = cc

leaves_body : (b : Body) (k : Member) → leaver_of b ≡ Some k → settles k (kind_of b) ≡ true
leaves_body (body.Join m x c l after) k e = cc
leaves_body (body.Leave m why) k e = ap (λ x. is_same x k) (same_Some m k e) ∙ is_same_self k
leaves_body (body.Packet m p) k e = cc
leaves_body (body.Reply m c) k e = cc
leaves_body body.Tick k e = cc
leaves_body body.Stop k e = cc

joins_kind : (o : Option Event) (k : Member) (listens : Bool) → kind_from o ≡ act.Join k listens → option_and_then (λ (event : Event). joiner_of event.body) o ≡ Some k
joins_kind None k listens e = cc
joins_kind (Some event) k listens e = joins_body event.body k listens e

is_join_kind : (o : Option Event) (k : Member) → is_join_of k (kind_from o) ≡ true → option_and_then (λ (event : Event). joiner_of event.body) o ≡ Some k
is_join_kind None k e = cc
is_join_kind (Some event) k e = is_join_body event.body k e

leaves_kind : (o : Option Event) (k : Member) → option_and_then (λ (event : Event). leaver_of event.body) o ≡ Some k → settles k (kind_from o) ≡ true
leaves_kind None k e = cc
leaves_kind (Some event) k e = leaves_body event.body k e

-- Who joins takes a place at which nobody is in.
nobody_in : (places : ℕ) (events : List Event) (n : ℕ) (k m : Member) (o : Option ℕ) → TakeFreePlaces places events → joiner_at events n ≡ Some k → m.place ≡ k.place → joined_at places (acts_of events) m n ≡ o → o ≡ None
nobody_in places events n k m None free e same joined = refl
nobody_in places events n k m (Some i) free e same joined =
    let parts = join_parts places events n m i joined in
    let below : i < n = joined_below places events n m i joined in
    let joins : joiner_at events i ≡ Some m = is_join_kind (slice_get events i) m (ap (is_join_of m) (sym (kind_at_is events i)) ∙ parts.join) in
    let gone : LeavesBetween events m i n = free.left i n m k below joins e same in
    let settled : settles m (kind_at (acts_of events) gone.at) ≡ true = ap (settles m) (kind_at_is events gone.at) ∙ leaves_kind (slice_get events gone.at) m gone.leaves in
    let late : gone.at ≤ i = last_below_ge (λ j. settles m (kind_at (acts_of events) j)) n i gone.at parts.last settled gone.before in
    absurd (omega (arith, late, gone.behind))

pub free_acts : (places : ℕ) (events : List Event) → TakeFreePlaces places events → floor.TakeFreePlaces places (acts_of events)
free_acts places events free n k listens e =
    let joins : joiner_at events n ≡ Some k = joins_kind (slice_get events n) k listens (sym (kind_at_is events n) ∙ e) in
    record {
      below = free.below n k joins;
      free = λ m same. nobody_in places events n k m (joined_at places (acts_of events) m n) free joins same refl;
    }

-- So the floor sees the same acts of other members.
pub acts_renamed : (stands : Member → Member → Bool) (places : ℕ) (events others : List Event) → AreFreelyRenamed stands places events others → floor.AreFreelyRenamed stands places (acts_of events) (acts_of others)
acts_renamed stands places events others r = record {
  one_to_one = r.one_to_one;
  renamed = record {
    moments = moments_renamed stands events others r.renamed;
    kinds = λ n. rw (kind_at_is events n, kind_at_is others n) (from_renamed stands (slice_get events n) (slice_get others n) (renamed_at stands events others n r.renamed));
  };
  free = free_acts places events r.free;
  free_others = free_acts places others r.free_others;
}

pub verdict_renamed : floor_law.RenamingChangesNoVerdict → RenamingChangesNoVerdict
verdict_renamed law stands setup events others r n = law stands (floor_setup setup) (acts_of events) (acts_of others) (acts_renamed stands setup.places events others r) n
