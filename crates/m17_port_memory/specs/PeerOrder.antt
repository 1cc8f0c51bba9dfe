-- The order of peers tells all peers apart, so that a peer has a tally exactly where it is named.
use Rattle.std.specs.Prelude.{◌≡◌, ◌↔◌, ℕ, Bool, true, false, List, Option, Some, IsSome, Contains, MatchBool, MatchOption, refl}
use Rattle.std.specs.Ordering.{nat_cmp, bool_cmp, eq_by_cmp, is_eq, MatchOrdering, ordering_then}
use Rattle.std.specs.Cmp.{IsTotalOrder, bool_cmp_total}
use Rattle.std.specs.Cmp.Lexicographic.{slice_cmp}
use Rattle.std.specs.declared.cmp.Ordering.{Ordering}
use Rattle.std.specs.declared.cmp.Ordering.TheVariants.{Less, Equal, Greater}
use Rattle.std.proofs.Common.{ap, subst}
use Rattle.std.proofs.lemmas.Cmp.{then_total, on_total, nat_list_cmp_total, nat_cmp_total, eq_by_cmp_equiv}
use Rattle.std.proofs.lemmas.Map.Lookups.{exact_pairs, exact_bytes, exact_unsigned}
use Rattle.std.proofs.lemmas.Map.Views.{Contains-keys_from_lookup, IsSome-lookup_from_Contains}
use Rattle.m17_values.specs.Peers.{peer_cmp}
use Rattle.m17_values.specs.declared.peer.Peer.{Peer}
use Rattle.m17_ports.specs.declared.tally.Tally.{Tally}
use Rattle.m17_port_memory.specs.Peers.{tally_at, named_in}

-- an order's answers that are not Equal
not_less : Less ≡ Equal → ⊥
not_less e = subst (λ (o : Ordering). MatchOrdering o (Unit {0}) ⊥ (Unit {0})) e tt

not_greater : Greater ≡ Equal → ⊥
not_greater e = subst (λ (o : Ordering). MatchOrdering o (Unit {0}) ⊥ (Unit {0})) e tt

-- the test for Equal tells that it is
pub from_is_eq : (o : Ordering) → is_eq o ≡ true → o ≡ Equal
from_is_eq Equal e = refl
from_is_eq Less e = absurd (subst (λ (b : Bool). MatchBool b ⊥ (Unit {0})) e tt)
from_is_eq Greater e = absurd (subst (λ (b : Bool). MatchBool b ⊥ (Unit {0})) e tt)

-- booleans that are equal in their order are one
exact_bool : (x y : Bool) → bool_cmp x y ≡ Equal → x ≡ y
exact_bool true true e = refl
exact_bool false false e = refl
exact_bool false true e = absurd (not_less e)
exact_bool true false e = absurd (not_greater e)

-- Peers that are equal in their order are one.
pub exact_peers : (a b : Peer) → peer_cmp a b ≡ Equal → a ≡ b
exact_peers a b e =
    let fields : (a.six, (a.ip, a.port)) ≡ (b.six, (b.ip, b.port)) =
    exact_pairs bool_cmp (λ x y. ordering_then (slice_cmp nat_cmp x.0 y.0) (nat_cmp x.1 y.1))
    exact_bool (exact_pairs (slice_cmp nat_cmp) nat_cmp exact_bytes exact_unsigned)
    (a.six, (a.ip, a.port)) (b.six, (b.ip, b.port)) e in
    ap (λ (p : Bool × (List ℕ × ℕ)). record { six = p.0; ip = p.1.0; port = p.1.1 }) fields

-- The order of peers is an order.
pub peer_cmp-total : IsTotalOrder peer_cmp
peer_cmp-total = then_total (on_total (λ (p : Peer). p.six) bool_cmp_total)
    (then_total (on_total (λ (p : Peer). p.ip) nat_list_cmp_total) (on_total (λ (p : Peer). p.port) nat_cmp_total))

-- A peer has a tally exactly where it is named.
pub tally_at-named : (entries : List (Peer × Tally)) (peer : Peer)
    → IsSome (tally_at entries peer) ↔ Contains (named_in entries) peer
tally_at-named entries peer = (
  Contains-keys_from_lookup {eq = eq_by_cmp peer_cmp}
      (λ a b e. exact_peers a b (from_is_eq (peer_cmp a b) e)) peer entries,
  IsSome-lookup_from_Contains (eq_by_cmp_equiv peer_cmp-total) peer entries,
)

-- The same of peers that are told to be those that are named.
pub tells-named : (entries : List (Peer × Tally)) (peers : List Peer) (peer : Peer)
    → Some (named_in entries) ≡ Some peers → IsSome (tally_at entries peer) ↔ Contains peers peer
tells-named entries peers peer e =
    subst (λ (told : Option (List Peer)). MatchOption told (Unit {0})
    (λ ps. IsSome (tally_at entries peer) ↔ Contains ps peer))
    e (tally_at-named entries peer)
