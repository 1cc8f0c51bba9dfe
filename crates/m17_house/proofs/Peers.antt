-- The order of peers tells all peers apart.
use Rattle.std.proofs.Common.{◌≡◌, ℕ, Bool, true, false, List, refl, ap, subst, sym, ◌∙◌}
use Rattle.std.specs.Prelude.{MatchBool}
use Rattle.std.specs.Ordering.{nat_cmp, bool_cmp, is_eq, MatchOrdering, ordering_then}
use Rattle.std.specs.Cmp.Lexicographic.{slice_cmp}
use Rattle.std.specs.declared.cmp.Ordering.{Ordering}
use Rattle.std.specs.declared.cmp.Ordering.TheVariants.{Less, Equal, Greater}
use Rattle.std.specs.Cmp.{IsTotalOrder, bool_cmp_total}
use Rattle.std.proofs.lemmas.Cmp.{then_total, on_total, nat_list_cmp_total, nat_cmp_total, eq_by_cmp_equiv}
use Rattle.std.proofs.lemmas.Map.Lookups.{exact_pairs, exact_bytes, exact_unsigned}
use Rattle.m17_values.specs.declared.peer.Peer.{Peer}
use Rattle.m17_directory.specs.Entries.{peer_cmp, is_peer}

-- an order's answers that are not Equal
not_less : Less ≡ Equal → ⊥
not_less e = subst (λ (o : Ordering). MatchOrdering o (Unit {0}) ⊥ (Unit {0})) e tt

not_greater : Greater ≡ Equal → ⊥
not_greater e = subst (λ (o : Ordering). MatchOrdering o (Unit {0}) ⊥ (Unit {0})) e tt

from_is_eq : (o : Ordering) → is_eq o ≡ true → o ≡ Equal
from_is_eq Equal e = refl
from_is_eq Less e = absurd (subst (λ (b : Bool). MatchBool b ⊥ (Unit {0})) e tt)
from_is_eq Greater e = absurd (subst (λ (b : Bool). MatchBool b ⊥ (Unit {0})) e tt)

exact_bool : (x y : Bool) → bool_cmp x y ≡ Equal → x ≡ y
exact_bool true true e = refl
exact_bool false false e = refl
exact_bool false true e = absurd (not_less e)
exact_bool true false e = absurd (not_greater e)

exact_peers : (a b : Peer) → peer_cmp a b ≡ Equal → a ≡ b
exact_peers a b e =
    let fields : (a.six, (a.ip, a.port)) ≡ (b.six, (b.ip, b.port)) =
    exact_pairs bool_cmp (λ x y. ordering_then (slice_cmp nat_cmp x.0 y.0) (nat_cmp x.1 y.1))
    exact_bool (exact_pairs (slice_cmp nat_cmp) nat_cmp exact_bytes exact_unsigned)
    (a.six, (a.ip, a.port)) (b.six, (b.ip, b.port)) e in
    ap (λ (p : Bool × (List ℕ × ℕ)). record { six = p.0; ip = p.1.0; port = p.1.1 }) fields

pub from_is_peer : (a b : Peer) → is_peer a b ≡ true → a ≡ b
from_is_peer a b e = exact_peers a b (from_is_eq (peer_cmp a b) e)

peer_cmp_total : IsTotalOrder peer_cmp
peer_cmp_total = then_total (on_total (λ (p : Peer). p.six) bool_cmp_total)
    (then_total (on_total (λ (p : Peer). p.ip) nat_list_cmp_total) (on_total (λ (p : Peer). p.port) nat_cmp_total))

pub is_peer_self : (a : Peer) → is_peer a a ≡ true
is_peer_self a = (eq_by_cmp_equiv peer_cmp_total).refl a

-- peers that the order tells apart are two
pub not_is_peer : (a b : Peer) → is_peer a b ≡ false → a ≡ b → ⊥
not_is_peer a b apart e =
    let yes : is_peer a b ≡ true = subst (λ (p : Peer). is_peer a p ≡ true) e (is_peer_self a) in
    subst (λ (v : Bool). MatchBool v ⊥ (Unit {0})) (sym apart ∙ yes) tt
