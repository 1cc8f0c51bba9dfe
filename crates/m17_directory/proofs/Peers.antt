-- The order of peers is a total order, and two peers that it finds equal are one.
use Rattle.std.proofs.Common.{◌≡◌, ℕ, Bool, true, false, List, [], ◌∷◌, Ordering, Less, Equal, Greater, nat_cmp, is_eq, refl, ap, sym, ◌∙◌}
use Rattle.std.specs.Ordering.{bool_cmp, ordering_then, ordering_reverse}
use Rattle.std.specs.Cmp.{IsTotalOrder}
use Rattle.std.specs.Cmp.{bool_cmp_total}
use Rattle.std.specs.Cmp.Lexicographic.{slice_cmp}
use Rattle.std.proofs.lemmas.Cmp.{then_total, on_total, nat_cmp_total, nat_list_cmp_total, tied_itself, ranked, by_ranked}
use Rattle.m17_values.specs.declared.peer.Peer.{Peer}
use Rattle.m17_directory.specs.Entries.{peer_cmp, is_peer}

pub peer_order : IsTotalOrder peer_cmp
peer_order =
    then_total (on_total (λ (p : Peer). p.six) bool_cmp_total)
    (then_total (on_total (λ (p : Peer). p.ip) nat_list_cmp_total) (on_total (λ (p : Peer). p.port) nat_cmp_total))

pub then_equal : (o p : Ordering) → ordering_then o p ≡ Equal → (o ≡ Equal) × (p ≡ Equal)
then_equal Less p e = cc
then_equal Equal p e = (refl, e)
then_equal Greater p e = cc

same_bool : (a b : Bool) → bool_cmp a b ≡ Equal → a ≡ b
same_bool true true e = refl
same_bool true false e = cc
same_bool false true e = cc
same_bool false false e = refl

same_nat : (a b : ℕ) → nat_cmp a b ≡ Equal → a ≡ b
same_nat a b e = by_ranked _ _ _ (nat_cmp a b) (ranked a b (nat_cmp a b) refl) (λ l _. let no : Less ≡ Equal = sym l ∙ e in cc) (λ _ h. h) (λ g _. let no : Greater ≡ Equal = sym g ∙ e in cc)

same_list : (a b : List ℕ) → slice_cmp nat_cmp a b ≡ Equal → a ≡ b
same_list [] [] e = refl
same_list [] (y ∷ ys) e = cc
same_list (x ∷ xs) [] e = cc
same_list (x ∷ xs) (y ∷ ys) e =
    let both = then_equal (nat_cmp x y) (slice_cmp nat_cmp xs ys) e in
    let first : x ≡ y = same_nat x y both.0 in
    let rest : xs ≡ ys = same_list xs ys both.1 in
    cc

peer_from : (a b : Peer) → a.six ≡ b.six → a.ip ≡ b.ip → a.port ≡ b.port → a ≡ b
peer_from a b s i p =
    let f : Bool → Peer = λ x. record { six = x; ip = a.ip; port = a.port } in
    let g : List ℕ → Peer = λ x. record { six = b.six; ip = x; port = a.port } in
    let h : ℕ → Peer = λ x. record { six = b.six; ip = b.ip; port = x } in
    ap f s ∙ ap g i ∙ ap h p

pub peer_same : (a b : Peer) → peer_cmp a b ≡ Equal → a ≡ b
peer_same a b e =
    let both = then_equal (bool_cmp a.six b.six) _ e in
    let more = then_equal (slice_cmp nat_cmp a.ip b.ip) (nat_cmp a.port b.port) both.1 in
    peer_from a b (same_bool a.six b.six both.0) (same_list a.ip b.ip more.0) (same_nat a.port b.port more.1)

pub equal_if : (o : Ordering) → is_eq o ≡ true → o ≡ Equal
equal_if Less e = cc
equal_if Equal e = refl
equal_if Greater e = cc

pub is_peer_same : (a b : Peer) → is_peer a b ≡ true → a ≡ b
is_peer_same a b e = peer_same a b (equal_if (peer_cmp a b) e)

pub peer_self : (x : Peer) → peer_cmp x x ≡ Equal
peer_self x = tied_itself peer_order x

pub is_peer_self : (x : Peer) → is_peer x x ≡ true
is_peer_self x = ap is_eq (peer_self x)

pub is_peer_from : (a b : Peer) → a ≡ b → is_peer a b ≡ true
is_peer_from a b e = ap (is_peer a) (sym e) ∙ is_peer_self a

pub peer_flip : (a b : Peer) → peer_cmp a b ≡ Greater → peer_cmp b a ≡ Less
peer_flip a b e = peer_order.antisymm b a ∙ ap ordering_reverse e

pub peer_flip_less : (a b : Peer) → peer_cmp a b ≡ Less → peer_cmp b a ≡ Greater
peer_flip_less a b e = peer_order.antisymm b a ∙ ap ordering_reverse e

pub peer_trans : (a b c : Peer) → peer_cmp a b ≡ Less → peer_cmp b c ≡ Less → peer_cmp a c ≡ Less
peer_trans a b c = peer_order.trans a b c

pub other_if_less : (a b : Peer) → peer_cmp a b ≡ Less → is_peer a b ≡ false
other_if_less a b e = ap is_eq e

pub other_if_greater : (a b : Peer) → peer_cmp a b ≡ Greater → is_peer a b ≡ false
other_if_greater a b e = ap is_eq e
