-- What entries say of what was heard.
use Rattle.std.proofs.Common.{◌≡◌, ℕ, zero, suc, ◌+◌, true, List, [], ◌∷◌, length, Some, slice_get, refl, ap, subst, ◌∙◌, arith, inl, inr, length-append}
use Rattle.std.specs.Ordering.{match_ordering}
use Rattle.std.proofs.lemmas.Option.{none-some, same_Some}
use Rattle.std.specs.BTreeSet.{insert_key}
use Rattle.m17_print.proofs.TextsOfLines.{slice_get_after}
use Rattle.m17_values.specs.declared.heard.Heard.{Heard}
use Rattle.m17_values.specs.declared.heard.Heard.TheVariants as heard
use Rattle.m17_values.specs.declared.peer.Peer.{Peer}
use Rattle.m17_book.specs.Answers.{HasEnd}
use Rattle.m17_directory.specs.Entries.{Notice, Entry, Says, SaysEach, notice_at, ends_at, is_end, is_fault, peer_cmp, peers_named, with_peer, with_sender}
use Rattle.m17_house.specs.Replay.{EndsSomewhere}
use Rattle.m17_replay.specs.Run.{is_end_heard, is_fault_heard, with_heard}

pub length_says : (all : List Heard) (entries : List Entry) → SaysEach all entries → length all ≡ length entries
length_says [] [] says = refl
length_says [] (e ∷ entries) says = absurd says
length_says (h ∷ all) [] says = absurd says
length_says (h ∷ all) (e ∷ entries) says = omega (arith, length_says all entries says.1)

-- at each position
pub says_at : (all : List Heard) (entries : List Entry) (n : ℕ) (h : Heard) → SaysEach all entries → slice_get all n ≡ Some h → Says h (notice_at entries n)
says_at [] entries n h says e = absurd (none-some h e)
says_at (x ∷ all) [] n h says e = absurd says
says_at (x ∷ all) (y ∷ entries) zero h says e = subst (λ (k : Heard). Says k y.notice) (same_Some x h e) says.0
says_at (x ∷ all) (y ∷ entries) (suc n) h says e = says_at all entries n h says.1 e

end_ends : (entries : List Entry) (n : ℕ) → notice_at entries n ≡ Notice.End → ends_at entries n ≡ true
unfolding ends_at
end_ends entries n e = rw e refl

-- what ends with the end has an entry that ends the link
pub ends_somewhere : (all : List Heard) → HasEnd all → EndsSomewhere all
ends_somewhere all has = λ entries says.
    let at_end : slice_get all (length has.0) ≡ Some heard.End = ap (λ xs. slice_get xs (length has.0)) has.1 ∙ slice_get_after has.0 heard.End [] (length has.0) refl in
    let size : length all ≡ length has.0 + 1 = ap length has.1 ∙ length-append has.0 (heard.End ∷ []) in
    (length has.0, omega (arith, size, length_says all entries says), end_ends entries (length has.0) (says_at all entries (length has.0) heard.End says at_end))

-- a fault is heard where a fault is said
pub says_fault : (h : Heard) (notice : Notice) → Says h notice → is_fault notice ≡ is_fault_heard h
says_fault (heard.Datagram from at bytes) notice says = elim says [
  | inl sent ↦ ap is_fault sent.2
  | inr garbled ↦ ap is_fault garbled.2
]
says_fault (heard.Quiet at) notice says = ap is_fault says
says_fault heard.Fault notice says = ap is_fault says
says_fault heard.End notice says = ap is_fault says

-- and the end where the end is said
pub says_end : (h : Heard) (notice : Notice) → Says h notice → is_end notice ≡ is_end_heard h
says_end (heard.Datagram from at bytes) notice says = elim says [
  | inl sent ↦ ap is_end sent.2
  | inr garbled ↦ ap is_end garbled.2
]
says_end (heard.Quiet at) notice says = ap is_end says
says_end heard.Fault notice says = ap is_end says
says_end heard.End notice says = ap is_end says

-- the peers that are named, by what was heard
says_sender : (h : Heard) (notice : Notice) (peers : List Peer) → Says h notice → with_sender notice peers ≡ with_heard h peers
says_sender (heard.Datagram from at bytes) notice peers says = elim says [
  | inl sent ↦ ap (λ n. with_sender n peers) sent.2
  | inr garbled ↦ ap (λ n. with_sender n peers) garbled.2
]
says_sender (heard.Quiet at) notice peers says = ap (λ n. with_sender n peers) says
says_sender heard.Fault notice peers says = ap (λ n. with_sender n peers) says
says_sender heard.End notice peers says = ap (λ n. with_sender n peers) says

pub none_named : (entries : List Entry) → peers_named entries 0 ≡ []
unfolding peers_named
none_named entries = refl

named_next : (entries : List Entry) (n : ℕ) → peers_named entries (suc n) ≡ with_sender (notice_at entries n) (peers_named entries n)
unfolding peers_named
named_next entries n = refl

pub named_more : (all : List Heard) (entries : List Entry) (n : ℕ) (h : Heard) → SaysEach all entries → slice_get all n ≡ Some h → peers_named entries (n + 1) ≡ with_heard h (peers_named entries n)
named_more all entries n h says e =
    let next : n + 1 ≡ suc n = omega arith in
    ap (peers_named entries) next ∙ named_next entries n ∙ says_sender h (notice_at entries n) (peers_named entries n) (says_at all entries n h says e)

-- a set in the order of peers takes a peer so
pub peer_inserted : (x : Peer) (peers : List Peer) → insert_key peer_cmp peers x ≡ with_peer x peers
peer_inserted x [] = refl
peer_inserted x (y ∷ peers) = ap (λ more. match_ordering (peer_cmp x y) (x ∷ y ∷ peers) (y ∷ peers) (y ∷ more)) (peer_inserted x peers)
