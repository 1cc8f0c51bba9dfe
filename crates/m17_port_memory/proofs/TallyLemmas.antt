-- Tallies by peer, after an entry is put or written.
use Rattle.std.proofs.Common.{◌≡◌, ◌≢◌, ◌↔◌, ℕ, Bool, true, false, cond, List, [], ◌∷◌, ◌++◌, Option, None, Some, IsSome, Contains, inl, inr, subst, sym, ◌∙◌, ap, refl, rules}
use Rattle.std.specs.BTreeMap.{is_at}
use Rattle.std.proofs.lemmas.Cmp.{tied_itself}
use Rattle.std.proofs.lemmas.List.Elements.{Contains-push, Contains-append_left, Contains-push_cases}
use Rattle.m17_values.specs.declared.peer.Peer.{Peer}
use Rattle.m17_ports.specs.declared.tally.Tally.{Tally}
use Rattle.m17_ports.specs.Tallies.{no_tally, tally_then, IsTallied}
use Rattle.m17_values.specs.Peers.{peer_cmp}
use Rattle.m17_port_memory.specs.PeerOrder.{exact_peers, from_is_eq, peer_cmp-total}

-- a peer is found at itself
pub found_at_itself : (peer : Peer) → is_at (peer_cmp peer) peer ≡ true
found_at_itself peer = rw (tied_itself peer_cmp-total peer)

-- another peer is not
pub not_found : (key peer : Peer) → peer ≢ key → (b : Bool) → is_at (peer_cmp key) peer ≡ b → b ≡ false
not_found key peer differ false e = search rules
not_found key peer differ true e = absurd (differ (sym (exact_peers key peer (from_is_eq (peer_cmp key peer) e))))

module _ (old : Peer → Option Tally) (key : Peer) (tally : Tally) where
  -- one more named peer, by whether the peer asked for is it
  named_more : (seen : List Peer) → ((q : Peer) → IsSome (old q) ↔ Contains seen q)
      → (q : Peer) (b : Bool) → is_at (peer_cmp key) q ≡ b
      → IsSome (cond b (Some tally) (old q)) ↔ Contains (seen ++ key ∷ []) q
  named_more seen was q true e = (
    λ _. subst (λ (p : Peer). Contains (seen ++ key ∷ []) p)
        (exact_peers key q (from_is_eq (peer_cmp key q) e)) (Contains-push seen key),
    λ _. search rules,
  )
  named_more seen was q false e = (
    λ some. Contains-append_left seen (key ∷ []) q ((was q).0 some),
    λ h. elim (Contains-push_cases seen key q h) [
      | inl c ↦ (was q).1 c
      | inr same ↦ let t : is_at (peer_cmp key) q ≡ true = subst (λ (p : Peer). is_at (peer_cmp key) p ≡ true) same (found_at_itself key) in absurd (cc)
    ],
  )

  -- the named peers after one more
  pub named-put : (new : Peer → Option Tally) (seen : List Peer)
      → ((q : Peer) → new q ≡ cond (is_at (peer_cmp key) q) (Some tally) (old q))
      → ((q : Peer) → IsSome (old q) ↔ Contains seen q)
      → (q : Peer) → IsSome (new q) ↔ Contains (seen ++ key ∷ []) q
  named-put new seen put was q = rw (put q) (named_more seen was q (is_at (peer_cmp key) q) (search rules))

-- one more empty tally, by whether the peer asked for has it
empty_more : (old : Option Tally) → ((t : Tally) → old ≡ Some t → t ≡ no_tally)
    → (b : Bool) (t : Tally) → cond b (Some no_tally) old ≡ Some t → t ≡ no_tally
empty_more old was true t e = cc
empty_more old was false t e = was t e

-- all tallies are empty after one more empty one
pub empty-put : (old new : Peer → Option Tally) (key : Peer)
    → ((q : Peer) → new q ≡ cond (is_at (peer_cmp key) q) (Some no_tally) (old q))
    → ((q : Peer) (t : Tally) → old q ≡ Some t → t ≡ no_tally)
    → (q : Peer) (t : Tally) → new q ≡ Some t → t ≡ no_tally
empty-put old new key put was q t e =
    empty_more (old q) (was q) (is_at (peer_cmp key) q) t (sym (put q) ∙ e)

-- a datagram is in the tallies where its peer's was written
pub tallied-written : (old new : Peer → Option Tally) (to : Peer) (bytes : List ℕ) (tally : Tally)
    → old to ≡ Some tally
    → ((q : Peer) → new q ≡ cond (is_at (peer_cmp to) q) (Some (tally_then tally bytes)) (old q))
    → IsTallied old to bytes new
tallied-written old new to bytes tally had put = record {
  its_peer = put to ∙ (rw (found_at_itself to, had) refl);
  others = λ peer differ. put peer ∙ (rw (not_found to peer differ (is_at (peer_cmp to) peer) refl) refl);
}

-- and where its peer has none
pub tallied-kept : (old new : Peer → Option Tally) (to : Peer) (bytes : List ℕ)
    → old to ≡ None → new ≡ old → IsTallied old to bytes new
tallied-kept old new to bytes none same = record {
  its_peer = rw (same, none) refl;
  others = λ peer differ. ap (λ (f : Peer → Option Tally). f peer) same;
}
