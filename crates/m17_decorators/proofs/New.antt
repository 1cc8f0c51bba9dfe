-- A memory of nothing.
use Rattle.std.proofs.Common.{◌≡◌, ℕ, ◌+◌, ◌-◌, ◌^◌, ◌<◌, ◌≤◌, zero, suc, List, [], ◌∷◌, ◌++◌, length, replicate, get_or, refl, sym, ap, subst, ◌∙◌, arith}
use Rattle.std.proofs.lemmas.List.{get_or-replicate, length-replicate}
use Rattle.std.proofs.lemmas.List.Elements.{All-append}
use Rattle.m17_decorators.specs.declared.memory.Memory.{Memory}
use Rattle.m17_decorators.specs.declared.memory.Slot.{Slot}
use Rattle.m17_decorators.specs.GuardMemory.{IsWhole, AreLinked, IsLink, IsKept, Remembers, AreNew, slot_of, peer_bucket_of, bytes_bucket_of, peer_link, bytes_link}

none-kept : (o : ℕ) → IsKept 0 o → ⊥
none-kept o k = absurd (let some = k.some in let heard = k.heard in omega arith)

new-linked : (slots : List Slot) (heads : List ℕ) (bucket link : Slot → ℕ)
    → heads ≡ replicate 16384 0 → AreLinked slots 0 heads bucket link
new-linked slots heads bucket link is = record {
  of_head = λ number lt.
      let here : get_or heads number 0 ≡ 0 = ap (λ (h : List ℕ). get_or h number 0) is
      ∙ get_or-replicate 16384 number 0 0 lt in record {
        small = omega arith;
        there = λ k. absurd (none-kept _ k);
        others = λ o behind upto k. absurd (none-kept o k);
      };
  of_link = λ o k. absurd (none-kept o k);
}

pub new-whole : (m : Memory) → length m.slots.items ≡ 16384 → m.peers.items ≡ replicate 16384 0
    → m.frames.items ≡ replicate 16384 0 → m.count ≡ 0 → m.ends ≡ 0 → IsWhole m
new-whole m slots peers frames count ends = record {
  slots = slots;
  peers = ap length peers ∙ length-replicate {A = ℕ} 16384 0;
  frames = ap length frames ∙ length-replicate {A = ℕ} 16384 0;
  count = omega arith;
  ends = omega arith;
  by_peer = subst (λ (n : ℕ). AreLinked m.slots.items n m.peers.items (peer_bucket_of m.keys) peer_link)
      (sym count) (new-linked m.slots.items m.peers.items (peer_bucket_of m.keys) peer_link peers);
  by_bytes = subst (λ (n : ℕ). AreLinked m.slots.items n m.frames.items (bytes_bucket_of m.keys) bytes_link)
      (sym count) (new-linked m.slots.items m.frames.items (bytes_bucket_of m.keys) bytes_link frames);
}

pub new-empty : (m : Memory) → m.count ≡ 0 → m.ends ≡ 0 → Remembers m []
new-empty m count ends = record {
  recalls = record {
    count = omega arith;
    each = λ few o k. absurd (none-kept o (subst (λ (n : ℕ). IsKept n o) count k));
  };
  ends = omega arith;
}

one-new : (m : Memory) → IsWhole m → Remembers m [] → AreNew (m ∷ [])
one-new m w r zero d lt = (w, r)
one-new m w r (suc k) d lt = absurd (omega arith)

pub new-push : (old new : List Memory) (m : Memory) → new ≡ old ++ m ∷ [] → AreNew old → IsWhole m
    → Remembers m [] → AreNew new
new-push old new m is are w r = subst (λ (l : List Memory). AreNew l) (sym is)
    (All-append (λ (n : Memory). IsWhole n × Remembers n []) old (m ∷ []) are (one-new m w r))
