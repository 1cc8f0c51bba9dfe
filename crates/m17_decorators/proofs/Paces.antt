-- What a mouth behind a pace makes of a datagram, and the paces of links.
use Rattle.std.proofs.Common.{◌≡◌, ℕ, zero, suc, Bool, true, false, List, [], ◌∷◌, ◌++◌, length, refl, sym, ap, subst, inr, arith}
use Rattle.std.specs.Prelude.{Option, Some, None}
use Rattle.std.proofs.lemmas.List.{append-nil}
use Rattle.std.proofs.lemmas.List.Elements.{All-append}
use Rattle.m17_values.specs.declared.peer.Peer.{Peer}
use Rattle.m17_ports.specs.Told.{told_then}
use Rattle.m17_decorators.specs.declared.pace.Pace.{Pace}
use Rattle.m17_decorators.specs.Pace.{Event, IsDecided, in_last_second, once_decided, once_read}
use Rattle.m17_decorators.specs.Paced.{HasLet, PaceSeen, readings}
use Rattle.m17_decorators.specs.PaceMemory.{AreNew, IsNew, Remembers}
use Rattle.m17_decorators.proofs.PaceStanding.{clash}

-- a frame is asked by a memory, or there is none
pub let-some : {M C : Type 0} (answers : C → Option (List (Option ℕ))) (inner : M)
    (clock clock' : C) (most refused : ℕ) (memory : Option Pace) (pace pace' : Pace) (to : Peer)
    (read : Option (Option ℕ)) (passes : Bool) → memory ≡ Some pace → pace.most ≡ most
    → ((past : List Event) → Remembers pace past → IsDecided pace.most
    (length pace.places.list.items) to read (once_read read past) passes)
    → ((past : List Event) → Remembers pace past
    → Remembers pace' (once_decided to passes (once_read read past)))
    → answers clock' ≡ told_then (answers clock) (readings read)
    → length pace'.places.list.items ≡ length pace.places.list.items
    → (old : PaceSeen M C)
    → record { inner = inner; clock = clock; most = most; memory = memory; refused = refused } ≡ old
    → HasLet answers old
    (record { inner = inner; clock = clock'; most = most; memory = Some pace'; refused = refused })
    to passes
let-some {M} {C} answers inner clock clock' most refused memory pace pace' to read passes is bound
    decided remembered told places old view =
    subst (λ (o : PaceSeen M C). HasLet answers o
    (record { inner = inner; clock = clock'; most = most; memory = Some pace'; refused = refused })
    to passes) view
    (subst (λ (m : Option Pace). HasLet answers
    (record { inner = inner; clock = clock; most = most; memory = m; refused = refused })
    (record { inner = inner; clock = clock'; most = most; memory = Some pace'; refused = refused })
    to passes) (sym is)
    (record {
      read = read;
      frame = λ past come. (
        subst (λ (n : ℕ). IsDecided n (length pace.places.list.items) to read
            (once_read read past) passes) bound (decided past come),
        remembered past come,
      );
      clock = told;
      places = places;
      inner = refl;
      most = refl;
      refused = refl;
    }))

none-decided : (most : ℕ) (to : Peer) (past : List Event) → past ≡ []
    → IsDecided most 0 to None past false
none-decided most to past is = record {
  few = λ e. absurd (clash true refl (sym e));
  many = λ _. inr (
    ap (in_last_second to) is,
    record {
      peer = λ _. to;
      busy = λ i lt. absurd (omega arith);
      other = λ i lt. absurd (omega arith);
      different = λ i j lt jl e. absurd (omega arith);
    },
  );
  now = λ _. inr refl;
}

told-none : {T : Type 0} (x : Option (List T)) → x ≡ told_then x []
told-none None = refl
told-none (Some xs) = ap (λ l. Some l) (sym (append-nil xs))

pub let-none : {M C : Type 0} (answers : C → Option (List (Option ℕ))) (inner : M) (clock : C)
    (most refused : ℕ) (memory : Option Pace) (to : Peer) → memory ≡ None
    → (old : PaceSeen M C)
    → record { inner = inner; clock = clock; most = most; memory = memory; refused = refused } ≡ old
    → HasLet answers old
    (record { inner = inner; clock = clock; most = most; memory = memory; refused = refused })
    to false
let-none {M} {C} answers inner clock most refused memory to is old view =
    subst (λ (o : PaceSeen M C). HasLet answers o
    (record { inner = inner; clock = clock; most = most; memory = memory; refused = refused })
    to false) view
    (subst (λ (m : Option Pace). HasLet answers
    (record { inner = inner; clock = clock; most = most; memory = m; refused = refused })
    (record { inner = inner; clock = clock; most = most; memory = m; refused = refused })
    to false) (sym is)
    (record {
      read = None;
      frame = λ past come. (none-decided most to past come, come);
      clock = told-none (answers clock);
      places = refl;
      inner = refl;
      most = refl;
      refused = refl;
    }))

-- one more pace of nothing
one-new : (most : ℕ) (p : Pace) → IsNew most p → AreNew most (p ∷ [])
one-new most p new zero d lt = new
one-new most p new (suc k) d lt = absurd (omega arith)

pub new-push : (most : ℕ) (old new : List Pace) (p : Pace) → new ≡ old ++ p ∷ []
    → AreNew most old → IsNew most p → AreNew most new
new-push most old new p is are made = subst (AreNew most) (sym is)
    (All-append (IsNew most) old (p ∷ []) are (one-new most p made))
