-- One more datagram to a peer that a mouth was to say.
use Rattle.std.proofs.Common.{◌≡◌, ℕ, List, [], ◌∷◌, ◌++◌, sym, subst, Result, Ok, Err, OnOk, OnErr}
use Rattle.std.proofs.lemmas.List.{map-append}
use Rattle.m17_values.specs.declared.peer.Peer.{Peer}
use Rattle.m17_io.specs.Faults.{HasCause}
use Rattle.m17_ports.specs.Told.{told_then}
use Rattle.m17_ports.specs.Tallies.{IsTallied}
use Rattle.m17_ports.specs.Mouth.{MouthTold, SaidOf}
use Rattle.m17_ports.specs.Laws.{MouthsSayInTurn}
use Rattle.m17_client.specs.TalkDevices.{datagrams_to}

-- a call of the mouth: the datagram went, or it was lost
one_said : {L T E : Type 0} (law : MouthsSayInTurn L) (old new : MouthTold L) (to : Peer) (bytes : List ℕ)
    (result : Result T E) → HasCause old.faults new.faults result
    → OnOk result (new.said ≡ told_then old.said ((to, bytes) ∷ []))
    → OnOk result (IsTallied old.tallies to bytes new.tallies)
    → OnErr result (new.said ≡ old.said) → OnErr result (new.tallies ≡ old.tallies)
    → new.device ≡ old.device → SaidOf old ((to, bytes) ∷ []) new
one_said law old new to bytes (Ok x) cause told tallied same_list same_tallies same =
    law.one_went old new (to, bytes) told tallied cause.no_fault same
one_said law old new to bytes (Err x) cause told tallied same_list same_tallies same =
    law.one_lost old new (to, bytes) same_list same_tallies cause.counted cause.failed same

-- one datagram behind others
pub says_one : {L T E : Type 0} (law : MouthsSayInTurn L) (start old new : MouthTold L) (to : Peer)
    (before : List (List ℕ)) (bytes : List ℕ) (result : Result T E) → HasCause old.faults new.faults result
    → OnOk result (new.said ≡ told_then old.said ((to, bytes) ∷ []))
    → OnOk result (IsTallied old.tallies to bytes new.tallies)
    → OnErr result (new.said ≡ old.said) → OnErr result (new.tallies ≡ old.tallies)
    → new.device ≡ old.device → SaidOf start (datagrams_to to before) old
    → SaidOf start (datagrams_to to (before ++ bytes ∷ [])) new
says_one law start old new to before bytes result cause told tallied same_list same_tallies same h =
    subst (λ l. SaidOf start l new) (sym (map-append (λ (b : List ℕ). (to, b)) before (bytes ∷ [])))
    (law.in_turn start old new (datagrams_to to before) ((to, bytes) ∷ []) h
    (one_said law old new to bytes result cause told tallied same_list same_tallies same))
