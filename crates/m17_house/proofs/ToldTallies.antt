-- The tallies of datagrams, one after another.
use Rattle.std.proofs.Common.{◌≡◌, ℕ, Bool, true, false, cond, List, [], ◌∷◌, ◌++◌, map, filter, Option, Some, refl, ap, sym, subst, ◌∙◌, append_assoc}
use Rattle.std.specs.List.{AllZip}
use Rattle.std.proofs.lemmas.List.{append-nil}
use Rattle.m17_lists.proofs.Tests.{mapped_option_is_of_one}
use Rattle.m17_values.specs.declared.peer.Peer.{Peer}
use Rattle.m17_control.specs.declared.packet.Packet.{Packet}
use Rattle.m17_control.specs.Forms.{Spells}
use Rattle.m17_ports.specs.declared.tally.Tally.{Tally}
use Rattle.m17_ports.specs.Mouth.{Datagram, AreTallied}
use Rattle.m17_ports.specs.Tallies.{tally_then, no_tally, IsTallied}
use Rattle.m17_directory.specs.Entries.{is_peer}
use Rattle.m17_house.specs.Laws.{TalliesTellPackets}
use Rattle.m17_house.specs.Replay.{tally_of}
use Rattle.m17_house.proofs.Peers.{from_is_peer, not_is_peer}
use Rattle.m17_house.proofs.Tallies.{tally_more, same_tally, tally_of_same}

abbrev Tells : Type 0
Tells = Peer → Option Tally

-- the bytes of those to a peer
abbrev bytes_to : Peer → List Datagram → List (List ℕ)
bytes_to x said = map (λ (d : Datagram). d.1) (filter (λ (d : Datagram). is_peer x d.0) said)

-- the tally of the peer, if it has one, is that of these packets
abbrev HasTold : Peer → List Packet → Tells → Type 0
HasTold x told tallies = (t : Tally) → tallies x ≡ Some t → t ≡ tally_of told

none_told : (told : List Packet) → AllZip Spells told [] → told ≡ []
none_told [] zip = refl
none_told (p ∷ told) zip = absurd zip

-- one more, to the peer, and to another
one_to_it : (x : Peer) (d : Datagram) (said : List Packet) (p : Packet) (before between : Tells) → x ≡ d.0 → Spells p d.1 → IsTallied before d.0 d.1 between → HasTold x said before → HasTold x (said ++ p ∷ []) between
one_to_it x d said p before between same s it has t is =
    let was = mapped_option_is_of_one (λ a. tally_then a d.1) (before d.0) t (sym it.its_peer ∙ ap between (sym same) ∙ is) in
    sym was.2 ∙ ap (λ a. tally_then a d.1) (has was.0 (ap before same ∙ was.1)) ∙ tally_more said p d.1 s

one_to_other : (x : Peer) (d : Datagram) (said : List Packet) (before between : Tells) → is_peer x d.0 ≡ false → IsTallied before d.0 d.1 between → HasTold x said before → HasTold x said between
one_to_other x d said before between away it has t is = has t (sym (it.others x (not_is_peer x d.0 away)) ∙ is)

-- What the rest of the datagrams then make of it.
abbrev Onward : Peer → List Datagram → Tells → Type 0
Onward x ds after = (said told : List Packet) (between : Tells) → HasTold x said between → AreTallied between ds after → AllZip Spells told (bytes_to x ds) → HasTold x (said ++ told) after

told_step : (x : Peer) (d : Datagram) (ds : List Datagram) (said told : List Packet) (before after : Tells) (b : Bool) → is_peer x d.0 ≡ b → HasTold x said before → AreTallied before (d ∷ ds) after
    → AllZip Spells told (map (λ (d : Datagram). d.1) (cond b (d ∷ filter (λ (d : Datagram). is_peer x d.0) ds) (filter (λ (d : Datagram). is_peer x d.0) ds))) → Onward x ds after → HasTold x (said ++ told) after
told_step x d ds said [] before after true e has are zip rest = absurd zip
told_step x d ds said (p ∷ told) before after true e has are zip rest =
    subst (λ (ps : List Packet). HasTold x ps after) (append_assoc said (p ∷ []) told)
    (rest (said ++ p ∷ []) told are.0 (one_to_it x d said p before are.0 (from_is_peer x d.0 e) zip.0 are.1 has) are.2 zip.1)
told_step x d ds said told before after false e has are zip rest =
    rest said told are.0 (one_to_other x d said before are.0 e are.1 has) are.2 zip

told_from : (x : Peer) (ds : List Datagram) (after : Tells) → Onward x ds after
told_from x [] after said told before has are zip =
    λ t is. has t (sym (are x) ∙ is) ∙ ap tally_of (sym (append-nil said) ∙ ap (λ ps. said ++ ps) (sym (none_told told zip)))
told_from x (d ∷ ds) after said told before has are zip = told_step x d ds said told before after (is_peer x d.0) refl has are zip (told_from x ds after)

pub tallies_tell : TalliesTellPackets
tallies_tell = record {
  spelled = λ before after said x told tally none are zip is.
      told_from x said after [] told before (λ t e. none t e ∙ same_tally no_tally (tally_of []) refl refl refl refl refl refl) are zip tally is;
  as_many = tally_of_same;
}
