-- What is answered where other free places are given.
use Rattle.std.proofs.Common.{◌≡◌, ℕ, zero, suc, ◌+◌, ◌<◌, ◌==◌, ◌&&◌, ◌||◌, Bool, true, false, List, [], ◌∷◌, ◌++◌, length, map, slice_get, option_and_then, Option, None, Some, refl, ap, sym, ◌∙◌}
use Rattle.std.specs.List.{list_any, flat_map, range_with_len}
use Rattle.std.proofs.lemmas.Bool.{and_from, and_parts, eq-eqb, eqb-true, false≢true}
use Rattle.std.proofs.lemmas.Option.{same_Some}
use Rattle.m17_values.specs.declared.member.Member.{Member}
use Rattle.m17_values.specs.declared.peer.Peer.{Peer}
use Rattle.m17_control.specs.declared.event.Body.{Body}
use Rattle.m17_control.specs.declared.event.Body.TheVariants as body
use Rattle.m17_control.specs.declared.event.Event.{Event}
use Rattle.m17_control.specs.declared.packet.Packet.TheVariants as packets
use Rattle.m17_control.specs.Modules.{letters_of}
use Rattle.m17_control.specs.Renamed.{IsRenamedBody, AreRenamedEvents}
use Rattle.m17_floor.specs.declared.verdict.Verdict.{Verdict}
use Rattle.m17_floor.specs.Acts.{is_same}
use Rattle.m17_floor.specs.Floor.{verdict_at}
use Rattle.m17_floor.specs.Renamed.{IsOneToOne, unnamed_verdict}
use Rattle.m17_module.specs.Setup.{floor_setup}
use Rattle.m17_module.specs.Events.{acts_of}
use Rattle.m17_module.specs.Laws as module_law
use Rattle.m17_lookup.specs.Lookup.{last_below}
use Rattle.m17_lookup.proofs.LastBelow.{last_below_same}
use Rattle.m17_lists.proofs.Tests.{true_for_each_other_is_same}
use Rattle.m17_directory.specs.declared.verdict.LinkVerdict.{LinkVerdict}
use Rattle.m17_directory.specs.declared.verdict.LinkVerdict.TheVariants as link
use Rattle.m17_directory.specs.declared.verdict.Act.TheVariants as act
use Rattle.m17_directory.specs.Entries.{Claim, Entry, claim_at, is_peer}
use Rattle.m17_directory.specs.Given.{AreGivenFreely, gives, stands_for}
use Rattle.m17_directory.specs.Laws.{EachEntrySaysOneThing, AreGivenOtherwise, PlacesChangeNoVerdict, JoinsTakeFreePlaces}
use Rattle.m17_directory.specs.Routed.{link_verdict, routed, direct_replies}
use Rattle.m17_plan.specs.declared.plan.Plan.{Plan}
use Rattle.m17_house.specs.Replay.{is_packet_body, is_packet_from, verdict_among, verdict_routed, packet_verdict, said_by_module, said_to}
use Rattle.m17_plan.specs.Planned.{setup_of, module_setup}
use Rattle.m17_house.specs.Free.{ComeToTheSame}
use Rattle.m17_house.specs.Laws.{FreeReplaysComeToTheSame}
use Rattle.m17_house.proofs.FreeSame.{same_entries}

-- one for one
same_member : (a b : Member) → is_same a b ≡ true → a ≡ b
same_member a b h =
    let parts = and_parts (a.place == b.place) (a.generation == b.generation) h in
    let make : ℕ → ℕ → Member = λ x y. record { place = x; generation = y } in
    ap (λ x. make x a.generation) (eqb-true a.place b.place parts.0) ∙ ap (make b.place) (eqb-true a.generation b.generation parts.1)

member_same : (a b : Member) → a ≡ b → is_same a b ≡ true
member_same a b e =
    and_from (a.place == b.place) (a.generation == b.generation)
    (eq-eqb a.place b.place (ap (λ (m : Member). m.place) e)) (eq-eqb a.generation b.generation (ap (λ (m : Member). m.generation) e))

record Gives (o : Option Claim) (k : Member) : Type 0 where
  claim : Claim
  is : o ≡ Some claim
  member : claim.member ≡ k

gives_from : (k : Member) (o : Option Claim) → gives k o ≡ true → Gives o k
gives_from k None e = absurd (false≢true e)
gives_from k (Some c) e = record { claim = c; is = refl; member = same_member c.member k e }

record AtIndex (p : ℕ → Bool) : Type 0 where
  at : ℕ
  passes : p at ≡ true

any_step : (p : ℕ → Bool) (n : ℕ) (b c : Bool) → b ≡ p n → (b || c) ≡ true → (c ≡ true → AtIndex p) → AtIndex p
any_step p n true c e h rest = record { at = n; passes = sym e }
any_step p n false c e h rest = rest h

any_at : (p : ℕ → Bool) (from n : ℕ) → list_any p (range_with_len from n) ≡ true → AtIndex p
any_at p from zero h = absurd (false≢true h)
any_at p from (suc n) h = any_step p from (p from) (list_any p (range_with_len (from + 1) n)) refl h (any_at p (from + 1) n)

record Stands (one other : List Entry) (k k' : Member) : Type 0 where
  at : ℕ
  first : Gives (claim_at one at) k
  second : Gives (claim_at other at) k'

stands_from : (one other : List Entry) (k k' : Member) → stands_for one other k k' ≡ true → Stands one other k k'
unfolding stands_for
stands_from one other k k' h =
    let found : AtIndex (λ n. gives k (claim_at one n) && gives k' (claim_at other n)) = any_at (λ n. gives k (claim_at one n) && gives k' (claim_at other n)) 0 (length one) h in
    let parts = and_parts (gives k (claim_at one found.at)) (gives k' (claim_at other found.at)) found.passes in
    record { at = found.at; first = gives_from k (claim_at one found.at) parts.0; second = gives_from k' (claim_at other found.at) parts.1 }

-- the members of one claim
same_claim : (entries : List Entry) (i j : ℕ) (k m : Member) → i ≡ j → Gives (claim_at entries i) k → Gives (claim_at entries j) m → k ≡ m
same_claim entries i j k m e g h =
    let same : g.claim ≡ h.claim = same_Some g.claim h.claim (sym g.is ∙ ap (claim_at entries) e ∙ h.is) in
    sym g.member ∙ ap (λ (c : Claim). c.member) same ∙ h.member

same_index : (plan : Plan) (entries : List Entry) (i j : ℕ) (k m : Member) → AreGivenFreely (setup_of plan) entries → k ≡ m → Gives (claim_at entries i) k → Gives (claim_at entries j) m → i ≡ j
same_index plan entries i j k m given e g h = given.once i j g.claim h.claim g.is h.is (g.member ∙ e ∙ sym h.member)

one_to_one : (plan : Plan) (one other : List Entry) → AreGivenFreely (setup_of plan) one → AreGivenFreely (setup_of plan) other → IsOneToOne (stands_for one other)
one_to_one plan one other r s = record {
  same = λ k m k' m' h g.
      let x : Stands one other k k' = stands_from one other k k' h in
      let y : Stands one other m m' = stands_from one other m m' g in
      true_for_each_other_is_same (is_same k m) (is_same k' m')
      (λ e. member_same k' m' (same_claim other x.at y.at k' m' (same_index plan one x.at y.at k m r (same_member k m e) x.first y.first) x.second y.second))
      (λ e. member_same k m (same_claim one x.at y.at k m (same_index plan other x.at y.at k' m' s (same_member k' m' e) x.second y.second) x.first y.first));
}

-- the packet of an entry stands at the same position
packet_bodies : (stands : Member → Member → Bool) (a b : Body) → IsRenamedBody stands a b → is_packet_body a ≡ is_packet_body b
packet_bodies stands (body.Join k x c l after) (body.Join k' x' c' l' after') h = refl
packet_bodies stands (body.Leave k why) (body.Leave k' why') h = refl
packet_bodies stands (body.Packet k p) (body.Packet k' p') h = refl
packet_bodies stands (body.Reply k c) (body.Reply k' c') h = refl
packet_bodies stands body.Tick body.Tick h = refl
packet_bodies stands body.Stop body.Stop h = refl
packet_bodies stands _ _ h = absurd h

packets_at : (stands : Member → Member → Bool) (n : ℕ) (events others : List Event) (i : ℕ) → AreRenamedEvents stands events others → is_packet_from n (slice_get events i) ≡ is_packet_from n (slice_get others i)
packets_at stands n [] [] i h = refl
packets_at stands n (a ∷ events) (b ∷ others) zero h =
    ap (λ t. (t.index == n) && is_packet_body a.body) h.0.tag ∙ ap (λ x. (b.tag.index == n) && x) (packet_bodies stands a.body b.body h.0.what)
packets_at stands n (a ∷ events) (b ∷ others) (suc i) h = packets_at stands n events others i h.1
packets_at stands n [] (b ∷ others) i h = absurd h
packets_at stands n (a ∷ events) [] i h = absurd h

as_many : (stands : Member → Member → Bool) (events others : List Event) → AreRenamedEvents stands events others → length events ≡ length others
as_many stands [] [] h = refl
as_many stands (a ∷ events) (b ∷ others) h = ap suc (as_many stands events others h.1)
as_many stands [] (b ∷ others) h = absurd h
as_many stands (a ∷ events) [] h = absurd h

then_alike : (f g : ℕ → Option Verdict) (o : Option ℕ) → ((i : ℕ) → unnamed_verdict (f i) ≡ unnamed_verdict (g i)) → unnamed_verdict (option_and_then f o) ≡ unnamed_verdict (option_and_then g o)
then_alike f g None h = refl
then_alike f g (Some i) h = h i

flat_same : {X : Type 0} (f g : ℕ → List X) (ns : List ℕ) → ((n : ℕ) → f n ≡ g n) → flat_map f ns ≡ flat_map g ns
flat_same f g [] h = refl
flat_same f g (n ∷ ns) h = ap (λ xs. xs ++ flat_map f ns) (h n) ∙ ap (λ xs. g n ++ xs) (flat_same f g ns h)

module _ (law : PlacesChangeNoVerdict) (joins : JoinsTakeFreePlaces) (saying : module_law.RenamingChangesNothingSaid) (judging : module_law.RenamingChangesNoVerdict) (plan : Plan) (one other : List Entry) (given : AreGivenOtherwise (setup_of plan) one other) where
  abbrev stands : Member → Member → Bool
  stands = stands_for one other

  renamed : (letter : ℕ) → module_law.AreFreelyRenamed stands plan.places (routed (setup_of plan) one letter) (routed (setup_of plan) other letter)
  renamed letter = record {
    one_to_one = one_to_one plan one other given.first given.second;
    renamed = law.routes (setup_of plan) one other given letter;
    free = joins (setup_of plan) one letter given.first;
    free_others = joins (setup_of plan) other letter given.second;
  }

  among : (n letter : ℕ) → unnamed_verdict (verdict_among (module_setup plan letter) n (routed (setup_of plan) one letter)) ≡ unnamed_verdict (verdict_among (module_setup plan letter) n (routed (setup_of plan) other letter))
  among n letter =
      let a : List Event = routed (setup_of plan) one letter in
      let b : List Event = routed (setup_of plan) other letter in
      let routes : AreRenamedEvents stands a b = law.routes (setup_of plan) one other given letter in
      ap (λ o. unnamed_verdict (option_and_then (verdict_at (floor_setup (module_setup plan letter)) (acts_of a)) o))
      (last_below_same (λ i. is_packet_from n (slice_get a i)) (λ i. is_packet_from n (slice_get b i)) (length a) (λ i l. packets_at stands n a b i routes)
      ∙ ap (last_below (λ i. is_packet_from n (slice_get b i))) (as_many stands a b routes))
      ∙ then_alike (verdict_at (floor_setup (module_setup plan letter)) (acts_of a)) (verdict_at (floor_setup (module_setup plan letter)) (acts_of b)) (last_below (λ i. is_packet_from n (slice_get b i)) (length b)) (judging stands (module_setup plan letter) a b (renamed letter))

  by_verdict : (n : ℕ) (v : LinkVerdict) → unnamed_verdict (verdict_routed plan one n v) ≡ unnamed_verdict (verdict_routed plan other n v)
  by_verdict n (link.Routed letter act.Packet) = among n letter
  by_verdict n (link.Routed letter act.Join) = refl
  by_verdict n (link.Routed letter act.Again) = refl
  by_verdict n (link.Routed letter act.Leave) = refl
  by_verdict n (link.Routed letter act.Pong) = refl
  by_verdict n (link.Alive letter) = refl
  by_verdict n link.Asks = refl
  by_verdict n (link.Refused refusal) = refl
  by_verdict n link.NotConnected = refl
  by_verdict n (link.NotServed letter) = refl
  by_verdict n link.Full = refl
  by_verdict n link.Stray = refl
  by_verdict n link.Timed = refl
  by_verdict n link.Faulted = refl
  by_verdict n link.Ended = refl

  packets_alike : (n : ℕ) → n < length one → unnamed_verdict (packet_verdict plan one n) ≡ unnamed_verdict (packet_verdict plan other n)
  unfolding packet_verdict
  packets_alike n l =
      ap (λ v. unnamed_verdict (verdict_routed plan one n v)) (law.verdicts (setup_of plan) one other given n l)
      ∙ by_verdict n (link_verdict (setup_of plan) other n)

  module_said : (x : Peer) (letter : ℕ) → said_by_module plan one x letter ≡ said_by_module plan other x letter
  module_said x letter = saying stands (module_setup plan letter) (routed (setup_of plan) one letter) (routed (setup_of plan) other letter) (renamed letter) (is_peer x) plan.name

  said_alike : (x : Peer) → said_to plan one x ≡ said_to plan other x
  unfolding said_to
  said_alike x =
      ap (λ replies. map packets.Control replies ++ flat_map (said_by_module plan one x) (letters_of plan.modules)) (law.answers (setup_of plan) one other given x)
      ∙ ap (λ xs. map packets.Control (direct_replies (setup_of plan) other x) ++ xs) (flat_same (said_by_module plan one x) (said_by_module plan other x) (letters_of plan.modules) (module_said x))

  pub come_to_same : ComeToTheSame plan one other
  come_to_same = record {
    same = given.same;
    verdicts = λ n l. law.verdicts (setup_of plan) one other given n l;
    packets = packets_alike;
    said = said_alike;
  }

-- It comes to the same.
pub free_replays : EachEntrySaysOneThing → PlacesChangeNoVerdict → JoinsTakeFreePlaces → module_law.RenamingChangesNothingSaid → module_law.RenamingChangesNoVerdict → FreeReplaysComeToTheSame
free_replays reading law joins saying judging plan heard one other are r s =
    let given : AreGivenOtherwise (setup_of plan) one other = record {
      same = same_entries reading plan heard are one other r s;
      first = r.given;
      second = s.given;
    } in come_to_same law joins saying judging plan one other given
