-- Both ends agree.
use Rattle.std.proofs.Common.{◌≡◌, ℕ, suc, Bool, List, refl, sym, ap, ◌∙◌, subst, Some, Contains}
use Rattle.std.specs.Prelude.{◌==◌, slice_get}
use Rattle.std.specs.List.{flat_map}
use Rattle.std.proofs.lemmas.Bool.{eqb-true}
use Rattle.m17_lists.proofs.Tests.{both_are_true}
use Rattle.m17_lists.proofs.Contents.{what_has_a_place_is_in}
use Rattle.m17_lists.proofs.Places.{mapped_is_of_its_place}
use Rattle.m17_values.specs.declared.heard.Heard.{Heard}
use Rattle.m17_values.specs.declared.heard.Heard.TheVariants as heard
use Rattle.m17_values.specs.declared.peer.Peer.{Peer}
use Rattle.m17_stream.specs.Laws.{OneSpelling}
use Rattle.m17_stream.specs.declared.packet.StreamPacket.{StreamPacket}
use Rattle.m17_control.specs.Forms.{Spells, SpellsControl}
use Rattle.m17_control.specs.Laws.{DecodingIsExact}
use Rattle.m17_control.specs.declared.event.Body.TheVariants.{Join}
use Rattle.m17_control.specs.declared.event.Event.{Event}
use Rattle.m17_control.specs.declared.item.Item.{Item}
use Rattle.m17_control.specs.declared.packet.Control.TheVariants.{Ackn}
use Rattle.m17_control.specs.declared.packet.Packet.{Packet}
use Rattle.m17_control.specs.declared.packet.Packet.TheVariants as packets
use Rattle.m17_directory.specs.Entries.{is_peer}
use Rattle.m17_directory.specs.Laws.{DoorCarriesReplies, JoinsAreTheClaims, PeersAreToldApart}
use Rattle.m17_module.specs.Laws.{ItemsFollowTheirJoins, LaterEventsChangeNoItems}
use Rattle.m17_sender.specs.Joined.{goes_to, items_of}
use Rattle.m17_reflect.specs.Headline.{Headline, IsCarriedOut}
use Rattle.m17_reflect.specs.Links.{At, IsLink, Link, letter_of, link_setup, setup_at}
use Rattle.m17_reflect.specs.Queues.{all_carried, carried}
use Rattle.m17_reflect.specs.Run.{Run}
use Rattle.m17_reflect.specs.Sendings.{memberships}
use Rattle.m17_reflect.specs.Trails.{events_of}
use Rattle.m17_client.specs.Client.{join_packet}
use Rattle.m17_client.specs.Laws.{ClientKeepsWhatWasSaid, TalkIsAClientsEnd}
use Rattle.m17_client.specs.Talk.{steps_of}
use Rattle.m17_client.specs.Standing.{Standing}
use Rattle.m17_client.specs.Steps.{ClientStep}
use Rattle.m17_client.specs.Way.{GotIn, KeepsWhatWasSaid, Way}
use Rattle.m17_laws.specs.BothEnds.{BothLetIn, IsAnswered, IsInATrail, IsLinksEnd}
use Rattle.m17_laws.specs.ClientAndLinkLaws.{BothEndsAgree, TalksAgree}
use Rattle.m17_laws.proofs.Listed.{all_at, beside}
use Rattle.m17_laws.proofs.Given.{speaks}
use Rattle.m17_laws.proofs.Answered.{from_front, given_at, passes_too, routed_by, same_place}
use Rattle.m17_laws.proofs.Carried.{given_in, in_a_trail}
use Rattle.m17_laws.proofs.Heads.{is_ackn, is_frame}
use Rattle.m17_laws.proofs.Told.{Telling, never_ackn, said_to_peer, told_all}
use Rattle.m17_laws.proofs.Asked.{HeardAsk, IsJoinOf, heard_ask}

-- the laws below that this rests on
pub record Laws : Type 0 where
  pub client : ClientKeepsWhatWasSaid
  pub exact : DecodingIsExact
  pub frames : OneSpelling
  pub apart : PeersAreToldApart
  pub door : DoorCarriesReplies
  pub claims : JoinsAreTheClaims
  pub later : LaterEventsChangeNoItems
  pub joins : ItemsFollowTheirJoins

-- a Join that names the peer of an item is one of that peer
joins_peer : (item : Item) (event : Event) (x : Peer) → item.peer ≡ x → (callsign : ℕ) (listens : Bool) (after : ℕ)
    → event.body ≡ Join item.member item.peer callsign listens after → IsJoinOf x event.body
joins_peer item event x same callsign listens after is = (
  item.member,
  callsign,
  listens,
  after,
  is ∙ ap (λ (y : Peer). Join item.member y callsign listens after) same,
)

module _ {E M B : Type 0} where
  -- The link's end, with its link: what the way says that it heard is what the link heard, and what it said to the client
  -- is a reply, or an item of one of the client's memberships.
  record LinkThere (run : Run E M B) (links : List Link) (way : Way) (i : ℕ) : Type 0 where
    link : Link
    at_link : At links i link
    is_link : IsLink link
    heard_is : way.link_heard ≡ link.heard
    told : (bytes : List ℕ) → Contains way.link_said (way.client, bytes)
        → (q : Packet) × Spells q bytes
        × Telling (link_setup run.plan i) link.entries (carried run.handed.queues) way.client q

  link_there : (laws : Laws) (run : Run E M B) (headline : Headline run) (i : ℕ) (way : Way)
      (out : IsCarriedOut run headline.heard) → IsLinksEnd run i way
      → LinkThere run out.links way i
  link_there laws run headline i way out is =
      let (entries, at_heard) = beside run.before.ears headline.heard i is.ear_before
      (sym headline.ears.count) is.ear_was in
      let has = headline.ears.each i entries is.ear_before is.ear_after at_heard is.ear_was is.ear_is in
      let heard_all : way.link_heard ≡ entries =
      told_all is.ear_before.heard entries way.link_heard is.new_ear (sym has.told ∙ is.heard) in
      let (link, at_link, same) = mapped_is_of_its_place (λ (link : Link). link.heard) out.links i entries
      (subst (λ l. slice_get l i ≡ Some entries) (sym out.of_heard) at_heard) in
      record {
        link = link;
        at_link = at_link;
        is_link = all_at IsLink out.links i link out.each at_link;
        heard_is = heard_all ∙ sym same;
        told = λ bytes there. said_to_peer (link_setup run.plan i) link.entries (carried run.handed.queues)
            is.mouth_before is.mouth_after way.link_said way.client bytes laws.apart
            (out.mouths.each i link is.mouth_before is.mouth_after at_link is.mouth_was is.mouth_is)
            is.new_mouth is.said there;
      }

  -- What an ACKN that was said to the client goes back to: a request of it that the link heard, and that a module answered.
  record Answering (run : Run E M B) (i : ℕ) (way : Way) : Type 0 where
    asked : ℕ
    request : HeardAsk way.link_heard way.client asked
    answered : IsAnswered run i asked way.client

  ackn_asked : (laws : Laws) (run : Run E M B) (heard_all : List (List Heard)) (out : IsCarriedOut run heard_all) (i : ℕ)
      (way : Way) (there : LinkThere run out.links way i) (q : Packet) → q ≡ packets.Control Ackn
      → Telling (link_setup run.plan i) there.link.entries (carried run.handed.queues) way.client q
      → Answering run i way
  ackn_asked laws run heard_all out i way there q is (Telling.Replied c same reply) =
      let ackn : c ≡ Ackn = cc in
      absurd (never_ackn laws.door (link_setup run.plan i) there.link.entries way.client
      (subst (Contains _) ackn reply))
  ackn_asked laws run heard_all out i way there q is (Telling.Carried j item to_it among held said) =
      let given = given_in run out.links j.m j.member.place item out.trails out.queues held in
      let at = given_at laws.later laws.joins (setup_at run.plan j.m) (events_of given.trail) item given.given in
      let goes = passes_too (goes_to i (is_peer way.client)) (all_carried run.handed.queues)
      (flat_map (items_of (carried run.handed.queues)) (memberships (link_setup run.plan i) there.link.entries way.client))
      item (out.mouths.shares i there.link way.client there.at_link) among in
      let (by_link, to_peer) = both_are_true (i == item.link) (is_peer way.client item.peer) goes in
      let link_is : item.link ≡ i = sym (eqb-true i item.link by_link) in
      let peer_is : item.peer ≡ way.client = sym (laws.apart.same way.client item.peer to_peer) in
      let route = routed_by run.plan out.links (letter_of run.plan j.m) i there.link given.trail at.join.event
      (out.trails.each j.m given.trail given.there) there.at_link
      (from_front (suc at.n) (events_of given.trail) at.join.position at.join.event at.join.there)
      (at.join.link ∙ link_is) in
      record {
        asked = at.join.event.tag.index;
        request = rw there.heard_is (heard_ask (link_setup run.plan i) there.link.heard there.link.entries
            (letter_of run.plan j.m) way.client at.join.event laws.claims there.is_link.says route
            (joins_peer item at.join.event way.client peer_is at.join.callsign at.join.listens at.join.after
            at.join.body));
        answered = record {
          m = j.m;
          trail = given.trail;
          there = given.there;
          n = at.n;
          ackn = item;
          gives = at.gives;
          says = said ∙ ap Some is;
          to_peer = peer_is;
          by_link = link_is;
          queued = subst (λ (place : ℕ). Contains (carried run.handed.queues j.m place) item)
              (sym (same_place item.member j.member to_it)) held;
          join = at.join;
          of_entry = refl;
        };
      }

  let_in : (laws : Laws) (run : Run E M B) (heard_all : List (List Heard)) (out : IsCarriedOut run heard_all) (i : ℕ)
      (way : Way) (first : Standing) (steps front : List ClientStep) → LinkThere run out.links way i
      → KeepsWhatWasSaid way first steps → GotIn way first front → BothLetIn run i way first front
  let_in laws run heard_all out i way first steps front there keeps got =
      let (q, spelled, telling) = there.told got.answer got.answer_said in
      let ackn = ackn_asked laws run heard_all out i way there q (is_ackn q got.answer got.is_ackn spelled) telling in
      let asked = ackn.request in
      let own : SpellsControl (join_packet first) asked.bytes =
      keeps.asks asked.at asked.bytes asked.packet (what_has_a_place_is_in way.link_heard ackn.asked _ asked.there)
      asked.asks asked.spelled in
      let same : asked.bytes ≡ got.asking =
      laws.exact.one_spelling (packets.Control (join_packet first)) asked.bytes got.asking own got.asks in
      record {
        got_in = got;
        asked = ackn.asked;
        at = asked.at;
        link_heard = asked.there ∙ ap (λ (b : List ℕ). Some (heard.Datagram way.client asked.at b)) same;
        answered = ackn.answered;
      }

  -- a voice packet that was said to the client is given out in a trail
  voice_given : (laws : Laws) (run : Run E M B) (heard_all : List (List Heard)) (out : IsCarriedOut run heard_all) (i : ℕ)
      (way : Way) (there : LinkThere run out.links way i) (packet : StreamPacket) (q : Packet)
      → q ≡ packets.Stream packet
      → Telling (link_setup run.plan i) there.link.entries (carried run.handed.queues) way.client q
      → IsInATrail run packet
  voice_given laws run heard_all out i way there packet q is (Telling.Replied c same reply) = absurd cc
  voice_given laws run heard_all out i way there packet q is (Telling.Carried j item to_it among held said) =
      in_a_trail run out.links j.m j.member.place item packet out.trails out.queues held
      (speaks packet item.body (link_setup run.plan i).name (said ∙ ap Some is))

  pub both_agree : Laws → BothEndsAgree E M B
  both_agree laws run headline i way first steps is net end' =
      let out = headline.carried_out in
      let there = link_there laws run headline i way out is in
      let keeps = laws.client way first steps net end' in
      record {
        keeps = keeps;
        let_in = λ front rest are connected.
            let_in laws run headline.heard out i way first steps front there keeps
            (keeps.got_in front rest are connected);
        in_trails = λ packet kept.
            let (bytes, spelled, said) = keeps.said packet kept in
            let (q, other, telling) = there.told bytes said in
            voice_given laws run headline.heard out i way there packet q
            (is_frame laws.frames packet q bytes spelled other) telling;
      }

  pub talks_agree : {L : Type 0} → Laws → TalkIsAClientsEnd L → TalksAgree E M B L
  talks_agree laws talk run headline i way plan turns is net over =
      both_agree laws run headline i way plan.client (steps_of turns) is net (talk way plan turns over)
