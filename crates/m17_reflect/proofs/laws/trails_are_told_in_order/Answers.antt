use Rattle.m17_reflect.proofs.RunLaws.{told_in_order, peer_told_in_order}
use Rattle.m17_reflect.proofs.laws.trails_are_told_in_order.Goals as goal

pub returns-clause-members : goal.returns-clause-members
returns-clause-members c setups trails queues acts more link joined held =
    told_in_order (record {
      share = c.share_is_the_others_frames.ensures.life;
      follow = c.items_follow_their_joins.ensures;
      less = c.less_of_a_life_is_a_life.ensures;
      order = c.turns_keep_each_member_in_order.ensures;
      peers = c.peers_are_told_in_order.ensures;
    }) setups trails queues held acts more link joined

pub returns-clause-peers : goal.returns-clause-peers
returns-clause-peers c setups trails queues acts more link joined name x held say are waits =
    peer_told_in_order (record {
      share = c.share_is_the_others_frames.ensures.life;
      follow = c.items_follow_their_joins.ensures;
      less = c.less_of_a_life_is_a_life.ensures;
      order = c.turns_keep_each_member_in_order.ensures;
      peers = c.peers_are_told_in_order.ensures;
    }) setups trails queues held link x joined are acts more name say waits
