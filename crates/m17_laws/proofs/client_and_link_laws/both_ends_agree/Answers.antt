use Rattle.m17_laws.proofs.Agreed.{both_agree, talks_agree}
use Rattle.m17_laws.proofs.client_and_link_laws.both_ends_agree.Goals as goal

pub returns-clause-ends : goal.returns-clause-ends
returns-clause-ends g c = both_agree (record {
  client = c.client_keeps_what_was_said.ensures;
  exact = c.decoding_is_exact.ensures;
  frames = c.one_spelling.ensures;
  apart = c.peers_are_told_apart.ensures;
  door = c.door_carries_replies.ensures;
  claims = c.joins_are_the_claims.ensures;
  later = c.later_events_change_no_items.ensures;
  joins = c.items_follow_their_joins.ensures;
})

pub returns-clause-talks : goal.returns-clause-talks
returns-clause-talks g c = talks_agree (record {
  client = c.client_keeps_what_was_said.ensures;
  exact = c.decoding_is_exact.ensures;
  frames = c.one_spelling.ensures;
  apart = c.peers_are_told_apart.ensures;
  door = c.door_carries_replies.ensures;
  claims = c.joins_are_the_claims.ensures;
  later = c.later_events_change_no_items.ensures;
  joins = c.items_follow_their_joins.ensures;
}) c.talk_is_a_clients_end.ensures
