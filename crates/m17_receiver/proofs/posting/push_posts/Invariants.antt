use Rattle.std.proofs.Common.{◌≡◌, length, vec_capacity}
use Rattle.m17_receiver.specs.Posting.{AreSameOutlets}
use Rattle.m17_receiver.specs.SoFar.{posting}
use Rattle.m17_receiver.proofs.posting.push_posts.Given as goal

abbrev pub invariant-posts : goal.invariant-posts
invariant-posts g l = record {
  pushed : posting l.modules l.post (record { inboxes = l.inboxes.items; door = l.door })
      ≡ posting l.modules l.initial.post (record { inboxes = l.initial.inboxes.items; door = l.initial.door });
  lanes : AreSameOutlets (record { inboxes = l.initial.inboxes.items; door = l.initial.door })
      (record { inboxes = l.inboxes.items; door = l.door });
  room : vec_capacity l.inboxes ≡ vec_capacity l.initial.inboxes;
}

abbrev pub decreases-posts : goal.decreases-posts
decreases-posts g l = length l.post
