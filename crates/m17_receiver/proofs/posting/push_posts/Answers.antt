use Rattle.std.proofs.Common.{[], ◌∷◌, sym, ap, ◌∙◌, refl}
use Rattle.m17_receiver.specs.Posting.{Outlets}
use Rattle.m17_receiver.specs.SoFar.{posting}
use Rattle.m17_receiver.proofs.Posted.{posting_more}
use Rattle.m17_receiver.proofs.posting.push_posts.Goals as goal

pub posts-preserved : goal.posts-preserved
posts-preserved g c =
    let law = c.known_laws.ensures in
    let modules = c.args.modules in
    let old : Outlets = record { inboxes = c.posts.inboxes.items; door = c.posts.door } in
    let first = c.in-Some.ensures.first in
    record {
      pushed = ap (posting modules c.take.new.self) c.push_one.ensures.pushed
          ∙ posting_more law modules (c.in-Some.dispatch ∷ []) c.take.new.self old
          ∙ ap (λ ds. posting modules ds old) (sym first)
          ∙ c.posts.invariant.pushed;
      lanes = record {
        inboxes = c.push_one.ensures.lanes.inboxes ∙ c.posts.invariant.lanes.inboxes;
        door = c.push_one.ensures.lanes.door ∙ c.posts.invariant.lanes.door;
      };
      room = c.push_one.ensures.room ∙ c.posts.invariant.room;
    }

pub posts-init : goal.posts-init
posts-init g c = record { pushed = refl; lanes = record { inboxes = refl; door = refl }; room = refl }
