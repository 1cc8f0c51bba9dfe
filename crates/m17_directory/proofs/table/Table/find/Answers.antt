use Rattle.std.proofs.Common.{rules, of_calls}
use Rattle.std.proofs.lemmas.Fn.{always_returns_same}
use Rattle.m17_directory.specs.Entries.{peer_cmp}
use Rattle.m17_directory.proofs.Tables.{found_by}
use Rattle.m17_directory.proofs.table.Table.find.Goals as goal

pub returns : goal.returns
returns c =
    let facts = c.binary_search_by.ensures in
    let by_peer = facts.position (λ k. peer_cmp k.peer c.args.peer.now) (always_returns_same _ _ _ (λ a r f k. search (rules, of_calls))) in
    rw (← c.self.view_is, ← c.as_slice.ensures.value) (found_by _ c.args.peer.now _ (rw c.as_slice.ensures.value c.self.invariant.order) facts.bound by_peer)
