use Rattle.std.proofs.Common.{List, sym, subst}
use Rattle.m17_values.specs.declared.peer.Peer.{Peer}
use Rattle.m17_replay.specs.declared.judging.Page.{Page}
use Rattle.m17_replay.specs.Run.{kept_on, AreNamed}
use Rattle.m17_replay.proofs.Judged.{can_print, judged, taken, IsToEnd}
use Rattle.m17_replay.proofs.judging.prepare.Goals as goal

pub returns : goal.returns
returns c =
    let heards = c.args.heard.now in
    let page : Page = record {
      named = c.in_ok-named.named;
      lost = c.ends_in_fault-lost.result;
      count = c.count_heard-count.result;
    } in
    let to_end : IsToEnd heards c.count_to_end.result = λ entries front rest parts says once. c.count_to_end.ensures.ends entries front rest parts says once in
    let size = sym (taken c.count_to_end.result heards c.count_to_end.ensures.few) in
    let named = subst (λ (peers : List Peer). AreNamed peers c.in_ok-mouth.mouth) c.deref.ensures.value c.in_ok-mouth.ensures.named in
    record {
      empty = c.in_ok-mouth.ensures.empty;
      judged = λ plan outcomes mouth is.
          judged plan c.args.summary heards (kept_on page outcomes mouth) c.count_to_end.result _ to_end size is
          c.in_ok-named.ensures c.ends_in_fault-lost.ensures c.count_heard-count.ensures;
      can_print = λ plan outcomes mouth is peers.
          can_print plan heards (kept_on page outcomes mouth) c.in_ok-mouth.mouth c.count_to_end.result _ to_end size is
          c.count_heard-count.ensures named peers;
    }
