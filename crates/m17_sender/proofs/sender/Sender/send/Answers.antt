use Rattle.std.proofs.Common.{[], ◌++◌, replicate, sym, subst}
use Rattle.std.proofs.lemmas.List.{get_or-replicate}
use Rattle.m17_lane.specs.Ends.{PopEnd}
use Rattle.m17_crew.specs.declared.order.Order.{Order}
use Rattle.m17_sender.specs.Sent.{HasStopped}
use Rattle.m17_sender.proofs.Ended.{has_sent, nothing_yet}
use Rattle.m17_sender.proofs.sender.Sender.send.Goals as goal

pub returns : goal.returns
returns g c =
    let start = nothing_yet g.M.Mouth.told
    c.rows_push.ensures c.mouths_say_in_turn.ensures c.turns_grow.ensures c.args.self.now (replicate 256 0) c.requires
    (λ i lt. get_or-replicate 256 i 0 0 lt) in
    let served = c.serve.ensures.grows.on c.args.self.now [] start in
    let ended = c.finish.ensures.goes_on.grows.on c.args.self.now ([] ++ served.0) served.1 in
    has_sent g.M.Mouth.told
    c.args.self.now c.finish.new.self c.args.self.now.order (([] ++ served.0) ++ ended.0) c.finish.new.kept.noted ended.1
    c.finish.ensures.rests
    (subst (λ (o : PopEnd Order). HasStopped c.args.self.now.order o) (sym c.finish.ensures.goes_on.same_order)
    c.serve.ensures.stopped)
