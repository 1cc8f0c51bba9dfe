use Rattle.std.proofs.Common.{rules, ◌≤◌, length, sym, ◌∙◌, arith}
use Rattle.std.proofs.lemmas.List.{drop_all}
use Rattle.m17_streams.proofs.Holding.{flushed}
use Rattle.m17_streams.proofs.buffered_sink.BufferedSinkSink.flush.Goals as goal

pub returns-then-sent-len-clause-same : goal.returns-then-sent-len-clause-same
returns-then-sent-len-clause-same g c =
    let sent = rw c.deref.ensures.value at c.send_all-sent.ensures.sent in
    rw (← c.self.view_is) (flushed _ _ c.self.inside.buffer.items _ c.send_all-sent.result sent c.drop_front.ensures.items)

pub returns-clause-same : goal.returns-clause-same
returns-clause-same g c =
    let sent = rw c.deref.ensures.value at c.send_all-sent.ensures.sent in
    let all : length c.self.inside.buffer.items ≤ c.send_all-sent.result = omega arith in
    rw (← c.self.view_is) (flushed _ _ c.self.inside.buffer.items _ c.send_all-sent.result sent
    (c.clear.ensures.items ∙ sym (drop_all c.send_all-sent.result c.self.inside.buffer.items all)))
