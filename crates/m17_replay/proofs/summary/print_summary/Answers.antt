use Rattle.m17_replay.specs.Summary.{counts_text, peers_text}
use Rattle.std.proofs.Common.{◌++◌, ap}
use Rattle.m17_replay.proofs.Writing.{writes_part, writes_same, writes_then}
use Rattle.m17_replay.proofs.summary.print_summary.Goals as goal

pub returns-in-Ok-clause-writes : goal.returns-in-Ok-clause-writes
returns-in-Ok-clause-writes g c = λ outcomes tally count are tallies.
    writes_same _ _ _ _ _ (ap (λ n. counts_text n outcomes ++ peers_text tally c.args.named.now) count)
    (writes_then c.in-Ok.field-0 c.print_peers.result (counts_text c.args.count outcomes) (peers_text tally c.args.named.now) _ _ _ (c.in-Ok.ensures.writes outcomes are) (c.print_peers.ensures.writes tally tallies))

pub returns-in-Err-clause-writes : goal.returns-in-Err-clause-writes
returns-in-Err-clause-writes g c = λ outcomes tally count are tallies.
    writes_same _ _ _ _ _ (ap (λ n. counts_text n outcomes ++ peers_text tally c.args.named.now) count)
    (writes_part c.in-Err.failed c.in-Err.failed (counts_text c.args.count outcomes) (peers_text tally c.args.named.now) _ _ (c.in-Err.ensures.writes outcomes are))
