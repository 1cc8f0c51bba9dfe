-- The peer, its numbers, and the line feed.
use Rattle.std.proofs.Common.{◌++◌, ◌∷◌, [], ap, ◌∙◌}
use Rattle.m17_replay.specs.Summary.{tally_text}
use Rattle.m17_replay.proofs.summary_lines.make_peer_line.Goals as goal

pub returns : goal.returns
returns c =
    c.push_byte.ensures ∙ ap (λ l. l ++ 10 ∷ []) (c.push_tally.ensures.appended
    ∙ ap (λ l. l ++ tally_text c.args.tally.now) c.begin_peer.ensures.begun)
