-- Two pairs of groups and the colon between them.
use Rattle.std.proofs.Common.{◌+◌, [], ◌∷◌}
use Rattle.m17_peer.specs.Text.{pair_at}
use Rattle.m17_peer.proofs.Spelled.{three}
use Rattle.m17_peer.proofs.writing.put_half.Goals as goal

pub returns-clause-appended : goal.returns-clause-appended
returns-clause-appended c =
    three c.args.text.now.bytes (pair_at c.args.ip.now c.args.k) (58 ∷ []) (pair_at c.args.ip.now (c.args.k + 4))
    c.put_pair.new.text.bytes c.put_char.new.text.bytes c.put_pair-2.new.text.bytes
    c.put_pair.ensures.appended c.put_char.ensures.appended c.put_pair-2.ensures.appended
