use Rattle.std.proofs.Common.{◌+◌, ◌∙◌, arith}
use Rattle.std.proofs.lemmas.List.{length-set}
use Rattle.m17_decorators.specs.GuardMemory.{peer_bucket_of, bytes_bucket_of, peer_link, bytes_link}
use Rattle.m17_decorators.proofs.Telling.{below}
use Rattle.m17_decorators.proofs.Whole.{put-linked}
use Rattle.m17_decorators.proofs.memory.Memory.put.Goals as goal

pub returns-clause-whole : goal.returns-clause-whole
returns-clause-whole c =
    let m = c.args.self.now in
    let w = c.requires.whole in record {
      slots = length-set m.slots.items c.place_of-place.result c.args.slot ∙ w.slots;
      peers = length-set m.peers.items c.args.by_peer (m.count + 1) ∙ w.peers;
      frames = length-set m.frames.items c.args.by_bytes (m.count + 1) ∙ w.frames;
      count = let room = c.requires.room in omega arith;
      ends = w.ends;
      by_peer = put-linked m.slots.items (peer_bucket_of m.keys) peer_link c.args.slot m.count
          c.args.by_peer c.place_of-place.result m.peers.items w.slots w.peers c.requires.by_peer
          (below _) c.requires.peer_link c.place_of-place.ensures w.by_peer;
      by_bytes = put-linked m.slots.items (bytes_bucket_of m.keys) bytes_link c.args.slot m.count
          c.args.by_bytes c.place_of-place.result m.frames.items w.slots w.frames
          c.requires.by_bytes (below _) c.requires.bytes_link c.place_of-place.ensures w.by_bytes;
    }
