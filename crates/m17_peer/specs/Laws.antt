-- Whose a text is.
use Rattle.std.specs.Prelude.{◌≡◌, ℕ, List}
use Rattle.m17_values.specs.declared.peer.Peer.{Peer}
use Rattle.m17_peer.specs.Text.{IsTextOf}

-- No text is that of two peers.
abbrev pub EachTextIsOfOnePeer : Type 0
EachTextIsOfOnePeer =
    (peer other : Peer) (text : List ℕ) → IsTextOf peer text → IsTextOf other text → peer ≡ other
