-- What a bridge promises of what is said on its sides.
use Rattle.std.specs.Prelude.{◌≡◌, ◌≢◌, ◌⊎◌, ℕ, true, ◌+◌, ◌≤◌, List, [], ◌∷◌, ◌++◌, map}
use Rattle.m17_stream.specs.Stream.{SpellsStream}
use Rattle.m17_stream.specs.declared.packet.StreamPacket.{StreamPacket}
use Rattle.m17_client.specs.TalkDevices.{says_of}
use Rattle.m17_client.specs.declared.side.Side.{Side}
use Rattle.m17_client.specs.Sides.{opposite}
use Rattle.m17_client.specs.Passing.{Kept, way_timeout_ms}
use Rattle.m17_client.specs.BridgeSteps.{BridgeStep, passing, passing_from, steps_on}

-- The bytes are those of no stream packet.
abbrev pub IsNoFrame : List ℕ → Type 0
IsNoFrame bytes = (packet : StreamPacket) → SpellsStream packet bytes → ⊥

-- The stream packets among these datagrams are these, byte for byte and in order.
abbrev pub HasFrames : List (List ℕ) → List StreamPacket → Type 0
HasFrames [] packets = packets ≡ []
HasFrames (bytes ∷ datagrams) packets =
    ((packet : StreamPacket) × (rest : List StreamPacket) × (packets ≡ packet ∷ rest)
    × SpellsStream packet bytes × HasFrames datagrams rest)
    ⊎ (IsNoFrame bytes × HasFrames datagrams packets)

-- Of two packets of opposite sides that pass one after the other, the first ended its stream, or
-- 1,600 milliseconds lie between them.
abbrev pub TakeTurns : List Kept → Type 0
TakeTurns passing = (front rest : List Kept) (a b : Kept) → passing ≡ front ++ a ∷ b ∷ rest
    → a.side ≢ b.side → (a.packet.last ≡ true) ⊎ (a.at + way_timeout_ms ≤ b.at)

-- The stream packets that are said on a side are those of the other side that pass, and never both
-- sides pass at once.
pub record KeepsPromise (steps : List BridgeStep) : Type 0 where
  pub frames : (side : Side) → HasFrames (says_of (steps_on side steps))
      (map (λ kept. kept.packet) (passing_from (opposite side) steps))
  pub turns : TakeTurns (passing steps)
