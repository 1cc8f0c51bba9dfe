use Rattle.std.proofs.Common.{◌≡◌, ◌≤◌, length, vec_len, vec_capacity}
use Rattle.m17_house.specs.Tallied.{IsSameMouth}
use Rattle.m17_house.proofs.UnderWay.{IsUnderWay}
use Rattle.m17_house.proofs.replay.play.Given as goal

abbrev pub invariant-loop-index : goal.invariant-loop-index
invariant-loop-index l = IsUnderWay l.plan l.heard l.index l.run l.mouth l.verdicts.items l.packets.items
    × (length l.heard ≤ vec_capacity l.verdicts) × (length l.heard ≤ vec_capacity l.packets)
    × (vec_len l.verdicts ≡ l.index) × (vec_len l.packets ≡ l.index) × IsSameMouth l.initial.mouth l.mouth
