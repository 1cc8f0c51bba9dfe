-- What is known of new devices is known of the same devices when they come back.
use Rattle.std.proofs.Common.{◌≡◌, ℕ, sym, subst}
use Rattle.m17_ports.specs.Marks.{Device, EarMark, MouthMark}
use Rattle.m17_client.specs.declared.crossing.BridgeEnd.{BridgeEnd}
use Rattle.m17_client.specs.declared.side.Side.TheVariants.{Near, Far}
use Rattle.m17_client.specs.CrossRun.{CrossPlan}
use Rattle.m17_client.specs.CrossDevices.{DevicesTold, HasCrossed}
use Rattle.m17_client_commands.specs.Bridged.{IsKnown}

ear_on : {E : Type 0} (known : E → Type 0) (a b : Device EarMark E) → b ≡ a → known a.label → known b.label
ear_on {E} known a b same = subst (λ (d : Device EarMark E). known d.label) (sym same)

mouth_on : {M : Type 0} (known : M → Type 0) (a b : Device MouthMark M) → b ≡ a → known a.label → known b.label
mouth_on {M} known a b same = subst (λ (d : Device MouthMark M). known d.label) (sym same)

pub known_on : {E M : Type 0} (ears : ℕ → E → Type 0) (mouths : ℕ → M → Type 0) (plan : CrossPlan) (end : BridgeEnd)
    (before after : DevicesTold E M) → HasCrossed plan end before after
    → IsKnown ears mouths before → IsKnown ears mouths after
known_on ears mouths plan end before after crossed known = record {
  near_ear = ear_on (ears 0) _ _ (crossed.heard Near).same_device known.near_ear;
  near_mouth = mouth_on (mouths 0) _ _ (crossed.said Near).same_device known.near_mouth;
  far_ear = ear_on (ears 1) _ _ (crossed.heard Far).same_device known.far_ear;
  far_mouth = mouth_on (mouths 1) _ _ (crossed.said Far).same_device known.far_mouth;
}
