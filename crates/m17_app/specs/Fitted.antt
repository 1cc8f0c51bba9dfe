-- What stands before the ears of `serve`, and behind its mouths.
use Rattle.std.specs.Prelude.{◌≡◌, ℕ, ◌<◌, Bool, List, Option, All, nat_lt, vec_len, if◌then◌else◌}
use Rattle.m17_ports.specs.Ear.{EarTold}
use Rattle.m17_ports.specs.Mouth.{MouthTold}
use Rattle.m17_decorators.specs.Filling.{FillingSeen, fill_told}
use Rattle.m17_decorators.specs.declared.filling.FillLabel.{FillLabel}
use Rattle.m17_gate.specs.Gated.{GateSeen, gate_told}
use Rattle.m17_gate.specs.Links.{rules_at}
use Rattle.m17_gate.specs.declared.gate.GateLabel.{GateLabel}
use Rattle.m17_gate.specs.declared.rule.Rule.{Rule}
use Rattle.m17_decorators.specs.Guarded.{GuardSeen, guard_told}
use Rattle.m17_decorators.specs.declared.guarded.GuardLabel.{GuardLabel}
use Rattle.m17_decorators.specs.Paced.{PaceSeen, PacesSeen, pace_told, places_at}
use Rattle.m17_decorators.specs.declared.clock.PaceClock.{PaceClock}
use Rattle.m17_decorators.specs.declared.paced.PaceLabel.{PaceLabel}
use Rattle.m17_reflect.specs.Run.{Devices}
use Rattle.m17_serve.specs.Served.{Around}
use Rattle.m17_words.specs.declared.order.ServeOrder.{ServeOrder}
use Rattle.m17_app.specs.declared.fitted.Fittings.{Fittings}

-- an ear behind all of it, and its label: from the socket outward what fills in CRCs, a guard, and then a gate
abbrev pub EarBehind : Type 0 → Type 0
EarBehind E = GateSeen (GuardSeen (FillingSeen E))

abbrev pub LabelBehind : Type 0 → Type 0
LabelBehind L = GateLabel (GuardLabel (FillLabel L))

-- What is told of such an ear, by what is told of the ear alone: it has heard what that has, filled in if its label says so,
-- behind its guard if it is on, and gated by the rules that its label says.
abbrev pub behind_told : {E L : Type 0} → (E → EarTold L) → EarBehind E → EarTold (LabelBehind L)
behind_told told ear = gate_told (guard_told (fill_told told)) ear

-- A mouth behind all of it, which goes by the clock of R, its label, and what is told of it: a pace lets pass to one peer in any
-- second at most as many frames as the label says, where that is not 0. It has said what the mouth alone has.
abbrev pub MouthBehind : Type 0 → Type 0 → Type 0
MouthBehind M R = PaceSeen M (PaceClock R)

abbrev pub MouthLabel : Type 0 → Type 0
MouthLabel L = PaceLabel L

abbrev pub mouth_told : {M R L : Type 0} → (M → MouthTold L) → MouthBehind M R
    → MouthTold (MouthLabel L)
mouth_told told mouth = pace_told told mouth

-- the devices that `serve` hands back, and what is told of its run
abbrev pub DevicesBack : Type 0 → Type 0 → Type 0 → Type 0
DevicesBack E M B = Devices (LabelBehind E) (MouthLabel M) (Option B)

abbrev pub ServeRun : Type 0 → Type 0 → Type 0 → Type 0
ServeRun E M B = Around (LabelBehind E) (MouthLabel M) B

-- so many guards are on by the words: that of each link, unless they leave it out
abbrev pub guards_of : ServeOrder → ℕ
guards_of order = if order.guard then vec_len order.binds else 0

-- the paces by the words: of so many frames, for the mouth of each link, where there is a bound
abbrev pub paces_of : ServeOrder → PacesSeen
paces_of order = record {
  most = order.pace;
  left = if nat_lt 0 order.pace then vec_len order.binds else 0;
}

-- The label says what these fittings have stand before the ear of a link, the next one where its place is 0, and so on.
pub record Stands {L : Type 0} (fittings : Fittings) (place : ℕ) (label : LabelBehind L)
    : Type 0 where
  pub fill : label.inner.inner.fills ≡ fittings.fills
  pub guard : label.inner.is_on ≡ nat_lt place fittings.guards
  pub rules : label.rules ≡ rules_at fittings.rules place

-- The same of what they have stand behind the mouth of a link.
pub record StandsBehind {L : Type 0} (fittings : Fittings) (place : ℕ) (label : MouthLabel L)
    : Type 0 where
  pub most : label.most ≡ fittings.paces.most
  pub places : label.places ≡ places_at fittings.paces place

-- The label says that the ear stands behind what the words ask for: CRCs are filled in where they say so; a guard, unless they
-- leave it out; and a gate of these rules.
pub record IsBehind {L : Type 0} (order : ServeOrder) (taken : List Rule) (label : LabelBehind L)
    : Type 0 where
  pub fill : label.inner.inner.fills ≡ order.fill
  pub guard : label.inner.is_on ≡ order.guard
  pub rules : label.rules ≡ taken

-- each ear stands behind that
abbrev pub AreBehind : {E M B : Type 0} → ServeOrder → List Rule → DevicesBack E M B → Type 0
AreBehind order taken devices =
    All (λ ear. IsBehind order taken ear.device.label) devices.ears

-- The label says that the mouth keeps the pace of the words: at most so many frames to one peer in any second, where that is
-- not 0, and then for 256 peers at a time.
pub record IsPaced {L : Type 0} (order : ServeOrder) (label : MouthLabel L) : Type 0 where
  pub most : label.most ≡ order.pace
  pub places : 0 < order.pace → label.places ≡ 256

-- each mouth keeps it
abbrev pub ArePaced : {E M B : Type 0} → ServeOrder → DevicesBack E M B → Type 0
ArePaced order devices = All (λ mouth. IsPaced order mouth.device.label) devices.mouths
