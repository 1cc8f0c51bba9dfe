-- The same acts of other members: which of one list stands for which of the other, and what of it
-- is free of the choice.
use Rattle.std.specs.Prelude.{◌≡◌, ℕ, ◌<◌, Bool, true, List, map, Option, None, option_map}
use Rattle.m17_values.specs.declared.member.Member.{Member}
use Rattle.m17_floor.specs.declared.act.Act.{Act}
use Rattle.m17_floor.specs.declared.act.ActKind.{ActKind}
use Rattle.m17_floor.specs.declared.act.ActKind.TheVariants.{Join, Leave, Packet, Other}
use Rattle.m17_floor.specs.declared.verdict.Verdict.{Verdict}
use Rattle.m17_floor.specs.declared.verdict.Verdict.TheVariants.{Busy}
use Rattle.m17_floor.specs.Acts.{kind_at, is_same, joined_at}

-- Which member stands for which: one for one, both ways.
pub record IsOneToOne (stands : Member → Member → Bool) : Type 0 where
  pub same : (k m k' m' : Member) → stands k k' ≡ true → stands m m' ≡ true →
      is_same k m ≡ is_same k' m'

-- The act is the same, of the member that stands for the other.
abbrev pub IsRenamedKind : (Member → Member → Bool) → ActKind → ActKind → Type 0
IsRenamedKind stands (Join k listens) (Join k' listens') =
    (stands k k' ≡ true) × (listens ≡ listens')
IsRenamedKind stands (Leave k) (Leave k') = stands k k' ≡ true
IsRenamedKind stands (Packet k p) (Packet k' p') = (stands k k' ≡ true) × (p ≡ p')
IsRenamedKind stands Other Other = Unit {0}
IsRenamedKind stands _ _ = ⊥

-- The same acts at the same moments, of the members that stand for the others.
pub record AreRenamed (stands : Member → Member → Bool) (acts others : List Act) : Type 0 where
  pub moments : map (λ act. act.at) acts ≡ map (λ act. act.at) others
  pub kinds : (n : ℕ) → IsRenamedKind stands (kind_at acts n) (kind_at others n)

-- Who joins takes one of the places, and nobody is in at it.
pub record TakesFreePlace (places : ℕ) (acts : List Act) (n : ℕ) (k : Member) : Type 0 where
  pub below : k.place < places
  pub free : (m : Member) → m.place ≡ k.place → joined_at places acts m n ≡ None

abbrev pub TakeFreePlaces : ℕ → List Act → Type 0
TakeFreePlaces places acts =
    (n : ℕ) (k : Member) (listens : Bool) → kind_at acts n ≡ Join k listens →
    TakesFreePlace places acts n k

-- The verdict, but for the member that has the floor.
abbrev pub unnamed : Verdict → Verdict
unnamed (Busy holder) = Busy (record { place = 0; generation = 0 })
unnamed verdict = verdict

abbrev pub unnamed_verdict : Option Verdict → Option Verdict
unnamed_verdict verdict = option_map unnamed verdict

-- Two lists of acts, the same but for the members, each at free places.
pub record AreFreelyRenamed (stands : Member → Member → Bool) (places : ℕ) (acts others : List Act)
    : Type 0 where
  pub one_to_one : IsOneToOne stands
  pub renamed : AreRenamed stands acts others
  pub free : TakeFreePlaces places acts
  pub free_others : TakeFreePlaces places others
