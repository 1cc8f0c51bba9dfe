-- Which books are legal: what a book keeps, act by act, held against the floor rule over all of it, under the limit on
-- talking that the book names. Positions count from 0.
use Rattle.std.specs.Prelude.{◌≡◌, ◌≢◌, ℕ, ◌-◌, ◌<◌, List, length, map, slice_get, Option}
use Rattle.std.specs.Option.{option_and_then, option_map_or}
use Rattle.m17_values.specs.declared.member.Member.{Member}
use Rattle.m17_floor.specs.declared.act.Act.{Act}
use Rattle.m17_floor.specs.declared.act.ActKind.{ActKind}
use Rattle.m17_floor.specs.declared.act.ActKind.TheVariants.{Join, Leave, Packet, Other}
use Rattle.m17_floor.specs.declared.rule.Rule.{Rule}
use Rattle.m17_floor.specs.declared.rule.Rule.TheVariants as rules
use Rattle.m17_floor.specs.declared.verdict.Verdict.{Verdict}
use Rattle.m17_floor.specs.Setup.{FloorSetup, floor_setup}
use Rattle.m17_floor.specs.Acts.{kind_at, IsMember}
use Rattle.m17_floor.specs.Floor.{verdict_at}

-- An act as a book keeps it: with its moment, and of a packet with the verdict that was written down.
pub record KeptAct : Type 0 where
  pub act : Act
  pub verdict : Option Verdict

-- a book can name 256 places
abbrev pub book_places : ℕ
book_places = 256

-- what the floor of a book's module is made with, under this limit
abbrev pub book_setup : ℕ → FloorSetup
book_setup limit = floor_setup book_places limit

-- the acts alone
abbrev pub acts_in : List KeptAct → List Act
acts_in kept = map (λ one. one.act) kept

-- the moment that stands at a position, and the verdict that was written down there
abbrev pub moment_written : List Act → ℕ → ℕ
moment_written acts n = option_map_or (λ act. act.at) (slice_get acts n) 0

abbrev pub verdict_written : List KeptAct → ℕ → Option Verdict
verdict_written kept n = option_and_then (λ one. one.verdict) (slice_get kept n)

-- The moment of position n is below that of the position before it.
abbrev pub FallsBehind : List Act → ℕ → Type 0
FallsBehind acts n =
    (0 < n) × (n < length acts) × (moment_written acts n < moment_written acts (n - 1))

-- The Join is at a place at which somebody is in; the Leave is of one that isn't in.
abbrev pub BreaksMembership : List Act → ℕ → ActKind → Type 0
BreaksMembership acts n (Join k listens) =
    (m : Member) × (m.place ≡ k.place) × IsMember book_places acts m n
BreaksMembership acts n (Leave k) = ¬ IsMember book_places acts k n
BreaksMembership acts n (Packet k p) = ⊥
BreaksMembership acts n Other = ⊥

-- The act is a packet, and the verdict that was written down isn't that of the floor rule.
abbrev pub HasOtherVerdict : ℕ → List KeptAct → ℕ → ActKind → Type 0
HasOtherVerdict limit kept n (Packet k p) =
    verdict_written kept n ≢ verdict_at (book_setup limit) (acts_in kept) n
HasOtherVerdict limit kept n _ = ⊥

-- Position n breaks the rule.
abbrev pub HasBreach : ℕ → List KeptAct → ℕ → Rule → Type 0
HasBreach limit kept n rules.Moment = FallsBehind (acts_in kept) n
HasBreach limit kept n rules.Member = BreaksMembership (acts_in kept) n (kind_at (acts_in kept) n)
HasBreach limit kept n rules.Verdict = HasOtherVerdict limit kept n (kind_at (acts_in kept) n)

-- No position breaks a rule under this limit.
abbrev pub IsLegal : ℕ → List KeptAct → Type 0
IsLegal limit kept = (n : ℕ) (rule : Rule) → ¬ HasBreach limit kept n rule

-- the place of a rule in the order in which they are tried
abbrev pub turn_of : Rule → ℕ
turn_of rules.Moment = 0
turn_of rules.Member = 1
turn_of rules.Verdict = 2

-- Position n breaks the rule, no earlier position breaks any, and n none that is tried before.
pub record IsFirstBreach (limit : ℕ) (kept : List KeptAct) (n : ℕ) (rule : Rule) : Type 0 where
  pub breach : HasBreach limit kept n rule
  pub none_before : (m : ℕ) (other : Rule) → m < n → ¬ HasBreach limit kept m other
  pub first_rule : (other : Rule) → turn_of other < turn_of rule → ¬ HasBreach limit kept n other
