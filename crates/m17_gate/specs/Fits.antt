-- Which rule fits, and what is allowed.
use Rattle.std.specs.Prelude.{◌==◌, ◌&&◌, ℕ, Bool, true, false, List, [], ◌∷◌, find, is_none, nat_eq, Option, None, Some}
use Rattle.std.specs.List.{starts_with}
use Rattle.std.specs.Option.{option_map_or}
use Rattle.m17_callsign.specs.Letters.{callsign_of}
use Rattle.m17_control.specs.Modules.{serves}
use Rattle.m17_control.specs.declared.modules.Modules.{Modules}
use Rattle.m17_control.specs.declared.packet.Packet.{Packet}
use Rattle.m17_gate.specs.declared.asked.Asked.{Asked}
use Rattle.m17_gate.specs.declared.asked.Asked.TheVariants.{Connects, Listens, Talks}
use Rattle.m17_gate.specs.declared.rule.Act.{Act}
use Rattle.m17_gate.specs.declared.rule.Act.TheVariants.{Allow, Deny}
use Rattle.m17_gate.specs.declared.rule.Kind.{Kind}
use Rattle.m17_gate.specs.declared.rule.Kind.TheVariants.{Conn, Lstn, Talk, Any}
use Rattle.m17_gate.specs.declared.rule.Pattern.{Pattern}
use Rattle.m17_gate.specs.declared.rule.Pattern.TheVariants.{Every, One, Begin}
use Rattle.m17_gate.specs.declared.rule.Rule.{Rule}
use Rattle.m17_gate.specs.Patterns.{front_of}
use Rattle.m17_gate.specs.Asking.{asked_by}

-- The pattern matches the address: every one; that of its callsign; one whose callsign begins
-- with its letters.
abbrev pub matches_address : Pattern → ℕ → Bool
matches_address Every address = true
matches_address (One call) address = call == address
matches_address (Begin letters) address =
    option_map_or (λ text. starts_with nat_eq text (front_of letters)) (callsign_of address) false

-- A rule of the first kind is about the second.
abbrev pub is_about : Kind → Kind → Bool
is_about Any asked = true
is_about Conn Conn = true
is_about Lstn Lstn = true
is_about Talk Talk = true
is_about _ _ = false

-- The modules of a rule are every module, or have this one.
abbrev pub serves_module : Option Modules → ℕ → Bool
serves_module None letter = true
serves_module (Some modules) letter = serves modules letter

abbrev pub serves_all : Option Modules → Bool
serves_all modules = is_none modules

-- The rule fits: who connects or listens by its kind, the module and the sender, who speaks by
-- its kind and the sender, where it is about every module.
abbrev pub fits : Rule → Asked → Bool
fits rule (Connects from letter) = is_about rule.kind Conn && serves_module rule.modules letter
    && matches_address rule.pattern from
fits rule (Listens from letter) = is_about rule.kind Lstn && serves_module rule.modules letter
    && matches_address rule.pattern from
fits rule (Talks src) = is_about rule.kind Talk && serves_all rule.modules
    && matches_address rule.pattern src

abbrev pub is_allow : Act → Bool
is_allow Allow = true
is_allow Deny = false

-- The act of the first rule that fits decides. Without one it is allowed.
abbrev pub allows_asked : List Rule → Asked → Bool
allows_asked rules asked =
    option_map_or (λ (rule : Rule). is_allow rule.act) (find (λ rule. fits rule asked) rules) true

-- the one rule that denies everything
abbrev pub deny_all : List Rule
deny_all = record { act = Deny; kind = Any; modules = None; pattern = Every } ∷ []

-- What is asked is allowed, if anything is.
abbrev pub allows_any : List Rule → Option Asked → Bool
allows_any rules asked = option_map_or (allows_asked rules) asked true

-- The packet is allowed.
abbrev pub allows : List Rule → Packet → Bool
allows rules packet = allows_any rules (asked_by packet)

-- whose address it is
abbrev pub address_in : Asked → ℕ
address_in (Connects from letter) = from
address_in (Listens from letter) = from
address_in (Talks src) = src
