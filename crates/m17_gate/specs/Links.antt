-- The rules for the gates of links.
use Rattle.std.specs.Prelude.{ℕ, List, [], ◌∷◌, nat_lt, if◌then◌else◌}
use Rattle.m17_gate.specs.declared.rule.Rule.{Rule}
use Rattle.m17_gate.specs.Fits.{deny_all}

-- Rules for the gates of links: the rules, and for how many links more there is memory.
pub record LinkRulesSeen : Type 0 where
  pub rules : List Rule
  pub left : ℕ

-- What holds of links that were not thought of: no rules stay none, and else everything is denied.
abbrev pub rules_beyond : List Rule → List Rule
rules_beyond [] = []
rules_beyond (rule ∷ rules) = deny_all

-- The rules for the gate of a later link: of the next one, where its place is 0, and so on.
abbrev pub rules_at : LinkRulesSeen → ℕ → List Rule
rules_at links place = if nat_lt place links.left then links.rules else rules_beyond links.rules
