-- Each list of bytes is read as one script, or refused at one place for one reason, and never both.
use Rattle.std.specs.Prelude.{◌≡◌, ◌⊎◌, ℕ, List}
use Rattle.m17_fields.specs.Fields.{IsBytes}
use Rattle.m17_client_commands.specs.declared.reason.ScriptReason.{ScriptReason}
use Rattle.m17_client_commands.specs.Script.{Due, IsScript, RefusesScript}

-- A script can be read of the bytes, or a place and a reason can be told.
abbrev pub IsReadOrRefused : List ℕ → Type 0
IsReadOrRefused input = ((script : List Due) × IsScript input script)
    ⊎ ((place : ℕ) × (reason : ScriptReason) × RefusesScript input place reason)

pub record ScriptsAreExact : Type 0 where
  pub read_or_refused : (input : List ℕ) → IsBytes input → IsReadOrRefused input
  pub not_both : (input : List ℕ) (script : List Due) (place : ℕ) (reason : ScriptReason)
      → IsScript input script → RefusesScript input place reason → ⊥
  pub one_script : (input : List ℕ) (a b : List Due) → IsScript input a → IsScript input b → a ≡ b
  pub one_refusal : (input : List ℕ) (place place' : ℕ) (reason reason' : ScriptReason)
      → RefusesScript input place reason → RefusesScript input place' reason'
      → (place ≡ place') × (reason ≡ reason')
