-- What is denied reaches no module.
use Rattle.std.specs.Prelude.{◌≡◌, ℕ, true, List, Option, None, Some, if◌then◌else◌}
use Rattle.std.specs.List.{AllByRecursion}
use Rattle.m17_values.specs.declared.heard.Heard.{Heard}
use Rattle.m17_control.specs.declared.event.Body.{Body}
use Rattle.m17_control.specs.declared.event.Body.TheVariants.{Join, Packet}
use Rattle.m17_gate.specs.declared.asked.Asked.{Asked}
use Rattle.m17_gate.specs.declared.asked.Asked.TheVariants.{Connects, Listens, Talks}
use Rattle.m17_gate.specs.declared.rule.Rule.{Rule}
use Rattle.m17_gate.specs.Fits.{allows_any}
use Rattle.m17_gate.specs.Gated.{gated}
use Rattle.m17_directory.specs.Entries.{Entry, SaysEach, Setup}
use Rattle.m17_directory.specs.Routed.{routed}

-- What an event of the module with this letter asks of a gate: to listen or to connect there, or
-- to speak.
abbrev pub asked_of : ℕ → Body → Option Asked
asked_of letter (Join member peer callsign listen after) =
    Some (if listen then Listens callsign letter else Connects callsign letter)
asked_of letter (Packet member packet) = Some (Talks packet.lsd.src)
asked_of letter _ = None

-- Of the entries that say what was heard behind a gate, each event that they route to a module is
-- allowed there: no Join of a callsign that is denied for its kind and this module, and no Packet
-- of a sender that is denied.
abbrev pub DeniedNeverReachesAModule : Type 0
DeniedNeverReachesAModule =
    (rules : List Rule) (heard : List Heard) (setup : Setup) (entries : List Entry) (letter : ℕ)
    → SaysEach (gated rules heard) entries → AllByRecursion
    (λ event. allows_any rules (asked_of letter event.body) ≡ true) (routed setup entries letter)
