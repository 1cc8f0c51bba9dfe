-- The lines of a board.
use Rattle.std.specs.Prelude.{ℕ, List, [], ◌∷◌, ◌++◌, codes, decimal, if◌then◌else◌}
use Rattle.m17_print.specs.Packets.{address_text}
use Rattle.m17_board.specs.declared.glance.Glance.{Glance}

-- who talks: the address that the packet names, or none
abbrev pub talker_text : Glance → List ℕ
talker_text glance = if glance.on then address_text glance.src else codes "none"

-- The line of the module with this letter, as in `A records 8 admitted 4 at 160 talker none`.
abbrev pub glance_line : ℕ → Glance → List ℕ
glance_line letter glance = letter ∷ codes " records " ++ decimal glance.records
    ++ codes " admitted " ++ decimal glance.admitted ++ codes " at " ++ decimal glance.moment
    ++ codes " talker " ++ talker_text glance ++ 10 ∷ []
