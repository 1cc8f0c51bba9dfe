-- What an event gives, when the list goes on.
use Rattle.std.proofs.Common.{◌≡◌, ℕ, ◌<◌, cond, List, [], ◌++◌, length, ap, sym, ◌∙◌, arith}
use Rattle.m17_control.specs.declared.event.Event.{Event}
use Rattle.m17_module.specs.Events.{acts_of}
use Rattle.m17_module.specs.Seats.{seats_at}
use Rattle.m17_module.specs.Echoes.{echo_at}
use Rattle.m17_module.specs.Items.{Setup, pings_at, echo_items, echoes_at, said_at, items_at}
use Rattle.m17_module.specs.Laws.{LaterEventsChangeNoItems}
use Rattle.m17_module.proofs.Acts.{acts_append, length_acts}
use Rattle.m17_module.proofs.SeatsMore.{seats_at_before}
use Rattle.m17_module.proofs.ItemsMore.{pings_before, said_before}
use Rattle.m17_module.proofs.EchoesBefore.{Later, echo_same}

echoes_before : Later → (setup : Setup) (events more : List Event) (n : ℕ) → n < length events → echoes_at setup (events ++ more) n ≡ echoes_at setup events n
unfolding echoes_at
echoes_before later setup events more n h =
    ap (λ seats. cond setup.parrot (echo_items n seats (echo_at setup (acts_of (events ++ more)) n)) []) (sym (seats_at_before later.members setup.places events more n (omega arith)))
    ∙ ap (λ echo. cond setup.parrot (echo_items n (seats_at setup.places events n) echo) [])
    (ap (λ acts. echo_at setup acts n) (acts_append events more) ∙ echo_same later setup (acts_of events) (acts_of more) n (omega (arith, length_acts events)))

pub items_before : Later → LaterEventsChangeNoItems
unfolding items_at
items_before later setup events more n h =
    ap (λ xs. (xs ++ echoes_at setup (events ++ more) n) ++ said_at setup (events ++ more) n) (pings_before later.members later.moments setup.places events more n h)
    ∙ ap (λ xs. (pings_at setup.places events n ++ xs) ++ said_at setup (events ++ more) n) (echoes_before later setup events more n h)
    ∙ ap (λ xs. (pings_at setup.places events n ++ echoes_at setup events n) ++ xs) (said_before later.verdicts later.members setup events more n h)
