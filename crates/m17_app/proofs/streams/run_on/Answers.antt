use Rattle.std.proofs.Common.{None, false, refl, inr}
use Rattle.m17_app.specs.declared.status.Status.TheVariants.{NoMemory}
use Rattle.m17_app.specs.Status.{Streams, streams}
use Rattle.m17_app.proofs.Boards.{no_board, none_back}
use Rattle.m17_app.proofs.Codes.{crew_failed, ports_failed, refused_code}
use Rattle.m17_app.proofs.Shelves.{of_shelves}
use Rattle.m17_app.proofs.streams.run_on.Goals as goal

-- streams that tell nothing
abbrev untold : Streams
untold = streams (record { left = None; at_hand = false; faults = 0 }) (record { written = None; held_back = 0; faults = 0 })

pub returns-clause-refused : goal.returns-clause-refused
returns-clause-refused g c = λ are.
    let told = c.run-done.ensures.refused are in
    refused_code told.0 c.run-done.result.0.status _ _ _ told.1 told.2

pub returns-clause-port_failed : goal.returns-clause-port_failed
returns-clause-port_failed g c five = ports_failed _ c.run-done.result.0.status _ _ _ c.run-done.ensures.runs five

pub returns-clause-crew_refused : goal.returns-clause-crew_refused
returns-clause-crew_refused g c six = crew_failed _ c.run-done.result.0.status _ _ _ c.run-done.ensures.runs six

pub returns-clause-unasked : goal.returns-clause-unasked
returns-clause-unasked g c seventy unnamed =
    let told = c.run-done.ensures.runs in
    c.run-done.ensures.unasked seventy (none_back g.Q.Book.Book.told c.run-done.result.0.board (no_board _ told.0 _ _ _ told.2 unnamed))

pub returns-clause-ran : goal.returns-clause-ran
returns-clause-ran g c =
    let told = c.run-done.ensures.runs in
    (told.0, told.1, record { before = _; after = _; talk = _; house = _; refused = _; bridge = _; board = _; shelves = of_shelves g.Q.Ear.Ear.told g.Q.Mouth.Mouth.told g.Q.Book.Book.told c.run-done.result.0; ran = told.2 })

pub returns-in_default-clause-ran : goal.returns-in_default-clause-ran
returns-in_default-clause-ran g c = (
  NoMemory,
  c.code.ensures,
  record {
    before = untold;
    after = untold;
    talk = None;
    house = None;
    refused = None;
    bridge = None;
    board = None;
    shelves = record { in_talk = tt; in_house = tt; in_refused = tt };
    ran = inr (inr (refl, refl, record { ports = refl; talk = refl; bridge = refl; serve = record { crew = refl; house = refl; refused = refl; board = refl } }));
  },
)

pub returns-in_default-make-clause-ran : goal.returns-in_default-make-clause-ran
returns-in_default-make-clause-ran g c = (
  NoMemory,
  c.code-in_default-make.ensures,
  record {
    before = untold;
    after = untold;
    talk = None;
    house = None;
    refused = None;
    bridge = None;
    board = None;
    shelves = record { in_talk = tt; in_house = tt; in_refused = tt };
    ran = inr (inr (refl, refl, record { ports = refl; talk = refl; bridge = refl; serve = record { crew = refl; house = refl; refused = refl; board = refl } }));
  },
)
