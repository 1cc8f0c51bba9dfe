use Rattle.std.proofs.Common.{ℕ, subst}
use Rattle.m17_serve.specs.Devices.{AreOf, house_told}
use Rattle.m17_serve.specs.Served.{HasCauses, counts}
use Rattle.m17_serve.specs.Steps.{kinds_opened}
use Rattle.m17_serve.proofs.Asking.{served_questions}
use Rattle.m17_serve.proofs.Endings.{caused_port}
use Rattle.m17_serve.proofs.Knowing.{known_house, known_refused}
use Rattle.m17_serve.proofs.serve_command.serve.Goals as goal

pub returns-in_default-open-clause-causes : goal.returns-in_default-open-clause-causes
returns-in_default-open-clause-causes g c =
    caused_port c.without-in_default-open.result.ending _ _ _ _ c.without-in_default-open.ensures.ending
    c.in_default-open.ensures.asks.failed.risen

pub returns-clause-causes : goal.returns-clause-causes
returns-clause-causes g c =
    let after = (g.P.Ports.told c.open.new.ports).faults in
    subst (λ (n : ℕ). HasCauses c.carry_out.result.ending (counts n (g.C.Crew.refusals c.args.crew.now) (g.K.Sink.told c.args.out.now).faults)
    (counts after (g.C.Crew.refusals c.carry_out.new.crew) (g.K.Sink.told c.carry_out.new.out).faults))
    c.in-Ok-open.ensures.asks.no_fault (c.carry_out.ensures.causes after)

pub returns-clause-ended : goal.returns-clause-ended
returns-clause-ended g c =
    let asks = c.in-Ok-open.ensures.asks in
    c.carry_out.ensures.ended _ _
    (record {
      asked = served_questions c.args.order.now _ _ c.requires.servable.some_link asks.asked;
      no_fault = asks.no_fault;
      are_new = c.in-Ok-open.ensures.new;
      board = c.in-Ok-open.ensures.board;
    })

pub returns-clause-known : goal.returns-clause-known
returns-clause-known g c =
    let opened = kinds_opened c.in-Ok-open.opened in
    let ears = g.P.KnownPorts.ears c.args.ports.now in
    let mouths = g.P.KnownPorts.mouths c.args.ports.now in
    let ear = g.P.Ear.Ear.told in
    let mouth = g.P.Mouth.Mouth.told in
    let book = g.P.Book.Book.told in
    let told = c.in-Ok-open.ensures in
    let known : AreOf ears mouths (house_told ear mouth book opened) = record { ears_are = told.known_ears; mouths_are = told.known_mouths } in (
      known_house ear mouth book ears mouths (house_told ear mouth book opened) known c.carry_out.result.house c.carry_out.ensures.same_devices,
      known_refused ear mouth book ears mouths opened known c.carry_out.result.refused c.carry_out.ensures.same,
    )
