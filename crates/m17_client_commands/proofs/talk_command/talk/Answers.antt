use Rattle.std.proofs.Common.{ℕ, List, Option, refl, ap, subst}
use Rattle.std.specs.Option.{option_map}
use Rattle.m17_print.specs.Endings.{Grows}
use Rattle.m17_ports.specs.Book.{shelf_told}
use Rattle.m17_client_commands.specs.Devices.{devices_told}
use Rattle.m17_client_commands.proofs.TalkTold.{refused_told, talked_told, printed_grows, label_there, same_there}
use Rattle.m17_client_commands.proofs.talk_command.talk.Goals as goal

pub returns-in-Err-Refused-clause-ended : goal.returns-in-Err-Refused-clause-ended
returns-in-Err-Refused-clause-ended g c =
    refused_told c.args.order.now c.without.result.ending c.in-Err-Refused.field-0 c.in-Err-Refused.place c.in-Err-Refused.reason _ _
    c.without.ensures.ending c.in-Err-Refused.field-0-is (refl, ap (option_map _) c.without.ensures.none) c.read_script.ensures.nothing_written c.in-Err-Refused.ensures.refused

pub returns-clause-ended : goal.returns-clause-ended
returns-clause-ended g c =
    let shelf = c.in-Ok-open.devices.2 in
    let talked = rw c.deref.ensures.value at c.run_client-end.ensures in
    talked_told c.print_end-printed.result c.args.order.now c.ending.result c.run_client-end.result _ _ c.ending.ensures.ok c.ending.ensures.err (
      c.in-Ok.script.items,
      (c.in-Ok.ensures.in_order, c.in-Ok.ensures.script),
      record {
        asked = c.in-Ok-open.ensures.asked;
        no_fault = c.in-Ok-open.ensures.no_fault;
        new = devices_told (g.P.Ear.Ear.told c.in-Ok-open.devices.0) (g.P.Mouth.Mouth.told c.in-Ok-open.devices.1)
            (shelf_told (option_map g.P.Book.Book.told shelf.inner));
        are_new = c.in-Ok-open.ensures.new;
        devices = _;
        handed_back = refl;
        book_there = same_there _ _ c.args.order.now.book talked.written.text.same_device
            (label_there g.P.Book.Book.told shelf.inner c.args.order.now.book c.in-Ok-open.ensures.there);
        talked = talked;
      },
    )
    (rw c.read_script.ensures.nothing_written at c.print_end-printed.ensures.prints)

pub returns-clause-appended : goal.returns-clause-appended
returns-clause-appended g c =
    subst (λ (first : Option (List ℕ)). Grows first (g.K.Sink.told c.print_end-printed.new.out).written) c.read_script.ensures.nothing_written
    (printed_grows c.print_end-printed.result c.run_client-end.result _ _ c.print_end-printed.ensures.prints)
