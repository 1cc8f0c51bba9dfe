use Rattle.std.proofs.Common.{refl, sym, subst}
use Rattle.m17_values.specs.declared.heard.Heard.{Heard}
use Rattle.m17_directory.specs.Entries.{Notice, Says}
use Rattle.m17_directory.proofs.Told.{says_datagram}
use Rattle.m17_directory.proofs.people.People.take_in.Goals as goal

pub returns-in-Datagram-clause-says : goal.returns-in-Datagram-clause-says
returns-in-Datagram-clause-says c =
    says_datagram c.in-Datagram.from c.in-Datagram.at c.in-Datagram.bytes c.bytes.result.now c.args.h.now c.in-Datagram.is c.bytes.ensures.same c.datagram.ensures.reads

pub returns-in-Quiet-clause-says : goal.returns-in-Quiet-clause-says
returns-in-Quiet-clause-says c =
    (Notice.Quiet c.in-Quiet.at, subst (λ (h : Heard). Says h (Notice.Quiet c.in-Quiet.at)) (sym c.in-Quiet.is) refl)
