use Rattle.std.proofs.Common.{arith}
use Rattle.m17_port_memory.proofs.ScriptLemmas.{faults-answered, heard-answered, same-answered, no_fault}
use Rattle.m17_port_memory.proofs.script_ear.ScriptEarEar.hear.Goals as goal

pub returns-clause-counted : goal.returns-clause-counted
returns-clause-counted c =
    let e = faults-answered c.args.self.now c.next.new.self c.next.result c.next.ensures in
    rw e (omega arith)

pub returns-clause-fault : goal.returns-clause-fault
returns-clause-fault c = λ fault.
    let e = faults-answered c.args.self.now c.next.new.self c.next.result c.next.ensures in
    rw (e, fault) (omega arith)

pub returns-clause-no_fault : goal.returns-clause-no_fault
returns-clause-no_fault c = λ differs.
    let e = faults-answered c.args.self.now c.next.new.self c.next.result c.next.ensures in
    rw (e, no_fault c.next.result differs) (omega arith)

pub returns-clause-appended : goal.returns-clause-appended
returns-clause-appended c =
    heard-answered c.args.self.now c.next.new.self c.next.result c.next.ensures

pub returns-clause-same_device : goal.returns-clause-same_device
returns-clause-same_device c =
    same-answered c.args.self.now c.next.new.self c.next.result c.next.ensures
