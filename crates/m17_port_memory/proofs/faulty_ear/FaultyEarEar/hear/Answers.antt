use Rattle.m17_port_memory.proofs.AnswersLemmas.{heard-answered, counted-answered, fault-answered, no_fault-answered}
use Rattle.m17_port_memory.proofs.faulty_ear.FaultyEarEar.hear.Goals as goal

pub returns-clause-counted : goal.returns-clause-counted
returns-clause-counted g c = counted-answered g.E.Ear.told c.args.self.now c.next.result c.next.new.self
    c.next.ensures.answered

pub returns-clause-fault : goal.returns-clause-fault
returns-clause-fault g c = fault-answered g.E.Ear.told c.args.self.now c.next.result c.next.new.self
    c.next.ensures.answered

pub returns-clause-no_fault : goal.returns-clause-no_fault
returns-clause-no_fault g c = no_fault-answered g.E.Ear.told c.args.self.now c.next.result c.next.new.self
    c.next.ensures.answered

pub returns-clause-appended : goal.returns-clause-appended
returns-clause-appended g c = heard-answered g.E.Ear.told c.args.self.now c.next.result c.next.new.self
    c.next.ensures.answered c.next.ensures.in_step c.next.ensures.ends_last
