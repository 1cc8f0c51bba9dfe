use Rattle.std.proofs.Common.{arith}
use Rattle.m17_port_memory.proofs.AnswersLemmas.{starts_empty}
use Rattle.m17_port_memory.proofs.faulty_ear.FaultyEar.new.Goals as goal

pub returns-clause-starts : goal.returns-clause-starts
returns-clause-starts g c = starts_empty c.args.fails.items (g.E.Ear.told c.args.inner).heard

pub returns-clause-faults : goal.returns-clause-faults
returns-clause-faults g c = let fit = g.met.E.Ear.faults_fit c.args.inner in omega (arith, fit)
