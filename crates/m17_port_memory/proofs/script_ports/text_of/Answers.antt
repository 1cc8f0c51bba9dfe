use Rattle.std.proofs.Common.{◌≤◌, length, arith}
use Rattle.std.proofs.lemmas.Bool.Decides.{nat_tests}
use Rattle.std.proofs.lemmas.List.{take_all}
use Rattle.m17_port_memory.proofs.script_ports.text_of.Goals as goal

pub returns-clause-whole : goal.returns-clause-whole
returns-clause-whole c = λ fits.
    let short : length c.args.text.now ≤ 64 = grind (arith, nat_tests) in
    rw (c.of.ensures.first, c.as_bytes.ensures.value) (take_all 64 c.args.text.now short)
