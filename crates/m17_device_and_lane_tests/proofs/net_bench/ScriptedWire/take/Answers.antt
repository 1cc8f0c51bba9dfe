use Rattle.std.proofs.Common.{refl, sym, ◌++◌, take, drop}
use Rattle.m17_device_and_lane_tests.proofs.Prefixes.{take-within}
use Rattle.m17_device_and_lane_tests.proofs.net_bench.ScriptedWire.take.Goals as goal

pub returns-in-Gives-clause-taken : goal.returns-in-Gives-clause-taken
returns-in-Gives-clause-taken c =
    let b = c.copy_from_slice.new.self ++ drop c.min-n.result c.args.into.now in
    (take c.min-n.result b, refl, sym (take-within c.min-n.result b))
