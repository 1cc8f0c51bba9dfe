use Rattle.std.proofs.Common.{length, ap, arith}
use Rattle.m17_module.proofs.Places.{place_below, length-held, told_others}
use Rattle.m17_module.proofs.telling.tell_others.Goals as goal

pub bounds-seats-place : goal.bounds-seats-place
bounds-seats-place c = place_below c.args.seats.now c.args.held.now c.loop-place.place-index c.requires.held (omega arith)

pub tell_other-requires : goal.tell_other-requires
tell_other-requires c = omega (arith, c.loop-place.invariant.1, length-held 0 c.args.seats.now, ap length c.requires.held)

pub returns : goal.returns
returns c = record { told = told_others c.args.k c.args.what.now c.args.seats.now c.args.held.now c.args.out.now c.loop-place.out c.loop-place.place-index c.requires.held (omega arith) c.loop-place.invariant.0 }
