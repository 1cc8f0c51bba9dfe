use Rattle.std.proofs.Common.{ap, ◌≡◌, ◌<◌, arith}
use Rattle.m17_roll.specs.Seat.{RollView}
use Rattle.m17_roll.proofs.Turns.{goes_on, seen_else, claims_here, refuses_all}
use Rattle.m17_roll.proofs.seat.RollSeat.claim.Goals as goal

pub try_at-requires-clause-others : goal.try_at-requires-clause-others
try_at-requires-clause-others c =
    let places : c.self.inside.places ≡ c.args.self.now.places = ap (λ (v : RollView). v.places) c.self.view_is in
    let test = c.loop-place-test.true in
    let within : c.loop-place.place < c.args.self.now.places = omega arith in
    seen_else c.args.self.now c.loop-place.self c.loop-place.place c.args.asker c.loop-place.invariant within

pub returns-in-Some-clause-claimed : goal.returns-in-Some-clause-claimed
returns-in-Some-clause-claimed c =
    let places : c.self.inside.places ≡ c.args.self.now.places = ap (λ (v : RollView). v.places) c.self.view_is in
    let test = c.loop-place-test.true in
    let within : c.loop-place.place < c.args.self.now.places = omega arith in
    claims_here c.args.self.now c.loop-place.self c.try_at.new.self c.loop-place.place c.args.asker c.in-Some.member c.loop-place.invariant within
    c.in-Some.ensures.claimed

pub loop-place-preserved : goal.loop-place-preserved
loop-place-preserved c =
    let places : c.self.inside.places ≡ c.args.self.now.places = ap (λ (v : RollView). v.places) c.self.view_is in
    let test = c.loop-place-test.true in
    let within : c.loop-place.place < c.args.self.now.places = omega arith in
    goes_on c.args.self.now c.loop-place.self c.try_at.new.self c.loop-place.place c.args.asker c.loop-place.invariant within
    c.in_default.ensures.refused

pub returns-clause-refused : goal.returns-clause-refused
returns-clause-refused c =
    let places : c.self.inside.places ≡ c.args.self.now.places = ap (λ (v : RollView). v.places) c.self.view_is in
    let test = c.loop-place-test.false in
    let most = c.loop-place.auto.place-end in
    let at_end : c.loop-place.place ≡ c.args.self.now.places = omega arith in
    refuses_all c.args.self.now c.loop-place.self c.loop-place.place c.args.asker c.loop-place.invariant at_end
