use Rattle.std.proofs.Common.{rules, ◌≡◌, Bool, true, false, Some, sym, subst}
use Rattle.m17_receiver.specs.SoFar.{HasTaken}
use Rattle.m17_receiver.proofs.Noted.{noted_nothing}
use Rattle.m17_receiver.proofs.receiver.Receiver.claim.Goals as goal

pub returns-then-not-self-clause-noted : goal.returns-then-not-self-clause-noted
returns-then-not-self-clause-noted g c = noted_nothing c.args.self.now.notes c.args.self.now.directory c.args.noted.now

pub returns-then-known-self-clause-noted : goal.returns-then-known-self-clause-noted
returns-then-known-self-clause-noted g c = noted_nothing c.args.self.now.notes c.args.self.now.directory c.args.noted.now

pub returns-then-not-self-clause-taken : goal.returns-then-not-self-clause-taken
returns-then-not-self-clause-taken g c =
    let old = c.args.self.now in
    let impatient : old.patient ≡ false = search rules in
    subst (λ (b : Bool). HasTaken b c.args.index c.claim_behind.result old.directory.known old.seat c.claim_behind.new.seat) (sym impatient)
    (c.claim_behind.ensures.taken old.directory.known)

pub returns-clause-taken : goal.returns-clause-taken
returns-clause-taken g c =
    let old = c.args.self.now in
    let patient : old.patient ≡ true = search rules in
    subst (λ (b : Bool). HasTaken b c.args.index (Some c.claim_patiently.result) old.directory.known old.seat c.claim_patiently.new.seat) (sym patient)
    (c.claim_patiently.ensures.taken c.args.index)
