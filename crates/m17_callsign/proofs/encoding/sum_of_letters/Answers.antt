-- Each step of the scan from the last letter, and what it has seen at the end.
use Rattle.std.proofs.Common.{rules, refl}
use Rattle.std.proofs.lemmas.Bool.{false≢true}
use Rattle.m17_callsign.proofs.Folded.{seen_none, seen_letter, seen_unknown, seen_sum, seen_all, seen_bound, seen_fits}
use Rattle.m17_callsign.proofs.encoding.sum_of_letters.Goals as goal

pub loop-place-init : goal.loop-place-init
loop-place-init c = seen_none c.args.letters.now

pub overflow_mul-value : goal.overflow_mul-value
overflow_mul-value c =
    let small = seen_fits c.args.letters.now c.loop-place.place c.loop-place.value c.loop-place.unknown c.requires c.loop-place.invariant in
    search rules

pub overflow_add-value : goal.overflow_add-value
overflow_add-value c =
    let small = seen_fits c.args.letters.now c.loop-place.place c.loop-place.value c.loop-place.unknown c.requires c.loop-place.invariant in
    let index = c.in-Some.ensures.below in
    search rules

pub loop-place-preserved-in-Some : goal.loop-place-preserved-in-Some
loop-place-preserved-in-Some c =
    seen_letter c.args.letters.now c.loop-place.place c.loop-place.value c.in-Some.index c.loop-place.unknown c.loop-place-test.true
    c.loop-place.auto.place (c.in-Some.ensures.letter.0 refl) c.in-Some.ensures.index c.loop-place.invariant

pub loop-place-preserved : goal.loop-place-preserved
loop-place-preserved c =
    seen_unknown c.args.letters.now c.loop-place.place c.loop-place.value c.loop-place.unknown c.loop-place-test.true
    c.loop-place.auto.place (λ letter. false≢true (c.in-None.ensures.letter.1 letter)) c.loop-place.invariant

pub returns-in-None-unknown-clause-within : goal.returns-in-None-unknown-clause-within
returns-in-None-unknown-clause-within c =
    seen_bound c.args.letters.now c.loop-place.place c.loop-place.value c.loop-place.unknown c.loop-place-test.false c.in-None-unknown.is
    c.loop-place.invariant

pub returns-in-None-unknown-clause-sum : goal.returns-in-None-unknown-clause-sum
returns-in-None-unknown-clause-sum c =
    seen_sum c.args.letters.now c.loop-place.place c.loop-place.value c.loop-place.unknown c.loop-place-test.false c.in-None-unknown.is
    c.loop-place.invariant

pub returns-in-None-unknown-clause-letters : goal.returns-in-None-unknown-clause-letters
returns-in-None-unknown-clause-letters c =
    seen_all c.args.letters.now c.loop-place.place c.loop-place.value c.loop-place.unknown c.loop-place-test.false c.in-None-unknown.is
    c.loop-place.invariant
