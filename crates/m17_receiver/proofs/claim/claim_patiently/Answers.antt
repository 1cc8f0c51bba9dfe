use Rattle.std.proofs.Common.{◌≡◌, ◌<◌, false, List, [], ◌∷◌, ◌++◌, refl, sym, ap, subst, ◌∙◌}
use Rattle.std.specs.List.{list_any}
use Rattle.std.proofs.lemmas.Bool.{false≢true}
use Rattle.std.proofs.lemmas.List.{append-nil}
use Rattle.m17_directory.specs.declared.known.Known.{Known}
use Rattle.m17_directory.specs.Outcome.{has_place}
use Rattle.m17_directory.specs.StandsFor.{DirectoryKept}
use Rattle.m17_receiver.proofs.Noted.{noted_nothing, noted_then}
use Rattle.m17_receiver.proofs.claim.claim_patiently.Goals as goal

pub loop-init : goal.loop-init
loop-init g c = record {
  noted = noted_nothing c.args.notes.now c.args.directory.now c.args.noted.now;
  claimed = refl;
  given = refl;
  seat = (refl, refl, refl);
}

pub returns-in-Some-claim_unknown_place-clause-taken : goal.returns-in-Some-claim_unknown_place-clause-taken
returns-in-Some-claim_unknown_place-clause-taken g c = λ asker.
    let old = c.loop.invariant in
    let one = c.in-Some-claim_unknown_place.ensures asker in
    let known : c.loop.directory.known ≡ c.args.directory.now.known = ap (λ (k : DirectoryKept). k.known) old.noted.2.same in
    record {
      claims = one.claims ∙ ap (λ ms. ms ++ c.in-Some-claim_unknown_place.member ∷ []) old.claimed;
      given = one.given ∙ old.given;
      refused = λ e. absurd (false≢true (sym e));
      unknown = λ patient. subst (λ (ks : List Known). list_any (has_place c.in-Some-claim_unknown_place.member.place) ks ≡ false) known (one.unknown patient);
      in_roll = subst (λ n. c.in-Some-claim_unknown_place.member.place < n) old.seat.2 one.in_roll;
      seat = (one.seat.0 ∙ old.seat.0, one.seat.1 ∙ old.seat.1, one.seat.2 ∙ old.seat.2);
    }

pub returns-in-Some-claim_unknown_place-clause-noted : goal.returns-in-Some-claim_unknown_place-clause-noted
returns-in-Some-claim_unknown_place-clause-noted g c = c.loop.invariant.noted

pub loop-preserved : goal.loop-preserved
loop-preserved g c =
    let old = c.loop.invariant in
    let one = c.in_default.ensures 0 in
    record {
      noted = noted_then c.args.notes.now c.loop.notes c.rest.new.notes c.args.directory.now c.loop.directory c.rest.new.directory
          c.args.noted.now c.loop.noted c.rest.new.noted old.noted c.rest.ensures;
      claimed = one.claims ∙ append-nil c.loop.seat.claimed ∙ old.claimed;
      given = one.given ∙ old.given;
      seat = (one.seat.0 ∙ old.seat.0, one.seat.1 ∙ old.seat.1, one.seat.2 ∙ old.seat.2);
    }
