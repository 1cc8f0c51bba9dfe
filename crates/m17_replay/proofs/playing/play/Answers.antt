use Rattle.std.proofs.Common.{List, Contains, refl, sym, subst, ◌∙◌}
use Rattle.m17_values.specs.declared.peer.Peer.{Peer}
use Rattle.m17_replay.specs.Replay.{heard_count, replay_text, tally_at}
use Rattle.m17_replay.specs.Run.{printed_of}
use Rattle.m17_replay.proofs.HeardLemmas.{ends_somewhere}
use Rattle.m17_replay.proofs.Judged.{named_so}
use Rattle.m17_replay.proofs.Printed.{text_printed}
use Rattle.m17_replay.proofs.playing.play.Goals as goal

pub hear_each-lost-requires-clause-ends : goal.hear_each-lost-requires-clause-ends
hear_each-lost-requires-clause-ends g c = ends_somewhere c.args.heard.now c.requires.ends

pub hear_each-lost-requires-clause-printer : goal.hear_each-lost-requires-clause-printer
hear_each-lost-requires-clause-printer g c = c.new-printer.ensures.nothing (g.K.Sink.told c.args.out.now)

pub finish-printed-requires : goal.finish-printed-requires
finish-printed-requires g c = record {
  named = λ x has.
      subst (λ (all : List Peer). Contains all x) (sym c.hear_each-lost.ensures.same_peers)
      (c.in_ok-mouth.ensures.named x (subst (λ (all : List Peer). Contains all x) (c.deref-2.ensures.value ∙ sym c.deref.ensures.value) has));
}

pub returns-clause-printed : goal.returns-clause-printed
returns-clause-printed g c =
    let is = c.hear_each-lost.ensures.played in
    let plan = c.args.plan.now in
    let named = c.in_ok-named.ensures is.entries is.is_replay.front is.is_replay.rest is.is_replay.heard_is is.is_replay.says is.is_replay.ends in
    record {
      lost = c.hear_each-lost.result;
      text = replay_text plan c.args.summary is.entries;
      is_text = λ bytes trace. record { heard = c.args.heard.now; entries = is.entries; is_trace = trace; is_replay = is.is_replay; is_lost_so = is.is_lost_so; text_is = refl };
      result = c.finish-printed.result;
      prints = text_printed plan c.args.summary c.hear_each-lost.new.printer.summary is.entries c.deref-2.result.now (heard_count is.entries) c.finish-printed.result _ _
          (λ so. c.deref-2.ensures.value ∙ named_so c.args.summary _ _ named so) refl (c.hear_each-lost.ensures.summary ∙ c.new-printer.ensures.summary)
          (c.finish-printed.ensures (g.K.Sink.told c.args.out.now) (printed_of plan is.entries) (tally_at plan is.entries) is.taken is.tallies);
      ending_is = c.ending_of.ensures.ending;
    }
