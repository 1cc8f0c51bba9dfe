use Rattle.std.proofs.Common.{◌∙◌}
use Rattle.m17_replay.specs.Replay.{replay_text, tally_at}
use Rattle.m17_replay.proofs.PlainText.{plain_text}
use Rattle.m17_replay.proofs.Printed.{text_printed}
use Rattle.m17_replay.proofs.replay_command.print.Goals as goal

pub returns-clause-printed : goal.returns-clause-printed
returns-clause-printed g c = λ plan heard is.
    record {
      lost = c.args.replayed.now.lost;
      text = replay_text plan c.args.summary is.entries;
      is_text = λ bytes trace. plain_text c.a_replay_there_is.ensures c.replay_text_is_free_of_places.ensures plan c.args.summary c.args.replayed.now.lost bytes heard is.entries trace is.is_replay is.is_lost_so;
      result = c.finish-printed.result;
      prints = text_printed plan c.args.summary c.print_outcomes.new.printer.summary is.entries c.deref.result.now c.args.replayed.now.count c.finish-printed.result _ _ (λ so. c.deref.ensures.value ∙ is.stands.named_are so) is.stands.count_is
          (c.print_outcomes.ensures.summary ∙ c.new-printer.ensures.summary)
          (c.finish-printed.ensures _ _ (tally_at plan is.entries) (c.print_outcomes.ensures.taken plan is.entries _ is.stands.verdicts (c.new-printer.ensures.nothing _)) is.stands.tallies);
      ending_is = c.ending_of.ensures.ending;
    }
