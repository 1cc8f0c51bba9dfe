use Rattle.std.proofs.Common.{refl, sym}
use Rattle.m17_text_commands.specs.Judge.{joins, judge_setup, talker, talkers}
use Rattle.m17_text_commands.proofs.Joins.{moment-joins, no_packet-joins, speakers-joins, le_talkers}
use Rattle.m17_text_commands.proofs.table.Table.make.Goals as goal

pub returns : goal.returns
returns c = record {
  floor_stands = c.new.ensures.stands judge_setup (joins talkers) refl (no_packet-joins talkers);
  each_stands = λ t own at_place. c.in_ok-owns.ensures.at_first t own at_place judge_setup (joins talkers) (talker t) (no_packet-joins talkers);
  all_may_speak = λ t below. speakers-joins c.who_joins_may_speak.ensures.joined c.who_joins_may_speak.ensures.others talkers le_talkers t below;
  moment_is = sym (moment-joins talkers);
}
