-- What was heard is answered in one way, since it has one replay.
use Rattle.std.proofs.Common.{◌≡◌, List, ap, sym, ◌∙◌}
use Rattle.m17_directory.specs.Entries.{Entry}
use Rattle.m17_house.specs.Replay.{verdicts_of, packet_verdicts_of, said_to, tally_of}
use Rattle.m17_house.specs.Laws.{OneReplay, OneAnswer}

pub one_answer : OneReplay → OneAnswer
one_answer law plan heard a b are r s =
    let same : r.entries ≡ s.entries = law plan heard r.entries s.entries are r.replay s.replay in
    record {
      verdicts = r.each ∙ ap (verdicts_of plan) same ∙ sym s.each;
      packets = r.each_packet ∙ ap (packet_verdicts_of plan) same ∙ sym s.each_packet;
      tallies = λ x one other is is'. r.tallies x one is ∙ ap (λ (entries : List Entry). tally_of (said_to plan entries x)) same ∙ sym (s.tallies x other is');
    }
