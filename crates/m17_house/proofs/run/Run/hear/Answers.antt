use Rattle.std.proofs.Common.{subst}
use Rattle.m17_directory.specs.declared.verdict.LinkVerdict.{LinkVerdict}
use Rattle.m17_directory.specs.declared.verdict.LinkVerdict.TheVariants as link
use Rattle.m17_house.specs.SoFar.{scene, IsTakenIn}
use Rattle.m17_house.proofs.HeardMore.{nothing_asked}
use Rattle.m17_house.proofs.OneMore.{more_unasked, more_asked}
use Rattle.m17_house.proofs.Played.{hears_more, room_of}
use Rattle.m17_house.proofs.run.Run.hear.Goals as goal
use Rattle.m17_house.proofs.run.Run.hear.Goals.{After-take_in-answer}

pub take_in-answer-requires : goal.take_in-answer-requires
take_in-answer-requires c =
    let before = c.requires.so_far.4 in
    record { post = before.post; out = before.out; asked = before.so_far.asked; «open» = before.going }

-- what was taken in
taken_in : (c : After-take_in-answer) → IsTakenIn c.args.plan.now c.requires.so_far.1 c.says_something.ensures.0 (scene c.take_in-answer.new.self c.take_in-answer.new.mouth) (c.take_in-answer.new.verdict, c.take_in-answer.result)
taken_in c =
    let at = c.requires.so_far in
    let heard = c.says_something.ensures in
    c.take_in-answer.ensures.taken c.args.plan.now at.1 heard.0 heard.1 at.2 at.3 at.4.so_far

pub give-requires-clause-idle : goal.give-requires-clause-idle
give-requires-clause-idle c = (taken_in (goal.at.give-requires-clause-idle c).After-take_in-answer).idle

pub give-requires-clause-taken : goal.give-requires-clause-taken
give-requires-clause-taken c = (taken_in (goal.at.give-requires-clause-taken c).After-take_in-answer).taken

pub give-requires-clause-room : goal.give-requires-clause-room
give-requires-clause-room c =
    let at = c.requires.so_far in
    room_of c.take_in-answer.new.self.given at.1 (taken_in (goal.at.give-requires-clause-room c).After-take_in-answer).given at.3

pub returns-in-Asks-clause-heard : goal.returns-in-Asks-clause-heard
returns-in-Asks-clause-heard c = λ before entries index few has.
    let heard = c.says_something.ensures in
    let taken = c.take_in-answer.ensures.taken c.args.plan.now entries heard.0 heard.1 index few has.so_far in
    let asks : IsTakenIn c.args.plan.now entries heard.0 (scene c.take_in-answer.new.self c.take_in-answer.new.mouth) (link.Asks, c.take_in-answer.result) =
    subst (λ (v : LinkVerdict). IsTakenIn c.args.plan.now entries heard.0 (scene c.take_in-answer.new.self c.take_in-answer.new.mouth) (v, c.take_in-answer.result)) c.in-Asks.is taken in
    hears_more c.entries_before_decide.ensures c.ended_where_it_ends.ensures c.later_entries_change_nothing.ensures c.one_entry_more.ensures c.events_carry_their_index.ensures c.later_acts_change_no_verdict.ensures
    c.args.plan.now before entries c.args.h.now c.args.self.now c.give.new.self c.args.mouth.now c.give.new.mouth _ _ has
    (more_asked c.entries_before_decide.ensures c.ended_where_it_ends.ensures c.one_entry_more.ensures c.packets_are_routed.ensures c.events_carry_their_index.ensures c.later_acts_change_no_verdict.ensures c.only_speakers_are_heard.ensures.packets
    c.args.plan.now entries heard.0 c.args.h.now c.take_in-answer.new.self c.give.new.self c.take_in-answer.new.mouth c.give.new.mouth c.take_in-answer.result c.give.result
    heard.1 asks (c.give.ensures.given entries heard.0 c.take_in-answer.result few asks))
    c.give.ensures.post c.give.ensures.out

pub returns-in_default-clause-heard : goal.returns-in_default-clause-heard
returns-in_default-clause-heard c = λ before entries index few has.
    let heard = c.says_something.ensures in
    let taken = c.take_in-answer.ensures.taken c.args.plan.now entries heard.0 heard.1 index few has.so_far in
    hears_more c.entries_before_decide.ensures c.ended_where_it_ends.ensures c.later_entries_change_nothing.ensures c.one_entry_more.ensures c.events_carry_their_index.ensures c.later_acts_change_no_verdict.ensures
    c.args.plan.now before entries c.args.h.now c.args.self.now c.take_in-answer.new.self c.args.mouth.now c.take_in-answer.new.mouth _ _ has
    (more_unasked c.entries_before_decide.ensures c.one_entry_more.ensures c.packets_are_routed.ensures c.events_carry_their_index.ensures c.later_acts_change_no_verdict.ensures c.only_speakers_are_heard.ensures.packets
    c.args.plan.now entries heard.0 c.args.h.now c.take_in-answer.new.self c.take_in-answer.new.mouth c.take_in-answer.new.verdict c.take_in-answer.result
    heard.1 taken c.in_default.not-Asks
    (nothing_asked c.take_in-answer.new.self.directory.asked (λ some. c.in_default.not-Asks (c.take_in-answer.ensures.asked.1 some))))
    c.take_in-answer.ensures.post c.take_in-answer.ensures.out
