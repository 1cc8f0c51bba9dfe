use Rattle.std.proofs.Common.{◌≡◌, length, refl, sym, ap, ◌∙◌, arith}
use Rattle.std.proofs.lemmas.Option.{slice_get_read}
use Rattle.m17_directory.specs.Entries.{peers_named}
use Rattle.m17_replay.specs.Run.{with_heard}
use Rattle.m17_replay.proofs.HeardLemmas.{length_says, named_more, none_named}
use Rattle.m17_replay.proofs.peers.name_peers.Goals as goal

pub loop-one-init : goal.loop-one-init
loop-one-init c = λ entries says. c.new-named.ensures.empty ∙ sym (none_named entries)

pub loop-one-preserved : goal.loop-one-preserved
loop-one-preserved c = λ entries says.
    let at = slice_get_read c.args.heard.now (length c.args.heard.now) c.loop-one.one-index c.one-item.result refl c.loop-one-test.true c.one-item.is in
    c.in_ok-name_sender.ensures ∙ ap (with_heard c.one-item.result) (c.loop-one.invariant entries says) ∙ sym (named_more c.args.heard.now entries c.loop-one.one-index c.one-item.result says at)

pub returns : goal.returns
returns c = λ entries says.
    let all : c.loop-one.one-index ≡ length entries = omega (arith, length_says c.args.heard.now entries says) in
    c.loop-one.invariant entries says ∙ ap (peers_named entries) all
