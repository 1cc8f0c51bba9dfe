use Rattle.std.proofs.Common.{List, [], length, sym, ap, subst, ◌∙◌, if◌then◌else◌}
use Rattle.m17_values.specs.declared.heard.Heard.{Heard}
use Rattle.m17_directory.specs.Entries.{peers_named, SaysEach}
use Rattle.m17_replay.proofs.Judged.{front_of}
use Rattle.m17_replay.proofs.peers.name_heard.Goals as goal

pub returns : goal.returns
returns c = λ entries front rest parts says once.
    let is = front_of c.args.heard.now front rest entries c.count_to_end.result parts says (c.count_to_end.ensures.ends entries front rest parts says once) in
    c.in_ok-peers.ensures ∙ c.in_ok-named.ensures entries (subst (λ (hs : List Heard). SaysEach hs entries) (sym is) says)
    ∙ ap (λ b. if b then peers_named entries (length entries) else []) (sym c.if-not-summary.false)
