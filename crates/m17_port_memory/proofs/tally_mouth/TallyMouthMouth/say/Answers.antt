use Rattle.std.proofs.Common.{◌≡◌, Some, None, cond, sym, ◌∙◌, ap, subst, rules}
use Rattle.std.specs.Option.{option_copied_mut}
use Rattle.std.specs.BTreeMap.{is_at}
use Rattle.m17_values.specs.declared.peer.Peer.{Peer}
use Rattle.m17_ports.specs.Tallies.{IsTallied, tally_then}
use Rattle.m17_port_memory.specs.Kept.{TalliesKept}
use Rattle.m17_values.specs.Peers.{peer_cmp}
use Rattle.m17_port_memory.specs.Peers.{tally_at}
use Rattle.m17_port_memory.proofs.TallyLemmas.{tallied-written, tallied-kept}
use Rattle.m17_port_memory.proofs.tally_mouth.TallyMouthMouth.say.Goals as goal
use Rattle.m17_port_memory.proofs.tally_mouth.TallyMouthMouth.say.Goals.{in-Some, in_default}

pub returns-clause-tallied : goal.returns-clause-tallied
returns-clause-tallied c =
    let to = c.args.to.now in
    let bytes = c.args.bytes.now in
    let old = tally_at c.self.inside.tallies.entries in
    let found : option_copied_mut c.get_mut.result ≡ old to = c.get_mut.ensures.value in
    let from_old = λ (P : IsTallied old to bytes (tally_at c.match-get_mut.self-inside.tallies.entries)).
    subst (λ (v : TalliesKept). IsTallied (tally_at v.entries) to bytes
    (tally_at c.match-get_mut.self-inside.tallies.entries)) c.self.view_is P in
    elim c.match-get_mut.branch [
      | in-Some w ↦
          let tally = w.in-Some.tally.now in
          let new = tally_at (c.get_mut.follows.lender w.count.new.tally).entries in
          let had : old to ≡ Some tally = sym found ∙ ap option_copied_mut w.in-Some.is in
          let some = (c.get_mut.follows.holds w.count.new.tally).3 (rw had (search rules)) in
          let put : (q : Peer) → new q
          ≡ cond (is_at (peer_cmp to) q) (Some (tally_then tally bytes)) (old q) =
          rw (sym w.count.ensures) some.0 in
          from_old (rw w.self-inside-is (tallied-written old new to bytes tally had put))
      | in_default w ↦
          let none : old to ≡ None = sym found ∙ ap option_copied_mut w.in_default.is in
          from_old (rw (w.self-inside-is, c.get_mut.follows.holds-at-none)
          (tallied-kept old old to bytes none (search rules)))
    ]
