use Rattle.std.proofs.Common.{List, ℕ, ap, ◌∙◌}
use Rattle.m17_values.specs.declared.heard.Heard.TheVariants.{Datagram}
use Rattle.m17_text_commands.specs.Hotspots.{peer_of}
use Rattle.m17_text_commands.specs.Made.{heard_as}
use Rattle.m17_text_commands.proofs.sending.heard.Goals as goal

pub returns-in-Frame-clause-heard : goal.returns-in-Frame-clause-heard
unfolding heard_as
returns-in-Frame-clause-heard c =
    rw c.in-Frame.is (c.datagram-in-Frame.ensures ∙ ap (λ (bytes : List ℕ). Datagram (peer_of c.in-Frame.hotspot) c.args.at bytes) c.frame.ensures)
