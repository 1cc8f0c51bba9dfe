use Rattle.std.proofs.Common.{◌≡◌, sym, ◌∙◌, ap, List, ℕ}
use Rattle.std.proofs.lemmas.List.{take_all}
use Rattle.m17_values.specs.declared.heard.Heard.TheVariants.{Datagram}
use Rattle.m17_port_memory.proofs.script_ear.copy_of.Goals as goal

pub returns-in-Datagram : goal.returns-in-Datagram
returns-in-Datagram c =
    let same : c.of.result ≡ c.in-Datagram.bytes =
    c.of.ensures.first ∙ take_all 64 c.bytes.result.now c.bytes.ensures.short ∙ c.bytes.ensures.same in
    ap (λ (bytes : List ℕ). Datagram c.in-Datagram.from c.in-Datagram.at bytes) same ∙ sym c.in-Datagram.is
