use Rattle.std.proofs.Common.{◌≡◌, ◌≤◌, ◌+◌, ◌-◌, ◌^◌, length, arith, subst}
use Rattle.m17_values.specs.declared.heard.Heard.TheVariants.{End}
use Rattle.m17_port_memory.specs.Kept.{ScriptKept}
use Rattle.m17_port_memory.specs.Script.{IsAnswered}
use Rattle.m17_port_memory.proofs.ScriptLemmas.{ended-answered}
use Rattle.m17_port_memory.proofs.script_ear.ScriptEar.next.Goals as goal

pub returns-else-self-len : goal.returns-else-self-len
returns-else-self-len c =
    let e = c.self.inside in
    let within : e.place ≤ length e.script.items = c.self.invariant.0 in
    let at_end : e.place ≡ length e.script.items = omega arith in
    let fits : e.ends ≤ 2 ^ 64 - 1 = omega arith in
    subst (λ (old : ScriptKept). IsAnswered old End (record {
      script = e.script.items;
      calls = e.place + c.saturating_add-self-inside.result;
      number = e.number;
    })) c.self.view_is
    (rw c.saturating_add-self-inside.ensures
    (ended-answered e.script.items e.place e.ends e.number at_end fits))
