use Rattle.std.proofs.Common.{List, ℕ, sym, subst}
use Rattle.m17_callsign.specs.Callsign.{IsCallsignOf}
use Rattle.m17_gate.proofs.PatternLemmas.{no_ascii_callsign, unstarred_refused}
use Rattle.m17_gate.proofs.pattern.read_callsign.Goals as goal

pub returns-in-None : goal.returns-in-None
returns-in-None c =
    unstarred_refused c.args.text.now c.requires.ends_otherwise
    (no_ascii_callsign c.args.text.now c.in-None.ensures)

pub returns-in-Err : goal.returns-in-Err
returns-in-Err c =
    unstarred_refused c.args.text.now c.requires.ends_otherwise
    (λ call h. let e = (c.in-Err.ensures.ok call).1 (subst (λ (t : List ℕ). IsCallsignOf t call)
    (sym c.in-Some.ensures) h) in cc)
