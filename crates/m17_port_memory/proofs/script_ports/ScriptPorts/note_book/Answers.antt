use Rattle.std.proofs.Common.{List, ℕ, Option, ap, ◌∙◌}
use Rattle.m17_ports.specs.Ports.{next_number}
use Rattle.m17_ports.specs.declared.question.Question.{Question}
use Rattle.m17_port_memory.proofs.PortsLemmas.{told-fits}
use Rattle.m17_port_memory.proofs.script_ports.ScriptPorts.note_book.Goals as goal

pub returns-clause-noted : goal.returns-clause-noted
returns-clause-noted c =
    let told = told-fits c.text_of-text.result.1 c.args.self.now.asked (Question.Book c.text_of-text.result.0) (Question.Book c.args.name.now) c.text_of-text.ensures.fits
    (λ fits. ap (λ (t : List ℕ). Question.Book t) (c.text_of-text.ensures.whole fits)) in
    c.note.ensures.noted ∙ ap (λ (asked : Option (List Question)). record c.args.self.now {
      calls = next_number c.args.self.now.calls;
      asked = asked;
    }) told
