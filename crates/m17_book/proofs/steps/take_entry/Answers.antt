use Rattle.std.proofs.Common.{refl, arith}
use Rattle.m17_book.specs.Ahead.{held}
use Rattle.m17_book.specs.Entries.{SpellsEntry}
use Rattle.m17_book.specs.Flaws.{EntryFlaw}
use Rattle.m17_book.proofs.NextStep.{window, same_told}
use Rattle.m17_book.proofs.EntryWindow.{entry_told}
use Rattle.m17_book.proofs.Passing.{one_passed}
use Rattle.m17_book.proofs.steps.take_entry.Goals as goal

pub returns-in-Ok-clause-entry : goal.returns-in-Ok-clause-entry
returns-in-Ok-clause-entry c = λ ahead left is enough.
    one_passed SpellsEntry EntryFlaw c.in-Ok.entry (held c.args.cursor.now) (held c.pass.new.self) ahead c.in-Ok.size
    c.args.cursor.now.place c.pass.new.self.place left is (rw c.held-held.ensures at c.in-Ok.ensures) c.pass.ensures.held c.pass.ensures.place

pub returns-in-Err-clause-entry : goal.returns-in-Err-clause-entry
returns-in-Err-clause-entry c = λ ahead left is enough.
    let b = held c.args.cursor.now in
    let tells = entry_told b ahead c.in-Err.flaw c.args.cursor.now.place (omega arith) (window b ahead left is enough) (rw c.held-held.ensures at c.in-Err.ensures) in
    rw c.refusal_of.ensures.told (same_told EntryFlaw ahead c.args.cursor.now.place c.args.cursor.now.place c.place.result c.held-held.result.now b c.in-Err.flaw
    refl c.place.ensures c.held-held.ensures tells)
