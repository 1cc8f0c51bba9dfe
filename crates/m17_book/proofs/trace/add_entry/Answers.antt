use Rattle.std.proofs.Common.{◌≡◌, ℕ, ◌<◌, [], ◌∷◌, length, inl, inr, refl, sym, ap, subst, ◌∙◌, rules, arith, length-append}
use Rattle.m17_book.specs.Ahead.{held, IsAhead}
use Rattle.m17_book.specs.Entries.{SpellsEntry}
use Rattle.m17_book.specs.Flaws.{EntryFlaw}
use Rattle.m17_book.specs.Book.{TellsFlaw}
use Rattle.m17_book.specs.Walk.{spot, HasPassed}
use Rattle.m17_book.specs.declared.cursor.Cursor.{Cursor}
use Rattle.m17_book.specs.declared.refusal.FormRefusal.TheVariants.{Large}
use Rattle.m17_book.proofs.NextStep.{is_enough, none_left}
use Rattle.m17_book.proofs.trace.add_entry.Goals as goal

pub returns-then-is_empty-clause-read : goal.returns-then-is_empty-clause-read
returns-then-is_empty-clause-read g c = λ ahead before.
    let is = c.fill.ensures.kept ahead before in
    let enough = is_enough _ _ ahead _ _ before c.in-Ok.ensures.enough in
    let none : length (held c.fill.new.self) ≡ 0 = search rules in
    let left = none_left (held c.fill.new.self) ahead _ none is enough in
    (refl, left.0, left.1, c.fill.ensures.place)

pub returns-then-len-ge-MOST_ENTRIES-clause-read : goal.returns-then-len-ge-MOST_ENTRIES-clause-read
returns-then-len-ge-MOST_ENTRIES-clause-read g c = λ ahead before.
    let is = c.fill.ensures.kept ahead before in
    let some : 0 < length (held c.fill.new.self) = search rules in
    let more : 0 < length ahead = omega (arith, some, ap length is.2, length-append (held c.fill.new.self) is.0) in
    inr (refl, is, c.fill.ensures.place, inl (omega arith, more, ap Large (c.place.ensures ∙ c.fill.ensures.place)))

pub returns-in-Ok-add_to-clause-read : goal.returns-in-Ok-add_to-clause-read
returns-in-Ok-add_to-clause-read g c = λ ahead before.
    let is = c.fill.ensures.kept ahead before in
    let enough = is_enough _ _ ahead _ _ before c.in-Ok.ensures.enough in
    let entry = c.in-Ok-take_entry.entry in
    let left = (g.S.Input.told c.fill.new.source).left in (
      entry,
      c.in-Ok-add_to.ensures.added,
      subst (λ (n : ℕ). HasPassed SpellsEntry n ahead (entry ∷ []) (spot c.take_entry.new.cursor left)) c.fill.ensures.place
          (c.in-Ok-take_entry.ensures.entry ahead left is enough),
    )

pub returns-in-Err-clause-read : goal.returns-in-Err-clause-read
returns-in-Err-clause-read g c = λ ahead before.
    let is = c.fill.ensures.kept ahead before in
    let enough = is_enough _ _ ahead _ _ before c.in-Ok.ensures.enough in
    let left = (g.S.Input.told c.fill.new.source).left in
    let kept = c.in-Err.ensures.kept in
    inr (
      refl,
      subst (λ (k : Cursor). IsAhead (held k) left ahead) (sym kept) is,
      ap (λ (k : Cursor). k.place) kept ∙ c.fill.ensures.place,
      inr (omega arith, subst (λ (n : ℕ). TellsFlaw EntryFlaw ahead n c.in-Err.refusal) c.fill.ensures.place (c.in-Err.ensures.entry ahead left is enough)),
    )
