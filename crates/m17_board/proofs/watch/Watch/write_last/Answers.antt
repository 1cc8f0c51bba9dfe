use Rattle.std.proofs.Common.{◌≡◌, ◌+◌, ℕ, length, refl, sym, ap, ◌∙◌, subst, arith}
use Rattle.m17_control.specs.Modules.{letters_before, letters_of}
use Rattle.m17_control.specs.declared.modules.Modules.{Modules}
use Rattle.m17_board.specs.Shows.{shown_of}
use Rattle.m17_board.specs.Ending.{GoesInOrder, GoesOn, HasLast, InOrder}
use Rattle.m17_board.proofs.LastLines.{goes_on}
use Rattle.m17_board.proofs.Order.{nothing_yet}
use Rattle.m17_board.proofs.watch.Watch.write_last.Goals as goal

pub write_last_for-place-requires-clause-numbers : goal.write_last_for-place-requires-clause-numbers
write_last_for-place-requires-clause-numbers g c =
    c.loop-letter.invariant.as_many ∙ c.requires.numbers ∙ sym (ap (λ (m : Modules). length (letters_of m)) c.loop-letter.invariant.modules_are)

pub write_last_for-place-requires-clause-glances : goal.write_last_for-place-requires-clause-glances
write_last_for-place-requires-clause-glances g c =
    c.requires.glances ∙ sym (ap (λ (m : Modules). length (letters_of m)) c.loop-letter.invariant.modules_are)

pub loop-letter-init : goal.loop-letter-init
loop-letter-init g c = record {
  at = refl;
  on = λ eyes from lines w. (lines, w);
  last = λ ok place glance lt is. absurd (omega arith);
  in_order = λ fresh. nothing_yet g.B.Book.told c.args.self.now.modules c.args.glances.now c.books_are_written_in_turn.ensures (shown_of c.args.self.now) fresh;
  modules_are = refl;
  as_many = refl;
}

pub loop-letter-preserved : goal.loop-letter-preserved
loop-letter-preserved g c =
    let before = c.loop-letter.invariant in
    let step = c.write_last_for-place.ensures in
    let was = shown_of c.loop-letter.self in
    let now = shown_of c.write_last_for-place.new.self in
    record {
      at = step.next ∙ ap (λ (m : Modules). length (letters_before m (c.loop-letter.letter + 1))) before.modules_are;
      on = goes_on g.B.Book.told c.args.self.now.modules c.args.glances.now (shown_of c.args.self.now) was now before.on
          (subst (λ (m : Modules). GoesOn g.B.Book.told m c.args.glances.now was now) before.modules_are step.on);
      last = λ ok. step.last ok (before.last (step.failed ok));
      in_order = λ ok. subst (λ (m : Modules). GoesInOrder g.B.Book.told m c.args.glances.now c.loop-letter.letter was now) before.modules_are step.in_order (shown_of c.args.self.now) (before.in_order ok);
      modules_are = step.modules ∙ before.modules_are;
      as_many = step.as_many ∙ before.as_many;
    }

pub returns-clause-last : goal.returns-clause-last
returns-clause-last g c ok =
    let end : c.loop-letter.letter ≡ 91 = omega (arith, c.loop-letter-test.false, c.loop-letter.auto.letter-end) in
    let all : c.loop-letter.place ≡ length c.args.glances.now =
    c.loop-letter.invariant.at ∙ ap (λ (n : ℕ). length (letters_before c.args.self.now.modules n)) end ∙ sym c.requires.glances in
    subst (HasLast c.args.glances.now c.loop-letter.self.last.items) all (c.loop-letter.invariant.last ok)

pub returns-clause-in_order : goal.returns-clause-in_order
returns-clause-in_order g c ok =
    let end : c.loop-letter.letter ≡ 91 = omega (arith, c.loop-letter-test.false, c.loop-letter.auto.letter-end) in
    subst (λ (n : ℕ). InOrder g.B.Book.told c.args.self.now.modules c.args.glances.now n (shown_of c.args.self.now) (shown_of c.loop-letter.self)) end (c.loop-letter.invariant.in_order ok)
