use Rattle.std.proofs.Common.{◌++◌, ◌∷◌, [], All, cond, vec_len, vec_capacity, sym, subst, ap, ◌∙◌, append-nil, arith}
use Rattle.std.proofs.lemmas.List.Elements.{All-push}
use Rattle.m17_control.specs.Forms.{IsModule}
use Rattle.m17_reflect.proofs.NewLanes.{served_more}
use Rattle.m17_reflect.proofs.letters.served_letters.Goals as goal
use Rattle.m17_reflect.proofs.letters.served_letters.Goals.{then-has, else-has}

pub loop-letter-preserved : goal.loop-letter-preserved
loop-letter-preserved c =
    let now = c.loop-letter in let is = c.if-has.letters in elim c.if-has.branch [
      | then-has w ↦
          (let test = sym c.has.ensures ∙ w.if-has.true in
          let items = ap (λ v. v.items) w.letters-is ∙ w.push_reserved.ensures.items in record {
            letters = served_more c.args.modules now.letter now.letters.items is.items now.auto.letter c.loop-letter-test.true now.invariant.letters
                (items ∙ ap (λ b. now.letters.items ++ cond b (now.letter ∷ []) []) (sym test));
            each = subst (λ xs. All IsModule xs) (sym items) (All-push IsModule now.letters.items now.letter now.invariant.each (now.auto.letter, omega (arith, c.loop-letter-test.true)));
            few = omega (arith, now.invariant.few, ap (λ v. vec_len v) w.letters-is, w.push_reserved.ensures.len);
            room = omega (arith, now.invariant.room, ap (λ v. vec_capacity v) w.letters-is, w.push_reserved.ensures.capacity);
          })
      | else-has w ↦
          (let test = sym c.has.ensures ∙ w.if-has.false in
          let items = ap (λ v. v.items) w.letters-is in record {
            letters = served_more c.args.modules now.letter now.letters.items is.items now.auto.letter c.loop-letter-test.true now.invariant.letters
                (items ∙ sym (append-nil now.letters.items) ∙ ap (λ b. now.letters.items ++ cond b (now.letter ∷ []) []) (sym test));
            each = subst (λ xs. All IsModule xs) (sym items) now.invariant.each;
            few = omega (arith, now.invariant.few, ap (λ v. vec_len v) w.letters-is);
            room = omega (arith, now.invariant.room, ap (λ v. vec_capacity v) w.letters-is);
          })
    ]
