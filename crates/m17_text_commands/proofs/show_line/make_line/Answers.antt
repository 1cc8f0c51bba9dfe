use Rattle.std.proofs.Common.{◌≡◌, ◌≤◌, ◌%◌, ℕ, List, length, sym, subst, Err, arith, ap, ◌∙◌}
use Rattle.std.proofs.lemmas.List.{length-take-le}
use Rattle.m17_text_commands.proofs.OddDigits.{odd_length}
use Rattle.m17_text_commands.proofs.show_line.make_line.Goals as goal

pub returns-in-Err-OddLength-clause-refused : goal.returns-in-Err-OddLength-clause-refused
returns-in-Err-OddLength-clause-refused c =
    let few : length c.content-digits.result.now ≤ 256 = c.if-digits-gt-LINE_DIGITS.false in
    let odd : length c.content-digits.result.now % 2 ≡ 1 = odd_length c.content-digits.result.now _ c.decode_to_slice.result c.decode_to_slice.new.out (sym (length-take-le _ _ (omega arith))) c.decode_to_slice.ensures.value (c.in-Err-OddLength.is ∙ ap Err c.in-Err-OddLength.field-0-is) in
    subst (λ (xs : List ℕ). (length xs ≤ 256) × (length xs % 2 ≡ 1)) c.content-digits.ensures (few, odd)
