-- The word, a space, and then the letter.
use Rattle.std.proofs.Common.{◌++◌, ◌∷◌, [], ap, ◌∙◌, codes}
use Rattle.m17_print.specs.declared.kind.Kind.TheVariants.{NotServed}
use Rattle.m17_print.specs.Kinds.{kind_word}
use Rattle.m17_replay.proofs.Joined.{two_joined}
use Rattle.m17_replay.proofs.verdict_line.push_unserved.Goals as goal

pub returns-clause-appended : goal.returns-clause-appended
returns-clause-appended c =
    two_joined c.args.line.now c.push_text-2.new.self c.push_byte.new.self (kind_word NotServed ++ codes " ")
    (c.args.letter ∷ [])
    (two_joined c.args.line.now c.push_text.new.self c.push_text-2.new.self (kind_word NotServed) (codes " ")
    (c.push_text.ensures.appended ∙ ap (λ word. c.args.line.now ++ word) c.word.ensures.value) c.push_text-2.ensures.appended)
    (c.push_byte.ensures ∙ ap (λ letter. c.push_text-2.new.self ++ letter ∷ []) c.byte.ensures.same)
