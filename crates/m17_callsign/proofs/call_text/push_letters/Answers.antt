use Rattle.std.proofs.Common.{ℕ, List, [], ◌∷◌, ◌++◌, ◌-◌, ◌^◌, ◌<◌, ◌≡◌, ◌/◌, refl, ap, sym, ◌∙◌, subst, arith, length, lit<}
use Rattle.std.proofs.lemmas.Str.{encode_ascii}
use Rattle.m17_callsign.specs.Letters.{letters_of}
use Rattle.m17_callsign.proofs.Pushed.{room_left, left_less, same_text, whole_text}
use Rattle.m17_callsign.proofs.call_text.push_letters.Goals as goal

pub loop-rest-init : goal.loop-rest-init
loop-rest-init c = record { left = c.requires; all = refl }

pub push-requires : goal.push-requires
push-requires c =
    let room = room_left c.loop-rest.text.bytes c.loop-rest.rest c.loop-rest-test.true c.loop-rest.invariant.left in
    let ascii : c.from.result < 128 = omega arith in
    let one = ap length (encode_ascii c.from.result ascii) in
    (lit< tt, omega arith)

pub loop-rest-preserved : goal.loop-rest-preserved
loop-rest-preserved c =
    let text = c.loop-rest.text.bytes in
    let rest = c.loop-rest.rest in
    let x = c.letter_at.result in
    let some = c.loop-rest-test.true in
    let left = c.loop-rest.invariant.left in
    let ascii : c.from.result < 128 = omega arith in
    let pushed : c.push.new.self.bytes ≡ text ++ x ∷ [] = c.push.ensures.ascii ascii ∙ ap (λ (y : ℕ). text ++ y ∷ []) c.from.ensures in
    record {
      left = subst (λ (bytes : List ℕ). rest / 40 < 40 ^ (9 - length bytes)) (sym pushed) (left_less text rest x some left);
      all = subst (λ (bytes : List ℕ). bytes ++ letters_of (9 - length bytes) (rest / 40) ≡ text ++ letters_of (9 - length text) rest) (sym pushed)
          (same_text text rest x some left c.letter_at.ensures.letter c.letter_at.ensures.index)
          ∙ c.loop-rest.invariant.all;
    }

pub returns : goal.returns
returns c =
    sym (whole_text c.loop-rest.text.bytes c.loop-rest.rest (omega arith)) ∙ c.loop-rest.invariant.all
