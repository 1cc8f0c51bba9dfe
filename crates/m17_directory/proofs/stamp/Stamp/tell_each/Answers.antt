use Rattle.std.proofs.Common.{◌≡◌, ◌-◌, [], ◌∷◌, ◌++◌, cond, map, filter, ap, ◌∙◌, arith}
use Rattle.std.specs.List.{range_with_len}
use Rattle.m17_control.specs.Modules.{serves}
use Rattle.m17_directory.specs.Outcome.{to_module}
use Rattle.m17_directory.proofs.Filters.{letter_is, told_more, told_few}
use Rattle.m17_directory.proofs.stamp.Stamp.tell_each.Goals as goal

pub loop-byte-preserved : goal.loop-byte-preserved
loop-byte-preserved c =
    let served = serves c.args.self.now.setup.modules in
    let is : c.unwrap-letter.result ≡ c.loop-byte.byte = letter_is c.new.result c.unwrap-letter.result c.loop-byte.byte c.unwrap-letter.ensures c.new.ensures.same in
    let said : c.tell_if_served.new.post ≡ c.loop-byte.post ++ cond (served c.loop-byte.byte) (to_module c.args.self.now c.loop-byte.byte c.args.body.now ∷ []) [] =
    c.tell_if_served.ensures ∙ ap (λ letter. c.loop-byte.post ++ cond (served letter) (to_module c.args.self.now letter c.args.body.now ∷ []) []) is in
    record {
      told = told_more (λ letter. to_module c.args.self.now letter c.args.body.now) served c.args.post.now c.loop-byte.post c.tell_if_served.new.post c.loop-byte.byte c.loop-byte.auto.byte c.loop-byte.invariant.told said;
      few = omega (arith, c.loop-byte.invariant.few, c.loop-byte.auto.byte, told_few (served c.loop-byte.byte) (to_module c.args.self.now c.loop-byte.byte c.args.body.now) c.loop-byte.post c.tell_if_served.new.post said);
    }

pub returns-clause-told : goal.returns-clause-told
returns-clause-told c =
    let all : c.loop-byte.byte - 65 ≡ 26 = omega arith in
    c.loop-byte.invariant.told ∙ ap (λ i. c.args.post.now ++ map (λ letter. to_module c.args.self.now letter c.args.body.now) (filter (serves c.args.self.now.setup.modules) (range_with_len 65 i))) all
