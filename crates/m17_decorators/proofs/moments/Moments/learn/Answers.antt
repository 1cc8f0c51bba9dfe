use Rattle.std.proofs.Common.{◌≡◌, ◌<◌, refl, ap, subst, ◌∙◌, arith}
use Rattle.m17_decorators.specs.PaceMemory.{RunsUp, starts_before}
use Rattle.m17_decorators.proofs.Times.{late-short, learns, learns-whole, pushed}
use Rattle.m17_decorators.proofs.moments.Moments.learn.Goals as goal

pub returns-clause-whole : goal.returns-clause-whole
returns-clause-whole c =
    let f = c.forget in
    let items = f.new.self.later.items in
    let at = c.args.at in
    let room = f.ensures.room ∙ c.requires.room in
    let lt : f.new.self.last < at = (let a = f.ensures.now in let b = c.if-at-self.false in omega arith) in
    let late = subst (λ n. starts_before n items ≡ _) c.saturating_sub.ensures f.ensures.late in
    let short = late-short f.new.self.cut _ items f.new.self.last at f.ensures.up f.ensures.late
    lt c.saturating_sub.ensures in
    learns-whole at f.new.self _ f.new.self.cut items lt f.ensures.up late refl refl
    (pushed items at f.new.self.later.capacity c.push_back.new.self short room c.push_back.ensures.items)
    (ap (λ b. b.capacity) c.push_back.ensures.items ∙ room)

pub returns-clause-learned : goal.returns-clause-learned
returns-clause-learned c past of =
    let f = c.forget in
    let items = f.new.self.later.items in
    let at = c.args.at in
    let room = f.ensures.room ∙ c.requires.room in
    let lt : f.new.self.last < at = (let a = f.ensures.now in let b = c.if-at-self.false in omega arith) in
    let short = late-short f.new.self.cut _ items f.new.self.last at f.ensures.up f.ensures.late
    lt c.saturating_sub.ensures in
    learns at past c.args.self.now _ f.new.self.cut items of c.if-at-self.false
    (subst (λ n. RunsUp f.new.self.cut items n) f.ensures.now f.ensures.up)
    (λ g le. f.ensures.below g (let is = c.saturating_sub.ensures in omega arith)) refl refl
    (pushed items at f.new.self.later.capacity c.push_back.new.self short room c.push_back.ensures.items)
