use Rattle.std.proofs.Common.{◌≡◌, ◌+◌, ◌<◌, length, ap, refl, ◌∙◌, arith, rules}
use Rattle.std.proofs.lemmas.Bool.{false≢true}
use Rattle.m17_book.specs.Ahead.{held}
use Rattle.m17_book.specs.Limits.{told}
use Rattle.m17_book.proofs.Far.{passed_all, read_on, all_read, drop_whole}
use Rattle.m17_book.proofs.cursor.Cursor.goes_too_far.Goals as goal

pub reads-preserved : goal.reads-preserved
reads-preserved g c = record {
  kept = λ ahead before.
      let total = c.args.self.now.place + length ahead in
      let all : length c.held-count.result.now ≡ length (held c.reads.self) = ap length c.held-count.ensures in
      let passed = passed_all (held c.reads.self) (held c.pass.new.self) _ c.reads.self.place c.pass.new.self.place _ total all c.pass.ensures.held c.pass.ensures.place
      (c.reads.invariant.kept ahead before) in
      let on = read_on (held c.pass.new.self) (held c.read_more.new.self) _ (g.S.Input.told c.read_more.new.source).left c.pass.new.self.place c.in_ok-read_more.field-0 total
      c.in_ok-read_more.ensures.more passed in
      (on.0, on.1, ap (λ n. told (n + length on.0)) c.read_more.ensures.place ∙ on.2);
  sound = search rules;
}

pub returns-then-self-most-clause-far : goal.returns-then-self-most-clause-far
returns-then-self-most-clause-far g c = λ ahead before.
    let total = c.args.self.now.place + length ahead in
    let all : length c.held-count.result.now ≡ length (held c.reads.self) = ap length c.held-count.ensures in
    let passed = passed_all (held c.reads.self) (held c.pass.new.self) _ c.reads.self.place c.pass.new.self.place _ total all c.pass.ensures.held c.pass.ensures.place
    (c.reads.invariant.kept ahead before) in
    let far : c.args.most < total = omega (arith, passed.2, c.if-self-most.true) in
    (λ _. far, λ _. refl)

pub returns-then-branch-eq0-clause-far : goal.returns-then-branch-eq0-clause-far
returns-then-branch-eq0-clause-far g c = λ ahead before.
    let total = c.args.self.now.place + length ahead in
    let all : length c.held-count.result.now ≡ length (held c.reads.self) = ap length c.held-count.ensures in
    let passed = passed_all (held c.reads.self) (held c.pass.new.self) _ c.reads.self.place c.pass.new.self.place _ total all c.pass.ensures.held c.pass.ensures.place
    (c.reads.invariant.kept ahead before) in
    let none : held c.pass.new.self ≡ _ = c.pass.ensures.held ∙ drop_whole (held c.reads.self) _ all in
    let is = all_read (held c.pass.new.self) (held c.read_more.new.self) _ (g.S.Input.told c.read_more.new.source).left c.pass.new.self.place c.in_ok-read_more.field-0 total
    c.if-branch-eq0.true none c.in_ok-read_more.ensures.more passed in
    (λ bad. absurd (false≢true bad), λ far. absurd (omega (arith, is, far, c.if-self-most.false)))
