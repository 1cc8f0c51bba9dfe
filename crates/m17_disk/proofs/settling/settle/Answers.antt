use Rattle.std.proofs.Common.{◌≡◌, [], ◌++◌, List, Ok, Option, reverse, refl, subst, sym, ap, ◌∙◌, arith}
use Rattle.std.proofs.lemmas.List.{nil_from_length, append-nil}
use Rattle.std.specs.List.{AllZip}
use Rattle.m17_disk.specs.declared.writer.Writer.{Writer}
use Rattle.m17_disk.specs.Writing.{EndsAs, SaysOf}
use Rattle.m17_disk.proofs.Settled.{ending, says_more, says_none}
use Rattle.m17_disk.proofs.settling.settle.Goals as goal

pub loop-hand-init : goal.loop-hand-init
loop-hand-init g c = record {
  ended = (
    [],
    refl,
    subst (λ (ended : List (Option (Writer g.row.B.Denot))). AllZip (EndsAs g.B.Book.told) [] ended) (sym c.requires.nothing) tt,
  );
  said = subst (λ (ended : List (Option (Writer g.row.B.Denot))). SaysOf ended (Ok tt)) (sym c.requires.nothing) says_none;
  number = refl;
  room = refl;
}

pub loop-hand-preserved : goal.loop-hand-preserved
loop-hand-preserved g c = let before = c.loop-hand.invariant in record {
  ended = ending g.B.Book.told (reverse c.args.hands.now.items) c.loop-hand.hands.items c.pop.new.self.items
      c.loop-hand.ended.items c.push_reserved.new.self.items c.in-Some.hand c.end-end.result before.ended
      c.in-Some.ensures.items c.push_reserved.ensures.items c.end-end.ensures;
  said = says_more c.loop-hand.ended.items c.push_reserved.new.self.items c.end-end.result c.said_of.result c.loop-hand.said
      c.both-said.result c.push_reserved.ensures.items before.said c.said_of.ensures.well c.said_of.ensures.failed
      c.both-said.ensures.well c.both-said.ensures.failed;
  number = omega (arith, before.number, c.in-Some.ensures.len, c.push_reserved.ensures.len);
  room = omega (arith, before.room, c.push_reserved.ensures.capacity);
}

pub returns : goal.returns
returns g c =
    let so_far = c.loop-hand.invariant.ended in
    let none : c.loop-hand.hands.items ≡ [] = nil_from_length c.loop-hand.hands.items (omega (arith, c.in_default.ensures.cases.0, c.loop-hand.hands.ok)) in
    record {
      ended = subst (λ (jobs : List (Writer g.row.B.Denot)). AllZip (EndsAs g.B.Book.told) jobs c.loop-hand.ended.items)
          (sym (so_far.1 ∙ ap (λ (hands : List (Writer g.row.B.Denot)). so_far.0 ++ reverse hands) none ∙ append-nil so_far.0)) so_far.2;
      all = sym (append-nil c.pop.new.self.items) ∙ (sym c.in_default.ensures.items ∙ none);
      said = c.loop-hand.invariant.said;
    }
