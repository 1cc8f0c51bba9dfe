use Rattle.std.proofs.Common.{◌≡◌, true, rules, List, [], ◌++◌, ◌≤◌, sym, ap, subst, ◌∙◌}
use Rattle.crossbeam_utils.specs.Seq.{cell_view}
use Rattle.m17_book.specs.declared.record.Record.{Record}
use Rattle.m17_board.specs.declared.rule.Knows.{Knows}
use Rattle.m17_board.specs.declared.sight.Sight.{Sight}
use Rattle.m17_board.specs.Glance.{glance_words, sight_of}
use Rattle.m17_board.specs.Rule.{adds}
use Rattle.m17_board.proofs.Moves.{posting}
use Rattle.m17_board.proofs.Records.{fewer}
use Rattle.m17_board.proofs.poster.Poster.put.Goals as goal

named : (s : Sight) (known a b : List Record) → s ≡ sight_of (known ++ a) → b ≡ a → s ≡ sight_of (known ++ b)
named s known a b h e = h ∙ ap (λ (l : List Record). sight_of (known ++ l)) (sym e)

kept : (s : Sight) (more : List Record) (v w : Knows) → s ≡ sight_of (v.known ++ more) → adds more v [] [] w → s ≡ sight_of w.known
kept s more v w h e = h ∙ ap (λ (k : Knows). sight_of k.known) (sym e)

still : (more : List Record) (v w : Knows) → v.posts ≡ true → adds more v [] [] w → w.posts ≡ true
still more v w h e = ap (λ (k : Knows). k.posts) e ∙ h

few : (s : Sight) (all : List Record) → s ≡ sight_of all → s.admitted ≤ s.records
few s all h = subst (λ (t : Sight). t.admitted ≤ t.records) (sym h) (fewer all)

pub swap_as-requires : goal.swap_as-requires
swap_as-requires g c =
    let known = (cell_view c.self.inside.pass).known in
    let sight = named _ known _ _ (c.with_one-self-inside.ensures known c.self.invariant.sight) c.requires in
    (search rules, (search rules, (search rules, posting _ _ _ _ c.self.invariant.posts (c.to_words-words.ensures.words ∙ ap glance_words (c.glance.ensures _ sight)) c.to_words-words.ensures.within)))

pub invariant_of-self : goal.invariant_of-self
invariant_of-self g c =
    let v = cell_view c.self.inside.pass in
    let sight = named _ v.known _ _ (c.with_one-self-inside.ensures v.known c.self.invariant.sight) c.requires in
    let e = c.swap_as.ensures in record {
      fits = e.cell.0 ∙ c.self.invariant.fits;
      posts = still g.A.Posting.posted v _ c.self.invariant.posts e.rule;
      sight = kept _ g.A.Posting.posted v _ sight e.rule;
      fewer = few _ _ sight;
      nobody = c.self.invariant.nobody;
    }
