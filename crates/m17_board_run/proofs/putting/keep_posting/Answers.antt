use Rattle.std.proofs.Common.{◌≡◌, [], ◌∷◌, length, map, reverse, refl, ap, arith}
use Rattle.m17_ports.specs.Told.{StartsEmpty}
use Rattle.m17_board_run.specs.Kept.{told_of_shelf}
use Rattle.m17_board_run.specs.Putting.{IsPosting, plain_of, posters_of}
use Rattle.m17_board_run.proofs.Lists.{none_put, one_put, none_yet, one_more, all_but_last}
use Rattle.m17_board_run.proofs.putting.keep_posting.Goals as goal

pub loop-shelf-init : goal.loop-shelf-init
loop-shelf-init g c = record {
  shelves_put = none_put (map plain_of) c.args.shelves.items c.args.kept.items refl c.requires.none;
  posters_put = none_put posters_of c.args.posters.items c.args.kept.items refl c.requires.none;
  posting = none_yet IsPosting c.args.kept.items c.requires.none;
  empty = c.requires.empty;
  unposted = c.requires.unposted;
  untaken = c.requires.untaken;
  each = c.requires.each;
  room = (let no = ap length c.requires.none in omega (arith, no, c.args.kept.ok.0, c.requires.room));
}

pub new-requires-clause-empty : goal.new-requires-clause-empty
new-requires-clause-empty g c =
    (all_but_last (λ shelf. StartsEmpty (told_of_shelf g.B.Book.told shelf).written) c.loop-shelf.shelves.items c.pop.new.self.items c.in-Some.shelf c.in-Some.ensures.items
    c.loop-shelf.invariant.empty).1

pub new-requires-clause-unposted : goal.new-requires-clause-unposted
new-requires-clause-unposted g c =
    (all_but_last (λ poster. poster.posted ≡ []) c.loop-shelf.posters.items c.pop-in-Some.new.self.items c.in-Some-pop.poster c.in-Some-pop.ensures.items c.loop-shelf.invariant.unposted).1

pub new-requires-clause-untaken : goal.new-requires-clause-untaken
new-requires-clause-untaken g c =
    (all_but_last (λ poster. poster.taken ≡ []) c.loop-shelf.posters.items c.pop-in-Some.new.self.items c.in-Some-pop.poster c.in-Some-pop.ensures.items c.loop-shelf.invariant.untaken).1

pub loop-shelf-preserved : goal.loop-shelf-preserved
loop-shelf-preserved g c =
    let now = c.loop-shelf in let before = now.invariant in let put = c.push_reserved in record {
      shelves_put = one_put (map plain_of) c.args.shelves.items now.shelves.items c.pop.new.self.items c.in-Some.shelf _ now.kept.items put.new.self.items
          before.shelves_put c.in-Some.ensures.items (ap (λ s. s ∷ map plain_of (reverse now.kept.items)) c.new.ensures.inner) put.ensures.items;
      posters_put = one_put posters_of c.args.posters.items now.posters.items c.pop-in-Some.new.self.items c.in-Some-pop.poster _ now.kept.items put.new.self.items
          before.posters_put c.in-Some-pop.ensures.items (ap (λ p. p ∷ posters_of (reverse now.kept.items)) c.new.ensures.poster) put.ensures.items;
      posting = one_more IsPosting now.kept.items put.new.self.items _ put.ensures.items tt before.posting;
      empty = (all_but_last (λ shelf. StartsEmpty (told_of_shelf g.B.Book.told shelf).written) now.shelves.items c.pop.new.self.items c.in-Some.shelf c.in-Some.ensures.items before.empty).0;
      unposted = (all_but_last (λ poster. poster.posted ≡ []) now.posters.items c.pop-in-Some.new.self.items c.in-Some-pop.poster c.in-Some-pop.ensures.items before.unposted).0;
      untaken = (all_but_last (λ poster. poster.taken ≡ []) now.posters.items c.pop-in-Some.new.self.items c.in-Some-pop.poster c.in-Some-pop.ensures.items before.untaken).0;
      each = omega (arith, before.each, c.in-Some.ensures.len, c.in-Some-pop.ensures.len);
      room = omega (arith, before.room, put.ensures.len, put.ensures.capacity, c.in-Some.ensures.len);
    }
