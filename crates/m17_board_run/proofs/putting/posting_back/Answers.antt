use Rattle.std.proofs.Common.{[], ◌∷◌, ◌++◌, length, sym, ap, subst, ◌∙◌, arith}
use Rattle.m17_board_run.specs.Putting.{IsBack, IsPosting, plain_of, posters_of}
use Rattle.m17_board_run.specs.declared.kept.Kept.TheVariants.{Posting}
use Rattle.m17_board_run.proofs.Lists.{none_moved, one_moved, nothing_moved, moved_on, no_pairs, one_pair, all_but_last}
use Rattle.m17_board_run.proofs.Books.{posters_push}
use Rattle.m17_board_run.proofs.putting.posting_back.Goals as goal

pub loop-one-init : goal.loop-one-init
loop-one-init g c = record {
  shelves_out = none_moved plain_of c.args.kept.items c.args.shelves.items c.requires.no_shelves;
  posters_out = nothing_moved posters_of c.args.kept.items c.args.posters.items c.requires.no_posters;
  back = no_pairs (IsBack g.B.Book.told) c.args.shelves.items c.args.posters.items c.requires.no_shelves c.requires.no_posters;
  posting = c.requires.posting;
  shelf_count = (let no = ap length c.requires.no_shelves in omega (arith, no, c.args.shelves.ok.0));
  poster_count = (let no = ap length c.requires.no_posters in omega (arith, no, c.args.posters.ok.0));
  shelf_room = c.requires.room;
  poster_room = c.requires.room_for_posters;
}

pub unreachable-requires : goal.unreachable-requires
unreachable-requires g c =
    subst IsPosting c.in-Plain.is (all_but_last IsPosting c.loop-one.kept.items c.pop.new.self.items c.in-Some.one c.in-Some.ensures.items c.loop-one.invariant.posting).1

pub loop-one-preserved : goal.loop-one-preserved
loop-one-preserved g c =
    let now = c.loop-one in let before = now.invariant in let shelf = c.push_reserved in let poster = c.push_reserved-in-Posting in let book = Posting c.in-Posting.book in
    let taken = c.in-Some.ensures.items ∙ ap (λ one. c.pop.new.self.items ++ one ∷ []) c.in-Posting.is in record {
      shelves_out = one_moved plain_of c.args.kept.items now.kept.items c.pop.new.self.items book _ now.shelves.items shelf.new.self.items
          before.shelves_out taken c.into_parts-shelf.ensures.inner shelf.ensures.items;
      posters_out = moved_on posters_of c.args.kept.items now.kept.items c.pop.new.self.items book _ now.posters.items poster.new.self.items
          before.posters_out taken (posters_push c.pop.new.self.items c.in-Posting.book ∙ ap (λ p. posters_of c.pop.new.self.items ++ p ∷ []) (sym c.into_parts-shelf.ensures.poster)) poster.ensures.items;
      back = one_pair (IsBack g.B.Book.told) now.shelves.items shelf.new.self.items now.posters.items poster.new.self.items _ _ shelf.ensures.items poster.ensures.items
          (rw (c.into_parts-shelf.ensures.inner, c.into_parts-shelf.ensures.poster) c.into_parts-shelf.ensures.posted) before.back;
      posting = (all_but_last IsPosting now.kept.items c.pop.new.self.items book taken before.posting).0;
      shelf_count = omega (arith, before.shelf_count, shelf.ensures.len, c.in-Some.ensures.len);
      poster_count = omega (arith, before.poster_count, poster.ensures.len, c.in-Some.ensures.len);
      shelf_room = omega (arith, before.shelf_room, shelf.ensures.capacity);
      poster_room = omega (arith, before.poster_room, poster.ensures.capacity);
    }
