use Rattle.std.proofs.Common.{length, map, refl, ap, ◌∙◌, arith}
use Rattle.std.proofs.lemmas.List.{map_push}
use Rattle.m17_reflect.specs.Bare.{bare_worker}
use Rattle.m17_reflect.proofs.PlaceByPlace.{none_taken, taken_next}
use Rattle.m17_reflect.proofs.staffing.staff_workers.Goals as goal

pub loop-worker-init : goal.loop-worker-init
loop-worker-init g c =
    let jobs = c.args.jobs.now in let none = c.requires.room.0 in record {
      bare = none_taken bare_worker (map bare_worker c.args.made.items) jobs.items none;
      books = none_taken (λ w. w.book) c.args.books.now.items jobs.items none;
      book_count = c.requires.books;
      count = (let no = ap length none in omega (arith, no, jobs.ok.0));
      room = c.requires.room.1;
      book_room = refl;
    }

pub loop-worker-preserved : goal.loop-worker-preserved
loop-worker-preserved g c =
    let now = c.loop-worker in let before = now.invariant in let put = c.push_reserved in
    let book = c.take_last-book in let job = c.with_book in record {
      bare = taken_next bare_worker (map bare_worker c.args.made.items) (map bare_worker now.made.items) (map bare_worker c.pop.new.self.items) (bare_worker c.in-Some.worker) job.result now.jobs.items put.new.self.items
          before.bare (ap (map bare_worker) c.in-Some.ensures.items ∙ map_push bare_worker c.pop.new.self.items c.in-Some.worker) job.ensures.bare put.ensures.items;
      books = taken_next (λ w. w.book) c.args.books.now.items now.books.items book.new.from.items book.result job.result now.jobs.items put.new.self.items
          before.books book.ensures.last job.ensures.book put.ensures.items;
      book_count = omega (arith, before.book_count, book.ensures.fewer, c.in-Some.ensures.len);
      count = omega (arith, before.count, put.ensures.len, c.in-Some.ensures.len);
      room = omega (arith, before.room, put.ensures.capacity);
      book_room = book.ensures.same_room ∙ before.book_room;
    }
