use Rattle.std.proofs.Common.{◌≡◌, List, [], length, map, vec_len, All, sym, ap, subst, ◌∙◌, arith}
use Rattle.std.proofs.lemmas.List.{length-map, length-replicate}
use Rattle.m17_control.specs.Modules.{letters_of}
use Rattle.m17_control.specs.declared.modules.Modules.{Modules}
use Rattle.m17_plan.specs.Planned.{module_count}
use Rattle.m17_board.specs.Ends.{AreOfOneBoard}
use Rattle.m17_board.specs.Written.{ShowsBoard}
use Rattle.m17_reflect.specs.declared.returned.HouseRefusal.{HouseRefusal}
use Rattle.m17_reflect.specs.Views.{IsRefusedFor}
use Rattle.m17_board_run.specs.Kept.{told_of_shelf}
use Rattle.m17_board_run.proofs.Refusing.{refused_by_crew, unwritten}
use Rattle.m17_board_run.proofs.Runs.{ended_board, is_fresh, none_posted, none_taken, same_count}
use Rattle.m17_board_run.proofs.running.reflect_watched.Goals as goal

pub returns-in-Err-clause-cause : goal.returns-in-Err-clause-cause
returns-in-Err-clause-cause g c =
    subst (λ (w : HouseRefusal). IsRefusedFor w (g.C.Crew.refusals c.args.crew.now) (g.C.Crew.refusals c.start.new.self)) (sym c.unwatched.ensures.why)
    (refused_by_crew (g.C.Crew.refusals c.args.crew.now) (g.C.Crew.refusals c.start.new.self) c.in-Err.ensures.cause.failed)

pub reflect_kept-requires-clause-unposted : goal.reflect_kept-requires-clause-unposted
reflect_kept-requires-clause-unposted g c κs within = none_posted 0 c.args.posters.items c.args.desk.eyes.items c.requires.desk.new.1

pub reflect_kept-requires-clause-untaken : goal.reflect_kept-requires-clause-untaken
reflect_kept-requires-clause-untaken g c κs within = none_taken 0 c.args.posters.items c.args.desk.eyes.items c.requires.desk.new.1

pub end_watch-lines-requires-clause-fresh : goal.end_watch-lines-requires-clause-fresh
end_watch-lines-requires-clause-fresh g c κs within =
    is_fresh c.in-Ok.watching (module_count c.args.plan.now) (ap (λ w. w.failed) c.in-Ok.ensures.job) (ap (λ w. w.last.items) c.in-Ok.ensures.job ∙ c.requires.desk.last)

pub end_watch-lines-requires-clause-board : goal.end_watch-lines-requires-clause-board
end_watch-lines-requires-clause-board g c κs within =
    subst (AreOfOneBoard c.in-Ok-reflect_kept.ran.1.items) (sym (ap (λ w. w.eyes.items) c.in-Ok.ensures.job))
    (ended_board c.args.posters.items c.in-Ok-reflect_kept.ran.1.items c.args.desk.eyes.items c.in-Ok-reflect_kept.ensures.ends c.requires.desk.ends)

pub end_watch-lines-requires-clause-each : goal.end_watch-lines-requires-clause-each
end_watch-lines-requires-clause-each g c κs within =
    let all : vec_len c.in-Ok-reflect_kept.ran.1 ≡ module_count c.args.plan.now =
    omega (arith, same_count c.args.posters.items c.in-Ok-reflect_kept.ran.1.items c.in-Ok-reflect_kept.ensures.ends, c.requires.desk.new.0, c.in-Ok-reflect_kept.ran.1.ok.0) in
    all ∙ sym (ap (λ m. length (letters_of m)) (ap (λ w. w.modules) c.in-Ok.ensures.job))

pub end_watch-lines-requires-clause-numbers : goal.end_watch-lines-requires-clause-numbers
end_watch-lines-requires-clause-numbers g c κs within =
    let long = ap length (ap (λ w. w.last.items) c.in-Ok.ensures.job ∙ c.requires.desk.last) ∙ length-replicate (module_count c.args.plan.now) 0 in
    (omega (arith, long, c.in-Ok.watching.last.ok.0)) ∙ sym (ap (λ m. length (letters_of m)) (ap (λ w. w.modules) c.in-Ok.ensures.job))

pub end_watch-lines-requires-clause-room : goal.end_watch-lines-requires-clause-room
end_watch-lines-requires-clause-room g c κs within =
    omega (arith, same_count c.args.posters.items c.in-Ok-reflect_kept.ran.1.items c.in-Ok-reflect_kept.ensures.ends, c.requires.desk.new.0, c.in-Ok-reflect_kept.ran.1.ok.0, c.requires.desk.glances.1)

pub end_watch-unwritten-requires-clause-fresh : goal.end_watch-unwritten-requires-clause-fresh
end_watch-unwritten-requires-clause-fresh g c κs within =
    is_fresh c.in-Ok.watching (module_count c.args.plan.now) (ap (λ w. w.failed) c.in-Ok.ensures.job) (ap (λ w. w.last.items) c.in-Ok.ensures.job ∙ c.requires.desk.last)

pub end_watch-unwritten-requires-clause-each : goal.end_watch-unwritten-requires-clause-each
end_watch-unwritten-requires-clause-each g c κs within =
    let same = ap length c.in-Err-reflect_kept.ensures.same_posters in
    let all : vec_len c.in-Err-reflect_kept.back.1 ≡ module_count c.args.plan.now = omega (arith, same, c.requires.desk.new.0, c.in-Err-reflect_kept.back.1.ok.0) in
    all ∙ sym (ap (λ m. length (letters_of m)) (ap (λ w. w.modules) c.in-Ok.ensures.job))

pub end_watch-unwritten-requires-clause-numbers : goal.end_watch-unwritten-requires-clause-numbers
end_watch-unwritten-requires-clause-numbers g c κs within =
    let long = ap length (ap (λ w. w.last.items) c.in-Ok.ensures.job ∙ c.requires.desk.last) ∙ length-replicate (module_count c.args.plan.now) 0 in
    (omega (arith, long, c.in-Ok.watching.last.ok.0)) ∙ sym (ap (λ m. length (letters_of m)) (ap (λ w. w.modules) c.in-Ok.ensures.job))

pub returns-in-Ok-reflect_kept-clause-ran : goal.returns-in-Ok-reflect_kept-clause-ran
returns-in-Ok-reflect_kept-clause-ran g c =
    let ran = c.in-Ok-reflect_kept.ran in
    let shown = subst (λ (m : Modules). ShowsBoard m ran.1.items c.end_watch-lines.result.1 (g.B.Book.told c.in-Ok.watching.book) (g.B.Book.told c.end_watch-lines.result.0)) (ap (λ w. w.modules) c.in-Ok.ensures.job) c.end_watch-lines.ensures in
    let books = length-map ran.0.books.items (told_of_shelf g.B.Book.told) in
    record {
      posters = ran.1.items;
      ran = c.in-Ok-reflect_kept.ensures.ran;
      lines_show = (
        omega (arith, books, same_count c.args.posters.items ran.1.items c.in-Ok-reflect_kept.ensures.ends, c.requires.desk.new.0, c.in-Ok-reflect_kept.ensures.count, c.requires.books, ran.0.books.ok.0),
        rw (ap (λ w. w.book) c.in-Ok.ensures.job) at shown,
      );
    }

pub returns-in-Ok-reflect_kept-clause-withheld : goal.returns-in-Ok-reflect_kept-clause-withheld
returns-in-Ok-reflect_kept-clause-withheld g c withheld = absurd (let e = c.in-Ok.ensures.withheld withheld in cc)

pub returns-in-Err-reflect_kept-clause-lines_back : goal.returns-in-Err-reflect_kept-clause-lines_back
returns-in-Err-reflect_kept-clause-lines_back g c =
    unwritten c.in-Ok.watching.modules c.in-Err-reflect_kept.back.1.items c.end_watch-unwritten.result.1 (g.B.Book.told c.in-Ok.watching.book) (g.B.Book.told c.end_watch-unwritten.result.0)
    (subst (All (λ p. p.posted ≡ [])) (sym c.in-Err-reflect_kept.ensures.same_posters) (none_posted 0 c.args.posters.items c.args.desk.eyes.items c.requires.desk.new.1)) c.end_watch-unwritten.ensures
    ∙ ap g.B.Book.told (ap (λ w. w.book) c.in-Ok.ensures.job)

pub returns-in-Err-reflect_kept-clause-withheld : goal.returns-in-Err-reflect_kept-clause-withheld
returns-in-Err-reflect_kept-clause-withheld g c withheld = absurd (let e = c.in-Ok.ensures.withheld withheld in cc)
