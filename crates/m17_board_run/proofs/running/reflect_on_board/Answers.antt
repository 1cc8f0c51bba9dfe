use Rattle.std.proofs.Common.{refl}
use Rattle.m17_board_run.proofs.Runs.{err_says, none_same, not_memory}
use Rattle.m17_board_run.proofs.running.reflect_on_board.Goals as goal

pub returns-in-Ok-clause-ran : goal.returns-in-Ok-clause-ran
returns-in-Ok-clause-ran g c = rw c.in-None.is (record {
  posters = c.in-Ok.ran.1.items;
  ran = c.in-Ok.ensures.ran;
  lines_show = (none_same c.args.board.posters.items c.in-Ok.ran.1.items (rw c.in-None.is at c.requires.board.desk) c.in-Ok.ensures.ends, refl);
})

pub returns-clause-ran : goal.returns-clause-ran
returns-clause-ran g c = rw c.in-Some.is c.reflect_watched.ensures.ran

pub returns-clause-lines_back : goal.returns-clause-lines_back
returns-clause-lines_back g c = rw c.in-Some.is c.reflect_watched.ensures.lines_back

pub returns-clause-first : goal.returns-clause-first
returns-clause-first g c = err_says _ _ c.reflect_watched.result (λ r first some none. first none) c.reflect_watched.ensures.first

pub returns-clause-withheld : goal.returns-clause-withheld
returns-clause-withheld g c withheld = c.reflect_watched.ensures.withheld withheld

pub returns-clause-unasked : goal.returns-clause-unasked
returns-clause-unasked g c =
    err_says _ _ c.reflect_watched.result (λ r back none memory. absurd (not_memory g.B.Book.told r.refused.why _ r.lines back none memory)) c.reflect_watched.ensures.lines_back
