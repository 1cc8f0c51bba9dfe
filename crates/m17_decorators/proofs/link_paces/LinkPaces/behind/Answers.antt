use Rattle.m17_decorators.proofs.AtPace.{come-new, new-at}
use Rattle.m17_decorators.proofs.link_paces.LinkPaces.behind.Goals as goal

pub returns-clause-at_pace : goal.returns-clause-at_pace
returns-clause-at_pace g c = λ none. rw c.with.ensures (
    new-at g.M.Mouth.told g.C.Stopwatch.answers _ none
    (come-new _ c.next-pace.result c.next-pace.ensures.new)
    )
