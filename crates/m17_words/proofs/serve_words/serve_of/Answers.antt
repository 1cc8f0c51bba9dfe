use Rattle.std.proofs.Common.{List, ℕ, subst, ◌∙◌}
use Rattle.clap.specs.Words.{found_of, rows_of}
use Rattle.m17_words.specs.Values.{IsPace}
use Rattle.m17_words.proofs.Parrots.{no_plan, no_serve}
use Rattle.m17_words.proofs.Unnamed.{pace_text}
use Rattle.m17_words.proofs.serve_words.serve_of.Goals as goal

pub returns-in_default-clause-refused : goal.returns-in_default-clause-refused
returns-in_default-clause-refused c =
    let rows = rows_of (found_of c.args.matches.now) in
    λ e. no_serve rows (no_plan rows c.in_default.ensures.none)

pub serve_with-requires-clause-pace : goal.serve_with-requires-clause-pace
serve_with-requires-clause-pace c =
    subst (λ (t : List ℕ). IsPace t c.in-Some-pace.pace) (c.text_or.ensures ∙ pace_text _) c.in-Some-pace.ensures.some
