use Rattle.std.proofs.Common.{List, map, string_bytes, sym, subst, ap, ◌∙◌}
use Rattle.std.proofs.lemmas.Result.{IfOk-weaker}
use Rattle.clap.specs.Words.{App, Row, Text}
use Rattle.m17_words.specs.Given.{IsGiven}
use Rattle.m17_words.specs.Tables.{IsSimple, Takes, found}
use Rattle.m17_words.proofs.Simple.{table_simple}
use Rattle.m17_words.proofs.Named.{named, values_of}
use Rattle.m17_words.proofs.reading.read_after.Goals as goal

pub find-requires : goal.find-requires
find-requires c = subst IsSimple (sym c.in-Ok.ensures.table) (table_simple c.args.word)

pub returns-in-Ok-find-clause-named : goal.returns-in-Ok-find-clause-named
returns-in-Ok-find-clause-named c =
    let words : List Text = map (λ s. string_bytes s) c.args.words.now in
    let rows = c.in-Ok-find.ensures.found ∙ ap (λ (t : App). found t words) c.in-Ok.ensures.table in
    let taken = subst (λ (t : App). Takes t words) c.in-Ok.ensures.table c.in-Ok-find.ensures.taken in
    IfOk-weaker c.given.result _ _ (λ command is. named c.args.word words taken command
    (subst (λ (rows : List Row). IsGiven c.args.word rows command) rows is)) c.given.ensures.given

pub returns-in-Ok-find-clause-refused : goal.returns-in-Ok-find-clause-refused
returns-in-Ok-find-clause-refused c =
    let words : List Text = map (λ s. string_bytes s) c.args.words.now in
    let rows = c.in-Ok-find.ensures.found ∙ ap (λ (t : App). found t words) c.in-Ok.ensures.table in
    λ e command names. c.given.ensures.refused e command
    (subst (λ (rows : List Row). IsGiven c.args.word rows command) (sym rows) (values_of c.args.word words command names).1)
