use Rattle.m17_app.proofs.words.run_words.Goals as goal

pub returns : goal.returns
returns g c = rw c.deref.ensures.value at c.run_on.ensures.ran
