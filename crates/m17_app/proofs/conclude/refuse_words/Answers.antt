use Rattle.m17_app.proofs.conclude.refuse_words.Goals as goal

pub returns : goal.returns
returns g c = λ source. c.conclude.ensures.concluded (λ e. cc) source
