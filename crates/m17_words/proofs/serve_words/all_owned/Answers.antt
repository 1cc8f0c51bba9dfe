use Rattle.std.proofs.Common.{◌≡◌, ℕ, ◌+◌, ◌<◌, List, [], ◌∷◌, ◌++◌, length, get_or, map, take, sym, ap, ◌∙◌}
use Rattle.std.specs.Borrow.{Bor}
use Rattle.std.proofs.lemmas.List.{map_more, take_all}
use Rattle.clap.specs.Words.{Text}
use Rattle.m17_words.proofs.serve_words.all_owned.Goals as goal

one_more : (texts : List (Bor Text)) (i : ℕ) (d : Bor Text) (old new : List Text) → i < length texts
    → new ≡ old ++ (get_or texts i d).now ∷ [] → old ≡ map (λ s. s.now) (take i texts) → new ≡ map (λ s. s.now) (take (i + 1) texts)
one_more texts i d old new inside more same =
    more ∙ ap (λ (all : List Text). all ++ (get_or texts i d).now ∷ []) same ∙ sym (map_more (λ (s : Bor Text). s.now) texts i d inside)

pub loop-text-preserved : goal.loop-text-preserved
loop-text-preserved c = one_more c.args.texts.now c.loop-text.text-index _ _ _ c.loop-text-test.true c.in_ok-push_owned.ensures.more c.loop-text.invariant

pub returns-clause-same : goal.returns-clause-same
returns-clause-same c =
    c.loop-text.invariant ∙ ap (λ (texts : List (Bor Text)). map (λ s. s.now) texts) (take_all c.loop-text.text-index c.args.texts.now c.loop-text-test.false)
