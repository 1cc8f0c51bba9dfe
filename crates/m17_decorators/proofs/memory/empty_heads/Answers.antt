use Rattle.m17_decorators.proofs.memory.empty_heads.Goals as goal

pub returns : goal.returns
returns c = c.in_ok-heads.ensures.items_if_clones_equal (λ y is. is)
