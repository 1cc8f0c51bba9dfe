use Rattle.std.proofs.Common.{◌≡◌, true, List, rules, ap, ◌∙◌, subst}
use Rattle.std.specs.List.{All}
use Rattle.crossbeam_utils.specs.Seq.{cell_view}
use Rattle.m17_book.specs.declared.record.Record.{Record}
use Rattle.m17_board.specs.declared.glance.Glance.{Glance}
use Rattle.m17_board.specs.declared.rule.Knows.{Knows}
use Rattle.m17_board.specs.Glance.{IsGlanceWithin}
use Rattle.m17_board.specs.Ends.{PostEnd, EyeEnd}
use Rattle.m17_board.specs.Rule.{gathering}
use Rattle.m17_board.proofs.Moves.{leaving, gathers, checking}
use Rattle.m17_board.proofs.closing.close_pair.Goals as goal

pub split_pass-seen-requires : goal.split_pass-seen-requires
split_pass-seen-requires g c = (search rules, (search rules, (search rules, leaving _ _ (search rules))))

pub join_pass-requires : goal.join_pass-requires
join_pass-requires g c = (search rules, (search rules, (search rules, gathers _ _ _ _ (search rules))))

pub load_as-requires : goal.load_as-requires
load_as-requires g c = (search rules, (search rules, (search rules, checking _ _ (search rules))))

-- what the poster's pass learned of what it took in
learned : (p e v : Knows) → p.posts ≡ true → v ≡ gathering p e → (v.posts ≡ true → All (IsGlanceWithin v.known) v.seen) → All (IsGlanceWithin p.known) e.seen
learned p e v posts both told = subst (λ (w : Knows). All (IsGlanceWithin w.known) w.seen) both (told (ap (λ (w : Knows). w.posts) both ∙ posts))

-- the same of what contracts see of the two ends
shown : (p : PostEnd) (e : EyeEnd) (known : List Record) (seen : List Glance) → known ≡ p.posted → seen ≡ e.seen → All (IsGlanceWithin known) seen → All (IsGlanceWithin p.posted) e.seen
shown p e known seen same all h =
    subst (λ (l : List Record). All (IsGlanceWithin l) e.seen) same (subst (λ (l : List Glance). All (IsGlanceWithin known) l) all h)

pub returns-clause-seen : goal.returns-clause-seen
returns-clause-seen g c =
    let p = cell_view c.poster.inside.pass in
    let e = cell_view c.eye.inside.pass in
    shown c.args.poster c.args.eye p.known e.seen (ap (λ (x : PostEnd). x.posted) c.poster.view_is) (ap (λ (x : EyeEnd). x.seen) c.eye.view_is)
    (learned p e (cell_view c.join_pass.new.pass) c.poster.invariant.posts (c.join_pass.ensures.1 ∙ ap (gathering p) c.split_pass-seen.ensures.given.1) c.load_as.ensures.rule.1)
