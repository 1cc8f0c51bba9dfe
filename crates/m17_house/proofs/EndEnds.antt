-- Where nothing more comes, the link ends.
use Rattle.std.proofs.Common.{◌≡◌, ℕ, true, List, [], ◌∷◌, ◌++◌, length, slice_get, Some, refl, ap, ◌∙◌}
use Rattle.std.proofs.lemmas.Option.{slice_get_within}
use Rattle.m17_values.specs.declared.heard.Heard.{Heard}
use Rattle.m17_values.specs.declared.heard.Heard.TheVariants as heard
use Rattle.m17_directory.specs.Entries.{Entry, Notice, Says, SaysEach, notice_of, notice_at, ends_at}
use Rattle.m17_house.specs.Laws.{EndEndsIt}

-- what one of those that were heard says
says_at : (front : List Heard) (h : Heard) (rest : List Heard) (entries : List Entry) → SaysEach (front ++ h ∷ rest) entries → (e : Entry) × (slice_get entries (length front) ≡ Some e) × Says h e.notice
says_at [] h rest [] each = absurd each
says_at [] h rest (e ∷ entries) each = (e, refl, each.0)
says_at (g ∷ front) h rest [] each = absurd each
says_at (g ∷ front) h rest (e ∷ entries) each = says_at front h rest entries each.1

end_ends : (entries : List Entry) (n : ℕ) → notice_at entries n ≡ Notice.End → ends_at entries n ≡ true
unfolding ends_at
end_ends entries n e = rw e refl

pub end_ends_it : EndEndsIt
end_ends_it front rest entries each =
    let it = says_at front heard.End rest entries each in
    (length front, slice_get_within entries (length front) it.0 it.1, end_ends entries (length front) (ap notice_of it.1 ∙ it.2))
