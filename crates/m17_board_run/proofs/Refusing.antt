-- Where nothing was run, nothing was written in the book of the lines.
use Rattle.std.proofs.Common.{◌≡◌, ℕ, Bool, true, false, List, [], ◌∷◌, All, Option, None, Some, refl, sym, ap, subst, ◌∙◌, append-nil}
use Rattle.std.proofs.lemmas.List.Elements.{All-head}
use Rattle.m17_ports.specs.Book.{BookTold, HasText}
use Rattle.m17_ports.specs.Told.{told_then}
use Rattle.m17_control.specs.declared.modules.Modules.{Modules}
use Rattle.m17_board.specs.Ends.{PostEnd}
use Rattle.m17_board.specs.Written.{BoardLine, ShowBegin, ShowsBoard, TellsFirstPart, lines_text}
use Rattle.m17_io.specs.Faults.{HasRisen}
use Rattle.m17_reflect.specs.Views.{IsRefusedFor}
use Rattle.m17_reflect.specs.declared.returned.HouseRefusal.{HouseRefusal}
use Rattle.m17_reflect.specs.declared.returned.HouseRefusal.TheVariants.{Crew, NoMemory}
use Rattle.m17_board_run.proofs.Trails.{place_all}

-- nothing was posted, and so there is no line
no_lines : (modules : Modules) (posters : List PostEnd) (lines : List BoardLine) → All (λ p. p.posted ≡ []) posters → ShowBegin modules posters lines → lines ≡ []
no_lines modules posters [] unposted begin = refl
no_lines modules posters (line ∷ lines) unposted begin =
    let tells : TellsFirstPart posters line.place line.glance =
    All-head (λ (l : BoardLine). TellsFirstPart posters l.place l.glance) line lines begin.tell in
    let elsewhere = begin.none line.place tells.0 tells.1 (place_all (λ (p : PostEnd). p.posted ≡ []) posters line.place tells.0 unposted tells.1) in
    absurd (All-head (λ (l : BoardLine). l.place ≡ line.place → ⊥) line lines elsewhere refl)

nothing_more : (o : Option (List ℕ)) → told_then o [] ≡ o
nothing_more None = refl
nothing_more (Some all) = ap Some (append-nil all)

module _ {L : Type 0} where
  -- the book is as it was
  same_book : (before after : BookTold L) → after.written ≡ before.written → after.faults ≡ before.faults → after.device ≡ before.device → after ≡ before
  same_book before after written faults device =
      ap (λ x. let b : BookTold L = record { written = x; faults = after.faults; device = after.device } in b) written
      ∙ ap (λ x. let b : BookTold L = record { written = before.written; faults = x; device = after.device } in b) faults
      ∙ ap (λ x. let b : BookTold L = record { written = before.written; faults = before.faults; device = x } in b) device

  pub unwritten : (modules : Modules) (posters : List PostEnd) (failed : Bool) (before after : BookTold L) → All (λ p. p.posted ≡ []) posters
      → ShowsBoard modules posters failed before after → after ≡ before
  unwritten modules posters true before after unposted h = absurd (h.failed_line refl (no_lines modules posters h.lines unposted h.begin))
  unwritten modules posters false before after unposted h =
      let text : HasText before [] false after =
      subst (λ (lines : List BoardLine). HasText before (lines_text lines) false after) (no_lines modules posters h.lines unposted h.begin) h.text in
      let whole = text.whole refl in
      same_book before after (whole.0 ∙ nothing_more before.written) whole.1 text.same_device

-- the crew refused, and counted it
apart : Crew ≡ NoMemory → ⊥
apart same = let e = same in cc

pub refused_by_crew : (before after : ℕ) → HasRisen before after → IsRefusedFor Crew before after
refused_by_crew before after risen = record { crew = λ _. risen; no_memory = λ same. absurd (apart same) }

-- the crew's count, over the start of the watch and the reflector
pub refused_since : (why later : HouseRefusal) (before between after : ℕ) → between ≡ before → later ≡ why → IsRefusedFor why between after → IsRefusedFor later before after
refused_since why later before between after same is h =
    subst (λ (n : ℕ). IsRefusedFor later n after) same (subst (λ (w : HouseRefusal). IsRefusedFor w between after) (sym is) h)
