-- The last lines of a board come in order of letters.
use Rattle.std.proofs.Common.{◌≡◌, ◌⊎◌, ⊎_elim, ℕ, ◌+◌, ◌<◌, ◌≤◌, false, List, [], ◌∷◌, ◌++◌, length, map, All, Contains, Some, slice_get, slice_index, get_or, sym, ap, ◌∙◌, arith}
use Rattle.std.proofs.lemmas.Option.{slice_get_within}
use Rattle.std.proofs.lemmas.List.Elements.{All-push}
use Rattle.std.proofs.lemmas.List.Quantifiers.{all_pairs_push}
use Rattle.m17_lists.proofs.Places.{mapped_stands_there}
use Rattle.m17_ports.specs.Book.{BookTold}
use Rattle.m17_ports.specs.Laws.{BooksAreWrittenInTurn}
use Rattle.m17_control.specs.declared.modules.Modules.{Modules}
use Rattle.m17_board.specs.Ends.{PostEnd, EyeEnd}
use Rattle.m17_board.specs.Glance.{glance_of}
use Rattle.m17_board.specs.declared.glance.Glance.{Glance}
use Rattle.m17_board.specs.Shows.{Shown, IsPlaceOf, WritesLine}
use Rattle.m17_board.specs.Written.{BoardLine, IsBefore, TellsAll, WritesLast, WroteBy}
use Rattle.m17_board.specs.Ending.{GoesInOrder, HasLast, InOrder}
use Rattle.m17_board.proofs.LastLines.{map_get}
use Rattle.m17_board.proofs.Lines.{none, written}

module _ {B L : Type 0} (told : B → BookTold L) (modules : Modules) (glances : List Glance) where
  Is : ℕ → Glance → Type 0
  Is place glance = slice_get glances place ≡ Some glance

  pub nothing_yet : BooksAreWrittenInTurn L → (a : Shown B) → a.failed ≡ false → InOrder told modules glances 65 a a
  nothing_yet law a fresh = record {
    lines = [];
    wrote = none told modules a law (λ place glance. slice_get glances place ≡ Some glance) fresh;
    in_order = λ i j d lt within. absurd (omega arith);
    before = λ k d lt. absurd (omega arith);
  }

  -- a module without a line
  pub passed : (letter : ℕ) (a : Shown B) → GoesInOrder told modules glances letter a a
  passed letter a from h = record {
    lines = h.lines;
    wrote = h.wrote;
    in_order = h.in_order;
    before = λ k d lt. let low = h.before k d lt in omega arith;
  }

  -- and with one
  pub one_line : BooksAreWrittenInTurn L → (letter place : ℕ) (glance : Glance) (a b : Shown B) → IsPlaceOf modules letter place → slice_get glances place ≡ Some glance
      → WritesLine told letter place glance a b → GoesInOrder told modules glances letter a b
  one_line law letter place glance a b at is writes from h =
      let one : BoardLine = record { letter = letter; place = place; glance = glance } in
      record {
        lines = h.lines ++ one ∷ [];
        wrote = written told modules from law (λ p g. slice_get glances p ≡ Some g) a b h.lines letter place glance h.wrote at is writes;
        in_order = all_pairs_push IsBefore h.lines one h.in_order h.before;
        before = All-push (λ (line : BoardLine). line.letter < letter + 1) h.lines one (λ k d lt. let low = h.before k d lt in omega arith) (omega arith);
      }

-- what was written of all letters is the last lines
pub writes_last : {B L : Type 0} (told : B → BookTold L) (modules : Modules) (posters : List PostEnd) (glances : List Glance) (from to : Shown B)
    → glances ≡ map (λ (p : PostEnd). glance_of p.posted) posters → InOrder told modules glances 91 from to → (to.failed ≡ false → HasLast glances to.last (length glances))
    → WritesLast modules posters from.last to.failed (told from.book) (told to.book)
writes_last told modules posters glances from to all h last = record {
  lines = h.lines;
  text = h.wrote.text;
  in_order = h.in_order;
  of_modules = h.wrote.of_modules;
  tell = λ k d lt. whole (get_or h.lines k d) (h.wrote.tell k d lt);
  above = h.wrote.above;
  each = each;
}
  where
    whole : (line : BoardLine) → slice_get glances line.place ≡ Some line.glance → TellsAll posters line.place line.glance
    whole line is = map_get (λ (p : PostEnd). glance_of p.posted) posters line.place line.glance (sym (ap (λ (l : List Glance). slice_get l line.place) all) ∙ is)

    each : to.failed ≡ false → (place : ℕ) (poster : PostEnd) → slice_get posters place ≡ Some poster → slice_index from.last place < length poster.posted
        → (line : BoardLine) × Contains h.lines line × (line.place ≡ place)
    each ok place poster at more =
        let is : slice_get glances place ≡ Some (glance_of poster.posted) = ap (λ (l : List Glance). slice_get l place) all ∙ mapped_stands_there (λ (p : PostEnd). glance_of p.posted) posters place poster at in
        let most : length poster.posted ≤ slice_index to.last place = last ok place (glance_of poster.posted) (slice_get_within glances place _ is) is in
        ⊎_elim (λ (e : slice_index to.last place ≡ slice_index from.last place). absurd (omega (arith, most, e, more)))
        (λ (t : (line : BoardLine) × Contains h.lines line × (line.place ≡ place) × (slice_index to.last place ≡ line.glance.records)). (t.0, t.1, t.2))
        (h.wrote.last place)
