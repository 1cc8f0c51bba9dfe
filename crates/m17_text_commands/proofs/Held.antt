-- The bytes that a reader of lines holds, after it took some and after it read some more.
use Rattle.std.proofs.Common.{◌≡◌, ℕ, ◌+◌, ◌<◌, ◌≤◌, List, [], ◌++◌, length, take, drop, slice_range, Option, Some, sym, ap, ◌∙◌, append_assoc}
use Rattle.std.proofs.lemmas.List.{take_at, length-take-le, take-append-drop}
use Rattle.m17_io.specs.Source.{Takes}
use Rattle.m17_text_commands.specs.Reading.{IsAhead, IsMoreOf}
use borrow.Rule.Slice.PartMut.{put_mid}
use Rattle.m17_lists.proofs.Held.{written_behind_is_held_too}

-- a read behind the held bytes
pub more_held : (bytes filled rest buffer held : List ℕ) (start end k n : ℕ) (left : Option (List ℕ)) → start ≤ end → end ≤ length bytes → n ≤ length filled
    → slice_range bytes start end ≡ held → 0 < length buffer → Takes rest n buffer filled left
    → IsMoreOf rest n held (slice_range (put_mid end k bytes filled) start (end + n)) left
more_held bytes filled rest buffer held start end k n left ordered within fits same room takes =
    let size = length-take-le n rest takes.no_more in
    record {
      no_more = takes.no_more;
      longer = written_behind_is_held_too bytes filled start end k n ordered within fits ∙ ap (λ xs. xs ++ take n filled) same
          ∙ ap (λ xs. held ++ xs) (ap (take n) takes.filled_front ∙ take_at (take n rest) (drop n buffer) n size);
      rest_left = takes.rest_left;
      at_end = λ none. takes.at_end none room;
    }

-- what is to come stays the same over a read
pub ahead_more : (held held' ahead : List ℕ) (left left' : Option (List ℕ)) (n : ℕ) → IsAhead held left ahead
    → ((rest : List ℕ) → left ≡ Some rest → IsMoreOf rest n held held' left') → IsAhead held' left' ahead
ahead_more held held' ahead left left' n before more =
    let rest = before.0 in
    let m = more rest before.1 in (
      drop n rest,
      m.rest_left,
      before.2 ∙ ap (λ xs. held ++ xs) (sym (take-append-drop n rest)) ∙ sym (append_assoc held (take n rest) (drop n rest))
          ∙ ap (λ xs. xs ++ drop n rest) (sym m.longer),
    )

-- a read that took nothing has come to the end
pub ahead_at_end : (held held' ahead : List ℕ) (left left' : Option (List ℕ)) (n : ℕ) → n ≡ 0 → IsAhead held left ahead
    → ((rest : List ℕ) → left ≡ Some rest → IsMoreOf rest n held held' left') → left' ≡ Some []
ahead_at_end held held' ahead left left' n none before more =
    let m = more before.0 before.1 in
    m.rest_left ∙ ap Some (ap (λ k. drop k before.0) none ∙ m.at_end none)
