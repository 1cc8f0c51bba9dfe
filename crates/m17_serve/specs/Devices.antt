-- What is told of the devices of a reflector, and which they are.
use Rattle.std.specs.Prelude.{◌≡◌, ◌↔◌, ℕ, ◌*◌, List, length, map, string_bytes, vec_len, slice_get, Option, None, Some, IsSome}
use Rattle.std.specs.List.{All}
use Rattle.std.specs.Option.{option_map}
use Rattle.m17_ports.specs.declared.shelf.Shelf.{Shelf}
use Rattle.m17_ports.specs.Book.{BookTold, IsNewBook}
use Rattle.m17_ports.specs.Ear.{EarTold, IsNewEar}
use Rattle.m17_ports.specs.Mouth.{IsNewMouth, MouthTold}
use Rattle.m17_control.specs.Modules.{letters_of}
use Rattle.m17_words.specs.declared.order.ServeOrder.{ServeOrder}
pub use Rattle.m17_board_run.specs.Kept.{told_of_shelf}
use Rattle.m17_reflect.specs.declared.returned.HouseRefusal.{HouseRefusal}
use Rattle.m17_reflect.specs.declared.returned.Refused.{Refused}
use Rattle.m17_reflect.specs.declared.returned.Returned.{Returned}
use Rattle.m17_reflect.specs.Run.{Devices, Handed}
use Rattle.m17_reflect.specs.Views.{Kinds, devices_of, handed_of, kinds_back, kinds_refused}
use Rattle.m17_serve.specs.Asked.{call_after}

module _ {E M B X Y Z : Type 0} where
  -- What the devices of a reflector tell, by what is told of each kind: an ear, a mouth and a trace for each link, and a
  -- book for each module.
  abbrev pub house_told : (E → EarTold X) → (M → MouthTold Y) → (B → BookTold Z)
      → Kinds E M (Shelf B) → Devices X Y (Option Z)
  house_told ear mouth book d = devices_of ear mouth (told_of_shelf book) d

  -- what was handed back: the devices with what went through the threads, or with why nothing was run
  abbrev pub house_back : (E → EarTold X) → (M → MouthTold Y) → (B → BookTold Z)
      → Option (Returned E M (Shelf B)) → Option (Devices X Y (Option Z) × Handed)
  house_back ear mouth book back =
      option_map (λ r. (house_told ear mouth book (kinds_back r), handed_of r)) back

  abbrev pub refused_back : (E → EarTold X) → (M → MouthTold Y) → (B → BookTold Z)
      → Option (Refused E M (Shelf B)) → Option (Devices X Y (Option Z) × HouseRefusal)
  refused_back ear mouth book back =
      option_map (λ r. (house_told ear mouth book (kinds_refused r), r.why)) back

-- These are `count` devices, each of them new. The call with the number `first` handed out the first of them, and each
-- of the calls that follow it the next one.
pub record AreNewOnes {T : Type 0} (IsNew : ℕ → T → Type 0) (first count : ℕ) (ones : List T)
    : Type 0 where
  pub count_is : length ones ≡ count
  pub each : (i : ℕ) (one : T) → slice_get ones i ≡ Some one → IsNew (call_after first i) one

-- there is a book exactly where a folder is named
abbrev pub AreThere : {Z : Type 0} → Option (List ℕ) → List (BookTold (Option Z)) → Type 0
AreThere folder shelves = All (λ shelf. IsSome shelf.device.label ↔ IsSome folder) shelves

-- the numbers of the calls that hand out the first trace and the first book, where `first` is that of the first link
abbrev pub first_trace : ServeOrder → ℕ → ℕ
first_trace order first = call_after first (vec_len order.binds)

abbrev pub first_book : ServeOrder → ℕ → ℕ
first_book order first = call_after first (2 * vec_len order.binds)

-- The devices are new: as many as the words name links and modules, nothing was heard, said or written, and none has
-- failed. Each is that of its question, of which the first has this number; and there are traces and books exactly where a
-- folder is named.
pub record AreNew {X Y Z : Type 0} (order : ServeOrder) (first : ℕ) (d : Devices X Y (Option Z))
    : Type 0 where
  pub ears : AreNewOnes IsNewEar first (vec_len order.binds) d.ears
  pub mouths : AreNewOnes IsNewMouth first (vec_len order.binds) d.mouths
  pub traces : AreNewOnes IsNewBook (first_trace order first) (vec_len order.binds) d.traces
  pub books : AreNewOnes IsNewBook (first_book order first) (length (letters_of order.modules))
      d.books
  pub traces_there : AreThere (option_map string_bytes order.book) d.traces
  pub books_there : AreThere (option_map string_bytes order.book) d.books

-- The book of the lines of a board is new, as the call with this number hands it out, where a board is named; and else there
-- is none.
abbrev pub IsNewBoard : {Z : Type 0} → Option (List ℕ) → ℕ → Option (BookTold Z) → Type 0
IsNewBoard (Some name) call (Some lines) = IsNewBook call lines
IsNewBoard (Some name) call None = ⊥
IsNewBoard None call (Some lines) = ⊥
IsNewBoard None call None = Unit {0}

-- the labels of ears and of mouths
abbrev pub ear_labels : {L : Type 0} → List (EarTold L) → List L
ear_labels ears = map (λ ear. ear.device.label) ears

abbrev pub mouth_labels : {L : Type 0} → List (MouthTold L) → List L
mouth_labels mouths = map (λ mouth. mouth.device.label) mouths

-- this is known of each label, by its place
abbrev pub Known : {L : Type 0} → (ℕ → L → Type 0) → List L → Type 0
Known {L} known labels =
    (i : ℕ) (label : L) → slice_get labels i ≡ Some label → known i label

-- this is known of ears, and this of mouths
pub record AreOf {E M B : Type 0} (ears : ℕ → E → Type 0) (mouths : ℕ → M → Type 0)
    (devices : Devices E M B) : Type 0 where
  pub ears_are : Known ears (ear_labels devices.ears)
  pub mouths_are : Known mouths (mouth_labels devices.mouths)
