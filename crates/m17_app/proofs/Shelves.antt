-- What is told of the books of a run is what books tell that may be missing.
use Rattle.std.proofs.Common.{List, [], ◌∷◌, map, Option, None, Some, refl}
use Rattle.std.specs.Prelude.{IfSome, All}
use Rattle.std.proofs.lemmas.List.Elements.{All-nil, All-cons}
use Rattle.std.specs.Option.{option_map}
use Rattle.m17_ports.specs.declared.shelf.Shelf.{Shelf}
use Rattle.m17_ports.specs.Book.{BookTold}
use Rattle.m17_ports.specs.Ear.{EarTold}
use Rattle.m17_ports.specs.Mouth.{MouthTold}
use Rattle.m17_app.specs.Fitted.{EarBehind, MouthBehind, behind_told, mouth_told}
use Rattle.m17_reflect.specs.declared.returned.Refused.{Refused}
use Rattle.m17_reflect.specs.declared.returned.Returned.{Returned}
use Rattle.m17_serve.specs.Devices.{house_back, refused_back, told_of_shelf}
use Rattle.m17_client_commands.specs.Devices.{devices_told}
use Rattle.m17_app.specs.declared.done.Done.{Done}
use Rattle.m17_app.specs.Started.{AreOfShelves, IsOfShelf}

module _ {E M B X Y Z : Type 0} (ear : E → EarTold X) (mouth : M → MouthTold Y) (book : B → BookTold Z) where
  each_of_shelf : (shelves : List (Shelf B)) → All IsOfShelf (map (told_of_shelf book) shelves)
  each_of_shelf [] = All-nil IsOfShelf
  each_of_shelf (shelf ∷ shelves) = All-cons IsOfShelf (told_of_shelf book shelf) (map (told_of_shelf book) shelves) (option_map book shelf.inner, refl) (each_of_shelf shelves)

  of_talk : (talk : Option (E × M × Shelf B)) → IfSome (option_map (λ d. devices_told (ear d.0) (mouth d.1) (told_of_shelf book d.2)) talk) (λ d. IsOfShelf d.book)
  of_talk None = tt
  of_talk (Some d) = (option_map book d.2.inner, refl)

  of_house : {R : Type 0} (house : Option (Returned (EarBehind E) (MouthBehind M R) (Shelf B))) → IfSome (house_back (behind_told ear) (mouth_told mouth) book house) (λ h. All IsOfShelf h.0.traces × All IsOfShelf h.0.books)
  of_house None = tt
  of_house (Some r) = (each_of_shelf r.traces.items, each_of_shelf r.books.items)

  of_refused : {R : Type 0} (refused : Option (Refused (EarBehind E) (MouthBehind M R) (Shelf B))) → IfSome (refused_back (behind_told ear) (mouth_told mouth) book refused) (λ h. All IsOfShelf h.0.traces × All IsOfShelf h.0.books)
  of_refused None = tt
  of_refused (Some r) = (each_of_shelf r.traces.items, each_of_shelf r.books.items)

  pub of_shelves : {R : Type 0} (done : Done E M B R X) → AreOfShelves (option_map (λ d. devices_told (ear d.0) (mouth d.1) (told_of_shelf book d.2)) done.talk) (house_back (behind_told ear) (mouth_told mouth) book done.house) (refused_back (behind_told ear) (mouth_told mouth) book done.refused)
  of_shelves done = record { in_talk = of_talk done.talk; in_house = of_house done.house; in_refused = of_refused done.refused }
