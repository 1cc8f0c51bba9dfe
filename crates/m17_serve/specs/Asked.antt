-- What `serve` asks the ports for.
use Rattle.std.specs.Prelude.{ℕ, zero, suc, ◌*◌, List, [], ◌∷◌, ◌++◌, length, map, codes, decimal, string_bytes, vec_len, Option, None, Some}
use Rattle.std.specs.List.{range_with_len}
use Rattle.std.specs.Option.{option_map}
use Rattle.m17_control.specs.Modules.{letters_of}
use Rattle.m17_ports.specs.Ports.{next_number}
use Rattle.m17_ports.specs.declared.question.Question.{Question}
use Rattle.m17_ports.specs.declared.question.Question.TheVariants.{Link, Book}
use Rattle.m17_words.specs.declared.order.ServeOrder.{ServeOrder}

-- the moment in milliseconds at which links end that serve for this number of seconds; none where they serve until they are
-- stopped
abbrev pub until_of : Option ℕ → Option ℕ
until_of seconds = option_map (λ s. 1000 * s) seconds

-- the links that are asked for, in the order of the words
abbrev pub link_questions : List (List ℕ) → Option ℕ → List Question
link_questions binds until = map (λ bind. Link bind until) binds

-- the name of the trace of the link with this number, and of the book of the module with this letter, in a folder
abbrev pub trace_name : List ℕ → ℕ → List ℕ
trace_name folder number = folder ++ codes "/link" ++ decimal number ++ codes ".trace"

abbrev pub book_name : List ℕ → ℕ → List ℕ
book_name folder letter = folder ++ codes "/" ++ letter ∷ codes ".book"

-- the traces of all links, and the books of all modules, in order of letters
abbrev pub trace_names : ServeOrder → List ℕ → List (List ℕ)
trace_names order folder = map (trace_name folder) (range_with_len 0 (vec_len order.binds))

abbrev pub book_names : ServeOrder → List ℕ → List (List ℕ)
book_names order folder = map (book_name folder) (letters_of order.modules)

abbrev pub shelf_questions : ServeOrder → Option (List ℕ) → List Question
shelf_questions order None = []
shelf_questions order (Some folder) =
    map Book (trace_names order folder) ++ map Book (book_names order folder)

-- The number of the call that comes `more` calls after this one: one that has come to 2^64 - 1 stays there.
abbrev pub call_after : ℕ → ℕ → ℕ
call_after first zero = first
call_after first (suc more) = next_number (call_after first more)

-- What is asked for the devices, in order: the links, and then, where a folder is named, the trace of each link and the book
-- of each module.
abbrev pub device_questions : ServeOrder → List Question
device_questions order =
    link_questions (map string_bytes order.binds.items) (until_of order.seconds)
    ++ shelf_questions order (option_map string_bytes order.book)

-- the book of the lines of a board, where one is named
abbrev pub board_questions : Option (List ℕ) → List Question
board_questions None = []
board_questions (Some name) = Book name ∷ []

-- All that is asked, in order: the devices, and then, where a board is named, the book of its lines.
abbrev pub questions_of : ServeOrder → List Question
questions_of order =
    device_questions order ++ board_questions (option_map string_bytes order.board)

-- the number of the call that hands out that book, where `first` is that of the first link
abbrev pub board_call : ServeOrder → ℕ → ℕ
board_call order first = call_after first (length (device_questions order))
