-- What ports with a script tell and hand out.
use Rattle.std.specs.Prelude.{◌≡◌, ℕ, Bool, ◌&&◌, List, [], ◌∷◌, ◌++◌, length, nat_lt, nat_le, Option, None, Some, if◌then◌else◌}
use Rattle.m17_ports.specs.Ports.{next_number}
use Rattle.m17_ports.specs.declared.question.Question.{Question}
use Rattle.m17_port_memory.specs.Kept.{ScriptKept, SaidKept, WrittenKept, PortsKept, new_ear, new_mouth, new_book}

-- the text of a question: where the link is bound, or the book's name
abbrev pub text_of : Question → List ℕ
text_of (Question.Link bind until) = bind
text_of (Question.Book name) = name

-- What is told after one question more, where it can be told as a whole: that too, up to 64 questions, and from then on
-- nothing.
abbrev pub told_with : Bool → Option (List Question) → Question → Option (List Question)
told_with fits None question = None
told_with fits (Some all) question =
    if fits && nat_lt (length all) 64 then Some (all ++ question ∷ []) else None

-- What is told after one question more: that too, as long as there are at most 64, each with a text of at most 64
-- bytes, and from then on nothing.
abbrev pub asked_then : Option (List Question) → Question → Option (List Question)
asked_then told question = told_with (nat_le (length (text_of question)) 64) told question

-- the ports that were asked one question more
abbrev pub asks : PortsKept → Question → PortsKept
asks ports question = record ports {
  calls = next_number ports.calls;
  asked = asked_then ports.asked question;
}

-- the ports that have failed once more
abbrev pub faulted : PortsKept → PortsKept
faulted ports = record ports { faults = next_number ports.faults }

-- The next link was handed out, as it was when it was new, with the number of the call.
pub record HandsLink (old : PortsKept) (question : Question) (link : ScriptKept × SaidKept)
    (new : PortsKept) : Type 0 where
  pub next : ScriptKept × SaidKept
  pub rest : List (ScriptKept × SaidKept)
  pub first : old.links ≡ next ∷ rest
  pub ear : link.0 ≡ new_ear next.0.script old.calls
  pub mouth : link.1 ≡ new_mouth next.1.room next.1.fails old.calls
  pub after : new ≡ record (asks old question) { links = rest }

-- The next book was handed out, as it was when it was new, with the number of the call.
pub record HandsBook (old : PortsKept) (question : Question) (book : WrittenKept)
    (new : PortsKept) : Type 0 where
  pub next : WrittenKept
  pub rest : List WrittenKept
  pub first : old.books ≡ next ∷ rest
  pub book_is : book ≡ new_book next.room next.fails old.calls
  pub after : new ≡ record (asks old question) { books = rest }
