-- What contracts see of the devices in memory.
use Rattle.std.specs.Prelude.{ℕ, List, [], ◌∷◌, ◌++◌, Option, Some}
use Rattle.m17_values.specs.declared.heard.Heard.{Heard}
use Rattle.m17_values.specs.declared.peer.Peer.{Peer}
use Rattle.m17_ports.specs.declared.tally.Tally.{Tally}
use Rattle.m17_ports.specs.declared.question.Question.{Question}
use Rattle.m17_ports.specs.Mouth.{Datagram}
use Rattle.m17_ports.specs.Ports.{next_number}

-- a mouth that keeps tallies: those of its peers, in the order of peers, and the mouth's number
pub record TalliesKept : Type 0 where
  pub entries : List (Peer × Tally)
  pub number : ℕ

-- an ear with a script: the script, how many calls were answered, and the ear's number
pub record ScriptKept : Type 0 where
  pub script : List Heard
  pub calls : ℕ
  pub number : ℕ

-- an ear of which nothing was heard
abbrev pub new_ear : List Heard → ℕ → ScriptKept
new_ear entries n = record { script = entries; calls = 0; number = n }

-- a mouth that keeps a list: the datagrams said, how many it may hold, the number of the next call, the numbers of the
-- calls that are to fail, how often it has failed, and the mouth's number
pub record SaidKept : Type 0 where
  pub said : List Datagram
  pub room : ℕ
  pub next_call : ℕ
  pub fails : List ℕ
  pub faults : ℕ
  pub number : ℕ

-- a book of a fixed room: the bytes written, and the rest as for a mouth that keeps a list
pub record WrittenKept : Type 0 where
  pub written : List ℕ
  pub room : ℕ
  pub next_call : ℕ
  pub fails : List ℕ
  pub faults : ℕ
  pub number : ℕ

-- a mouth that has said nothing
abbrev pub new_mouth : ℕ → List ℕ → ℕ → SaidKept
new_mouth room fails n =
    record { said = []; room = room; next_call = 0; fails = fails; faults = 0; number = n }

-- a mouth that has said one datagram more
abbrev pub says : SaidKept → Datagram → SaidKept
says mouth datagram = record mouth {
  said = mouth.said ++ datagram ∷ [];
  next_call = next_number mouth.next_call;
}

-- a mouth that has failed once more
abbrev pub fails_to_say : SaidKept → SaidKept
fails_to_say mouth = record mouth {
  next_call = next_number mouth.next_call;
  faults = next_number mouth.faults;
}

-- a book in which nothing is written
abbrev pub new_book : ℕ → List ℕ → ℕ → WrittenKept
new_book room fails n =
    record { written = []; room = room; next_call = 0; fails = fails; faults = 0; number = n }

-- a book with more bytes written
abbrev pub writes : WrittenKept → List ℕ → WrittenKept
writes book bytes = record book {
  written = book.written ++ bytes;
  next_call = next_number book.next_call;
}

-- a book that has failed once more
abbrev pub fails_to_write : WrittenKept → WrittenKept
fails_to_write book = record book {
  next_call = next_number book.next_call;
  faults = next_number book.faults;
}

-- ports that hand out what they were given: the links and books that are left, the numbers of the calls that are to
-- fail, how many calls there were, how often they failed, and what was asked, as long as that is told
pub record PortsKept : Type 0 where
  pub links : List (ScriptKept × SaidKept)
  pub books : List WrittenKept
  pub fails : List ℕ
  pub calls : ℕ
  pub faults : ℕ
  pub asked : Option (List Question)

-- ports that were asked nothing
abbrev pub new_ports : List (ScriptKept × SaidKept) → List WrittenKept → List ℕ → PortsKept
new_ports links books fails = record {
  links = links;
  books = books;
  fails = fails;
  calls = 0;
  faults = 0;
  asked = Some [];
}
