-- What the devices in memory tell.
use Rattle.std.specs.Prelude.{◌-◌, ◌^◌, min, None, Some}
use Rattle.m17_ports.specs.Ear.{EarTold}
use Rattle.m17_ports.specs.Mouth.{MouthTold}
use Rattle.m17_ports.specs.Book.{BookTold}
use Rattle.m17_ports.specs.Ports.{PortsTold}
use Rattle.m17_port_memory.specs.Kept.{ScriptKept, SaidKept, TalliesKept, WrittenKept, PortsKept}
use Rattle.m17_port_memory.specs.Script.{heard_of, faults_of}
use Rattle.m17_port_memory.specs.Peers.{named_in, tally_at}

-- what an ear with a script tells: all that it answered, and its script
abbrev pub script_ear_told : ScriptKept → EarTold (Unit {0})
script_ear_told ear = record {
  heard = Some (heard_of ear.script ear.calls);
  faults = faults_of ear;
  device = record {
    mark = Some (record { number = ear.number; script = Some ear.script });
    label = tt;
  };
}

-- what a mouth that keeps a list tells: the list, and no tally
abbrev pub list_mouth_told : SaidKept → MouthTold (Unit {0})
list_mouth_told mouth = record {
  said = Some mouth.said;
  tallies = λ _. None;
  faults = min mouth.faults (2 ^ 64 - 1);
  device = record {
    mark = Some (record { number = mouth.number; peers = None });
    label = tt;
  };
}

-- what a mouth that keeps tallies tells: these, for the peers that it names, and no list
abbrev pub tally_mouth_told : TalliesKept → MouthTold (Unit {0})
tally_mouth_told mouth = record {
  said = None;
  tallies = tally_at mouth.entries;
  faults = 0;
  device = record {
    mark = Some (record { number = mouth.number; peers = Some (named_in mouth.entries) });
    label = tt;
  };
}

-- what a book of a fixed room tells: its bytes, and its number
abbrev pub list_book_told : WrittenKept → BookTold (Unit {0})
list_book_told book = record {
  written = Some book.written;
  faults = min book.faults (2 ^ 64 - 1);
  device = record { mark = Some book.number; label = tt };
}

-- what ports with a script tell: what was asked, as long as they keep that, and their calls
abbrev pub script_ports_told : PortsKept → PortsTold
script_ports_told ports = record {
  asked = ports.asked;
  calls = ports.calls;
  faults = min ports.faults (2 ^ 64 - 1);
}
