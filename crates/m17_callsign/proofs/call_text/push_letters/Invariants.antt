use Rattle.std.proofs.Common.{◌≡◌, ◌++◌, ◌-◌, ◌^◌, ◌<◌, length}
use Rattle.m17_callsign.specs.Letters.{letters_of}
use Rattle.m17_callsign.proofs.call_text.push_letters.Given as goal

-- what stands there, and the letters of the rest, are the text that it is to be
abbrev pub invariant-loop-rest : goal.invariant-loop-rest
invariant-loop-rest l = record {
  left : l.rest < 40 ^ (9 - length l.text.bytes);
  all : l.text.bytes ++ letters_of (9 - length l.text.bytes) l.rest ≡ l.fn.text.bytes ++ letters_of (9 - length l.fn.text.bytes) l.fn.sum;
}

abbrev pub decreases-loop-rest : goal.decreases-loop-rest
decreases-loop-rest l = l.rest
