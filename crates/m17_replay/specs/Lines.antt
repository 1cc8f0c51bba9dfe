-- The line of an entry of a link: its index, and what it came to.
use Rattle.std.specs.Prelude.{◌≡◌, ℕ, Bool, true, false, List, [], ◌∷◌, ◌++◌, codes, decimal, Option, None, Some}
use Rattle.m17_floor.specs.declared.verdict.Verdict.{Verdict}
use Rattle.m17_floor.specs.declared.verdict.Verdict.TheVariants.{Busy}
use Rattle.m17_print.specs.Line.{CanEnd}
use Rattle.m17_print.specs.Packets.{refusal_text}
use Rattle.m17_print.specs.declared.kind.Kind.TheVariants as kinds
use Rattle.m17_print.specs.Kinds.{kind_word}
use Rattle.m17_print.specs.Verdicts.{verdict_word, verdict_text}
use Rattle.m17_directory.specs.declared.verdict.Act.{Act}
use Rattle.m17_directory.specs.declared.verdict.Act.TheVariants as act
use Rattle.m17_directory.specs.declared.verdict.LinkVerdict.{LinkVerdict}
use Rattle.m17_directory.specs.declared.verdict.LinkVerdict.TheVariants.{Routed, Alive, Asks, Refused, NotConnected, NotServed, Full, Stray, Timed, Faulted, Ended}

-- what was routed to a module, where it is no packet
abbrev pub act_word : Act → List ℕ
act_word act.Join = kind_word kinds.Join
act_word act.Again = kind_word kinds.Again
act_word act.Leave = kind_word kinds.Leave
act_word act.Pong = kind_word kinds.Pong
act_word act.Packet = []

-- the letter of a module, a space, and what it is about
abbrev pub of_module : ℕ → List ℕ → List ℕ
of_module letter text = letter ∷ codes " " ++ text

-- The verdict on a packet: its word, and after `late` the last number, as in `late 5`; who holds the floor is not told.
abbrev pub packet_text : Verdict → List ℕ
packet_text (Busy holder) = verdict_word (Busy holder)
packet_text verdict = verdict_text verdict

-- What was routed: its module, and for a packet the verdict of the floor rule; nothing of a packet without one.
abbrev pub routed_text : ℕ → Act → Option Verdict → Option (List ℕ)
routed_text letter act.Packet None = None
routed_text letter act.Packet (Some verdict) = Some (of_module letter (packet_text verdict))
routed_text letter what verdict = Some (of_module letter (act_word what))

-- What an entry came to, in the order of the table; nothing of one that still asks. The entry that ends a link by its
-- faults is a fault as the others.
abbrev pub link_text : LinkVerdict → Option Verdict → Option (List ℕ)
link_text (Routed letter what) verdict = routed_text letter what verdict
link_text (Alive letter) verdict = Some (of_module letter (kind_word kinds.Alive))
link_text (Refused refusal) verdict = Some (refusal_text refusal)
link_text NotConnected verdict = Some (kind_word kinds.NotConnected)
link_text Full verdict = Some (kind_word kinds.Full)
link_text Stray verdict = Some (kind_word kinds.Stray)
link_text (NotServed letter) verdict =
    Some (kind_word kinds.NotServed ++ codes " " ++ letter ∷ [])
link_text Timed verdict = Some (kind_word kinds.Quiet)
link_text Faulted verdict = Some (kind_word kinds.Fault)
link_text Ended verdict = Some (kind_word kinds.Fault)
link_text Asks verdict = None

-- The line of an entry: its index, a space, what it came to, and a line feed; empty where there is nothing to say.
abbrev pub line_with : ℕ → Option (List ℕ) → List ℕ
line_with index None = []
line_with index (Some text) = decimal index ++ codes " " ++ text ++ 10 ∷ []

abbrev pub verdict_line : ℕ → LinkVerdict → Option Verdict → List ℕ
verdict_line index l v = line_with index (link_text l v)

-- What is said was appended to what stood there, and the line can still be ended; or there is nothing to say. For the
-- code alone.
abbrev pub OfText : Bool → Option (List ℕ) → List ℕ → List ℕ → Type 0
OfText true (Some text) before after = (after ≡ before ++ text) × CanEnd after
OfText true None before after = ⊥
OfText false (Some text) before after = ⊥
OfText false None before after = Unit {0}
