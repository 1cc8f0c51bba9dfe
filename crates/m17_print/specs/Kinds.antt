-- The kinds of what an entry of a link came to, and the word of each, for lines and summaries.
use Rattle.std.specs.Prelude.{ℕ, List, [], ◌∷◌, length, codes}
use Rattle.m17_floor.specs.declared.verdict.Verdict.{Verdict}
use Rattle.m17_floor.specs.declared.verdict.Verdict.TheVariants as verdict
use Rattle.m17_print.specs.declared.kind.Kind.{Kind}
use Rattle.m17_print.specs.declared.kind.Kind.TheVariants.{Join, Again, Leave, Pong, Alive, Opened, Continued, Busy, Repeat, Late, AfterEnd, TimedOut, NotMember, ListenOnly, Refused, NotConnected, NotServed, Full, Stray, Quiet, Fault}

-- the kinds, in the order of a summary, and how many there are
abbrev pub kinds : List Kind
kinds = Join ∷ Again ∷ Leave ∷ Pong ∷ Alive ∷ Opened ∷ Continued ∷ Busy ∷ Repeat ∷ Late
    ∷ AfterEnd ∷ TimedOut ∷ NotMember ∷ ListenOnly ∷ Refused ∷ NotConnected ∷ NotServed ∷ Full
    ∷ Stray ∷ Quiet ∷ Fault ∷ []

abbrev pub kind_count : ℕ
kind_count = length kinds

-- the word of each
abbrev pub kind_word : Kind → List ℕ
kind_word Join = codes "join"
kind_word Again = codes "again"
kind_word Leave = codes "leave"
kind_word Pong = codes "pong"
kind_word Alive = codes "alive"
kind_word Opened = codes "opened"
kind_word Continued = codes "continued"
kind_word Busy = codes "busy"
kind_word Repeat = codes "repeat"
kind_word Late = codes "late"
kind_word AfterEnd = codes "after-end"
kind_word TimedOut = codes "timed-out"
kind_word NotMember = codes "not-member"
kind_word ListenOnly = codes "listen-only"
kind_word Refused = codes "refused"
kind_word NotConnected = codes "not-connected"
kind_word NotServed = codes "not-served"
kind_word Full = codes "full"
kind_word Stray = codes "stray"
kind_word Quiet = codes "quiet"
kind_word Fault = codes "fault"

-- the place of each in that order
abbrev pub kind_place : Kind → ℕ
kind_place Join = 0
kind_place Again = 1
kind_place Leave = 2
kind_place Pong = 3
kind_place Alive = 4
kind_place Opened = 5
kind_place Continued = 6
kind_place Busy = 7
kind_place Repeat = 8
kind_place Late = 9
kind_place AfterEnd = 10
kind_place TimedOut = 11
kind_place NotMember = 12
kind_place ListenOnly = 13
kind_place Refused = 14
kind_place NotConnected = 15
kind_place NotServed = 16
kind_place Full = 17
kind_place Stray = 18
kind_place Quiet = 19
kind_place Fault = 20

-- the kind of a packet that was judged
abbrev pub verdict_kind : Verdict → Kind
verdict_kind verdict.Opened = Opened
verdict_kind verdict.Continued = Continued
verdict_kind (verdict.Busy holder) = Busy
verdict_kind verdict.Repeat = Repeat
verdict_kind (verdict.Late last) = Late
verdict_kind verdict.AfterEnd = AfterEnd
verdict_kind verdict.TimedOut = TimedOut
verdict_kind verdict.NotMember = NotMember
verdict_kind verdict.ListenOnly = ListenOnly
