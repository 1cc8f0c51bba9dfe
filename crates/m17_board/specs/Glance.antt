-- What is shown of a module's records. Positions count from 0.
use Rattle.std.specs.Prelude.{◌≡◌, ℕ, suc, ◌-◌, Bool, true, false, List, [], ◌∷◌, ◌++◌, length, drop, count_by, find, slice_get, Option, None, Some, option_and_then, if◌then◌else◌}
use Rattle.std.specs.Option.{option_map_or}
use Rattle.m17_lookup.specs.Lookup.{last_below}
use Rattle.m17_values.specs.declared.member.Member.{Member}
use Rattle.m17_floor.specs.Acts.{is_same}
use Rattle.m17_floor.specs.Floor.{admits}
use Rattle.m17_book.specs.Checks.{kept_by}
use Rattle.m17_book.specs.declared.record.Record.{Record}
use Rattle.m17_book.specs.declared.record.Record.TheVariants.{Join, Leave, Packet}
use Rattle.m17_board.specs.declared.glance.Glance.{Glance}
use Rattle.m17_board.specs.declared.sight.Sight.{Sight}
use Rattle.m17_board.specs.declared.sight.Talk.{Talk}

-- the record is a packet that was admitted
abbrev pub is_admitted : Record → Bool
is_admitted one = admits (kept_by one).verdict

-- the record's moment
abbrev pub moment_of : Record → ℕ
moment_of one = (kept_by one).act.at

-- the record is a Leave of the member
abbrev pub is_leave_of : Member → Record → Bool
is_leave_of k (Leave tag moment member why) = is_same member k
is_leave_of k _ = false

-- the record at this position is an admitted packet
abbrev pub is_admitted_at : List Record → ℕ → Bool
is_admitted_at records n = option_map_or is_admitted (slice_get records n) false

-- the talk, unless its member's Leave is there
abbrev pub unless_left : Option Record → Talk → Option Talk
unless_left None talk = Some talk
unless_left (Some leave) talk = None

-- Who talks by this packet: its member, where the packet has no end bit and no Leave of the member is among the later
-- records; with the sender that the packet names.
abbrev pub talk_by : List Record → Record → Option Talk
talk_by later (Packet tag moment member verdict packet) =
    if packet.last then None
    else unless_left (find (is_leave_of member) later) record { member = member; src = packet.lsd.src }
talk_by later _ = None

-- Who talks: whoever talks by the last admitted packet.
abbrev pub talk_of : List Record → Option Talk
talk_of records = option_and_then (λ n. option_and_then (talk_by (drop (suc n) records))
    (slice_get records n)) (last_below (is_admitted_at records) (length records))

-- the moment of the last record, or 0
abbrev pub last_moment : List Record → ℕ
last_moment records = option_map_or moment_of (slice_get records (length records - 1)) 0

-- somebody talks, and the address that is shown for it
abbrev pub is_on : Option Talk → Bool
is_on None = false
is_on (Some talk) = true

abbrev pub shown_src : Option Talk → ℕ
shown_src None = 0
shown_src (Some talk) = talk.src

-- What is shown of the records: how many there are, how many of them were admitted, the moment of the last, or 0, and
-- who talks.
abbrev pub glance_of : List Record → Glance
glance_of records = record {
  records = length records;
  admitted = count_by is_admitted records;
  moment = last_moment records;
  on = is_on (talk_of records);
  src = shown_src (talk_of records);
}

-- the first records of a list
abbrev pub IsFirstPart : List Record → List Record → Type 0
IsFirstPart part records = (rest : List Record) × (records ≡ part ++ rest)

-- The glance is what is shown of a first part of the records.
abbrev pub IsGlanceWithin : List Record → Glance → Type 0
IsGlanceWithin records glance =
    (part : List Record) × IsFirstPart part records × (glance ≡ glance_of part)

-- For proofs alone: the same with the member that talks, and how it goes on.
abbrev pub sight_of : List Record → Sight
sight_of records = record {
  records = length records;
  admitted = count_by is_admitted records;
  moment = last_moment records;
  talk = talk_of records;
}

abbrev pub talk_after_leave : Option Talk → Member → Option Talk
talk_after_leave None member = None
talk_after_leave (Some talk) member = if is_same member talk.member then None else Some talk

abbrev pub talk_after : Option Talk → Record → Option Talk
talk_after talk (Join tag moment member listen callsign) = talk
talk_after talk (Leave tag moment member why) = talk_after_leave talk member
talk_after talk (Packet tag moment member verdict packet) =
    if admits (Some verdict)
    then (if packet.last then None else Some record { member = member; src = packet.lsd.src })
    else talk

-- the words that a glance is kept in
abbrev pub glance_words : Glance → List ℕ
glance_words glance = glance.records ∷ glance.admitted ∷ glance.moment
    ∷ (if glance.on then 1 else 0) ∷ glance.src ∷ []
