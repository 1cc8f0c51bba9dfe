-- What a list of acts leaves behind for the acts to come: of each member whether it is in, and its own last frame; and
-- the floor's. Lists that leave the same go on alike.
use Rattle.std.specs.Prelude.{◌≡◌, ◌≢◌, ◌==◌, ◌&&◌, ℕ, ◌-◌, ◌<◌, Bool, true, false, max, List, length, nat_lt, Option, None, Some, IsSome, option_map, if◌then◌else◌}
use Rattle.m17_values.specs.declared.member.Member.{Member}
use Rattle.m17_stream.specs.declared.packet.StreamPacket.{StreamPacket}
use Rattle.m17_floor.specs.declared.act.Act.{Act}
use Rattle.m17_floor.specs.declared.act.ActKind.{ActKind}
use Rattle.m17_floor.specs.declared.act.ActKind.TheVariants.{Join, Leave, Packet, Other}
use Rattle.m17_floor.specs.declared.verdict.Verdict.{Verdict}
use Rattle.m17_floor.specs.declared.verdict.Verdict.TheVariants.{NotMember, ListenOnly}
use Rattle.m17_floor.specs.declared.rule.Rule.{Rule}
use Rattle.m17_floor.specs.declared.rule.Rule.TheVariants as rules
use Rattle.m17_floor.specs.Setup.{FloorSetup}
use Rattle.m17_floor.specs.Acts.{kind_at, moment_before, is_same}
use Rattle.m17_floor.specs.Rule.{Frame, Incoming, incoming, verdict_by_frames}
use Rattle.m17_floor.specs.Floor.{floor_frame, own_frame, listens}
use Rattle.m17_floor.specs.StandsFor.{past_of, its_join}
use Rattle.m17_floor.specs.Legal.{KeptAct, book_places, book_setup, moment_written}

-- Of a member that is in at the end of the list, whether it joined to listen only; nothing of one that isn't in.
unfoldable pub stay_of : ℕ → List Act → Member → Option Bool
stay_of places acts k = option_map (λ j. listens (kind_at acts j)) (its_join places acts k)

-- The same after one act more, by what it was before: the member is in by its own Join at one of the places; it isn't
-- after a Leave of it, or another's Join at its place.
abbrev pub stay_after : ℕ → ActKind → Member → Option Bool → Option Bool
stay_after places (Join m listens_only) k before =
    if m.place == k.place
    then (if is_same m k && nat_lt k.place places then Some listens_only else None)
    else before
stay_after places (Leave m) k before = if is_same m k then None else before
stay_after places (Packet m p) k before = before
stay_after places Other k before = before

-- The verdict on a packet, by what is known of its sender, the limit, the floor's frame and the sender's own.
abbrev pub verdict_by_stay : Option Bool → ℕ → Option Frame → Option Frame → Incoming → Verdict
verdict_by_stay None limit floor own new = NotMember
verdict_by_stay (Some true) limit floor own new = ListenOnly
verdict_by_stay (Some false) limit floor own new = verdict_by_frames limit floor own new

-- Two lists, each in a module of its number of places, and of one limit, leave the same behind.
pub record LeaveTheSame (setup : FloorSetup) (acts : List Act) (other : FloorSetup)
    (others : List Act) : Type 0 where
  pub limit : setup.limit ≡ other.limit
  pub stays : (k : Member) → stay_of setup.places acts k ≡ stay_of other.places others k
  pub owns : (k : Member) → own_frame (past_of setup acts) k ≡ own_frame (past_of other others) k
  pub floor : floor_frame (past_of setup acts) ≡ floor_frame (past_of other others)

-- The verdict on a packet that comes after these acts, by what they leave behind.
abbrev pub verdict_then : FloorSetup → List Act → ℕ → Member → StreamPacket → Verdict
verdict_then setup acts at k p =
    verdict_by_stay (stay_of setup.places acts k) setup.limit (floor_frame (past_of setup acts))
    (own_frame (past_of setup acts) k) (incoming k (max (moment_before acts (length acts)) at) p)

-- What is kept next breaks a rule, by what the acts before it leave behind.
abbrev pub ComesOrGoesWrong : List Act → ActKind → Type 0
ComesOrGoesWrong acts (Join k listens) =
    (m : Member) × (m.place ≡ k.place) × IsSome (stay_of book_places acts m)
ComesOrGoesWrong acts (Leave k) = ¬ IsSome (stay_of book_places acts k)
ComesOrGoesWrong acts (Packet k p) = ⊥
ComesOrGoesWrong acts Other = ⊥

abbrev pub IsJudgedWrong : ℕ → List Act → ℕ → Option Verdict → ActKind → Type 0
IsJudgedWrong limit acts at written (Packet k p) =
    written ≢ Some (verdict_then (book_setup limit) acts at k p)
IsJudgedWrong limit acts at written _ = ⊥

abbrev pub BreaksNext : ℕ → List Act → KeptAct → Rule → Type 0
BreaksNext limit acts one rules.Moment =
    (0 < length acts) × (one.act.at < moment_written acts (length acts - 1))
BreaksNext limit acts one rules.Member = ComesOrGoesWrong acts one.act.kind
BreaksNext limit acts one rules.Verdict =
    IsJudgedWrong limit acts one.act.at one.verdict one.act.kind
