-- What a run stands for in the midst of a replay.
use Rattle.std.specs.Prelude.{◌≡◌, ◌==◌, ◌||◌, nat_eq, map, ℕ, ◌+◌, ◌*◌, ◌<◌, ◌≤◌, List, [], ◌∷◌, ◌++◌, length, slice_index, slice_index_or, slice_set, nat_lt, Bool, false, Option, None, Some, option_map, MatchBool}
use Rattle.std.specs.List.{list_any, IsDistinct}
use Rattle.std.specs.Option.{option_or}
use Rattle.m17_values.specs.declared.heard.Heard.{Heard}
use Rattle.m17_values.specs.declared.member.Member.{Member}
use Rattle.m17_floor.specs.declared.verdict.Verdict.{Verdict}
use Rattle.m17_module.specs.StandsFor as modules
use Rattle.m17_directory.specs.declared.dispatch.Dispatch.{Dispatch}
use Rattle.m17_directory.specs.declared.known.Departed.{Departed}
use Rattle.m17_directory.specs.declared.known.Known.{Known}
use Rattle.m17_directory.specs.declared.verdict.LinkVerdict.{LinkVerdict}
use Rattle.m17_directory.specs.declared.verdict.LinkVerdict.TheVariants.{Asks}
use Rattle.m17_directory.specs.Entries.{Notice, Claim, Entry, Says, ends_at}
use Rattle.m17_directory.specs.Known.{Past}
use Rattle.m17_directory.specs.Outcome.{Outcome, has_place}
use Rattle.m17_directory.specs.Routed.{past_at, unclaimed_at, others_at, settled_at, link_verdict, posted}
use Rattle.m17_directory.specs.StandsFor.{DirectoryKept, StandsFor, unclaimed, claimed, without_member}
use Rattle.m17_port_memory.specs.Kept.{TalliesKept}
use Rattle.m17_plan.specs.declared.plan.Plan.{Plan}
use Rattle.m17_house.specs.declared.run.Run.{Run}
use Rattle.m17_house.specs.Replay.{IsLeastFree, IsChosenAt, given_before, packet_verdict}
use Rattle.m17_plan.specs.Planned.{IsPlan, setup_of}
use Rattle.m17_house.specs.Carried.{HasCarried, answer_to}

-- the departing when the leaving of these was noted, one after another, and the directory then
abbrev pub without_members : List Member → List Departed → List Departed
without_members [] departing = departing
without_members (m ∷ members) departing = without_members members (without_member m departing)

abbrev pub noting : List Member → DirectoryKept → DirectoryKept
noting members kept = record {
  setup = kept.setup;
  moment = kept.moment;
  known = kept.known;
  asked = kept.asked;
  departing = without_members members kept.departing;
  faults = kept.faults;
  ended = kept.ended;
}

-- it is the place of the member, if there is one
abbrev pub is_at : ℕ → Option Member → Bool
is_at place None = false
is_at place (Some m) = m.place == place

-- just the places that somebody has are marked, and that of this member
abbrev pub AreTaken : List Bool → List Known → Option Member → Type 0
AreTaken taken known member = (place : ℕ) →
    slice_index_or taken place false ≡ (is_at place member || list_any (has_place place) known)

-- the marks when these have left, one after another
abbrev pub freeing : List Member → List Bool → List Bool
freeing [] taken = taken
freeing (m ∷ members) taken = freeing members (slice_set taken m.place false)

-- the verdict on the last packet among these dispatches, carried out after others; else the one that was found before
abbrev pub found_from : Plan → List Dispatch → Option Verdict → List Dispatch → Option Verdict
found_from plan before found [] = found
found_from plan before found (d ∷ more) =
    found_from plan (before ++ d ∷ []) (option_or (answer_to plan before d) found) more

-- The dispatches were carried out after others, with this verdict on the last packet among them: so the modules and
-- the mouth are after that.
pub record IsCarriedOut (plan : Plan) (before posts : List Dispatch)
    (after : List (Option modules.ModuleKept) × TalliesKept) (answer : Option Verdict)
    : Type 0 where
  pub carried : HasCarried plan (before ++ posts) after.0 after.1
  pub found : answer ≡ found_from plan before None posts

-- The choice of a member for a peer that asks, beside those that are known: of the least place that nobody has, counted
-- at that place; none where as many are known as there are places.
pub record IsFreeMember (known : List Known) (places : ℕ) (old : List ℕ) (result : Option Member)
    (new : List ℕ) : Type 0 where
  pub it : Member
  pub is_it : result ≡ Some it
  pub below : it.place < places
  pub place : IsLeastFree known it.place
  pub generation : it.generation ≡ slice_index old it.place
  pub counted : new ≡ slice_set old it.place (it.generation + 1)

abbrev pub IsChoice : List Known → ℕ → List ℕ → Option Member → List ℕ → Type 0
IsChoice known places old result new = MatchBool (nat_lt (length known) places)
    (IsFreeMember known places old result new) ((result ≡ None) × (new ≡ old))

-- what was looked back on at an entry that says this, behind these
abbrev pub past_with : Plan → List Entry → Entry → Past
past_with plan entries entry =
    past_at (setup_of plan) (entries ++ entry ∷ []) (length entries)

-- how often each place was given
pub record AreCounts (given : List ℕ) (entries : List Entry) : Type 0 where
  pub cells : length given ≡ 256
  pub each : (place : ℕ) → place < 256 →
      slice_index given place ≡ given_before entries place (length entries)

abbrev pub AreChosen : Plan → List Entry → Type 0
AreChosen plan entries =
    (n : ℕ) → n < length entries → IsChosenAt (setup_of plan) entries n

-- The run is one of this plan, and nobody's leaving is to be noted.
pub record IsIdle (plan : Plan) (run : Run) : Type 0 where
  pub is_plan : IsPlan plan
  pub name : run.stage.name ≡ plan.name
  pub setup : run.directory.setup ≡ setup_of plan
  pub departing : run.directory.departing ≡ []
  pub known : length run.directory.known ≤ plan.places
  pub apart : IsDistinct nat_eq (map (λ k. k.member.place) run.directory.known)

-- The run has come through these entries.
pub record IsSoFar (plan : Plan) (entries : List Entry) (run : Run) (mouth : TalliesKept)
    : Type 0 where
  pub idle : IsIdle plan run
  pub asked : run.directory.asked ≡ None
  pub stands : StandsFor run.directory entries
  pub carried : HasCarried plan (posted (setup_of plan) entries) run.stage.rooms mouth
  pub few : length (posted (setup_of plan) entries) + length run.directory.known
      ≤ 54 * length entries
  pub given : AreCounts run.given entries
  pub taken : AreTaken run.taken run.directory.known None
  pub chosen : AreChosen plan entries

-- a run, and what its mouth has counted
pub record Scene : Type 0 where
  pub run : Run
  pub mouth : TalliesKept

abbrev pub scene : Run → TalliesKept → Scene
scene run mouth = record { run = run; mouth = mouth }

-- The run has come through these entries, and has heard one more that says this, but for its claim: it answered the
-- link's verdict, and the floor rule's on a packet.
pub record IsTakenIn (plan : Plan) (entries : List Entry) (notice : Notice) (s : Scene)
    (answer : LinkVerdict × Option Verdict) : Type 0 where
  pub idle : IsIdle plan s.run
  pub stands : StandsFor s.run.directory (entries ++ unclaimed notice ∷ [])
  pub carried : IsCarriedOut plan (posted (setup_of plan) entries)
      (unclaimed_at (past_with plan entries (unclaimed notice))).posts
      (s.run.stage.rooms, s.mouth) answer.1
  pub is_verdict : answer.0 ≡ (unclaimed_at (past_with plan entries (unclaimed notice))).verdict
  pub others : answer.0 ≡ Asks →
      s.run.directory.known ≡ others_at (past_with plan entries (unclaimed notice))
  pub ends : s.run.directory.ended ≡ ends_at (entries ++ unclaimed notice ∷ []) (length entries)
  pub few : length (posted (setup_of plan) entries)
      + length (unclaimed_at (past_with plan entries (unclaimed notice))).posts
      + length s.run.directory.known ≤ 54 * length entries + 52
  pub given : AreCounts s.run.given entries
  pub taken : AreTaken s.run.taken s.run.directory.known None
  pub chosen : AreChosen plan entries

-- what such an entry posts before its claim
abbrev pub first_posts : Plan → List Entry → Notice → List Dispatch
first_posts plan entries notice = (unclaimed_at (past_with plan entries (unclaimed notice))).posts

-- the claim by this member, to be greeted at once
abbrev pub claim_of : Option Member → Option Claim
claim_of given = option_map (λ m. record { member = m; after = 0 }) given

-- what an entry comes to by the claim of this member
abbrev pub given_to : Plan → List Entry → Notice → Option Member → Outcome
given_to plan entries notice given =
    settled_at (past_with plan entries (claimed notice (claim_of given))) (claim_of given)

-- a run before a claim, and how it is after that
pub record Change : Type 0 where
  pub old : Run
  pub after : Scene

abbrev pub change : Run → Run → TalliesKept → Change
change old run mouth = record { old = old; after = scene run mouth }

-- The same with its claim, where it asked.
pub record IsGiven (plan : Plan) (entries : List Entry) (notice : Notice) (c : Change)
    (verdict : LinkVerdict) : Type 0 where
  pub member : Option Member
  pub idle : IsIdle plan c.after.run
  pub asked : c.after.run.directory.asked ≡ None
  pub stands : StandsFor c.after.run.directory (entries ++ claimed notice (claim_of member) ∷ [])
  pub carried : HasCarried plan (posted (setup_of plan) entries ++ first_posts plan entries notice
      ++ (given_to plan entries notice member).posts) c.after.run.stage.rooms c.after.mouth
  pub is_verdict : verdict ≡ (given_to plan entries notice member).verdict
  pub ends : c.after.run.directory.ended
      ≡ ends_at (entries ++ unclaimed notice ∷ []) (length entries)
  pub few : length (posted (setup_of plan) entries)
      + length (first_posts plan entries notice)
      + length (given_to plan entries notice member).posts
      + length c.after.run.directory.known ≤ 54 * length entries + 54
  pub choice : IsChoice c.old.directory.known plan.places c.old.given member c.after.run.given
  pub taken : AreTaken c.after.run.taken c.after.run.directory.known None

-- One entry more was heard, and what became of it is in all that the run stands for.
pub record IsOneMore (plan : Plan) (entries : List Entry) (h : Heard) (s : Scene)
    (answer : LinkVerdict × Option Verdict) : Type 0 where
  pub entry : Entry
  pub says : Says h entry.notice
  pub so_far : IsSoFar plan (entries ++ entry ∷ []) s.run s.mouth
  pub is_verdict : answer.0 ≡ link_verdict (setup_of plan) (entries ++ entry ∷ []) (length entries)
  pub is_packet : answer.1 ≡ packet_verdict plan (entries ++ entry ∷ []) (length entries)
  pub ends : s.run.directory.ended ≡ ends_at (entries ++ entry ∷ []) (length entries)
