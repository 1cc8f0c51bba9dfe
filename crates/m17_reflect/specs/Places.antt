-- What became of the places: who joined, and what the roll shows in the end.
use Rattle.std.specs.Prelude.{◌≡◌, ℕ, ◌<◌, ◌*◌, Bool, List, length, count_by, slice_index, Contains, Some}
use Rattle.std.specs.List.{flat_map, filter_map}
use Rattle.m17_values.specs.declared.member.Member.{Member}
use Rattle.m17_control.specs.declared.event.Body.TheVariants.{Leave}
use Rattle.m17_control.specs.declared.event.Event.{Event}
use Rattle.m17_control.specs.declared.event.Why.TheVariants.{Replaced}
use Rattle.m17_floor.specs.Acts.{IsMember}
use Rattle.m17_module.specs.Events.{acts_of}
use Rattle.m17_directory.specs.Entries.{Claim, Entry, Setup, claim_at}
use Rattle.m17_directory.specs.Laws.{ClaimsAreAsked, ClaimsArePlaced, joiner_of}
use Rattle.m17_lane.specs.Ends.{TrailEnd}
use Rattle.m17_roll.specs.Closing.{EndView}
use Rattle.m17_roll.specs.Run.{count_at, IsRollRun}
use Rattle.m17_reflect.specs.Links.{At}
use Rattle.m17_reflect.specs.Trails.{events_of}

-- What a link claims: entries that ask have claims alone, each is of one of the places, and no member
-- is claimed twice.
pub record AreClaims (setup : Setup) (entries : List Entry) : Type 0 where
  pub asked : ClaimsAreAsked setup entries
  pub placed : ClaimsArePlaced setup entries
  pub once : (i j : ℕ) (a b : Claim) → claim_at entries i ≡ Some a → claim_at entries j ≡ Some b →
      a.member ≡ b.member → i ≡ j

-- The two lists have the same items, each as often.
abbrev pub AreSame : {A : Type 0} → List A → List A → Type 0
AreSame {A} xs ys = (test : A → Bool) → count_by test xs ≡ count_by test ys

-- The members that the Joins of these events name, in order.
abbrev pub joiners : List Event → List Member
joiners events = filter_map (λ (event : Event). joiner_of event.body) events

-- No membership ends by a Leave with the cause Replaced: where one comes, its member is not in. So
-- no link gives the place of a member of its own that is in to another peer.
abbrev pub NobodyIsReplaced : ℕ → List (TrailEnd Event) → Type 0
NobodyIsReplaced places trails =
    (m n : ℕ) (trail : TrailEnd Event) (event : Event) (k : Member) → At trails m trail →
    At (events_of trail) n event → event.body ≡ Leave k Replaced →
    ¬ IsMember places (acts_of (events_of trail)) k n

-- What was claimed and given back is one run of a roll of `places` places: the members of the Joins
-- in all trails are the claims, each once; each of them was given back, and so in the end each
-- place is free; and none of them was replaced while it was in.
pub record ArePlacesBack (places : ℕ) (trails : List (TrailEnd Event)) (roll : EndView) : Type 0
  where
    pub count : length roll.words ≡ places
    pub run : IsRollRun roll.words roll.claimed roll.given
    pub joins : AreSame (flat_map (λ trail. joiners (events_of trail)) trails) roll.claimed
    pub given : (m : Member) → Contains roll.claimed m → Contains roll.given m
    pub free : (q : ℕ) → q < length roll.words →
        slice_index roll.words q ≡ 2 * count_at q roll.claimed
    pub stays : NobodyIsReplaced places trails
