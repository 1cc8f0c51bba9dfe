-- Who has left is noted, and then nobody is departing.
use Rattle.std.proofs.Common.{◌≡◌, ◌||◌, ◌==◌, Bool, true, false, not, cond, List, [], ◌∷◌, ◌++◌, map, refl, ap}
use Rattle.std.specs.List.{list_any, AllByRecursion}
use Rattle.std.proofs.lemmas.Bool.{false≢true, and_from, eq-eqb, or_left, or_right}
use Rattle.m17_values.specs.declared.member.Member.{Member}
use Rattle.m17_directory.specs.declared.known.Departed.{Departed}
use Rattle.m17_directory.specs.declared.known.Known.{Known}
use Rattle.m17_directory.specs.StandsFor.{DirectoryKept, StandsFor, departed_of, is_member, without_member}
use Rattle.m17_house.specs.SoFar.{without_members, noting}
use Rattle.m17_directory.specs.Entries.{Entry}

-- one after another
without_more : (a b : List Member) (departing : List Departed) → without_members b (without_members a departing) ≡ without_members (a ++ b) departing
without_more [] b departing = refl
without_more (m ∷ a) b departing = without_more a b (without_member m departing)

pub noting_more : (a b : List Member) (kept : DirectoryKept) → noting b (noting a kept) ≡ noting (a ++ b) kept
noting_more a b kept = ap (λ (ds : List Departed). record { setup = kept.setup; moment = kept.moment; known = kept.known; asked = kept.asked; departing = ds; faults = kept.faults; ended = kept.ended }) (without_more a b kept.departing)

-- each of those departing is among the members
AllNoted : List Member → List Departed → Type 0
AllNoted members departing = AllByRecursion (λ (d : Departed). list_any (λ m. is_member m d) members ≡ true) departing

or_cases : (a b : Bool) → (a || b) ≡ true → not a ≡ true → b ≡ true
or_cases true b e n = absurd (false≢true n)
or_cases false b e n = e

kept_by : (m : Member) (members : List Member) (d : Departed) (b : Bool) → b ≡ is_member m d → (b || list_any (λ k. is_member k d) members) ≡ true → (rest : List Departed) → AllNoted members rest → AllNoted members (cond (not b) (d ∷ rest) rest)
unfolding AllNoted
kept_by m members d true same e rest all = all
kept_by m members d false same e rest all = (e, all)

left_over : (m : Member) (members : List Member) (departing : List Departed) → AllNoted (m ∷ members) departing → AllNoted members (without_member m departing)
unfolding AllNoted
left_over m members [] all = tt
left_over m members (d ∷ departing) all = kept_by m members d (is_member m d) refl all.0 (without_member m departing) (left_over m members departing all.1)

nobody : (departing : List Departed) → AllNoted [] departing → departing ≡ []
unfolding AllNoted
nobody [] all = refl
nobody (d ∷ departing) all = absurd (false≢true all.0)

all_gone : (members : List Member) (departing : List Departed) → AllNoted members departing → without_members members departing ≡ []
all_gone [] departing all = nobody departing all
all_gone (m ∷ members) departing all = all_gone members (without_member m departing) (left_over m members departing all)

is_member_self : (k : Known) → is_member k.member (departed_of k) ≡ true
is_member_self k = and_from (k.member.place == k.member.place) (k.member.generation == k.member.generation) (eq-eqb k.member.place k.member.place refl) (eq-eqb k.member.generation k.member.generation refl)

more_noted : (m : Member) (members : List Member) (departing : List Departed) → AllNoted members departing → AllNoted (m ∷ members) departing
unfolding AllNoted
more_noted m members [] all = tt
more_noted m members (d ∷ departing) all = (or_right (is_member m d) (list_any (λ k. is_member k d) members) all.0, more_noted m members departing all.1)

each_left : (left : List Known) → AllNoted (map (λ (k : Known). k.member) left) (map departed_of left)
unfolding AllNoted
each_left [] = tt
each_left (k ∷ left) = (
  or_left (is_member k.member (departed_of k)) (list_any (λ m. is_member m (departed_of k)) (map (λ (x : Known). x.member) left)) (is_member_self k),
  more_noted k.member (map (λ (x : Known). x.member) left) (map departed_of left) (each_left left),
)

-- All that left are noted.
pub all_noted : (left : List Known) → without_members (map (λ (k : Known). k.member) left) (map departed_of left) ≡ []
all_noted left = all_gone (map (λ (k : Known). k.member) left) (map departed_of left) (each_left left)

-- Nothing else of what the directory stands for hangs on who is departing.
pub noting_stands : (members : List Member) (kept : DirectoryKept) (entries : List Entry) → StandsFor kept entries → StandsFor (noting members kept) entries
noting_stands members kept entries stands = record { moment = stands.moment; known = stands.known; asked = stands.asked; faults = stands.faults }
