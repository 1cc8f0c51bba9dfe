-- One more that was heard.
use Rattle.std.proofs.Common.{◌≡◌, ◌≢◌, List, [], ◌∷◌, ◌++◌, length, Contains, sym, ap, subst, arith}
use Rattle.std.proofs.lemmas.List.{length-append}
use Rattle.std.proofs.lemmas.List.Elements.{All-contains_itself, All-weaker, Contains-append_right}
use Rattle.m17_values.specs.declared.heard.Heard.{Heard}
use Rattle.m17_values.specs.declared.heard.Heard.TheVariants.{End}
use Rattle.m17_ports.specs.Told.{StartsEmpty}
use Rattle.m17_ports.specs.Ear.{EarTold, HasHeard}
use Rattle.m17_ports.specs.Laws.{NewEarsTell, EarsHearInTurn}
use Rattle.m17_receiver.specs.Devices.{HearsToTheEnd}

-- nothing comes behind an End where none was heard before the last
last_alone : (entries : List Heard) (entry : Heard) → (Contains entries End → ⊥) → (front rest : List Heard) → entries ++ entry ∷ [] ≡ front ++ End ∷ rest → rest ≡ []
last_alone [] entry going [] rest e = let tail : [] ≡ rest = cc in sym tail
last_alone [] entry going (f ∷ front) rest e = absurd (omega (arith, ap length e, length-append front (End ∷ rest)))
last_alone (x ∷ entries) entry going [] rest e = let first : x ≡ End = cc in absurd (going (0, omega arith, first))
last_alone (x ∷ entries) entry going (f ∷ front) rest e =
    let tail : entries ++ entry ∷ [] ≡ front ++ End ∷ rest = cc in
    last_alone entries entry (λ in_it. going (Contains-append_right (x ∷ []) entries End in_it)) front rest tail

-- the laws of ears of this kind
module _ {L : Type 0} (tell : NewEarsTell) (law : EarsHearInTurn L) where
  pub heard_nothing : (ear : EarTold L) → StartsEmpty ear.heard → HearsToTheEnd ear [] ear
  heard_nothing ear empty = record {
    heard = law.nothing ear;
    told = (law.nothing ear).told (tell ear.heard empty);
    no_more = λ front rest e. absurd (omega (arith, ap length e, length-append front (End ∷ rest)));
  }

  pub hears_one : (start old new : EarTold L) (entries : List Heard) (entry : Heard) → StartsEmpty start.heard → (Contains entries End → ⊥) →
      HasHeard old (entry ∷ []) new → HearsToTheEnd start entries old → HearsToTheEnd start (entries ++ entry ∷ []) new
  hears_one start old new entries entry empty going one h =
      let apart : (x : Heard) → Contains entries x → x ≢ End = λ x in_it is. going (subst (Contains entries) is in_it) in
      let all : HasHeard start (entries ++ entry ∷ []) new =
      law.in_turn start old new entries (entry ∷ []) (All-weaker (Contains entries) (λ x. x ≢ End) apart entries (All-contains_itself entries)) h.heard one in
      record {
        heard = all;
        told = all.told (tell start.heard empty);
        no_more = last_alone entries entry going;
      }
