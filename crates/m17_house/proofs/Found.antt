-- The verdict on the packet among what an entry posts.
use Rattle.std.proofs.Common.{◌≡◌, ℕ, Bool, true, false, cond, List, [], ◌∷◌, ◌++◌, length, slice_get, Option, None, Some, refl, ap, sym, subst, ◌∙◌, append_assoc}
use Rattle.std.specs.List.{filter_map, cons_option}
use Rattle.std.specs.Option.{option_or, option_map}
use Rattle.std.proofs.lemmas.List.{append-nil}
use Rattle.std.proofs.lemmas.Option.{slice_get-map}
use Rattle.std.proofs.lemmas.Bool.{true≢false}
use Rattle.m17_lists.proofs.Places.{first_of_rest_stands_behind}
use Rattle.m17_control.specs.declared.event.Body.{Body}
use Rattle.m17_control.specs.declared.event.Body.TheVariants as body
use Rattle.m17_control.specs.declared.event.Event.{Event}
use Rattle.m17_floor.specs.declared.verdict.Verdict.{Verdict}
use Rattle.m17_floor.specs.Acts.{kind_at, kind_or_other}
use Rattle.m17_floor.specs.Acts as acts
use Rattle.m17_floor.specs.Floor.{verdict_at}
use Rattle.m17_floor.specs.Laws.{OnlyPacketsHaveVerdicts}
use Rattle.m17_module.specs.Setup.{floor_setup}
use Rattle.m17_module.specs.Events.{act_of, acts_of, kind_of}
use Rattle.m17_directory.specs.declared.dispatch.Dispatch.{Dispatch}
use Rattle.m17_directory.specs.declared.dispatch.Dispatch.TheVariants.{ToModule, ToDoor}
use Rattle.m17_directory.specs.Laws.{is_packet, packet_letter}
use Rattle.m17_plan.specs.declared.plan.Plan.{Plan}
use Rattle.m17_plan.specs.Planned.{module_setup}
use Rattle.m17_house.specs.Carried.{events_of, answer_to}
use Rattle.m17_house.specs.SoFar.{found_from}

-- what the floor sees of the last event
kind_of_get : (o : Option Event) (event : Event) → o ≡ Some event → kind_or_other (option_map act_of o) ≡ kind_of event.body
kind_of_get o event e = ap (λ x. kind_or_other (option_map act_of x)) e

kind_end : (events : List Event) (event : Event) → kind_at (acts_of (events ++ event ∷ [])) (length events) ≡ kind_of event.body
kind_end events event = ap kind_or_other (slice_get-map act_of (events ++ event ∷ []) (length events)) ∙ kind_of_get (slice_get (events ++ event ∷ []) (length events)) event (first_of_rest_stands_behind events event [])

no_packet_kind : (what : Body) → is_packet what ≡ false → acts.is_packet (kind_of what) ≡ false
no_packet_kind (body.Join k peer callsign listens after) e = refl
no_packet_kind (body.Leave k why) e = refl
no_packet_kind (body.Packet k p) e = absurd (true≢false e)
no_packet_kind (body.Reply k control) e = refl
no_packet_kind body.Tick e = refl
no_packet_kind body.Stop e = refl

no_verdict : OnlyPacketsHaveVerdicts → (plan : Plan) (before : List Dispatch) (letter : ℕ) (event : Event) → is_packet event.body ≡ false → answer_to plan before (ToModule letter event) ≡ None
no_verdict law plan before letter event e =
    let events : List Event = events_of letter before in
    law (floor_setup (module_setup plan letter)) (acts_of (events ++ event ∷ [])) (length events) (ap acts.is_packet (kind_end events event) ∙ no_packet_kind event.body e)

-- the letter of a dispatch, by whether its event is a packet
letter_by : (letter : ℕ) (event : Event) (b : Bool) → is_packet event.body ≡ b → packet_letter (ToModule letter event) ≡ cond b (Some letter) None
letter_by letter event b e = ap (λ t. cond t (Some letter) None) e

-- Without a packet nothing is found.
found_none_by : OnlyPacketsHaveVerdicts → (plan : Plan) (before : List Dispatch) (letter : ℕ) (event : Event) (rest : List ℕ) (b : Bool) → is_packet event.body ≡ b → cons_option (packet_letter (ToModule letter event)) rest ≡ [] → (answer_to plan before (ToModule letter event) ≡ None) × (rest ≡ [])
found_none_by law plan before letter event rest true e none =
    let never : letter ∷ rest ≡ [] = ap (λ o. cons_option o rest) (sym (letter_by letter event true e)) ∙ none in
    cc
found_none_by law plan before letter event rest false e none = (no_verdict law plan before letter event e, ap (λ o. cons_option o rest) (sym (letter_by letter event false e)) ∙ none)

pub found_none : OnlyPacketsHaveVerdicts → (plan : Plan) (posts before : List Dispatch) (found : Option Verdict) → filter_map packet_letter posts ≡ [] → found_from plan before found posts ≡ found
found_none law plan [] before found none = refl
found_none law plan (ToModule letter event ∷ posts) before found none =
    let here = found_none_by law plan before letter event (filter_map packet_letter posts) (is_packet event.body) refl none in
    ap (λ v. found_from plan (before ++ ToModule letter event ∷ []) (option_or v found) posts) here.0
    ∙ found_none law plan posts (before ++ ToModule letter event ∷ []) found here.1
found_none law plan (ToDoor direct ∷ posts) before found none = found_none law plan posts (before ++ ToDoor direct ∷ []) found none

-- The one packet, between what is posted before it and behind it, and the verdict on it.
pub record IsFound (plan : Plan) (before posts : List Dispatch) (letter : ℕ) (found : Option Verdict) : Type 0 where
  pub front : List Dispatch
  pub event : Event
  pub rest : List Dispatch
  pub posts_are : posts ≡ front ++ ToModule letter event ∷ rest
  pub is_one : is_packet event.body ≡ true
  pub no_other : filter_map packet_letter rest ≡ []
  pub verdict : found ≡ verdict_at (floor_setup (module_setup plan letter)) (acts_of (events_of letter (before ++ front) ++ event ∷ [])) (length (events_of letter (before ++ front)))

found_later : (plan : Plan) (before : List Dispatch) (d : Dispatch) (posts : List Dispatch) (letter : ℕ) (found : Option Verdict) → IsFound plan (before ++ d ∷ []) posts letter found → IsFound plan before (d ∷ posts) letter found
found_later plan before d posts letter found later = record {
  front = d ∷ later.front;
  event = later.event;
  rest = later.rest;
  posts_are = ap (λ xs. d ∷ xs) later.posts_are;
  is_one = later.is_one;
  no_other = later.no_other;
  verdict = later.verdict ∙ ap (λ xs. verdict_at (floor_setup (module_setup plan letter)) (acts_of (events_of letter xs ++ later.event ∷ [])) (length (events_of letter xs))) (append_assoc before (d ∷ []) later.front);
}

or_none : {A : Type 0} (o : Option A) → option_or o None ≡ o
or_none None = refl
or_none (Some x) = refl

same_head : (a b : ℕ) (xs : List ℕ) → a ∷ xs ≡ b ∷ [] → (a ≡ b) × (xs ≡ [])
same_head a b xs e = (cc, cc)

found_here : OnlyPacketsHaveVerdicts → (plan : Plan) (before : List Dispatch) (to : ℕ) (event : Event) (posts : List Dispatch) (letter : ℕ) (b : Bool) → is_packet event.body ≡ b → cons_option (packet_letter (ToModule to event)) (filter_map packet_letter posts) ≡ letter ∷ [] →
    (filter_map packet_letter posts ≡ letter ∷ [] → IsFound plan (before ++ ToModule to event ∷ []) posts letter (found_from plan (before ++ ToModule to event ∷ []) None posts)) →
    IsFound plan before (ToModule to event ∷ posts) letter (found_from plan before None (ToModule to event ∷ posts))
found_here law plan before to event posts letter true e one later =
    let parts = same_head to letter (filter_map packet_letter posts) (ap (λ o. cons_option o (filter_map packet_letter posts)) (sym (letter_by to event true e)) ∙ one) in
    let found : Option Verdict = found_from plan before None (ToModule to event ∷ posts) in
    let answer : found ≡ answer_to plan before (ToModule to event) =
    found_none law plan posts (before ++ ToModule to event ∷ []) (option_or (answer_to plan before (ToModule to event)) None) parts.1 ∙ or_none (answer_to plan before (ToModule to event)) in
    subst (λ (l : ℕ). IsFound plan before (ToModule to event ∷ posts) l found) parts.0 (record {
      front = [];
      event = event;
      rest = posts;
      posts_are = refl;
      is_one = e;
      no_other = parts.1;
      verdict = answer ∙ ap (λ xs. verdict_at (floor_setup (module_setup plan to)) (acts_of (events_of to xs ++ event ∷ [])) (length (events_of to xs))) (sym (append-nil before));
    })
found_here law plan before to event posts letter false e one later =
    let rest : filter_map packet_letter posts ≡ letter ∷ [] = ap (λ o. cons_option o (filter_map packet_letter posts)) (sym (letter_by to event false e)) ∙ one in
    found_later plan before (ToModule to event) posts letter (found_from plan before None (ToModule to event ∷ posts))
    (subst (λ (v : Option Verdict). IsFound plan (before ++ ToModule to event ∷ []) posts letter (found_from plan (before ++ ToModule to event ∷ []) (option_or v None) posts)) (sym (no_verdict law plan before to event e)) (later rest))

pub found_one : OnlyPacketsHaveVerdicts → (plan : Plan) (posts before : List Dispatch) (letter : ℕ) → filter_map packet_letter posts ≡ letter ∷ [] → IsFound plan before posts letter (found_from plan before None posts)
found_one law plan [] before letter one = cc
found_one law plan (ToModule to event ∷ posts) before letter one =
    found_here law plan before to event posts letter (is_packet event.body) refl one (λ rest. found_one law plan posts (before ++ ToModule to event ∷ []) letter rest)
found_one law plan (ToDoor direct ∷ posts) before letter one =
    found_later plan before (ToDoor direct) posts letter (found_from plan before None (ToDoor direct ∷ posts)) (found_one law plan posts (before ++ ToDoor direct ∷ []) letter one)
