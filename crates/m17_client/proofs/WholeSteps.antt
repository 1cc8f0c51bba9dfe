-- What a whole step of a client does.
use Rattle.std.proofs.Common.{◌≡◌, ◌≢◌, ◌⊎◌, ℕ, Bool, true, false, List, [], ◌∷◌, ◌++◌, refl, sym, ap, ◌∙◌, subst, inl, inr, Option, None, Some, Contains}
use Rattle.std.specs.List.{flat_map}
use Rattle.std.specs.Option.{option_to_list}
use Rattle.std.proofs.lemmas.Grind.{flat_map-append}
use Rattle.std.proofs.lemmas.List.Elements.{Contains-append_left, Contains-append_cases}
use Rattle.std.proofs.lemmas.List.{append-nil}
use Rattle.m17_lists.proofs.Contents.{nothing_is_in_none, first_is_in, is_the_only_one}
use Rattle.m17_stream.specs.Stream.{SpellsStream}
use Rattle.m17_stream.specs.declared.packet.StreamPacket.{StreamPacket}
use Rattle.m17_control.specs.Forms.{SpellsControl}
use Rattle.m17_control.specs.declared.packet.Control.{Control}
use Rattle.m17_control.specs.declared.packet.Control.TheVariants.{Ackn, Disc}
use Rattle.m17_client.specs.declared.state.Action.{Action}
use Rattle.m17_client.specs.declared.state.Input.{Input}
use Rattle.m17_client.specs.declared.state.Input.TheVariants as input
use Rattle.m17_client.specs.declared.state.LastKept.{LastKept}
use Rattle.m17_client.specs.declared.state.State.{State}
use Rattle.m17_client.specs.declared.state.State.TheVariants.{Idle, Connecting, Connected, Leaving, Closed}
use Rattle.m17_client.specs.Standing.{Standing, at_moment}
use Rattle.m17_client.specs.Client.{ByDatagram, ByLeave, BySend, IsClientStep, MayKeep, Says, Stays, join_packet}
use Rattle.m17_client.specs.TalkDevices.{said_by}
use Rattle.m17_client.specs.Way.{kept_in}
use Rattle.m17_client.proofs.Moves.{BytesDo, BytesMove, KeepsOf, NoRequest, SaysOther, TimeDoes, TimeMoves, bytes_do, bytes_stay, says_disc, says_frame, says_stays, state_of, time_does}

-- among what the actions say is a join packet
abbrev pub Asks : Control → List Action → Type 0
Asks join actions = (asking : List ℕ) × SpellsControl join asking × Contains (flat_map said_by actions) asking

-- to Connecting by asking, and to Connected by an ACKN that a client heard which had asked before
abbrev pub StepMoves : Control → State → Input → List Action → State → Type 0
StepMoves join old in' actions (Connecting tries) =
    Asks join actions ⊎ ((t : ℕ) × (old ≡ Connecting t))
StepMoves join old in' actions (Connected at) =
    ((t : ℕ) × (old ≡ Connecting t) × (when : ℕ) × (bytes : List ℕ)
    × SpellsControl Ackn bytes × (in' ≡ input.Datagram when bytes))
    ⊎ ((k : ℕ) × (old ≡ Connected k))
StepMoves join old in' actions new = Unit {0}

abbrev pub StepKeeps : Option LastKept → Input → List StreamPacket → Option LastKept → Type 0
StepKeeps last in' packets new =
    ((packets ≡ []) × (new ≡ last))
    ⊎ ((packet : StreamPacket) × (at : ℕ) × (bytes : List ℕ) × (in' ≡ input.Datagram at bytes)
    × SpellsStream packet bytes × MayKeep last packet × (packets ≡ packet ∷ [])
    × (new ≡ Some (record { sid = packet.sid; number = packet.number })))

pub record StepDoes (old : Standing) (in' : Input) (actions : List Action) (new : Standing) : Type 0 where
  pub moves : StepMoves (join_packet old) old.state in' actions new.state
  pub joins : join_packet new ≡ join_packet old
  pub keeps : StepKeeps old.kept in' (flat_map kept_in actions) new.kept
  pub says : (bytes : List ℕ) → Contains (flat_map said_by actions) bytes
      → SpellsControl (join_packet old) bytes ⊎ NoRequest bytes

-- what time says comes first
asks_first : (join : Control) (tick answer : Option Action) → Says join tick
    → Asks join (option_to_list tick ++ option_to_list answer)
asks_first join tick answer (bytes, spelled, is) = (
  bytes,
  spelled,
  rw (flat_map-append said_by (option_to_list tick) (option_to_list answer))
      (Contains-append_left (flat_map said_by (option_to_list tick)) (flat_map said_by (option_to_list answer)) bytes
      (subst (λ (t : Option Action). Contains (flat_map said_by (option_to_list t)) bytes) (sym is) (first_is_in [] bytes))),
)

stays_put : (join : Control) (in' : Input) (actions : List Action) (state : State)
    → StepMoves join state in' actions state
stays_put join in' actions Idle = tt
stays_put join in' actions (Connecting tries) = inr (tries, refl)
stays_put join in' actions (Connected at) = inr (at, refl)
stays_put join in' actions Leaving = tt
stays_put join in' actions (Closed why) = tt

-- time alone
by_time : (c : Standing) (old : State) (in' : Input) (tick answer : Option Action) (mid : State)
    → TimeMoves c old tick mid
    → StepMoves (join_packet c) old in' (option_to_list tick ++ option_to_list answer) mid
by_time c old in' tick answer Idle h = tt
by_time c old in' tick answer (Connecting tries) (inl (idle, says)) =
    inl (asks_first (join_packet c) tick answer says)
by_time c old in' tick answer (Connecting tries) (inr was) = inr was
by_time c old in' tick answer (Connected at) h = inr (at, h)
by_time c old in' tick answer Leaving h = tt
by_time c old in' tick answer (Closed why) h = tt

had_asked : (c : Standing) (old : State) (tick : Option Action) (mid : State) (t : ℕ) → old ≢ Idle
    → TimeMoves c old tick mid → mid ≡ Connecting t → (u : ℕ) × (old ≡ Connecting u)
had_asked c old tick mid t awake h e = elim (subst (TimeMoves c old tick) e h) [
  | inl (idle, says) ↦ absurd (awake idle)
  | inr was ↦ was
]

-- time, and then bytes
by_bytes : (c : Standing) (old : State) (at : ℕ) (bytes : List ℕ) (actions : List Action) (tick : Option Action)
    (mid new : State) → old ≢ Idle → TimeMoves c old tick mid → BytesMove mid bytes new
    → StepMoves (join_packet c) old (input.Datagram at bytes) actions new
by_bytes c old at bytes actions tick mid Idle awake h move = tt
by_bytes c old at bytes actions tick mid (Connecting tries) awake h (t, e) =
    inr (had_asked c old tick mid t awake h e)
by_bytes c old at bytes actions tick mid (Connected k) awake h (inl (t, e, ackn)) =
    let (u, was) = had_asked c old tick mid t awake h e in inl (u, was, at, bytes, ackn, refl)
by_bytes c old at bytes actions tick mid (Connected k) awake h (inr (j, e)) =
    inr (j, subst (TimeMoves c old tick) e h)
by_bytes c old at bytes actions tick mid Leaving awake h move = tt
by_bytes c old at bytes actions tick mid (Closed why) awake h move = tt

-- what time says is the join packet, if anything
time_says : (join : Control) (tick : Option Action) (bytes : List ℕ) → (tick ≡ None) ⊎ Says join tick
    → Contains (flat_map said_by (option_to_list tick)) bytes → SpellsControl join bytes
time_says join tick bytes (inl none) h =
    absurd (nothing_is_in_none bytes (subst (λ (t : Option Action). Contains (flat_map said_by (option_to_list t)) bytes) none h))
time_says join tick bytes (inr (asking, spelled, is)) h =
    subst (SpellsControl join)
    (is_the_only_one asking bytes (subst (λ (t : Option Action). Contains (flat_map said_by (option_to_list t)) bytes) is h)) spelled

time_keeps : (join : Control) (tick : Option Action) → (tick ≡ None) ⊎ Says join tick
    → flat_map kept_in (option_to_list tick) ≡ []
time_keeps join tick (inl none) = ap (λ (t : Option Action). flat_map kept_in (option_to_list t)) none
time_keeps join tick (inr (asking, spelled, is)) = ap (λ (t : Option Action). flat_map kept_in (option_to_list t)) is

both_say : (join : Control) (tick answer : Option Action) → (tick ≡ None) ⊎ Says join tick → SaysOther answer
    → (bytes : List ℕ) → Contains (flat_map said_by (option_to_list tick ++ option_to_list answer)) bytes
    → SpellsControl join bytes ⊎ NoRequest bytes
both_say join tick answer time other bytes h =
    elim (Contains-append_cases (flat_map said_by (option_to_list tick)) (flat_map said_by (option_to_list answer)) bytes
    (rw (flat_map-append said_by (option_to_list tick) (option_to_list answer)) at h)) [
      | inl first ↦ inl (time_says join tick bytes time first)
      | inr second ↦ inr (other bytes second)
    ]

both_keep : (join : Control) (tick answer : Option Action) → (tick ≡ None) ⊎ Says join tick
    → flat_map kept_in (option_to_list tick ++ option_to_list answer) ≡ flat_map kept_in (option_to_list answer)
both_keep join tick answer time =
    flat_map-append kept_in (option_to_list tick) (option_to_list answer)
    ∙ ap (λ l. l ++ flat_map kept_in (option_to_list answer)) (time_keeps join tick time)

step_keeps : (last mid new : Option LastKept) (at : ℕ) (bytes : List ℕ) (answer : Option Action)
    (packets : List StreamPacket) → packets ≡ flat_map kept_in (option_to_list answer) → mid ≡ last
    → KeepsOf mid bytes answer new → StepKeeps last (input.Datagram at bytes) packets new
step_keeps last mid new at bytes answer packets are same (inl (none, kept)) = inl (are ∙ none, kept ∙ same)
step_keeps last mid new at bytes answer packets are same (inr (packet, spelled, may, one, kept)) = inr (
  packet,
  at,
  bytes,
  refl,
  spelled,
  subst (λ (l : Option LastKept). MayKeep l packet) same may,
  are ∙ one,
  kept,
)

datagram_moves : (c : Standing) (old : State) (at : ℕ) (bytes : List ℕ) (tick answer : Option Action)
    (mid new : Standing) → TimeDoes c old tick mid → ByDatagram old bytes mid answer new
    → StepMoves (join_packet c) old (input.Datagram at bytes) (option_to_list tick ++ option_to_list answer) new.state
datagram_moves c old at bytes tick answer mid new time (inl (idle, same)) =
    subst (StepMoves (join_packet c) old (input.Datagram at bytes) (option_to_list tick ++ option_to_list answer))
    (sym (ap state_of same.1)) (by_time c old (input.Datagram at bytes) tick answer mid.state time.moves)
datagram_moves c old at bytes tick answer mid new time (inr (awake, h)) =
    by_bytes c old at bytes (option_to_list tick ++ option_to_list answer) tick mid.state new.state awake time.moves
    (bytes_do mid bytes answer new h).moves

datagram_does : (old : State) (bytes : List ℕ) (mid : Standing) (answer : Option Action) (new : Standing)
    → ByDatagram old bytes mid answer new → BytesDo mid bytes answer new
datagram_does old bytes mid answer new (inl (idle, same)) = bytes_stay mid bytes answer new same
datagram_does old bytes mid answer new (inr (awake, h)) = bytes_do mid bytes answer new h

pub on_datagram : (old : Standing) (at : ℕ) (bytes : List ℕ) (actions : List Action) (new : Standing)
    → IsClientStep old (input.Datagram at bytes) actions new → StepDoes old (input.Datagram at bytes) actions new
on_datagram old at bytes actions new (tick, answer, mid, by_tick, by_answer, are) =
    let time = time_does (at_moment old at) old.state tick mid refl by_tick in
    let did = datagram_does old.state bytes mid answer new by_answer in record {
      moves = rw are (datagram_moves (at_moment old at) old.state at bytes tick answer mid new time by_answer);
      joins = did.joins ∙ time.joins;
      keeps = step_keeps old.kept mid.kept new.kept at bytes answer (flat_map kept_in actions)
          (ap (flat_map kept_in) are ∙ both_keep (join_packet old) tick answer time.says) time.kept did.keeps;
      says = rw are (both_say (join_packet old) tick answer time.says did.says);
    }

-- no answer came
nothing_more : (tick : Option Action) → option_to_list tick ≡ option_to_list tick ++ option_to_list None
nothing_more tick = sym (append-nil (option_to_list tick))

pub on_quiet : (old : Standing) (at : ℕ) (actions : List Action) (new : Standing)
    → IsClientStep old (input.Quiet at) actions new → StepDoes old (input.Quiet at) actions new
on_quiet old at actions new (tick, by_tick, are) =
    let time = time_does (at_moment old at) old.state tick new refl by_tick in
    let all : actions ≡ option_to_list tick ++ option_to_list None = are ∙ nothing_more tick in record {
      moves = rw all (by_time (at_moment old at) old.state (input.Quiet at) tick None new.state time.moves);
      joins = time.joins;
      keeps = inl (
        ap (flat_map kept_in) all ∙ both_keep (join_packet old) tick None time.says,
        time.kept,
      );
      says = rw all (both_say (join_packet old) tick None time.says (says_stays None refl));
    }

-- an answer alone, of a client that then has such a state
answers_alone : (old : Standing) (in' : Input) (answer : Option Action) (actions : List Action) (new : Standing)
    → actions ≡ option_to_list answer → SaysOther answer → flat_map kept_in (option_to_list answer) ≡ []
    → join_packet new ≡ join_packet old → new.kept ≡ old.kept
    → StepMoves (join_packet old) old.state in' actions new.state → StepDoes old in' actions new
answers_alone old in' answer actions new are other none joins kept moves = record {
  moves = moves;
  joins = joins;
  keeps = inl (ap (flat_map kept_in) are ∙ none, kept);
  says = λ bytes h. inr (other bytes (rw are at h));
}

same_answers : (old : Standing) (in' : Input) (answer : Option Action) (actions : List Action) (new : Standing)
    → actions ≡ option_to_list answer → SaysOther answer → flat_map kept_in (option_to_list answer) ≡ []
    → new ≡ old → StepDoes old in' actions new
same_answers old in' answer actions new are other none same =
    answers_alone old in' answer actions new are other none (ap join_packet same)
    (ap (λ (s : Standing). s.kept) same)
    (subst (StepMoves (join_packet old) old.state in' actions) (sym (ap state_of same))
    (stays_put (join_packet old) in' actions old.state))

does_nothing : (old : Standing) (in' : Input) (answer : Option Action) (actions : List Action) (new : Standing)
    → actions ≡ option_to_list answer → Stays old answer new → StepDoes old in' actions new
does_nothing old in' answer actions new are (none, same) =
    same_answers old in' answer actions new are (says_stays answer none)
    (ap (λ (a : Option Action). flat_map kept_in (option_to_list a)) none) same

sent : (state : State) (listens : Bool) (packet : StreamPacket) (old : Standing) (answer : Option Action)
    (actions : List Action) (new : Standing) → actions ≡ option_to_list answer
    → BySend state listens packet old answer new → StepDoes old (input.Send packet) actions new
sent (Connected at) false packet old answer actions new are (says, same) =
    same_answers old (input.Send packet) answer actions new are (says_frame packet answer says)
    (ap (λ (a : Option Action). flat_map kept_in (option_to_list a)) says.2) same
sent (Connected at) true packet old answer actions new are h =
    does_nothing old (input.Send packet) answer actions new are h
sent Idle listens packet old answer actions new are h =
    does_nothing old (input.Send packet) answer actions new are h
sent (Connecting tries) listens packet old answer actions new are h =
    does_nothing old (input.Send packet) answer actions new are h
sent Leaving listens packet old answer actions new are h =
    does_nothing old (input.Send packet) answer actions new are h
sent (Closed why) listens packet old answer actions new are h =
    does_nothing old (input.Send packet) answer actions new are h

-- it parts by its DISC
parts : (old : Standing) (answer : Option Action) (actions : List Action) (new : Standing)
    → actions ≡ option_to_list answer
    → Says (Disc (Some old.call)) answer × (new ≡ record old { leave_at = old.moment; state = Leaving })
    → StepDoes old input.Leave actions new
parts old answer actions new are (says, is) =
    answers_alone old input.Leave answer actions new are (says_disc old.call answer says)
    (ap (λ (a : Option Action). flat_map kept_in (option_to_list a)) says.2)
    (ap join_packet is) (ap (λ (s : Standing). s.kept) is)
    (subst (StepMoves (join_packet old) old.state input.Leave actions) (sym (ap state_of is)) tt)

left : (state : State) (old : Standing) (answer : Option Action) (actions : List Action) (new : Standing)
    → actions ≡ option_to_list answer → ByLeave state old answer new → StepDoes old input.Leave actions new
left Idle old answer actions new are (none, is) =
    answers_alone old input.Leave answer actions new are (says_stays answer none)
    (ap (λ (a : Option Action). flat_map kept_in (option_to_list a)) none)
    (ap join_packet is) (ap (λ (s : Standing). s.kept) is)
    (subst (StepMoves (join_packet old) old.state input.Leave actions) (sym (ap state_of is)) tt)
left (Connecting tries) old answer actions new are h = parts old answer actions new are h
left (Connected at) old answer actions new are h = parts old answer actions new are h
left Leaving old answer actions new are h = does_nothing old input.Leave answer actions new are h
left (Closed why) old answer actions new are h = does_nothing old input.Leave answer actions new are h

pub step_does : (old : Standing) (in' : Input) (actions : List Action) (new : Standing)
    → IsClientStep old in' actions new → StepDoes old in' actions new
step_does old (input.Datagram at bytes) actions new h = on_datagram old at bytes actions new h
step_does old (input.Quiet at) actions new h = on_quiet old at actions new h
step_does old (input.Send packet) actions new (answer, by_answer, are) =
    sent old.state old.listens packet old answer actions new are by_answer
step_does old input.Leave actions new (answer, by_answer, are) =
    left old.state old answer actions new are by_answer
