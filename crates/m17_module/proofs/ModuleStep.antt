-- The parrot's part of a module's step, whether it is a parrot or not.
use Rattle.std.proofs.Common.{◌≡◌, ℕ, Bool, true, false, cond, List, [], ◌∷◌, ◌++◌, length, is_some, option_map, Option, None, Some, refl, ap, sym, ◌∙◌, arith}
use Rattle.std.specs.Option.{option_and_then}
use Rattle.std.proofs.lemmas.Option.{same_Some}
use Rattle.m17_values.specs.declared.member.Member.{Member}
use Rattle.m17_stream.specs.declared.packet.StreamPacket.{StreamPacket}
use Rattle.m17_control.specs.declared.event.Event.{Event}
use Rattle.m17_floor.specs.declared.verdict.Verdict.{Verdict}
use Rattle.m17_lookup.specs.Lookup.{last_below}
use Rattle.m17_floor.specs.Rule.{FloorState}
use Rattle.m17_floor.specs.Laws.{MomentOfOneMore, StrangersGetNotMember}
use Rattle.m17_module.specs.Recording.{Recording, due_of, with_given}
use Rattle.m17_module.specs.Setup.{Setup}
use Rattle.m17_module.specs.declared.recorder.Recorder.{Recorder}
use Rattle.m17_module.specs.Seats.{seats_at}
use Rattle.m17_module.specs.Events.{acts_of}
use Rattle.m17_module.specs.Echoes.{recording_with, echo_at, recording_at}
use Rattle.m17_module.specs.Items.{echo_items, echoes_at}
use Rattle.m17_module.specs.StandsFor.{People, recorded}
use Rattle.m17_module.specs.Following.{leaver, turned, recording_then}
use Rattle.m17_module.proofs.SeatsMore.{seats_at_before}
use Rattle.m17_module.proofs.EchoesBefore.{Later}
use Rattle.m17_module.proofs.ParrotStep.{Stepped, parrot_echo, parrot_recording}

-- what a recorder has recorded
abbrev pub recording_in : Option Recorder → Option Recording
recording_in recorder = option_and_then (λ (r : Recorder). r.parrot) recorder

-- what is due of it
abbrev pub due_in : ℕ → FloorState → Option Recorder → Option (Member × StreamPacket)
due_in at floor recorder = option_and_then (λ (r : Recorder). option_and_then (due_of at) (turned at floor r.parrot)) recorder

-- of no events nothing is recorded
nothing_at : (setup : Setup) → recording_at setup [] 0 ≡ None
unfolding recording_at recording_with last_below
nothing_at setup = refl

none_by : (b : Bool) (o : Option Recording) → o ≡ None → cond b o None ≡ None
none_by true o e = e
none_by false o e = refl

pub nothing_recorded : (setup : Setup) → recorded setup [] ≡ None
nothing_recorded setup = none_by setup.parrot (recording_at setup [] 0) (nothing_at setup)

pub before_is : (recorder : Option Recorder) (r : Recorder) (recording : Option Recording) → recorder ≡ Some r → recording_in recorder ≡ cond (is_some recorder) recording None → r.parrot ≡ recording
before_is None r recording e h = cc
before_is (Some s) r recording e h = ap (λ (x : Recorder). x.parrot) (sym (same_Some s r e)) ∙ h

-- each recorder there is
abbrev pub EachStepped : Setup → List Event → Event → ℕ → Option Verdict → People → People → Option Recorder → Type 0
EachStepped setup events event at answer old new recorder = (r : Recorder) → recorder ≡ Some r → Stepped setup events event at answer old new r.parrot

pub played_end : Later → MomentOfOneMore → (setup : Setup) (count : ℕ) (events : List Event) (event : Event) (at : ℕ) (answer : Option Verdict) (old new : People) (recorder : Option Recorder) → setup.parrot ≡ is_some recorder → count ≡ length events → EachStepped setup events event at answer old new recorder → echo_items count old.seats (due_in at old.floor recorder) ≡ echoes_at setup (events ++ event ∷ []) (length events)
unfolding echoes_at
played_end later here setup count events event at answer old new None parrot counted each =
    let longer : List Event = events ++ event ∷ [] in
    let n : ℕ = length events in
    ap (λ b. cond b (echo_items n (seats_at setup.places longer n) (echo_at setup (acts_of longer) n)) []) (sym parrot)
played_end later here setup count events event at answer old new (Some r) parrot counted each =
    let longer : List Event = events ++ event ∷ [] in
    let n : ℕ = length events in
    ap (λ m. echo_items m old.seats (due_in at old.floor (Some r))) counted
    ∙ ap (λ seats. echo_items n seats (due_in at old.floor (Some r))) ((each r refl).stands.seats ∙ seats_at_before later.members setup.places events (event ∷ []) n (omega arith))
    ∙ ap (echo_items n (seats_at setup.places longer n)) (parrot_echo later here setup events event at answer old new r.parrot (each r refl))
    ∙ ap (λ b. cond b (echo_items n (seats_at setup.places longer n) (echo_at setup (acts_of longer) n)) []) (sym parrot)

pub recorded_end : Later → MomentOfOneMore → StrangersGetNotMember → (setup : Setup) (events : List Event) (event : Event) (at : ℕ) (answer : Option Verdict) (old new : People) (before after : Option Recorder) → setup.parrot ≡ is_some before → is_some after ≡ is_some before →
    ((r s : Recorder) → before ≡ Some r → after ≡ Some s → s.parrot ≡ recording_then (leaver old.seats event.body) at event.body answer (option_map (with_given at) (turned at old.floor r.parrot))) →
    EachStepped setup events event at answer old new before → recording_in after ≡ recorded setup (events ++ event ∷ [])
recorded_end later here strangers setup events event at answer old new None None parrot stays is each =
    let longer : List Event = events ++ event ∷ [] in
    ap (λ b. cond b (recording_at setup (acts_of longer) (length longer)) None) (sym parrot)
recorded_end later here strangers setup events event at answer old new None (Some s) parrot stays is each = cc
recorded_end later here strangers setup events event at answer old new (Some r) None parrot stays is each = cc
recorded_end later here strangers setup events event at answer old new (Some r) (Some s) parrot stays is each =
    let longer : List Event = events ++ event ∷ [] in
    is r s refl refl
    ∙ parrot_recording later here strangers setup events event at answer old new r.parrot (each r refl)
    ∙ ap (λ b. cond b (recording_at setup (acts_of longer) (length longer)) None) (sym parrot)
