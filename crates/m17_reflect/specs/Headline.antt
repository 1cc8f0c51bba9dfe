-- The headline: what every run of the reflector that returns comes to, under every interleaving of
-- its threads. Each module has one trail that holds every event that its links route to it, each
-- once; a stream packet is admitted exactly where the floor rule of that trail says so; and each
-- member is sent the others' admitted packets between its join and its leave, in order, each once,
-- except counted ones that met a full queue.
use Rattle.std.specs.Prelude.{◌≡◌, ◌↔◌, ℕ, IsTrue, List, length, map, All}
use Rattle.m17_values.specs.declared.heard.Heard.{Heard}
use Rattle.m17_ports.specs.Ear.{EarTold}
use Rattle.m17_receiver.specs.Devices.{IsCounted, HearsToTheEnd}
use Rattle.m17_reflect.specs.Links.{Link, IsLink, At, link_setup}
use Rattle.m17_reflect.specs.Run.{Run}
use Rattle.m17_reflect.specs.Trails.{AreTrails}
use Rattle.m17_reflect.specs.Judged.{IsJudged}
use Rattle.m17_reflect.specs.Places.{AreClaims, ArePlacesBack}
use Rattle.m17_reflect.specs.Queues.{QueuesCarry}
use Rattle.m17_reflect.specs.Sendings.{MouthsSay}
use Rattle.m17_reflect.specs.Patience.{PlacesAreFull, SomeLost, HasCauses}

-- Each ear heard its list, and is the same ear.
pub record EarsHeard {E M B : Type 0} (run : Run E M B) (heard : List (List Heard)) : Type 0 where
  pub count : length heard ≡ length run.before.ears
  pub same_count : length run.after.ears ≡ length run.before.ears
  pub each : (i : ℕ) (entries : List Heard) (before after : EarTold E) → At heard i entries →
      At run.before.ears i before → At run.after.ears i after →
      HearsToTheEnd before entries after

-- What became of all that was heard: the links, each ended once, by its last entry; one trail for
-- each module; what was decided and written; the places; what each queue carries and each mouth
-- says; who found no place; and whether a link was lost.
pub record IsCarriedOut {E M B : Type 0} (run : Run E M B) (heard : List (List Heard)) : Type 0 where
  pub links : List Link
  pub of_heard : map (λ (link : Link). link.heard) links ≡ heard
  pub each : All IsLink links
  pub claims : (i : ℕ) (link : Link) → At links i link →
      AreClaims (link_setup run.plan i) link.entries
  pub trails : AreTrails run.plan links run.handed.trails
  pub judged : IsJudged run links
  pub places : ArePlacesBack run.plan.places run.handed.trails run.handed.roll
  pub queues : QueuesCarry run
  pub mouths : MouthsSay run links
  pub full : PlacesAreFull run links
  pub lost : IsTrue run.handed.lost ↔ SomeLost links

-- The headline: what each ear heard, fewer than 2^64 entries, and what became of it.
pub record Headline {E M B : Type 0} (run : Run E M B) : Type 0 where
  pub heard : List (List Heard)
  pub ears : EarsHeard run heard
  pub causes : HasCauses run
  pub counted : All IsCounted heard
  pub carried_out : IsCarriedOut run heard
