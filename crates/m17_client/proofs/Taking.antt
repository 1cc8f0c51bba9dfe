-- What becomes of a packet that was kept.
use Rattle.std.proofs.Common.{◌≡◌, ℕ, zero, suc, ◌<◌, true, false, List, [], ◌∷◌, ◌++◌, length, get_or, take, refl, sym, ap, ◌∙◌, subst, arith, ◌≤◌, Option, Some, option_map}
use Rattle.std.specs.List.{flat_map}
use Rattle.std.proofs.lemmas.List.{append-nil}
use Rattle.m17_stream.specs.declared.packet.StreamPacket.{StreamPacket}
use Rattle.m17_client.specs.declared.state.Action.{Action}
use Rattle.m17_client.specs.declared.state.Action.TheVariants.{Say, Keep}
use Rattle.m17_client.specs.declared.state.Input.TheVariants.{Send}
use Rattle.m17_client.specs.Client.{IsClientStep}
use Rattle.m17_client.specs.Steps.{ClientStep}
use Rattle.m17_client.specs.TalkDevices.{said_by}
use Rattle.m17_client.specs.Way.{kept_in}
use Rattle.m17_client.specs.declared.side.Side.{Side}
use Rattle.m17_client.specs.declared.side.Cross.{Cross}
use Rattle.m17_client.specs.Sides.{of, opposite}
use Rattle.m17_client.specs.Passing.{Kept, Passes}
use Rattle.m17_client.specs.BridgeSteps.{said_on}
use Rattle.m17_client.specs.StandsFor.{BridgeState, crossing_of}
use Rattle.m17_client.specs.OneStep.{IsTaken, OnlySteps, counts}
use Rattle.m17_client.proofs.Picked.{opposite_twice}

-- it passes: it is noted, and the other client sends it
pub passes_on : (kept : Kept) (before : Option Kept) (old noted new : BridgeState) (out later : List Cross)
    (step : ClientStep) → Passes before kept → noted.latest ≡ Some (crossing_of kept)
    → ((s : Side) → of s noted.passed ≡ counts true kept.side old s) → noted.clients ≡ old.clients
    → noted.moment ≡ old.moment → step.input ≡ Send kept.packet
    → IsClientStep (of (opposite kept.side) noted.clients) step.input step.actions step.after
    → of (opposite kept.side) new.clients ≡ step.after
    → said_on (opposite kept.side) later
    ≡ said_on (opposite kept.side) out ++ flat_map said_by step.actions
    → OnlySteps (opposite kept.side) noted new
    → said_on (opposite (opposite kept.side)) later ≡ said_on (opposite (opposite kept.side)) out
    → IsTaken kept before old out new later
passes_on kept before old noted new out later step passes latest passed clients moment input by_client after says only other =
    record {
      passes = true;
      others = step ∷ [];
      rule = (λ e. passes, λ p. refl);
      sends = ap (λ i. i ∷ []) input;
      run = (
        subst (λ p. IsClientStep (of (opposite kept.side) p) step.input step.actions step.after) clients by_client,
        tt,
      );
      other = after;
      own = subst (λ s. of s new.clients ≡ of s noted.clients) (opposite_twice kept.side) only.other
          ∙ ap (of kept.side) clients;
      moment = only.moment ∙ moment;
      latest = only.latest ∙ latest;
      passed = λ s. ap (of s) only.passed ∙ passed s;
      said_own = subst (λ s. said_on s later ≡ said_on s out) (opposite_twice kept.side) other;
      said_other = says ∙ ap (λ l. said_on (opposite kept.side) out ++ l)
          (sym (append-nil (flat_map said_by step.actions)));
    }

-- it doesn't pass, and nothing is done
pub passes_not : (kept : Kept) (before : Option Kept) (old : BridgeState) (out : List Cross)
    → (Passes before kept → ⊥) → old.latest ≡ option_map crossing_of before → IsTaken kept before old out old out
passes_not kept before old out not latest = record {
  passes = false;
  others = [];
  rule = (λ e. absurd (cc), λ p. absurd (not p));
  sends = refl;
  run = tt;
  other = refl;
  own = refl;
  moment = refl;
  latest = latest;
  passed = λ s. refl;
  said_own = refl;
  said_other = sym (append-nil (said_on (opposite kept.side) out));
}

-- of packets of which there is one at most, the first is the only one
pub only_one : (packets rest : List StreamPacket) (packet : StreamPacket) → packets ≡ packet ∷ rest
    → length packets ≤ 1 → packets ≡ packet ∷ []
only_one packets [] packet e few = e
only_one packets (x ∷ xs) packet e few = let long = ap length e in absurd (omega arith)

-- the first packet that is kept, behind actions that keep none
pub first_kept : (actions : List Action) (i : ℕ) (item : Action) (packet : StreamPacket) → i < length actions
    → item ≡ get_or actions i item → item ≡ Keep packet → flat_map kept_in (take i actions) ≡ []
    → (rest : List StreamPacket) × (flat_map kept_in actions ≡ packet ∷ rest)
first_kept [] i item packet lt is keep none = absurd (omega arith)
first_kept (a ∷ more) zero item packet lt is keep none =
    (flat_map kept_in more, ap (λ x. kept_in x ++ flat_map kept_in more) (sym is ∙ keep))
first_kept (Say bytes ∷ more) (suc i) item packet lt is keep none =
    first_kept more i item packet (omega arith) is keep none
first_kept (Keep kept ∷ more) (suc i) item packet lt is keep none = absurd (cc)
