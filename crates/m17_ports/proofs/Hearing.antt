-- What an ear has heard of one list of entries and then of another.
use Rattle.std.proofs.Common.{◌≡◌, ◌≢◌, ◌≤◌, inl, inr, zero, suc, List, [], ◌∷◌, ◌++◌, Contains, refl, sym, ap, subst, ◌∙◌, arith}
use Rattle.std.specs.List.{All}
use Rattle.std.proofs.lemmas.List.Elements.{Contains-append_left, Contains-append_right, Contains-append_cases}
use Rattle.m17_lists.proofs.Contents.{nothing_is_in_none}
use Rattle.m17_values.specs.declared.heard.Heard.{Heard}
use Rattle.m17_values.specs.declared.heard.Heard.TheVariants.{End, Fault}
use Rattle.m17_io.specs.Faults.{HasRisen}
use Rattle.m17_ports.specs.Told.{told_then}
use Rattle.m17_ports.specs.Ear.{EarTold, EndsPastCount, HasHeard}
use Rattle.m17_ports.proofs.Telling.{ears-tell-on, told-in-turn, nothing-more}

alone : {A : Type 0} (y x : A) (h : Contains (y ∷ []) x) → y ≡ x
alone y x (zero, lt, e) = e
alone y x (suc n, lt, e) = absurd (omega (arith, lt))

pub hear-nothing : {L : Type 0} (ear : EarTold L) → HasHeard ear [] ear
hear-nothing ear = record {
  told = λ below. sym (nothing-more ear.heard);
  counted = omega arith;
  fault = λ there. absurd (nothing_is_in_none Fault there);
  no_fault = λ none. refl;
  same_device = refl;
}

pub hear-one : {L : Type 0} (before after : EarTold L) (entry : Heard)
    → before.faults ≤ after.faults → (entry ≡ Fault → HasRisen before.faults after.faults)
    → (entry ≢ Fault → after.faults ≡ before.faults)
    → ((EndsPastCount before.heard → ⊥) → after.heard ≡ told_then before.heard (entry ∷ []))
    → after.device ≡ before.device → HasHeard before (entry ∷ []) after
hear-one before after entry counted fault no_fault appended same = record {
  told = appended;
  counted = counted;
  fault = λ there. fault (alone entry Fault there);
  no_fault = λ none. no_fault (λ e. none (0, omega arith, e));
  same_device = same;
}

pub hear-in-turn : {L : Type 0} (a b c : EarTold L) (first second : List Heard)
    → All (λ entry. entry ≢ End) first
    → HasHeard a first b → HasHeard b second c → HasHeard a (first ++ second) c
hear-in-turn a b c first second none h k = record {
  told = λ below.
      let was = h.told below in
      k.told (λ past. ears-tell-on a.heard first below none (subst EndsPastCount was past))
      ∙ ap (λ t. told_then t second) was ∙ told-in-turn a.heard first second;
  counted = omega (arith, h.counted, k.counted);
  fault = λ there. elim (Contains-append_cases first second Fault there) [
    | inl early ↦ (let risen = h.fault early in omega (arith, risen, k.counted))
    | inr late ↦ (let risen = k.fault late in omega (arith, risen, h.counted))
  ];
  no_fault = λ nowhere. k.no_fault (λ late. nowhere (Contains-append_right first second Fault late))
      ∙ h.no_fault (λ early. nowhere (Contains-append_left first second Fault early));
  same_device = k.same_device ∙ h.same_device;
}
