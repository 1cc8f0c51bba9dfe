-- A run over one link of a list with an end: what its ear heard is a beginning of the list.
use Rattle.std.proofs.Common.{◌≡◌, ℕ, true, List, [], ◌∷◌, ◌++◌, map, length, drop, replicate, Option, Some, inl, inr, sym, subst, refl, ap, ◌∙◌, append_assoc}
use Rattle.std.specs.Prelude.{slice_get}
use Rattle.std.proofs.lemmas.List.{append-nil, take-append-drop}
use Rattle.std.proofs.lemmas.Option.{same_Some}
use Rattle.m17_values.specs.declared.heard.Heard.{Heard}
use Rattle.m17_values.specs.declared.heard.Heard.TheVariants.{End}
use Rattle.m17_ports.specs.Ear.{EarTold, FollowsScript}
use Rattle.m17_ports.specs.Told.{told_then}
use Rattle.m17_port_memory.specs.Script.{heard_of, heard_of-follows}
use Rattle.m17_reflect.specs.Headline.{IsCarriedOut, Headline}
use Rattle.m17_reflect.specs.Links.{Link}
use Rattle.m17_reflect.specs.Run.{Run}
use Rattle.m17_replay.specs.Ending.{HasAnEnd}
use Rattle.m17_replay.proofs.Lists.{one_of}

-- A patient run over one ear with a script, with a cell on each tape for each entry of the script.
pub record IsAlone {E M B : Type 0} (run : Run E M B) (script : List Heard) : Type 0 where
  pub patient : run.plan.patient ≡ true
  pub ends : HasAnEnd script
  pub cells : run.plan.entries ≡ length script
  pub was : EarTold E
  pub before : run.before.ears ≡ was ∷ []
  pub nothing : was.heard ≡ Some []
  pub is : EarTold E
  pub after : run.after.ears ≡ is ∷ []
  pub calls : ℕ
  pub told : is.heard ≡ Some (heard_of script calls)

-- What came of it: one link, which heard a beginning of the script.
pub record HasRun {E M B : Type 0} (run : Run E M B) (script : List Heard) : Type 0 where
  pub link : Link
  pub rest : List Heard
  pub whole : script ≡ link.heard ++ rest
  pub heard : List (List Heard)
  pub carried : IsCarriedOut run heard
  pub links_are : carried.links ≡ link ∷ []

nil_right : {A : Type 0} (xs ys : List A) → xs ++ ys ≡ [] → ys ≡ []
nil_right [] ys e = e
nil_right (x ∷ xs) ys e = absurd cc

-- what follows the script, and nothing behind an End
begins : (script heard : List Heard) → HasAnEnd script → ((front rest : List Heard) → heard ≡ front ++ End ∷ rest → rest ≡ []) → FollowsScript script heard → (rest : List Heard) × (script ≡ heard ++ rest)
begins script heard ends no_more (inl front) =
    (drop front.0 script, sym (take-append-drop front.0 script) ∙ ap (λ (l : List Heard). l ++ drop front.0 script) (sym front.1))
begins script heard ends no_more (inr more) =
    let tail : List Heard = replicate more.0 End in
    let whole : heard ≡ ends.0 ++ End ∷ (ends.1 ++ tail) =
    more.1 ∙ ap (λ (l : List Heard). l ++ tail) ends.2 ∙ append_assoc ends.0 (End ∷ ends.1) tail in
    let none : tail ≡ [] = nil_right ends.1 tail (no_more ends.0 (ends.1 ++ tail) whole) in
    ([], sym (append-nil heard ∙ more.1 ∙ ap (λ (l : List Heard). script ++ l) none ∙ append-nil script))

one_link : (links : List Link) (heard : List Heard) → map (λ (link : Link). link.heard) links ≡ heard ∷ [] → (link : Link) × (links ≡ link ∷ []) × (link.heard ≡ heard)
one_link [] heard e = absurd cc
one_link (link ∷ []) heard e = (link, refl, cc)
one_link (link ∷ other ∷ links) heard e = absurd cc

pub has_run : {E M B : Type 0} (run : Run E M B) (script : List Heard) → Headline run → IsAlone run script → HasRun run script
has_run run script h alone =
    let (heard, only) = one_of h.heard (h.ears.count ∙ ap length alone.before) in
    let ear = h.ears.each 0 heard alone.was alone.is (ap (λ l. slice_get l 0) only) (ap (λ l. slice_get l 0) alone.before) (ap (λ l. slice_get l 0) alone.after) in
    let is : heard ≡ heard_of script alone.calls =
    same_Some heard (heard_of script alone.calls) (sym (ear.told ∙ ap (λ (o : Option (List Heard)). told_then o heard) alone.nothing) ∙ alone.told) in
    let (rest, whole) = begins script heard alone.ends ear.no_more (subst (FollowsScript script) (sym is) (heard_of-follows script alone.calls)) in
    let carried = h.carried_out in
    let (link, links_are, its) = one_link carried.links heard (carried.of_heard ∙ only) in record {
      link = link;
      rest = rest;
      whole = whole ∙ ap (λ (l : List Heard). l ++ rest) (sym its);
      heard = h.heard;
      carried = carried;
      links_are = links_are;
    }
