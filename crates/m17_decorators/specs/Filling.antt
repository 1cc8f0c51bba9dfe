-- What an ear that fills in CRCs tells.
use Rattle.std.specs.Prelude.{◌≡◌, ℕ, Bool, true, false, List, replicate, Option, None, Some, option_map}
use Rattle.std.proofs.Common.{zero, suc, ◌∷◌, ◌++◌, refl, sym, ap, subst, ◌∙◌, inl, inr}
use Rattle.std.proofs.lemmas.List.{map-append, take-map}
use Rattle.m17_values.specs.declared.heard.Heard.{Heard}
use Rattle.m17_values.specs.declared.heard.Heard.TheVariants.{End}
use Rattle.m17_ports.specs.Ear.{EarTold, FollowsScript}
use Rattle.m17_ports.specs.Marks.{EarMark, script_of}
use Rattle.m17_ports.specs.Untold.{follows_none, nothing_told}
use Rattle.m17_decorators.specs.declared.filling.FillLabel.{FillLabel}
use Rattle.m17_decorators.specs.Filled.{filled_all, filled_entry}

-- An ear that may fill in CRCs: the one behind it, and whether it fills in.
pub record FillingSeen (E : Type 0) : Type 0 where
  pub inner : E
  pub fills : Bool

-- the inner ear's mark, with its script filled in
abbrev pub filled_mark : Bool → Option EarMark → Option EarMark
filled_mark fills None = None
filled_mark fills (Some mark) =
    Some (record { number = mark.number; script = option_map (filled_all fills) mark.script })

-- What an ear that may fill in CRCs tells: what the inner one does, filled in, and the inner one's
-- faults. Its label says whether it fills in, and which ear is behind it.
abbrev pub fill_told : {E L : Type 0} → (E → EarTold L) → FillingSeen E → EarTold (FillLabel L)
fill_told told ear = record {
  heard = option_map (filled_all ear.fills) (told ear.inner).heard;
  faults = (told ear.inner).faults;
  device = record {
    mark = filled_mark ear.fills (told ear.inner).device.mark;
    label = record { fills = ear.fills; inner = (told ear.inner).device.label };
  };
}

-- Such an ear follows the script of the ear behind it, filled in. For proofs alone.
option_value : {A : Type 0} (x y : A) → Some x ≡ Some y → x ≡ y
option_value x y e = cc

end_stays : (fills : Bool) → filled_entry fills End ≡ End
end_stays true = refl
end_stays false = refl

pub filled-ends : (fills : Bool) (n : ℕ)
    → filled_all fills (replicate n End) ≡ replicate n End
filled-ends fills zero = refl
filled-ends fills (suc n) =
    ap (λ (entry : Heard). entry ∷ filled_all fills (replicate n End)) (end_stays fills)
    ∙ ap (λ (rest : List Heard). End ∷ rest) (filled-ends fills n)

filled-script : (fills : Bool) (script entries : List Heard) → FollowsScript script entries
    → FollowsScript (filled_all fills script) (filled_all fills entries)
filled-script fills script entries (inl front) = inl (
  front.0,
  ap (filled_all fills) front.1 ∙ sym (take-map (filled_entry fills) front.0 script),
)
filled-script fills script entries (inr ends) = inr (
  ends.0,
  ap (filled_all fills) ends.1
      ∙ map-append (filled_entry fills) script (replicate ends.0 End)
      ∙ ap (λ (rest : List Heard). filled_all fills script ++ rest) (filled-ends fills ends.0),
)

filled-follows : (fills : Bool) (own told : Option (List Heard))
    → ((script entries : List Heard) → own ≡ Some script → told ≡ Some entries
    → FollowsScript script entries)
    → (script entries : List Heard) → option_map (filled_all fills) own ≡ Some script
    → option_map (filled_all fills) told ≡ Some entries → FollowsScript script entries
filled-follows fills None told follows script entries is said = follows_none script entries is
filled-follows fills (Some own) None follows script entries is said = absurd
    (nothing_told entries said)
filled-follows fills (Some own) (Some told) follows script entries is said =
    subst (λ (s : List Heard). FollowsScript s entries)
    (option_value (filled_all fills own) script is)
    (subst (λ (e : List Heard). FollowsScript (filled_all fills own) e)
    (option_value (filled_all fills told) entries said)
    (filled-script fills own told (follows own told refl refl)))

pub fill-follows : (fills : Bool) (mark : Option EarMark) (told : Option (List Heard))
    → ((script entries : List Heard) → script_of mark ≡ Some script → told ≡ Some entries
    → FollowsScript script entries)
    → (script entries : List Heard) → script_of (filled_mark fills mark) ≡ Some script
    → option_map (filled_all fills) told ≡ Some entries → FollowsScript script entries
fill-follows fills None told follows script entries is said = follows_none script entries is
fill-follows fills (Some mark) told follows script entries is said =
    filled-follows fills mark.script told follows script entries is said
