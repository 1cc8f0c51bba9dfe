-- Ends that are taken back, pair by pair, the last first.
use Rattle.std.proofs.Common.{◌≡◌, List, [], ◌∷◌, ◌++◌, map, length, reverse, refl, sym, ap, ◌∙◌, subst, arith, append_assoc, append-nil, length-append}
use Rattle.std.specs.List.{AllZip}
use Rattle.std.proofs.lemmas.List.{reverse-append, same_from_push}
use Rattle.m17_lists.proofs.Pairs.{last_stands_beside_last}
use Rattle.m17_board.specs.declared.glance.Glance.{Glance}
use Rattle.m17_board.specs.Glance.{glance_of}
use Rattle.m17_board.specs.Ends.{PostEnd, EyeEnd, IsPair, SawFirstParts}

nothing_there : {A : Type 0} (xs : List A) (x : A) → [] ≡ xs ++ x ∷ [] → ⊥
nothing_there xs x e = let n = ap length e ∙ length-append xs (x ∷ []) in omega arith

pub some_left : (left rest : List PostEnd) (p : PostEnd) (eyes : List EyeEnd) → left ≡ rest ++ p ∷ [] → AllZip IsPair left eyes → eyes ≡ [] → ⊥
some_left left rest p eyes is h none =
    let t = last_stands_beside_last IsPair rest p eyes (subst (λ (l : List PostEnd). AllZip IsPair l eyes) is h) in
    nothing_there t.0 t.1 (sym none ∙ t.2)

pub last_pair : (left rest : List PostEnd) (p : PostEnd) (eyes others : List EyeEnd) (e : EyeEnd) → left ≡ rest ++ p ∷ [] → eyes ≡ others ++ e ∷ [] → AllZip IsPair left eyes
    → AllZip IsPair rest others × IsPair p e
last_pair left rest p eyes others e is here h =
    let t = last_stands_beside_last IsPair rest p eyes (subst (λ (l : List PostEnd). AllZip IsPair l eyes) is h) in
    let same = same_from_push t.0 others t.1 e (sym t.2 ∙ here) in
    (subst (λ (l : List EyeEnd). AllZip IsPair rest l) same.0 t.3, subst (IsPair p) same.1 t.4)

-- so far the ends behind those that are left are taken back
pub record Closed (allp leftp : List PostEnd) (alle lefte : List EyeEnd) (into : List Glance) : Type 0 where
  pub donep : List PostEnd
  pub donee : List EyeEnd
  pub posters : allp ≡ leftp ++ donep
  pub eyes : alle ≡ lefte ++ donee
  pub left : AllZip IsPair leftp lefte
  pub glances : reverse into ≡ map (λ p. glance_of p.posted) donep
  pub saw : AllZip SawFirstParts donep donee

pub closed_none : (allp : List PostEnd) (alle : List EyeEnd) (into : List Glance) → AllZip IsPair allp alle → into ≡ [] → Closed allp allp alle alle into
closed_none allp alle into h none = record {
  donep = [];
  donee = [];
  posters = sym (append-nil allp);
  eyes = sym (append-nil alle);
  left = h;
  glances = ap reverse none;
  saw = tt;
}

pub closed_more : (allp leftp rest : List PostEnd) (p : PostEnd) (alle lefte others : List EyeEnd) (e : EyeEnd) (into more : List Glance) (g : Glance)
    → Closed allp leftp alle lefte into → leftp ≡ rest ++ p ∷ [] → lefte ≡ others ++ e ∷ [] → more ≡ into ++ g ∷ [] → g ≡ glance_of p.posted → SawFirstParts p e
    → Closed allp rest alle others more
closed_more allp leftp rest p alle lefte others e into more g h is here came shown saw = record {
  donep = p ∷ h.donep;
  donee = e ∷ h.donee;
  posters = h.posters ∙ ap (λ (l : List PostEnd). l ++ h.donep) is ∙ append_assoc rest (p ∷ []) h.donep;
  eyes = h.eyes ∙ ap (λ (l : List EyeEnd). l ++ h.donee) here ∙ append_assoc others (e ∷ []) h.donee;
  left = (last_pair leftp rest p lefte others e is here h.left).0;
  glances = ap reverse came ∙ reverse-append into (g ∷ []) ∙ (λ i. shown i ∷ h.glances i);
  saw = (saw, h.saw);
}

no_eyes : (eyes : List EyeEnd) → AllZip IsPair [] eyes → eyes ≡ []
no_eyes [] h = refl
no_eyes (e ∷ es) h = absurd h

pub closed_glances : (allp leftp : List PostEnd) (alle lefte : List EyeEnd) (into : List Glance) → Closed allp leftp alle lefte into → leftp ≡ []
    → reverse into ≡ map (λ p. glance_of p.posted) allp
closed_glances allp leftp alle lefte into h none =
    h.glances ∙ ap (map (λ (p : PostEnd). glance_of p.posted)) (sym (h.posters ∙ ap (λ (l : List PostEnd). l ++ h.donep) none))

pub closed_saw : (allp leftp : List PostEnd) (alle lefte : List EyeEnd) (into : List Glance) → Closed allp leftp alle lefte into → leftp ≡ [] → AllZip SawFirstParts allp alle
closed_saw allp leftp alle lefte into h none =
    let gone = no_eyes lefte (subst (λ (l : List PostEnd). AllZip IsPair l lefte) none h.left) in
    let samep : h.donep ≡ allp = sym (h.posters ∙ ap (λ (l : List PostEnd). l ++ h.donep) none) in
    let samee : h.donee ≡ alle = sym (h.eyes ∙ ap (λ (l : List EyeEnd). l ++ h.donee) gone) in
    subst (λ (l : List PostEnd). AllZip SawFirstParts l alle) samep (subst (λ (l : List EyeEnd). AllZip SawFirstParts h.donep l) samee h.saw)
