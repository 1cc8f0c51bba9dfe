-- Acts in turn, and one act more.
use Rattle.std.proofs.Common.{◌≡◌, ℕ, List, [], ◌∷◌, ◌++◌, ◌⊎◌, inl, inr, refl, ap, subst}
use Rattle.std.proofs.lemmas.List.Elements.{Contains-append_left, Contains-push}
use Rattle.m17_values.specs.declared.member.Member.{Member}
use Rattle.m17_control.specs.declared.event.Why.{Why}
use Rattle.m17_control.specs.declared.item.Item.{Item}
use Rattle.m17_control.specs.declared.item.Said.TheVariants.{Bye}
use Rattle.m17_sender.specs.Acts.{Act}
use Rattle.m17_sender.specs.Turns.{HasBye, MayFollow, Turns}

-- a place in a list with one more behind it: the last, or one in the list
pub at_snoc : {T : Type 0} (xs front rest : List T) (y x : T) → xs ++ y ∷ [] ≡ front ++ x ∷ rest → ((xs ≡ front) × (y ≡ x)) ⊎ ((back : List T) × (xs ≡ front ++ x ∷ back))
at_snoc [] [] rest y x e = inl (let same : y ≡ x = cc in (refl, same))
at_snoc [] (f ∷ []) rest y x e = absurd (let no : [] ≡ x ∷ rest = cc in cc)
at_snoc [] (f ∷ g ∷ front) rest y x e = absurd (let no : [] ≡ g ∷ (front ++ x ∷ rest) = cc in cc)
at_snoc (z ∷ xs) [] rest y x e = inr (let same : z ≡ x = cc in (xs, ap (λ w. w ∷ xs) same))
at_snoc (z ∷ xs) (f ∷ front) rest y x e =
    let same : z ≡ f = cc in
    let below : xs ++ y ∷ [] ≡ front ++ x ∷ rest = cc in
    elim (at_snoc xs front rest y x below) [
      | inl h ↦ inl (let at : z ∷ xs ≡ f ∷ front = cc in (at, h.1))
      | inr h ↦ inr (let at : z ∷ xs ≡ f ∷ (front ++ x ∷ h.0) = cc in (h.0, at))
    ]

pub never : {T : Type 0} (front rest : List T) (x : T) → [] ≡ front ++ x ∷ rest → ⊥
never [] rest x e = cc
never (f ∷ front) rest x e = cc

pub none_in_turn : Turns []
none_in_turn = record { each = λ front rest act e. absurd (never front rest act e) }

pub one_more_in_turn : (acts : List Act) (act : Act) → Turns acts → MayFollow acts act → Turns (acts ++ act ∷ [])
one_more_in_turn acts act turns may = record {
  each = λ front rest x e. elim (at_snoc acts front rest act x e) [
    | inl h ↦ subst (λ f. MayFollow f x) h.0 (subst (λ a. MayFollow acts a) h.1 may)
    | inr h ↦ turns.each front h.0 x h.1
  ];
}

pub bye_still : (acts more : List Act) (link : ℕ) (k : Member) → HasBye acts link k → HasBye (acts ++ more) link k
bye_still acts more link k bye = record {
  m = bye.m;
  q = bye.q;
  item = bye.item;
  why = bye.why;
  was_said = Contains-append_left acts more (Act.Says bye.m bye.q bye.item) bye.was_said;
  its_member = bye.its_member;
  its_link = bye.its_link;
  its_body = bye.its_body;
}

pub bye_said : (acts : List Act) (m q : ℕ) (item : Item) (why : Why) → item.body ≡ Bye why → HasBye (acts ++ Act.Says m q item ∷ []) item.link item.member
bye_said acts m q item why e = record {
  m = m;
  q = q;
  item = item;
  why = why;
  was_said = Contains-push acts (Act.Says m q item);
  its_member = refl;
  its_link = refl;
  its_body = e;
}
