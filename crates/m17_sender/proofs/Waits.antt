-- A Hello stands behind the Byes of the members that it waits for.
use Rattle.std.proofs.Common.{◌≡◌, ◌==◌, ℕ, ◌≤◌, Bool, true, false, cond, List, [], ◌∷◌, ◌++◌, inl, inr, refl, ap, sym, ◌∙◌, subst, length, take, drop, Contains}
use Rattle.std.proofs.lemmas.Bool.{eqb-true}
use Rattle.std.proofs.lemmas.List.{append-nil, append_assoc, take-append-le, take-append-drop}
use Rattle.std.proofs.lemmas.List.Concat.{flat_map-append}
use Rattle.std.proofs.lemmas.List.Elements.{Contains-append_left}
use Rattle.m17_values.specs.declared.member.Member.{Member}
use Rattle.m17_control.specs.declared.item.Item.{Item}
use Rattle.m17_control.specs.declared.item.Said.TheVariants.{Hello}
use Rattle.m17_sender.specs.Acts.{Act, note_of, notes_of}
use Rattle.m17_sender.specs.Turns.{HasBye, Turns}
use Rattle.m17_sender.proofs.Grown.{bye_still}
use Rattle.m17_sender.proofs.Splits.{MakesOne, one_if, Found, found_in, append_split, contains_split}

one_note : (link : ℕ) → MakesOne (note_of link)
one_note link (Act.Says m q item) = inl refl
one_note link (Act.Answers direct) = inl refl
one_note link (Act.Notes l member) = one_if (link == l) member

note_cond : (link l : ℕ) (member k : Member) (b : Bool) → (link == l) ≡ b → cond b (member ∷ []) [] ≡ k ∷ [] → Act.Notes l member ≡ Act.Notes link k
note_cond link l member k true is e =
    let same : member ≡ k = cc in
    let at : link ≡ l = eqb-true link l is in cc
note_cond link l member k false is e = absurd (let no : [] ≡ k ∷ [] = e in cc)

note_is : (link : ℕ) (act : Act) (k : Member) → note_of link act ≡ k ∷ [] → act ≡ Act.Notes link k
note_is link (Act.Says m q item) k e = absurd (let no : [] ≡ k ∷ [] = e in cc)
note_is link (Act.Answers direct) k e = absurd (let no : [] ≡ k ∷ [] = e in cc)
note_is link (Act.Notes l member) k e = note_cond link l member k (link == l) refl e

-- a member that was noted has its Bye before
noted : (acts front rest : List Act) (link : ℕ) (k : Member) → Turns acts → acts ≡ front ++ rest → Contains (notes_of link front) k → HasBye front link k
noted acts front rest link k turns e h =
    let s = contains_split (notes_of link front) k h in
    let f : Found (note_of link) front s.0 k = found_in (note_of link) (one_note link) front s.0 s.1 k s.2 in
    let note : f.it ≡ Act.Notes link k = note_is link f.it k f.it_is in
    let whole : acts ≡ f.before ++ Act.Notes link k ∷ (f.behind ++ rest) =
    e ∙ ap (λ ws. ws ++ rest) f.xs_are ∙ append_assoc f.before (f.it ∷ f.behind) rest ∙ ap (λ (w : Act). f.before ++ w ∷ (f.behind ++ rest)) note in
    let bye : HasBye f.before link k = turns.each f.before (f.behind ++ rest) (Act.Notes link k) whole in
    subst (λ ws. HasBye ws link k) (sym f.xs_are) (bye_still f.before (f.it ∷ f.behind) link k bye)

contains_taken : {X : Type 0} (n : ℕ) (xs : List X) (x : X) → Contains (take n xs) x → Contains xs x
contains_taken n xs x h = subst (λ ws. Contains ws x) (take-append-drop n xs) (Contains-append_left (take n xs) (drop n xs) x h)

pub hello_waits : (acts more front rest : List Act) (m q : ℕ) (z : Item) (after : ℕ) (k : Member) → Turns acts → acts ++ more ≡ front ++ Act.Says m q z ∷ rest → z.body ≡ Hello after → Contains (take after (notes_of z.link acts)) k → HasBye front z.link k
hello_waits acts more front rest m q z after k turns e hello h =
    elim (append_split acts more front rest (Act.Says m q z) e) [
      | inl s ↦
          let enough : after ≤ length (notes_of z.link front) = turns.each front s.0 (Act.Says m q z) s.1 after hello in
          let all : notes_of z.link acts ≡ notes_of z.link front ++ notes_of z.link (Act.Says m q z ∷ s.0) =
          ap (notes_of z.link) s.1 ∙ flat_map-append (note_of z.link) front (Act.Says m q z ∷ s.0) in
          let first : take after (notes_of z.link acts) ≡ take after (notes_of z.link front) =
          ap (take after) all ∙ take-append-le after (notes_of z.link front) (notes_of z.link (Act.Says m q z ∷ s.0)) enough in
          noted acts front (Act.Says m q z ∷ s.0) z.link k turns s.1
          (contains_taken after (notes_of z.link front) k (subst (λ ws. Contains ws k) first h))
      | inr s ↦
          subst (λ ws. HasBye ws z.link k) (sym s.1)
          (bye_still acts s.0 z.link k
          (noted acts acts [] z.link k turns (sym (append-nil acts)) (contains_taken after (notes_of z.link acts) k h)))
    ]
