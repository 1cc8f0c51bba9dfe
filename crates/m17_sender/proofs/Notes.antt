-- The notes that follow an item that was said: one for a Bye, and none for anything else.
use Rattle.std.proofs.Common.{◌≡◌, ◌≢◌, inl, inr, ℕ, cond, List, [], ◌∷◌, ◌++◌, map, refl, sym, ap, subst, ◌∙◌, eq-eqb, ne_eqb}
use Rattle.std.proofs.lemmas.Bool.Decides.{eqb_tells}
use Rattle.std.proofs.lemmas.List.{append-nil, append_assoc}
use Rattle.std.proofs.lemmas.Grind.{flat_map-append}
use Rattle.m17_values.specs.declared.member.Member.{Member}
use Rattle.m17_control.specs.declared.event.Why.{Why}
use Rattle.m17_control.specs.declared.item.Item.{Item}
use Rattle.m17_control.specs.declared.item.Direct.{Direct}
use Rattle.m17_control.specs.declared.item.Said.{Said}
use Rattle.m17_control.specs.declared.item.Said.TheVariants.{Hello, Frame, Echo, Reply, Bye}
use Rattle.m17_control.specs.declared.item.Said.TheVariants as said
use Rattle.m17_sender.specs.Acts.{Act, Saying, answer_of, answers_of, notes_of, note_of, saying_of, sayings, things_of, thing_of}
use Rattle.m17_sender.specs.Laws.{TurnsGrow}
use Rattle.m17_sender.specs.Turns.{MayFollow, Turns}
use Rattle.m17_sender.specs.Sent.{bye_of, bye_on, bye_to, byes_of}

-- the notes that go to a link
abbrev pub notes_to : ℕ → List Member → List Act
notes_to link members = map (λ k. Act.Notes link k) members

-- the acts of an item that is said
abbrev pub acts_of_item : ℕ → ℕ → Item → List Act
acts_of_item m q x = Act.Says m q x ∷ notes_to x.link (bye_to x.member x.body)

pub things_none : (a b link : ℕ) (ks : List Member) → things_of a b (notes_to link ks) ≡ []
things_none a b link [] = refl
things_none a b link (k ∷ ks) = things_none a b link ks

pub answers_none : (link : ℕ) (ks : List Member) → answers_of (notes_to link ks) ≡ []
answers_none link [] = refl
answers_none link (k ∷ ks) = answers_none link ks

pub byes_none : (i link : ℕ) (ks : List Member) → byes_of i (notes_to link ks) ≡ []
byes_none i link [] = refl
byes_none i link (k ∷ ks) = byes_none i link ks

pub sayings_none : (name i link : ℕ) (ks : List Member) → sayings name i (notes_to link ks) ≡ []
sayings_none name i link [] = refl
sayings_none name i link (k ∷ ks) = sayings_none name i link ks

notes_here : (i link : ℕ) (ks : List Member) → i ≡ link → notes_of i (notes_to link ks) ≡ ks
notes_here i link [] e = refl
notes_here i link (k ∷ ks) e =
    let rest = notes_here i link ks e in
    ap (λ b. cond b (k ∷ []) [] ++ notes_of i (notes_to link ks)) (eq-eqb i link e) ∙ ap (λ (l : List Member). k ∷ l) rest

notes_else : (i link : ℕ) (ks : List Member) → i ≢ link → notes_of i (notes_to link ks) ≡ []
notes_else i link [] ne = refl
notes_else i link (k ∷ ks) ne =
    ap (λ b. cond b (k ∷ []) [] ++ notes_of i (notes_to link ks)) (ne_eqb i link ne) ∙ notes_else i link ks ne

-- an item's notes are its Byes
pub notes_are_byes : (i : ℕ) (x : Item) → notes_of i (notes_to x.link (bye_to x.member x.body)) ≡ bye_on i x
notes_are_byes i x = elim (eqb_tells i x.link) [
  | inl is ↦ notes_here i x.link (bye_to x.member x.body) is.1
      ∙ sym (ap (λ b. cond b (bye_to x.member x.body) []) is.0)
  | inr isnt ↦ notes_else i x.link (bye_to x.member x.body) isnt.1
      ∙ sym (ap (λ b. cond b (bye_to x.member x.body) []) isnt.0)
]

pub notes_more : (i m q : ℕ) (x : Item) (acts : List Act)
    → notes_of i (acts ++ acts_of_item m q x) ≡ notes_of i acts ++ bye_on i x
notes_more i m q x acts =
    flat_map-append (note_of i) acts (acts_of_item m q x) ∙ ap (λ (l : List Member). notes_of i acts ++ l) (notes_are_byes i x)

pub byes_more : (i m q : ℕ) (x : Item) (acts : List Act)
    → byes_of i (acts ++ acts_of_item m q x) ≡ byes_of i acts ++ bye_on i x
byes_more i m q x acts =
    flat_map-append (bye_of i) acts (acts_of_item m q x)
    ∙ ap (λ (l : List Member). byes_of i acts ++ (bye_on i x ++ l)) (byes_none i x.link (bye_to x.member x.body))
    ∙ ap (λ (l : List Member). byes_of i acts ++ l) (append-nil (bye_on i x))

pub things_more : (a b m q : ℕ) (x : Item) (acts : List Act)
    → things_of a b (acts ++ acts_of_item m q x) ≡ things_of a b acts ++ thing_of a b (Act.Says m q x)
things_more a b m q x acts =
    flat_map-append (thing_of a b) acts (acts_of_item m q x)
    ∙ ap (λ (l : List Item). things_of a b acts ++ (thing_of a b (Act.Says m q x) ++ l))
    (things_none a b x.link (bye_to x.member x.body))
    ∙ ap (λ (l : List Item). things_of a b acts ++ l) (append-nil (thing_of a b (Act.Says m q x)))

pub answers_more : (m q : ℕ) (x : Item) (acts : List Act) → answers_of (acts ++ acts_of_item m q x) ≡ answers_of acts
answers_more m q x acts =
    flat_map-append answer_of acts (acts_of_item m q x)
    ∙ ap (λ (l : List Direct). answers_of acts ++ l) (answers_none x.link (bye_to x.member x.body))
    ∙ append-nil (answers_of acts)

pub sayings_more : (name i m q : ℕ) (x : Item) (acts : List Act)
    → sayings name i (acts ++ acts_of_item m q x) ≡ sayings name i acts ++ saying_of name i (Act.Says m q x)
sayings_more name i m q x acts =
    flat_map-append (saying_of name i) acts (acts_of_item m q x)
    ∙ ap (λ (l : List Saying). sayings name i acts ++ (saying_of name i (Act.Says m q x) ++ l))
    (sayings_none name i x.link (bye_to x.member x.body))
    ∙ ap (λ (l : List Saying). sayings name i acts ++ l) (append-nil (saying_of name i (Act.Says m q x)))

-- acts in turn go on with an item that may be said, and its note
turns_item_is : TurnsGrow → (acts : List Act) (m q : ℕ) (x : Item) (body : Said) → x.body ≡ body → Turns acts
    → MayFollow acts (Act.Says m q x) → Turns (acts ++ Act.Says m q x ∷ notes_to x.link (bye_to x.member body))
turns_item_is law acts m q x (Bye why) is turns may =
    let first = law.one_more acts (Act.Says m q x) turns may in
    let both = law.one_more (acts ++ Act.Says m q x ∷ []) (Act.Notes x.link x.member) first
    (law.bye acts m q x why is) in
    subst Turns (append_assoc acts (Act.Says m q x ∷ []) (Act.Notes x.link x.member ∷ [])) both
turns_item_is law acts m q x (Hello after) is turns may = law.one_more acts (Act.Says m q x) turns may
turns_item_is law acts m q x (Frame position packet) is turns may = law.one_more acts (Act.Says m q x) turns may
turns_item_is law acts m q x (Echo position packet) is turns may = law.one_more acts (Act.Says m q x) turns may
turns_item_is law acts m q x (Reply control) is turns may = law.one_more acts (Act.Says m q x) turns may
turns_item_is law acts m q x said.Ping is turns may = law.one_more acts (Act.Says m q x) turns may

pub turns_item : TurnsGrow → (acts : List Act) (m q : ℕ) (x : Item) → Turns acts
    → MayFollow acts (Act.Says m q x) → Turns (acts ++ acts_of_item m q x)
turns_item law acts m q x turns may = turns_item_is law acts m q x x.body refl turns may

-- what is no Bye notes nothing
pub no_bye : (k : Member) (body : Said) → ((why : Why) → body ≡ Bye why → ⊥) → bye_to k body ≡ []
no_bye k (Bye why) not_bye = absurd (not_bye why refl)
no_bye k (Hello after) not_bye = refl
no_bye k (Frame position packet) not_bye = refl
no_bye k (Echo position packet) not_bye = refl
no_bye k (Reply control) not_bye = refl
no_bye k said.Ping not_bye = refl

pub no_bye_on : (x : Item) → ((why : Why) → x.body ≡ Bye why → ⊥) → (i : ℕ) → bye_on i x ≡ []
no_bye_on x not_bye i = elim (eqb_tells i x.link) [
  | inl is ↦ ap (λ b. cond b (bye_to x.member x.body) []) is.0 ∙ no_bye x.member x.body not_bye
  | inr isnt ↦ ap (λ b. cond b (bye_to x.member x.body) []) isnt.0
]
