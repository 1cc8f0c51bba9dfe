-- A life of which items other than Hellos are left out.
use Rattle.std.proofs.Common.{◌≡◌, ℕ, Bool, true, false, cond, List, [], ◌∷◌, ◌++◌, map, refl, ap, sym, ◌∙◌, All}
use Rattle.std.specs.List.{flat_map, filter}
use Rattle.std.proofs.lemmas.List.{append_cancel_left, map-append}
use Rattle.std.proofs.lemmas.List.Elements.{All-head}
use Rattle.m17_control.specs.declared.event.Why.{Why}
use Rattle.m17_control.specs.declared.item.Item.{Item}
use Rattle.m17_control.specs.declared.item.Said.TheVariants.{Hello, Bye}
use Rattle.m17_sender.specs.Joined.{IsLifeFrom}
use Rattle.m17_sender.specs.Laws.{IsHello, LessOfALifeIsALife}
use Rattle.m17_sender.proofs.Grown.{never}
use Rattle.m17_sender.proofs.Splits.{MakesOne, one_if, Found, found_in, flat_map_at}

abbrev Try : Type 0
Try = Item × Bool

abbrev of_try : Try → List Item
of_try t = cond t.1 (t.0 ∷ []) []

abbrev kept : List Try → List Item
kept ts = map (λ (t : Try). t.0) (filter (λ (t : Try). t.1) ts)

one_try : MakesOne of_try
one_try t = one_if t.1 t.0

kept_step : (b : Bool) (t : Try) (ts : List Try) (items : List Item) → kept ts ≡ items → map (λ (t : Try). t.0) (cond b (t ∷ filter (λ (t : Try). t.1) ts) (filter (λ (t : Try). t.1) ts)) ≡ cond b (t.0 ∷ []) [] ++ items
kept_step true t ts items e = ap (λ ws. t.0 ∷ ws) e
kept_step false t ts items e = e

kept_is : (ts : List Try) → kept ts ≡ flat_map of_try ts
kept_is [] = refl
kept_is (t ∷ ts) = kept_step t.1 t ts (flat_map of_try ts) (kept_is ts)

begins_with : (after : ℕ) (t : Try) (ts : List Try) (b : Bool) → t.1 ≡ b → t.0.body ≡ Hello after → (t.1 ≡ false → IsHello t.0.body → ⊥) → (first : Item) (rest : List Item) → cond b (t.0 ∷ []) [] ++ flat_map of_try ts ≡ first ∷ rest → first.body ≡ Hello after
begins_with after t ts true is hello keeps first rest e = let same : t.0 ≡ first = cc in ap (λ (item : Item). item.body) (sym same) ∙ hello
begins_with after t ts false is hello keeps first rest e = absurd (keeps is (after, hello))

less_begins : (after : ℕ) (ts : List Try) → IsLifeFrom after (map (λ (t : Try). t.0) ts) → All (λ (t : Try). t.1 ≡ false → IsHello t.0.body → ⊥) ts → (first : Item) (rest : List Item) → kept ts ≡ first ∷ rest → first.body ≡ Hello after
less_begins after [] life keeps first rest e = absurd (never [] rest first e)
less_begins after (t ∷ ts) life keeps first rest e =
    begins_with after t ts t.1 refl (life.begins t.0 (map (λ (t : Try). t.0) ts) refl)
    (All-head (λ (t : Try). t.1 ≡ false → IsHello t.0.body → ⊥) t ts keeps) first rest (sym (kept_is (t ∷ ts)) ∙ e)

try_is : (t : Try) (z : Item) (b : Bool) → cond b (t.0 ∷ []) [] ≡ z ∷ [] → t.0 ≡ z
try_is t z true e = cc
try_is t z false e = absurd (never [] [] z e)

map_none : {X Y : Type 0} (f : X → Y) (xs : List X) → map f xs ≡ [] → xs ≡ []
map_none f [] e = refl
map_none f (x ∷ xs) e = absurd (never [] (map f xs) (f x) (sym e))

less_ends : (after : ℕ) (ts : List Try) → IsLifeFrom after (map (λ (t : Try). t.0) ts) → (front rest : List Item) (bye : Item) (why : Why) → kept ts ≡ front ++ bye ∷ rest → bye.body ≡ Bye why → rest ≡ []
less_ends after ts life front rest bye why e body =
    let made : flat_map of_try ts ≡ front ++ bye ∷ rest = sym (kept_is ts) ∙ e in
    let f : Found of_try ts front bye = found_in of_try one_try ts front rest bye made in
    let both : front ++ bye ∷ rest ≡ front ++ bye ∷ flat_map of_try f.behind =
    sym made ∙ flat_map_at of_try ts f.before f.behind f.it bye f.xs_are f.it_is ∙ ap (λ ws. ws ++ bye ∷ flat_map of_try f.behind) f.front_is in
    let cut : bye ∷ rest ≡ bye ∷ flat_map of_try f.behind = append_cancel_left front (bye ∷ rest) (bye ∷ flat_map of_try f.behind) both in
    let left : rest ≡ flat_map of_try f.behind = cc in
    let whole : map (λ (t : Try). t.0) ts ≡ map (λ (t : Try). t.0) f.before ++ bye ∷ map (λ (t : Try). t.0) f.behind =
    ap (map (λ (t : Try). t.0)) f.xs_are ∙ map-append (λ (t : Try). t.0) f.before (f.it ∷ f.behind)
    ∙ ap (λ w. map (λ (t : Try). t.0) f.before ++ w ∷ map (λ (t : Try). t.0) f.behind) (try_is f.it bye f.it.1 f.it_is) in
    let none : f.behind ≡ [] = map_none (λ (t : Try). t.0) f.behind (life.ends (map (λ (t : Try). t.0) f.before) (map (λ (t : Try). t.0) f.behind) bye why whole body) in
    left ∙ ap (flat_map of_try) none

pub less : LessOfALifeIsALife
less after tries life keeps = record {
  begins = less_begins after tries life keeps;
  ends = less_ends after tries life;
}
