-- All that was posted is carried out, one dispatch after another.
use Rattle.std.proofs.Common.{◌≡◌, ℕ, ◌+◌, ◌-◌, ◌^◌, ◌<◌, ◌↔◌, List, [], ◌∷◌, ◌++◌, length, get_or, Option, None, Some, IsNone, refl, ap, sym, subst, ◌∙◌, arith, append_assoc}
use Rattle.std.specs.List.{filter_map, AllByRecursion}
use Rattle.std.specs.Option.{option_or, option_to_list}
use Rattle.std.proofs.lemmas.List.{append-nil, length-append}
use Rattle.std.proofs.lemmas.List.Elements.{filter_map-append}
use Rattle.m17_floor.specs.declared.verdict.Verdict.{Verdict}
use Rattle.m17_module.specs.StandsFor as modules
use Rattle.m17_directory.specs.declared.dispatch.Dispatch.{Dispatch}
use Rattle.m17_directory.specs.StandsFor.{DirectoryKept}
use Rattle.m17_directory.specs.Laws.{left_member}
use Rattle.m17_port_memory.specs.Kept.{TalliesKept}
use Rattle.m17_plan.specs.declared.plan.Plan.{Plan}
use Rattle.m17_house.specs.Tallied.{IsSameMouth}
use Rattle.m17_house.specs.Carried.{HasCarried, IsServed, answer_to}
use Rattle.m17_house.specs.SoFar.{IsCarriedOut, found_from, noting}
use Rattle.m17_house.proofs.Carries.{single}
use Rattle.m17_house.proofs.Notes.{noting_more}

-- Some of the posted are done, and these are left.
pub record IsPartway (posted : List Dispatch) (name : ℕ) (old : DirectoryKept) (rooms : List (Option modules.ModuleKept)) (mouth : TalliesKept)
    (post : List Dispatch) (new : DirectoryKept) (rooms' : List (Option modules.ModuleKept)) (mouth' : TalliesKept) (answer : Option Verdict) : Type 0 where
  pub done : List Dispatch
  pub posts : posted ≡ done ++ post
  pub noted : new ≡ noting (filter_map left_member done) old
  pub same : IsSameMouth mouth mouth'
  pub carried : (plan : Plan) (before : List Dispatch) → name ≡ plan.name → AllByRecursion (IsServed plan) posted → length before + length posted < 2 ^ 64 - 1 → HasCarried plan before rooms mouth →
      HasCarried plan (before ++ done) rooms' mouth' × (found_from plan before None posted ≡ found_from plan (before ++ done) answer post)

pub partway_none : (posted : List Dispatch) (name : ℕ) (old : DirectoryKept) (rooms : List (Option modules.ModuleKept)) (mouth : TalliesKept) → IsPartway posted name old rooms mouth posted old rooms mouth None
partway_none posted name old rooms mouth = record {
  done = [];
  posts = refl;
  noted = refl;
  same = record { peers = refl; number = refl };
  carried = λ plan before named served few carried.
      let e : before ≡ before ++ [] = sym (append-nil before) in
      (subst (λ (b : List Dispatch). HasCarried plan b rooms mouth) e carried, ap (λ b. found_from plan b None posted) e);
}

-- the dispatch behind some is served
served_there : (plan : Plan) (done : List Dispatch) (d : Dispatch) (rest : List Dispatch) → AllByRecursion (IsServed plan) (done ++ d ∷ rest) → IsServed plan d
served_there plan [] d rest all = all.0
served_there plan (x ∷ done) d rest all = served_there plan done d rest all.1

-- what is left behind the first, which was taken
pub rest_taken : (o : Option Dispatch) (d : Dispatch) (rest new post : List Dispatch) → post ≡ d ∷ rest → post ≡ option_to_list o ++ new → IsNone o ↔ (post ≡ []) → post ≡ d ∷ new
rest_taken None d rest new post is e none = absurd (let no : d ∷ rest ≡ [] = sym is ∙ none.0 refl in cc)
rest_taken (Some x) d rest new post is e none =
    let same : x ∷ new ≡ d ∷ rest = sym e ∙ is in
    e ∙ ap (λ y. y ∷ new) (ap (λ (xs : List Dispatch). get_or xs 0 d) same)

pub partway_more : (posted : List Dispatch) (name : ℕ) (old : DirectoryKept) (rooms : List (Option modules.ModuleKept)) (mouth : TalliesKept)
    (d : Dispatch) (rest post : List Dispatch) (mid new : DirectoryKept) (rooms1 rooms2 : List (Option modules.ModuleKept)) (mouth1 mouth2 : TalliesKept) (found next : Option Verdict) →
    IsPartway posted name old rooms mouth post mid rooms1 mouth1 found →
    post ≡ d ∷ rest →
    new ≡ noting (option_to_list (left_member d)) mid →
    IsSameMouth mouth1 mouth2 →
    ((plan : Plan) (done : List Dispatch) → name ≡ plan.name → IsServed plan d → length done < 2 ^ 64 - 1 → HasCarried plan done rooms1 mouth1 → HasCarried plan (done ++ d ∷ []) rooms2 mouth2 × (next ≡ option_or (answer_to plan done d) found)) →
    IsPartway posted name old rooms mouth rest new rooms2 mouth2 next
partway_more posted name old rooms mouth d rest post mid new rooms1 rooms2 mouth1 mouth2 found next part is noted same step =
    let done : List Dispatch = part.done in
    let posts : posted ≡ done ++ d ∷ rest = part.posts ∙ ap (λ xs. done ++ xs) is in
    record {
      done = done ++ d ∷ [];
      posts = posts ∙ sym (append_assoc done (d ∷ []) rest);
      noted = noted ∙ ap (noting (option_to_list (left_member d))) part.noted ∙ noting_more (filter_map left_member done) (option_to_list (left_member d)) old
          ∙ ap (λ ms. noting ms old) (ap (λ xs. filter_map left_member done ++ xs) (sym (single left_member (left_member d))) ∙ sym (filter_map-append left_member done (d ∷ [])));
      same = record { peers = same.peers ∙ part.same.peers; number = same.number ∙ part.same.number };
      carried = λ plan before named served few carried.
          let sofar = part.carried plan before named served few carried in
          let its : IsServed plan d = served_there plan done d rest (subst (λ (xs : List Dispatch). AllByRecursion (IsServed plan) xs) posts served) in
          let fits : length (before ++ done) < 18446744073709551615 = omega (arith, length-append before done, ap length posts, length-append done (d ∷ rest)) in
          let now = step plan (before ++ done) named its fits sofar.0 in (
            subst (λ (b : List Dispatch). HasCarried plan b rooms2 mouth2) (append_assoc before done (d ∷ [])) now.0,
            sofar.1 ∙ ap (found_from plan (before ++ done) found) is
                ∙ ap (λ b. found_from plan b (option_or (answer_to plan (before ++ done) d) found) rest) (append_assoc before done (d ∷ []))
                ∙ ap (λ v. found_from plan (before ++ (done ++ d ∷ [])) v rest) (sym now.1),
          );
    }

pub partway_all : (posted : List Dispatch) (name : ℕ) (old : DirectoryKept) (rooms : List (Option modules.ModuleKept)) (mouth : TalliesKept) (post : List Dispatch) (new : DirectoryKept) (rooms2 : List (Option modules.ModuleKept)) (mouth2 : TalliesKept) (answer : Option Verdict) →
    IsPartway posted name old rooms mouth post new rooms2 mouth2 answer → post ≡ [] →
    (new ≡ noting (filter_map left_member posted) old) × IsSameMouth mouth mouth2
    × ((plan : Plan) (before : List Dispatch) → name ≡ plan.name → AllByRecursion (IsServed plan) posted → length before + length posted < 2 ^ 64 - 1 → HasCarried plan before rooms mouth → IsCarriedOut plan before posted (rooms2, mouth2) answer)
partway_all posted name old rooms mouth post new rooms2 mouth2 answer part none =
    let all : posted ≡ part.done = part.posts ∙ ap (λ xs. part.done ++ xs) none ∙ append-nil part.done in (
      part.noted ∙ ap (λ xs. noting (filter_map left_member xs) old) (sym all),
      part.same,
      λ plan before named served few carried.
          let end = part.carried plan before named served few carried in
          record {
            carried = subst (λ (xs : List Dispatch). HasCarried plan (before ++ xs) rooms2 mouth2) (sym all) end.0;
            found = sym (end.1 ∙ ap (found_from plan (before ++ part.done) answer) none);
          },
    )
