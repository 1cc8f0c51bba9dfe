-- How looks and orders come one after another.
use Rattle.std.proofs.Common.{◌≡◌, ◌≢◌, ◌⊎◌, ℕ, ◌≤◌, true, List, [], ◌∷◌, ◌++◌, slice_index, refl, sym, ap, ◌∙◌, subst, inl, inr, append_assoc}
use Rattle.std.proofs.lemmas.List.Elements.{All-append}
use Rattle.m17_ports.specs.Book.{BookTold}
use Rattle.m17_control.specs.declared.modules.Modules.{Modules}
use Rattle.m17_crew.specs.declared.order.Order.{Order}
use Rattle.m17_crew.specs.declared.order.Order.TheVariants.{Quit}
use Rattle.m17_lane.specs.Ends.{PopEnd}
use Rattle.m17_board.specs.Ends.{EyeEnd}
use Rattle.m17_board.specs.declared.glance.Glance.{Glance}
use Rattle.m17_board.specs.Shows.{Shown, IsPlaceOf, HasLooked, WritesLine, Looked, one_look, HasPassed, HasQuit}

pub look_quiet : {B L : Type 0} (told : B → BookTold L) (modules : Modules) (letter place : ℕ) (old : Shown B) (eyes : List EyeEnd) (glance : Glance) → IsPlaceOf modules letter place
    → HasLooked old.eyes place glance eyes → (old.failed ≡ true) ⊎ (glance.records ≤ slice_index old.last place) → Looked told modules old record old { eyes = eyes }
look_quiet told modules letter place old eyes glance at looked why from before =
    one_look old record old { eyes = eyes } letter place before at record { glance = glance; eyes = eyes; looked = looked; writes = inr record { why = why; same = refl } }

pub look_written : {B L : Type 0} (told : B → BookTold L) (modules : Modules) (letter place : ℕ) (old new : Shown B) (eyes : List EyeEnd) (glance : Glance) → IsPlaceOf modules letter place
    → HasLooked old.eyes place glance eyes → WritesLine told letter place glance record old { eyes = eyes } new → Looked told modules old new
look_written told modules letter place old new eyes glance at looked line from before =
    one_look old new letter place before at record { glance = glance; eyes = eyes; looked = looked; writes = inl line }

-- one round behind another
pub then_looked : {B L : Type 0} (told : B → BookTold L) (modules modules' : Modules) (a b c : Shown B) → modules' ≡ modules → Looked told modules a b → Looked told modules' b c → Looked told modules a c
then_looked {B} told modules modules' a b c e first second from before = subst (λ (m : Modules). Looked told m b c) e second from (first from before)

pub passed_none : (orders : PopEnd Order) → HasPassed orders orders
passed_none orders = record { others = []; no_quit = λ k d lt. absurd (omega Rattle.std.proofs.Common.arith); orders = λ i. record orders { popped = sym (Rattle.std.proofs.Common.append-nil orders.popped) i } }

behind : (a b c : PopEnd Order) (x y : List Order) → b ≡ record a { popped = a.popped ++ x } → c ≡ record b { popped = b.popped ++ y } → c ≡ record a { popped = a.popped ++ (x ++ y) }
behind a b c x y e f =
    f ∙ ap (λ (p : PopEnd Order). record p { popped = p.popped ++ y }) e ∙ (λ i. record a { popped = append_assoc a.popped x y i })

pub passed_more : (a b c : PopEnd Order) → HasPassed a b → HasPassed b c → HasPassed a c
passed_more a b c f s = record {
  others = f.others ++ s.others;
  no_quit = All-append (λ order. order ≢ Quit) f.others s.others f.no_quit s.no_quit;
  orders = behind a b c f.others s.others f.orders s.orders;
}

pub quit_after : (a b c : PopEnd Order) → HasPassed a b → HasQuit b c → HasQuit a c
quit_after a b c f s = record {
  others = f.others ++ s.others;
  no_quit = All-append (λ order. order ≢ Quit) f.others s.others f.no_quit s.no_quit;
  orders = behind a b c f.others (s.others ++ Quit ∷ []) f.orders s.orders ∙ (λ i. record a { popped = a.popped ++ sym (append_assoc f.others s.others (Quit ∷ [])) i });
}
