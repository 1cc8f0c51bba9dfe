-- An event, pushed to the inbox of its module.
use Rattle.std.proofs.Common.{◌≡◌, ◌==◌, ℕ, ◌≤◌, Bool, true, false, cond, List, [], ◌∷◌, length, refl, ap, sym, ◌∙◌, arith, Some, None}
use Rattle.std.specs.List.{filter_map, cons_option}
use Rattle.std.proofs.lemmas.Bool.{ne_eqb}
use Rattle.m17_control.specs.declared.event.Event.{Event}
use Rattle.m17_control.specs.declared.modules.Modules.{Modules}
use Rattle.std.proofs.lemmas.List.{append-nil}
use Rattle.m17_control.specs.declared.item.Direct.{Direct}
use Rattle.m17_lane.specs.Ends.{PushEnd, pushed_to}
use Rattle.m17_lane.specs.Rows.{push_each, only}
use Rattle.m17_directory.specs.declared.dispatch.Dispatch.TheVariants.{ToModule, ToDoor}
use Rattle.m17_directory.specs.Routed.{event_for}
use Rattle.m17_receiver.specs.Posting.{Outlets, letter_at}
use Rattle.m17_receiver.specs.SoFar.{Laws, posting}

abbrev pub outlets : List (PushEnd Event) → PushEnd Direct → Outlets
outlets inboxes door = record { inboxes = inboxes; door = door }

-- what is for the module with this letter, of an event for one
abbrev pub its_part : Modules → ℕ → Event → ℕ → List Event
its_part modules letter event m = filter_map (event_for (letter_at modules m)) (ToModule letter event ∷ [])

one_by : (event : Event) (b : Bool) → cons_option (cond b (Some event) None) [] ≡ cond b (event ∷ []) []
one_by event true = refl
one_by event false = refl

part_is : (modules : Modules) (letter : ℕ) (event : Event) (m : ℕ) (b : Bool) → (letter == letter_at modules m) ≡ b → its_part modules letter event m ≡ cond b (event ∷ []) []
part_is modules letter event m b is = ap (λ t. cons_option (cond t (Some event) None) []) is ∙ one_by event b

pub pushed_there : Laws → (modules : Modules) (letter : ℕ) (event : Event) (at : ℕ) (ps : List (PushEnd Event)) →
    ((m : ℕ) → (letter == letter_at modules m) ≡ (m == at)) → push_each (only at event) 0 ps ≡ push_each (its_part modules letter event) 0 ps
pushed_there law modules letter event at ps is =
    law.rows.same (only at event) (its_part modules letter event) ps (λ m _. sym (part_is modules letter event m (m == at) (is m)))

pub pushed_past : Laws → (modules : Modules) (letter : ℕ) (event : Event) (at : ℕ) (ps : List (PushEnd Event)) →
    ((m : ℕ) → (letter == letter_at modules m) ≡ (m == at)) → length ps ≤ at → ps ≡ push_each (its_part modules letter event) 0 ps
pushed_past law modules letter event at ps is past =
    sym (law.rows.same (its_part modules letter event) (λ m. []) ps (λ m l. part_is modules letter event m false (is m ∙ ne_eqb m at (λ e. omega (arith, e, l, past))))
    ∙ law.rows.none (λ m. []) 0 ps (λ m. refl))

pub pushed_nowhere : Laws → (modules : Modules) (letter : ℕ) (event : Event) (ps : List (PushEnd Event)) →
    ((m : ℕ) → (letter == letter_at modules m) ≡ false) → ps ≡ push_each (its_part modules letter event) 0 ps
pushed_nowhere law modules letter event ps is =
    sym (law.rows.none (its_part modules letter event) 0 ps (λ m. part_is modules letter event m false (is m)))

-- one dispatch
pub one_to_module : (modules : Modules) (letter : ℕ) (event : Event) (o : Outlets) (ps : List (PushEnd Event)) → ps ≡ push_each (its_part modules letter event) 0 o.inboxes →
    outlets ps o.door ≡ posting modules (ToModule letter event ∷ []) o
one_to_module modules letter event o ps is =
    ap (λ (x : List (PushEnd Event)). outlets x o.door) is
    ∙ ap (λ (l : List Direct). outlets (push_each (its_part modules letter event) 0 o.inboxes) (record o.door { pushed = l })) (sym (append-nil o.door.pushed))

pub one_to_door : Laws → (modules : Modules) (direct : Direct) (o : Outlets) (door : PushEnd Direct) → door ≡ pushed_to o.door direct →
    outlets o.inboxes door ≡ posting modules (ToDoor direct ∷ []) o
one_to_door law modules direct o door is =
    ap (outlets o.inboxes) is
    ∙ ap (λ (x : List (PushEnd Event)). outlets x (pushed_to o.door direct)) (sym (law.rows.none (λ m. []) 0 o.inboxes (λ m. refl)))
