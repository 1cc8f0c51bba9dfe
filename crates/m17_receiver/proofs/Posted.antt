-- What is pushed, one lot after another.
use Rattle.std.proofs.Common.{◌≡◌, ℕ, List, [], ◌∷◌, ◌++◌, length, refl, ap, sym, ◌∙◌}
use Rattle.std.specs.List.{filter_map}
use Rattle.std.proofs.lemmas.List.{append-nil, append_assoc}
use Rattle.std.proofs.lemmas.List.Elements.{filter_map-append}
use Rattle.m17_control.specs.declared.event.Event.{Event}
use Rattle.m17_control.specs.declared.item.Direct.{Direct}
use Rattle.m17_control.specs.declared.modules.Modules.{Modules}
use Rattle.m17_lane.specs.Ends.{PushEnd}
use Rattle.m17_lane.specs.Rows.{pushes, push_each}
use Rattle.m17_directory.specs.declared.dispatch.Dispatch.{Dispatch}
use Rattle.m17_directory.specs.Entries.{Entry, Setup}
use Rattle.m17_directory.specs.Routed.{event_for, routed, posted, posts_at}
use Rattle.m17_directory.specs.Laws.{direct_of, door_replies}
use Rattle.m17_receiver.specs.Posting.{Outlets, letter_at, posted_to}
use Rattle.m17_receiver.specs.SoFar.{Laws, posting}

abbrev outlets : List (PushEnd Event) → PushEnd Direct → Outlets
outlets inboxes door = record { inboxes = inboxes; door = door }

both_same : (a b : List (PushEnd Event)) (c d : PushEnd Direct) → a ≡ b → c ≡ d → outlets a c ≡ outlets b d
both_same a b c d e f = ap (λ (x : List (PushEnd Event)). outlets x c) e ∙ ap (λ (x : PushEnd Direct). outlets b x) f

pushes_more : (q : PushEnd Direct) (xs ys zs : List Direct) → xs ++ ys ≡ zs → pushes (pushes q xs) ys ≡ pushes q zs
pushes_more q xs ys zs e = ap (λ (l : List Direct). record q { pushed = l }) (append_assoc q.pushed xs ys ∙ ap (λ (l : List Direct). q.pushed ++ l) e)

each_more : Laws → (f g h : ℕ → List Event) (ps : List (PushEnd Event)) → ((m : ℕ) → f m ++ g m ≡ h m) → push_each g 0 (push_each f 0 ps) ≡ push_each h 0 ps
each_more law f g h ps e = law.rows.twice f g 0 ps ∙ law.rows.same (λ m. f m ++ g m) h ps (λ m _. e m)

-- one lot after another
pub posting_more : Laws → (modules : Modules) (first second : List Dispatch) (o : Outlets) → posting modules second (posting modules first o) ≡ posting modules (first ++ second) o
posting_more law modules first second o =
    both_same _ _ _ _
    (each_more law (λ m. filter_map (event_for (letter_at modules m)) first) (λ m. filter_map (event_for (letter_at modules m)) second) (λ m. filter_map (event_for (letter_at modules m)) (first ++ second)) o.inboxes
    (λ m. sym (filter_map-append (event_for (letter_at modules m)) first second)))
    (pushes_more o.door (filter_map direct_of first) (filter_map direct_of second) (filter_map direct_of (first ++ second)) (sym (filter_map-append direct_of first second)))

pub posting_nothing : Laws → (modules : Modules) (o : Outlets) → posting modules [] o ≡ o
posting_nothing law modules o =
    both_same _ _ _ _ (law.rows.none (λ m. []) 0 o.inboxes (λ m. refl))
    (ap (λ (l : List Direct). record o.door { pushed = l }) (append-nil o.door.pushed))

-- one entry more
pub posted_more : Laws → (setup : Setup) (entries : List Entry) (e : Entry) (o : Outlets) →
    posting setup.modules (posts_at setup (entries ++ e ∷ []) (length entries)) (posted_to setup entries o) ≡ posted_to setup (entries ++ e ∷ []) o
posted_more law setup entries e o =
    let posts : List Dispatch = posts_at setup (entries ++ e ∷ []) (length entries) in
    both_same _ _ _ _
    (each_more law (λ m. routed setup entries (letter_at setup.modules m)) (λ m. filter_map (event_for (letter_at setup.modules m)) posts) (λ m. routed setup (entries ++ e ∷ []) (letter_at setup.modules m)) o.inboxes
    (λ m. sym (law.more.routes setup entries e (letter_at setup.modules m))))
    (pushes_more o.door (door_replies setup entries) (filter_map direct_of posts) (door_replies setup (entries ++ e ∷ [])) (sym (law.door.more setup entries e)))

routed_nothing : (setup : Setup) (letter : ℕ) → routed setup [] letter ≡ []
unfolding routed posted
routed_nothing setup letter = refl

replies_nothing : (setup : Setup) → door_replies setup [] ≡ []
unfolding door_replies posted
replies_nothing setup = refl

pub posted_none : Laws → (setup : Setup) (o : Outlets) → o ≡ posted_to setup [] o
posted_none law setup o = sym (
    both_same _ _ _ _ (law.rows.none (λ m. routed setup [] (letter_at setup.modules m)) 0 o.inboxes (λ m. routed_nothing setup (letter_at setup.modules m)))
    (ap (λ (l : List Direct). record o.door { pushed = o.door.pushed ++ l }) (replies_nothing setup) ∙ ap (λ (l : List Direct). record o.door { pushed = l }) (append-nil o.door.pushed)))
