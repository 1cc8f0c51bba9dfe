-- What a link answers past all modules, and how an entry that asks is completed by its claim.
use Rattle.std.proofs.Common.{◌≡◌, ℕ, Bool, true, false, cond, List, [], ◌∷◌, ◌++◌, length, filter_map, refl, ap, ◌∙◌}
use Rattle.std.specs.List.{AllByRecursion, cons_option}
use Rattle.std.proofs.lemmas.List.Elements.{filter_map-append}
use Rattle.m17_values.specs.declared.peer.Peer.{Peer}
use Rattle.m17_control.specs.declared.item.Direct.{Direct}
use Rattle.m17_directory.specs.declared.dispatch.Dispatch.{Dispatch}
use Rattle.m17_directory.specs.declared.dispatch.Dispatch.TheVariants.{ToModule, ToDoor}
use Rattle.m17_directory.specs.Entries.{Entry, Setup, claim_at}
use Rattle.m17_directory.specs.Known.{Past, now}
use Rattle.m17_directory.specs.Routed.{unclaimed_at, settled_at, asks_at, both, past_at, posts_at, posted, reply_for, direct_replies}
use Rattle.m17_directory.specs.Laws.{direct_of, door_replies, told_to, is_door_reply, DoorCarriesReplies, PeersAreToldApart, ClaimsCompleteAskers}
use Rattle.m17_directory.proofs.Peers.{is_peer_same, is_peer_self}
use Rattle.m17_directory.proofs.Same.{length_asked}
use Rattle.m17_directory.proofs.LawMore.{posted_more}
use Rattle.m17_directory.proofs.LawRouted.{Goes, all_go}

-- of the replies among what is posted
all_replies : (setup : Setup) (Q : Direct → Type 0) (posts : List Dispatch) → ((direct : Direct) → Goes setup (ToDoor direct) → Q direct) → AllByRecursion (Goes setup) posts → AllByRecursion Q (filter_map direct_of posts)
all_replies setup Q [] h k = tt
all_replies setup Q (ToModule letter event ∷ posts) h k = all_replies setup Q posts h k.1
all_replies setup Q (ToDoor direct ∷ posts) h k = (h direct k.0, all_replies setup Q posts h k.1)

of_link : (setup : Setup) (entries : List Entry) → AllByRecursion (λ (direct : Direct). direct.link ≡ setup.link) (door_replies setup entries)
unfolding door_replies
of_link setup entries = all_replies setup (λ direct. direct.link ≡ setup.link) (posted setup entries) (λ direct g. g.0) (all_go setup entries)

of_kinds : (setup : Setup) (entries : List Entry) → AllByRecursion (λ (direct : Direct). is_door_reply direct.control ≡ true) (door_replies setup entries)
unfolding door_replies
of_kinds setup entries = all_replies setup (λ direct. is_door_reply direct.control ≡ true) (posted setup entries) (λ direct g. g.1) (all_go setup entries)

told_is : (x : Peer) (posts : List Dispatch) → filter_map (told_to x) (filter_map direct_of posts) ≡ filter_map (reply_for x) posts
told_is x [] = refl
told_is x (ToModule letter event ∷ posts) = told_is x posts
told_is x (ToDoor direct ∷ posts) = ap (cons_option (told_to x direct)) (told_is x posts)

of_peer : (setup : Setup) (entries : List Entry) (x : Peer) → filter_map (told_to x) (door_replies setup entries) ≡ direct_replies setup entries x
unfolding door_replies direct_replies
of_peer setup entries x = told_is x (posted setup entries)

one_more : (setup : Setup) (entries : List Entry) (entry : Entry) → door_replies setup (entries ++ entry ∷ []) ≡ door_replies setup entries ++ filter_map direct_of (posts_at setup (entries ++ entry ∷ []) (length entries))
unfolding door_replies
one_more setup entries entry =
    ap (filter_map direct_of) (posted_more setup entries entry)
    ∙ filter_map-append direct_of (posted setup entries) (posts_at setup (entries ++ entry ∷ []) (length entries))

pub carries_replies : DoorCarriesReplies
carries_replies = record { link = of_link; kinds = of_kinds; to_peer = of_peer; more = one_more }

pub told_apart : PeersAreToldApart
told_apart = record { same = is_peer_same; itself = is_peer_self }

-- by whether it asks, and by the position of its claim
by_asking : (past : Past) (b : Bool) (m : ℕ) → asks_at past ≡ b → now past ≡ m
    → cond (asks_at past) (both (unclaimed_at past) (settled_at past (claim_at past.entries (now past)))) (unclaimed_at past)
    ≡ cond b (both (unclaimed_at past) (settled_at past (claim_at past.entries m))) (unclaimed_at past)
by_asking past b m e l =
    ap (λ t. cond t (both (unclaimed_at past) (settled_at past (claim_at past.entries (now past)))) (unclaimed_at past)) e
    ∙ ap (λ i. cond b (both (unclaimed_at past) (settled_at past (claim_at past.entries i))) (unclaimed_at past)) l

pub completes : ClaimsCompleteAskers
completes = record {
  asking = λ setup entries n e. by_asking (past_at setup entries n) true n e (length_asked setup entries n);
  other = λ setup entries n e. by_asking (past_at setup entries n) false n e (length_asked setup entries n);
}
