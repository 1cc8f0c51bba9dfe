-- Who asks for a place joins or is turned away, by its claim alone.
use Rattle.std.proofs.Common.{◌≡◌, ℕ, Bool, true, false, cond, not, ◌&&◌, List, is_some, Option, None, Some, refl, ap, sym, ◌∙◌, subst}
use Rattle.m17_values.specs.declared.peer.Peer.{Peer}
use Rattle.m17_control.specs.declared.packet.Packet.{Packet}
use Rattle.m17_control.specs.Modules.{serves}
use Rattle.m17_directory.specs.declared.known.Known.{Known}
use Rattle.m17_directory.specs.declared.known.Request.{Request}
use Rattle.m17_directory.specs.Entries.{Notice, Claim, Entry, Setup, notice_at, claim_at, ends_at}
use Rattle.m17_directory.specs.Known.{Past, now, request_in, known_at}
use Rattle.m17_directory.specs.Outcome.{Here, Outcome, of_packet}
use Rattle.m17_directory.specs.Routed.{here_of, row_for, unclaimed_at, settled_by, settled_at, asks_at, both, past_at, link_verdict}
use Rattle.m17_directory.specs.Laws.{is_full, is_joining, AskersJoinOrAreFull, AskersAskForServedModules}
use Rattle.m17_directory.specs.Steps.{still_by, said_by}
use Rattle.m17_directory.proofs.Same.{length_asked, heard_is}
use Rattle.m17_directory.proofs.Lines.{of_lines}
use Rattle.m17_directory.proofs.LawSent.{asks_served}
use Rattle.m17_directory.proofs.LawWho.{AsksFor, asks_one}

-- before its claim an entry is neither
abbrev Neither : Outcome → Type 0
Neither o = (is_full o.verdict ≡ false) × (is_joining o.verdict ≡ false)

packet_neither : (here : Here) (x : Peer) (o : Option Known) (p : Packet) → Neither (of_packet here x o p)
packet_neither here x o p = of_lines Neither here x o p (record {
  nothing = λ v said. (said.full, said.joins);
  at_door = λ y v reply said is. (said.full, said.joins);
  frame = λ k s is of. (refl, refl);
  reply = λ k what reply is said. (said.full, said.joins);
  leaves = λ k v w is said other. (said.full, said.joins);
})

said_neither : (here : Here) (ends : Bool) (rows still : List Known) (notice : Notice) → Neither (said_by here ends rows still notice)
said_neither at ends rows still (Notice.Sent from m p) = packet_neither at from (row_for from still) p
said_neither at ends rows still (Notice.Garbled from m refusal) = (refl, refl)
said_neither at ends rows still (Notice.Quiet m) = (refl, refl)
said_neither at true rows still Notice.Fault = (refl, refl)
said_neither at false rows still Notice.Fault = (refl, refl)
said_neither at ends rows still Notice.End = (refl, refl)

heard_neither : (past : Past) → Neither (unclaimed_at past)
heard_neither past =
    let at : Here = here_of past in
    let rows : List Known = known_at past in
    let notice : Notice = notice_at past.entries (now past) in
    let said : Neither (said_by at (ends_at past.entries (now past)) rows (still_by at rows notice) notice) = said_neither at (ends_at past.entries (now past)) rows (still_by at rows notice) notice in
    subst Neither (sym (heard_is past)) said

-- and with it, by the claim alone
settled_is : (past : Past) (claim : Option Claim) (one : AsksFor (notice_at past.entries (now past))) → settled_at past claim ≡ settled_by past claim (Notice.Sent one.from one.at one.packet) (Some one.request)
unfolding settled_at
settled_is past claim one =
    ap (λ y. settled_by past claim y (request_in y)) one.says
    ∙ ap (settled_by past claim (Notice.Sent one.from one.at one.packet)) one.wants

abbrev comes : Past → Bool → Option Claim → Outcome
comes past b claim = cond b (both (unclaimed_at past) (settled_at past claim)) (unclaimed_at past)

full_by : (past : Past) (b : Bool) (claim : Option Claim) → asks_at past ≡ b → is_full (comes past b claim).verdict ≡ (b && not (is_some claim))
full_by past true None e = ap (λ (o : Outcome). is_full o.verdict) (settled_is past None (asks_one past e))
full_by past true (Some claim) e = ap (λ (o : Outcome). is_full o.verdict) (settled_is past (Some claim) (asks_one past e))
full_by past false claim e = (heard_neither past).0

joins_by : (past : Past) (b : Bool) (claim : Option Claim) → asks_at past ≡ b → is_joining (comes past b claim).verdict ≡ (b && is_some claim)
joins_by past true None e = ap (λ (o : Outcome). is_joining o.verdict) (settled_is past None (asks_one past e))
joins_by past true (Some claim) e = ap (λ (o : Outcome). is_joining o.verdict) (settled_is past (Some claim) (asks_one past e))
joins_by past false claim e = (heard_neither past).1

full_where : (setup : Setup) (entries : List Entry) (n : ℕ) → is_full (link_verdict setup entries n) ≡ (asks_at (past_at setup entries n) && not (is_some (claim_at entries n)))
unfolding link_verdict
full_where setup entries n =
    let past : Past = past_at setup entries n in
    full_by past (asks_at past) (claim_at entries (now past)) refl
    ∙ ap (λ m. asks_at past && not (is_some (claim_at entries m))) (length_asked setup entries n)

joins_where : (setup : Setup) (entries : List Entry) (n : ℕ) → is_joining (link_verdict setup entries n) ≡ (asks_at (past_at setup entries n) && is_some (claim_at entries n))
unfolding link_verdict
joins_where setup entries n =
    let past : Past = past_at setup entries n in
    joins_by past (asks_at past) (claim_at entries (now past)) refl
    ∙ ap (λ m. asks_at past && is_some (claim_at entries m)) (length_asked setup entries n)

pub askers : AskersJoinOrAreFull
askers = record { full = full_where; joins = joins_where }

asks_for_served : (setup : Setup) (entries : List Entry) (n m : ℕ) → m ≡ n → (one : AsksFor (notice_at entries m)) → ((r : Request) → request_in (notice_at entries m) ≡ Some r → serves setup.modules r.letter ≡ true)
    → (request : Request) × (request_in (notice_at entries n) ≡ Some request) × (serves setup.modules request.letter ≡ true)
asks_for_served setup entries n m e one h =
    let wants : request_in (notice_at entries m) ≡ Some one.request = ap request_in one.says ∙ one.wants in
    (one.request, ap (λ i. request_in (notice_at entries i)) (sym e) ∙ wants, h one.request wants)

pub askers_served : AskersAskForServedModules
askers_served setup entries n asks =
    let past : Past = past_at setup entries n in
    asks_for_served setup entries n (now past) (length_asked setup entries n) (asks_one past asks) (λ r w. asks_served past r asks w)
