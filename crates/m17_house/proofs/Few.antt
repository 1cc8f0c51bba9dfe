-- How much an entry posts: who leaves by it, and little more.
use Rattle.std.proofs.Common.{ℕ, ◌+◌, ◌/◌, ◌≤◌, Bool, true, false, cond, List, [], ◌∷◌, ◌++◌, length, map, filter, nat_lt, Option, None, Some, arith}
use Rattle.std.specs.List.{range_with_len}
use Rattle.std.proofs.lemmas.List.{length-append, length-map}
use Rattle.std.proofs.lemmas.List.Sums.{length-filter, count_by-le-length}
use Rattle.std.proofs.lemmas.List.FromFn.{length-range_with_len}
use Rattle.m17_values.specs.declared.peer.Peer.{Peer}
use Rattle.m17_control.specs.declared.event.Body.{Body}
use Rattle.m17_control.specs.declared.event.Body.TheVariants as body
use Rattle.m17_control.specs.declared.event.Why.TheVariants.{Silent, Stopped, Replaced}
use Rattle.m17_control.specs.declared.packet.Packet.{Packet}
use Rattle.m17_control.specs.declared.modules.Modules.{Modules}
use Rattle.m17_control.specs.Modules.{serves, letters_of}
use Rattle.m17_directory.specs.declared.dispatch.Dispatch.{Dispatch}
use Rattle.m17_directory.specs.declared.known.Known.{Known}
use Rattle.m17_directory.specs.declared.known.Request.{Request}
use Rattle.m17_directory.specs.declared.verdict.LinkVerdict.TheVariants as link
use Rattle.m17_directory.specs.Entries.{Claim, Notice, notice_at, moment_before, moment_at, ends_at}
use Rattle.m17_directory.specs.Known.{Past, now, known_at}
use Rattle.m17_directory.specs.Outcome.{Here, Outcome, only, leave, to_module, to_each_module, of_packet, of_end, has_place}
use Rattle.m17_directory.specs.Routed.{here_of, silent_at, still_at, row_for, said_at, ticks_at, tick_ms, unclaimed_at, others_at, settled_at, settled_by, request_at}
use Rattle.m17_directory.proofs.Lines.{of_lines}

-- there are 26 letters
few_letters : (m : Modules) → length (letters_of m) ≤ 26
few_letters m = omega (arith, length-filter (serves m) (range_with_len 65 26), count_by-le-length (serves m) (range_with_len 65 26), length-range_with_len 65 26)

few_told : (here : Here) (what : Body) → length (to_each_module here what) ≤ 26
few_told here what = omega (arith, few_letters here.setup.modules, length-map (letters_of here.setup.modules) (λ letter. to_module here letter what))

-- it posts who leaves by it, and no more than these
record IsFew (most : ℕ) (o : Outcome) : Type 0 where
  few : length o.posts ≤ length o.left + most

few_cond : (most : ℕ) (b : Bool) (o p : Outcome) → IsFew most o → IsFew most p → IsFew most (cond b o p)
few_cond most true o p f g = f
few_cond most false o p f g = g

few_packet : (here : Here) (x : Peer) (row : Option Known) (p : Packet) → IsFew 26 (of_packet here x row p)
few_packet here x row p = of_lines (IsFew 26) here x row p (record {
  nothing = λ v said. record { few = omega arith };
  at_door = λ y v reply said is. record { few = omega arith };
  frame = λ k s is of. record { few = omega arith };
  reply = λ k what reply is said. record { few = omega arith };
  leaves = λ k v why is said other. record { few = omega arith };
})

few_end : (here : Here) (rows : List Known) → IsFew 26 (of_end here rows)
few_end here rows = record { few = omega (arith, length-append (map (leave here Stopped) rows) (to_each_module here body.Stop), length-map rows (leave here Stopped), few_told here body.Stop) }

few_said : (past : Past) (notice : Notice) → IsFew 26 (said_at past notice)
few_said past (Notice.Sent from at p) = few_packet (here_of past) from (row_for from (still_at past)) p
few_said past (Notice.Garbled from at refusal) = record { few = omega arith }
few_said past (Notice.Quiet at) = record { few = omega arith }
few_said past Notice.Fault = few_cond 26 (ends_at past.entries (now past)) (of_end (here_of past) (known_at past)) (only link.Faulted) (few_end (here_of past) (known_at past)) (record { few = omega arith })
few_said past Notice.End = few_end (here_of past) (known_at past)

told_by : (here : Here) (b : Bool) → length (cond b (to_each_module here body.Tick) []) ≤ 26
told_by here true = few_told here body.Tick
told_by here false = omega arith

few_ticks : (past : Past) → length (ticks_at past) ≤ 26
few_ticks past = told_by (here_of past) (nat_lt (moment_before past.entries (now past) / tick_ms) (moment_at past.entries (now past) / tick_ms))

-- What an entry posts before its claim: who leaves, and 52 things more at the most.
pub few_heard : (past : Past) → length (unclaimed_at past).posts ≤ length (unclaimed_at past).left + 52
unfolding unclaimed_at
few_heard past =
    let said : Outcome = said_at past (notice_at past.entries (now past)) in
    let silent : List Known = silent_at past in
    let leaves : List Dispatch = map (leave (here_of past) Silent) silent in
    omega (arith, (few_said past (notice_at past.entries (now past))).few, few_ticks past, length-append (leaves ++ ticks_at past) said.posts, length-append leaves (ticks_at past), length-map silent (leave (here_of past) Silent), length-append silent said.left)

few_settled_by : (past : Past) (claim : Option Claim) (notice : Notice) (request : Option Request) → IsFew 1 (settled_by past claim notice request)
few_settled_by past None (Notice.Sent from at p) (Some request) = record { few = omega arith }
few_settled_by past (Some claim) (Notice.Sent from at p) (Some request) =
    let replaced : List Known = filter (has_place claim.member.place) (others_at past) in
    let leaves : List Dispatch = map (leave (here_of past) Replaced) replaced in
    record { few = omega (arith, length-append leaves (to_module (here_of past) request.letter (body.Join claim.member from request.callsign request.listen claim.after) ∷ []), length-map replaced (leave (here_of past) Replaced)) }
few_settled_by past claim (Notice.Sent from at p) None = record { few = omega arith }
few_settled_by past claim (Notice.Garbled from at refusal) request = record { few = omega arith }
few_settled_by past claim (Notice.Quiet at) request = record { few = omega arith }
few_settled_by past claim Notice.Fault request = record { few = omega arith }
few_settled_by past claim Notice.End request = record { few = omega arith }

-- What its request then posts: who leaves, and one thing more.
pub few_settled : (past : Past) (claim : Option Claim) → length (settled_at past claim).posts ≤ length (settled_at past claim).left + 1
unfolding settled_at
few_settled past claim = (few_settled_by past claim (notice_at past.entries (now past)) (request_at past)).few
