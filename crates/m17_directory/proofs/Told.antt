-- What is true of every entry that is taken in, whatever was heard before.
use Rattle.std.proofs.Common.{◌≡◌, ◌↔◌, ◌⊎◌, ℕ, ◌+◌, Bool, true, false, cond, not, ◌||◌, leb, List, [], ◌∷◌, ◌++◌, length, map, filter, Option, None, Some, IsSome, IfSome, refl, ap, sym, ◌∙◌, subst, inl, inr, arith, length-append}
use Rattle.std.proofs.lemmas.Bool.{false≢true, lt-leb}
use Rattle.std.proofs.lemmas.List.Filters.{length-filter_both}
use Rattle.std.proofs.lemmas.Option.{same_Some, none-some}
use Rattle.std.proofs.lemmas.List.{length-map}
use Rattle.m17_values.specs.declared.heard.Heard.{Heard}
use Rattle.m17_values.specs.declared.heard.Heard.TheVariants as heard
use Rattle.m17_values.specs.declared.peer.Peer.{Peer}
use Rattle.m17_control.specs.declared.packet.Packet.{Packet}
use Rattle.m17_control.specs.declared.packet.Refusal.{Refusal}
use Rattle.m17_control.specs.Forms.{Spells, Refuses}
use Rattle.m17_directory.specs.declared.asked.Asked.{Asked}
use Rattle.m17_directory.specs.declared.dispatch.Dispatch.{Dispatch}
use Rattle.m17_directory.specs.declared.known.Known.{Known}
use Rattle.m17_directory.specs.declared.known.Request.{Request}
use Rattle.m17_directory.specs.declared.verdict.LinkVerdict.{LinkVerdict}
use Rattle.m17_directory.specs.declared.verdict.LinkVerdict.TheVariants as link
use Rattle.m17_directory.specs.Entries.{Notice, Says, is_peer, is_fault, is_end}
use Rattle.m17_directory.specs.Known.{request_of}
use Rattle.m17_directory.specs.Outcome.{Here, only, of_packet, of_end}
use Rattle.m17_directory.specs.Routed.{is_silent, row_for, is_asks}
use Rattle.m17_directory.specs.Laws.{is_ended}
use Rattle.m17_directory.specs.StandsFor.{HasGrown, departed_of}
use Rattle.m17_directory.specs.Steps.{Lists, IsInOrder, IsTaken, is_other, heard_now, rows_by, silent_by, still_by, said_by, heard_by, known_by, asked_as, asked_by, asks_by}
use Rattle.m17_directory.proofs.Lines.{asks_for, goes_on, left_is, other_left}
use Rattle.m17_directory.proofs.Peers.{is_peer_same}
use Rattle.m17_directory.proofs.Rows.{order_filter, after_same}
use Rattle.m17_directory.proofs.Tables.{none_alike}

pub says_datagram : (from : Peer) (at : ℕ) (bytes read : List ℕ) (h : Heard) → h ≡ heard.Datagram from at bytes → read ≡ bytes → ((p : Packet) × Spells p read) ⊎ ((refusal : Refusal) × Refuses read refusal) → (notice : Notice) × Says h notice
says_datagram from at bytes read h e same (inl x) =
    (Notice.Sent from at x.0, subst (λ (g : Heard). Says g (Notice.Sent from at x.0)) (sym e) (inl (x.0, subst (λ (bs : List ℕ). Spells x.0 bs) same x.1, refl)))
says_datagram from at bytes read h e same (inr x) =
    (Notice.Garbled from at x.0, subst (λ (g : Heard). Says g (Notice.Garbled from at x.0)) (sym e) (inr (x.0, subst (λ (bs : List ℕ). Refuses bs x.0) same x.1, refl)))

asks_is : (v : LinkVerdict) → is_asks v ≡ true → v ≡ link.Asks
asks_is link.Asks e = refl
asks_is (link.Routed letter act) e = absurd (false≢true e)
asks_is (link.Alive letter) e = absurd (false≢true e)
asks_is (link.Refused refusal) e = absurd (false≢true e)
asks_is link.NotConnected e = absurd (false≢true e)
asks_is (link.NotServed letter) e = absurd (false≢true e)
asks_is link.Full e = absurd (false≢true e)
asks_is link.Stray e = absurd (false≢true e)
asks_is link.Timed e = absurd (false≢true e)
asks_is link.Faulted e = absurd (false≢true e)
asks_is link.Ended e = absurd (false≢true e)

asked_some : (here : Here) (x : Peer) (o : Option Request) (r : Request) → o ≡ Some r → (a : Asked) × (asked_by here x o true None ≡ Some a)
asked_some here x None r e = absurd (none-some r e)
asked_some here x (Some s) r e = (asked_as here x s, refl)

some_asked : (here : Here) (ends : Bool) (rows still : List Known) (notice : Notice) → is_asks (said_by here ends rows still notice).verdict ≡ true → (a : Asked) × (asks_by here notice true ≡ Some a)
some_asked here ends rows still (Notice.Sent from at p) e =
    let request = asks_for here from (row_for from still) p e in
    asked_some here from (request_of p) request.0 request.1
some_asked here ends rows still (Notice.Garbled from at refusal) e = absurd (false≢true e)
some_asked here ends rows still (Notice.Quiet at) e = absurd (false≢true e)
some_asked here true rows still Notice.Fault e = absurd (false≢true e)
some_asked here false rows still Notice.Fault e = absurd (false≢true e)
some_asked here ends rows still Notice.End e = absurd (false≢true e)

none_asked : (here : Here) (notice : Notice) → asks_by here notice false ≡ None
none_asked here (Notice.Sent from at p) = refl
none_asked here (Notice.Garbled from at refusal) = refl
none_asked here (Notice.Quiet at) = refl
none_asked here Notice.Fault = refl
none_asked here Notice.End = refl

index_some : (here : Here) (x : Peer) (o : Option Request) → IfSome (asked_by here x o true None) (λ a. a.index ≡ here.index)
index_some here x None = tt
index_some here x (Some r) = refl

index_of : (here : Here) (notice : Notice) (asks : Bool) → IfSome (asks_by here notice asks) (λ a. a.index ≡ here.index)
index_of here (Notice.Sent from at p) true = index_some here from (request_of p)
index_of here (Notice.Sent from at p) false = tt
index_of here (Notice.Garbled from at refusal) asks = tt
index_of here (Notice.Quiet at) asks = tt
index_of here Notice.Fault asks = tt
index_of here Notice.End asks = tt

ended_is : (v : LinkVerdict) → is_ended v ≡ true → v ≡ link.Ended
ended_is link.Ended e = refl
ended_is link.Asks e = absurd (false≢true e)
ended_is (link.Routed letter act) e = absurd (false≢true e)
ended_is (link.Alive letter) e = absurd (false≢true e)
ended_is (link.Refused refusal) e = absurd (false≢true e)
ended_is link.NotConnected e = absurd (false≢true e)
ended_is (link.NotServed letter) e = absurd (false≢true e)
ended_is link.Full e = absurd (false≢true e)
ended_is link.Stray e = absurd (false≢true e)
ended_is link.Timed e = absurd (false≢true e)
ended_is link.Faulted e = absurd (false≢true e)

fault_ended : (here : Here) (b : Bool) (rows : List Known) → is_ended (cond b (of_end here rows) (only link.Faulted)).verdict ≡ b
fault_ended here true rows = refl
fault_ended here false rows = refl

ended_said : (here : Here) (ends : Bool) (faults : ℕ) (rows still : List Known) (notice : Notice) → ends ≡ (is_end notice || leb 16 (cond (is_fault notice) (faults + 1) 0)) → is_ended (said_by here ends rows still notice).verdict ≡ ends
ended_said here ends faults rows still (Notice.Sent from at p) e = goes_on here from (row_for from still) p ∙ sym (e ∙ lt-leb 16 0 (omega arith))
ended_said here ends faults rows still (Notice.Garbled from at refusal) e = sym (e ∙ lt-leb 16 0 (omega arith))
ended_said here ends faults rows still (Notice.Quiet at) e = sym (e ∙ lt-leb 16 0 (omega arith))
ended_said here ends faults rows still Notice.Fault e = fault_ended here ends rows
ended_said here ends faults rows still Notice.End e = sym e

-- as many are known and departing together as before
alone_by : (x : Peer) (r : Known) (rows : List Known) (k : Known) (b : Bool) → b ≡ is_peer x r.peer → IsInOrder (r ∷ rows) → cond b (Some r) (row_for x rows) ≡ Some k → (row_for x rows ≡ Some k → filter (λ z. is_peer x z.peer) rows ≡ k ∷ []) → cond b (r ∷ filter (λ z. is_peer x z.peer) rows) (filter (λ z. is_peer x z.peer) rows) ≡ k ∷ []
alone_by x r rows k true e h f more =
    ap (λ ks. r ∷ ks) (none_alike x rows (after_same x r.peer rows (is_peer_same x r.peer (sym e)) h.0))
    ∙ ap (λ z. z ∷ []) (same_Some r k f)
alone_by x r rows k false e h f more = more f

alone_step : (x : Peer) (rows : List Known) (k : Known) → IsInOrder rows → row_for x rows ≡ Some k → filter (λ r. is_peer x r.peer) rows ≡ k ∷ []
alone_step x [] k h e = absurd (none-some k e)
alone_step x (r ∷ rows) k h e = alone_by x r rows k (is_peer x r.peer) refl h e (alone_step x rows k h.1)

heard_count : (here : Here) (x : Peer) (rows : List Known) → length (map (heard_now x here.moment) rows) + 0 ≡ length rows
heard_count here x rows = omega (arith, length-map rows (heard_now x here.moment))

left_by : (here : Here) (x : Peer) (k : Known) (rows left : List Known) → (left ≡ []) ⊎ (left ≡ k ∷ []) → length (filter (is_other x) rows) + 1 ≡ length rows → length (rows_by here x left rows) + length left ≡ length rows
left_by here x k rows left (inl e) h = ap (λ l. length (rows_by here x l rows) + length l) e ∙ heard_count here x rows
left_by here x k rows left (inr e) h = ap (λ l. length (rows_by here x l rows) + length l) e ∙ h

left_one : (here : Here) (x : Peer) (p : Packet) (rows : List Known) (o : Option Known) → IsInOrder rows → row_for x rows ≡ o → length (rows_by here x (of_packet here x o p).left rows) + length (of_packet here x o p).left ≡ length rows
left_one here x p rows None h e = ap (λ left. length (rows_by here x left rows) + length left) (other_left here x p) ∙ heard_count here x rows
left_one here x p rows (Some k) h e =
    let single : length (filter (λ r. is_peer x r.peer) rows) ≡ 1 = ap length (alone_step x rows k h e) in
    let both = length-filter_both (λ (r : Known). is_peer x r.peer) (is_other x) (λ r. refl) rows in
    left_by here x k rows (of_packet here x (Some k) p).left (left_is here k p) (omega (arith, single, both))

timed_count : (here : Here) (rows : List Known) → length (filter (λ k. not (is_silent here.moment k)) rows) + length (filter (is_silent here.moment) rows ++ []) ≡ length rows
timed_count here rows =
    let none : List Known = [] in
    omega (arith, length-append (filter (is_silent here.moment) rows) none, length-filter_both (is_silent here.moment) (λ k. not (is_silent here.moment k)) (λ k. refl) rows)

together_said : (here : Here) (ends : Bool) (rows : List Known) (notice : Notice) → IsInOrder rows
    → length (known_by here ends rows (still_by here rows notice) notice) + length (silent_by here rows notice ++ (said_by here ends rows (still_by here rows notice) notice).left) ≡ length rows
together_said here ends rows (Notice.Sent from at p) h =
    let still : List Known = filter (λ k. not (is_silent here.moment k)) rows in
    let silent : List Known = filter (is_silent here.moment) rows in
    let order : IsInOrder still = order_filter (λ k. not (is_silent here.moment k)) rows h in
    omega (arith, length-append silent (of_packet here from (row_for from still) p).left, length-filter_both (is_silent here.moment) (λ k. not (is_silent here.moment k)) (λ k. refl) rows, left_one here from p still (row_for from still) order refl)
together_said here ends rows (Notice.Garbled from at refusal) h = timed_count here rows
together_said here ends rows (Notice.Quiet at) h = timed_count here rows
together_said here true rows Notice.Fault h = omega arith
together_said here false rows Notice.Fault h = omega arith
together_said here ends rows Notice.End h = omega arith

not_some : (o : Option Asked) → o ≡ None → IsSome o → ⊥
not_some None e s = false≢true s
not_some (Some a) e s = none-some a (sym e)

is_some_from : (o : Option Asked) (a : Asked) → o ≡ Some a → IsSome o
is_some_from None a e = absurd (none-some a e)
is_some_from (Some b) a e = refl

module _ (here : Here) (before : ℕ) (ends : Bool) (old new : Lists) (notice : Notice) (posts : List Dispatch) (verdict : LinkVerdict) (taken : IsTaken here before ends old new notice posts verdict) where
  abbrev asks : Bool
  asks = is_asks (heard_by here before ends old.known notice).verdict

  asked_if : (b : Bool) → b ≡ asks → IsSome new.asked → verdict ≡ link.Asks
  asked_if true e some = asks_is verdict (ap is_asks taken.verdict ∙ sym e)
  asked_if false e some = absurd (not_some new.asked (taken.asked ∙ ap (asks_by here notice) (sym e) ∙ none_asked here notice) some)

  pub asked_iff : (verdict ≡ link.Asks) ↔ IsSome new.asked
  asked_iff = (
    λ v.
        let does : asks ≡ true = ap is_asks (sym taken.verdict ∙ v) in
        let some = some_asked here ends old.known (still_by here old.known notice) notice does in
        is_some_from new.asked some.0 (taken.asked ∙ ap (asks_by here notice) does ∙ some.1),
    asked_if asks refl,
  )

  pub asked_index : IfSome new.asked (λ a. a.index ≡ here.index)
  asked_index = subst (λ (o : Option Asked). IfSome o (λ a. a.index ≡ here.index)) (sym taken.asked) (index_of here notice asks)

  pub ended_iff : (faults : ℕ) → ends ≡ (is_end notice || leb 16 (cond (is_fault notice) (faults + 1) 0)) → (ends ≡ true) ↔ (verdict ≡ link.Ended)
  ended_iff faults e =
      let is = ended_said here ends faults old.known (still_by here old.known notice) notice e in
      (λ t. ended_is verdict (ap is_ended taken.verdict ∙ is ∙ t), λ v. sym is ∙ ap is_ended (sym taken.verdict ∙ v))

  pub has_grown : HasGrown old.departing new.departing
  has_grown = (map departed_of (heard_by here before ends old.known notice).left, taken.departing)

  pub still_together : IsInOrder old.known → length new.known + length new.departing ≡ length old.known + length old.departing
  still_together h =
      let left : List Known = (heard_by here before ends old.known notice).left in
      omega (arith, ap length taken.known, ap length taken.departing, length-append old.departing (map departed_of left), length-map left departed_of, together_said here ends old.known notice h)
