-- A member has at most one Bye on its link, so no more notes go to a link than it has claims.
use Rattle.std.proofs.Common.{◌≡◌, ℕ, zero, suc, ◌≤◌, Bool, true, false, cond, List, [], ◌∷◌, ◌++◌, Some, sym, subst, refl, ap, ◌∙◌, arith, ◌+◌, ◌<◌, length, Option, None, inl, inr}
use Rattle.std.specs.Prelude.{◌==◌, filter, count_by, slice_get, ◌⊎◌, ◌||◌, AllPairs}
use Rattle.std.proofs.lemmas.Bool.{eqb-true, eq-eqb, and_from, cases_lt}
use Rattle.std.proofs.lemmas.List.Elements.{filter-append, All-from_recursion, filter_agree}
use Rattle.std.proofs.lemmas.List.Sums.{sum_by-cons, sum_by-append}
use Rattle.std.proofs.lemmas.Option.{same_Some, none-some}
use Rattle.m17_values.specs.declared.member.Member.{Member}
use Rattle.m17_control.specs.declared.event.Why.{Why}
use Rattle.m17_control.specs.declared.item.Item.{Item}
use Rattle.m17_control.specs.declared.item.Said.{Said}
use Rattle.m17_control.specs.declared.item.Said.TheVariants.{Hello, Frame, Echo, Reply, Ping, Bye}
use Rattle.m17_floor.specs.Acts.{is_same}
use Rattle.m17_module.specs.Laws.{is_bye}
use Rattle.m17_sender.specs.Acts.{Act, thing_of, things_of, notes_of}
use Rattle.m17_sender.specs.Joined.{is_to, item_of, items_said, Joined, SayAll, AreInTurn, IsJoined, WaitsFor, is_to_any, items_of}
use Rattle.m17_sender.specs.Sent.{bye_to, bye_of, byes_of}
use Rattle.m17_reflect.proofs.ClaimsDiffer.{mine, ClaimsDiffer, memberships_wait}
use Rattle.m17_reflect.proofs.ListPlaces.{IsIn, in_flat, from_flat, in_front}
use Rattle.std.specs.List.{cons_option, AllByRecursion}
use Rattle.m17_directory.specs.Entries.{Claim, Entry, claim_at, SaysEach}
use Rattle.m17_directory.specs.Laws.{claimed_members}
use Rattle.std.specs.Option.{option_map}
use Rattle.m17_reflect.proofs.MemberLives.{is_same_self, same_member, is_of_run, item_has_asker}
use Rattle.m17_reflect.proofs.LinkMembers.{MemberLaws, AreMembers, is_joined, to_memberships}
use Rattle.std.proofs.lemmas.List.{append-nil, append_assoc, length-append}
use Rattle.m17_values.specs.declared.heard.Heard.{Heard}
use Rattle.m17_values.specs.declared.peer.Peer.{Peer}
use Rattle.m17_receiver.specs.Devices.{IsCounted}
use Rattle.m17_receiver.specs.Claims.{IsGreetedAfter}
use Rattle.m17_sender.specs.Laws.{TurnsKeepEachMemberInOrder}
use Rattle.m17_reflect.specs.Links.{Link, At, link_setup, letter_of}
use Rattle.m17_reflect.specs.Queues.{carried}
use Rattle.m17_reflect.specs.Run.{Run}
use Rattle.m17_reflect.specs.Sendings.{memberships}
use Rattle.m17_reflect.proofs.Askers.{begun, has_begun}
use Rattle.m17_reflect.proofs.AllSaid.{AreItsMemberships}

-- the item is a Bye
abbrev pub says_bye : Item → Bool
says_bye item = is_bye item.body

abbrev one_if : Bool → ℕ
one_if b = cond b 1 0

one_bye : (k : Member) (item : Item) (here mine_too : Bool) (body : Said) → item.body ≡ body → is_same item.member k ≡ mine_too → count_by (mine k) (cond here (bye_to item.member body) []) ≤ count_by says_bye (cond mine_too (item ∷ []) [])
one_bye k item false m body eb em = omega arith
one_bye k item true m (Hello n) eb em = omega arith
one_bye k item true m (Frame n p) eb em = omega arith
one_bye k item true m (Echo n p) eb em = omega arith
one_bye k item true m (Reply control) eb em = omega arith
one_bye k item true m Ping eb em = omega arith
one_bye k item true true (Bye why) eb em =
    let a : one_if (mine k item.member) ≡ 1 = ap one_if em in
    let b : one_if (says_bye item) ≡ 1 = ap (λ (s : Said). one_if (is_bye s)) eb in
    let s = sum_by-cons (λ (y : Member). cond (mine k y) 1 0) item.member [] in
    let t = sum_by-cons (λ (i : Item). cond (says_bye i) 1 0) item [] in omega arith
one_bye k item true false (Bye why) eb em =
    let a : one_if (mine k item.member) ≡ 0 = ap one_if em in
    let s = sum_by-cons (λ (y : Member). cond (mine k y) 1 0) item.member [] in omega arith

byes_here : (k : Member) (i : ℕ) (act : Act) → count_by (mine k) (bye_of i act) ≤ count_by says_bye (filter (is_to k) (item_of act))
byes_here k i (Act.Says m q item) = one_bye k item (i == item.link) (is_to k item) item.body refl refl
byes_here k i (Act.Answers direct) = omega arith
byes_here k i (Act.Notes link member) = omega arith

-- the Byes to a member are among the items that were said to it
byes_said : (k : Member) (i : ℕ) (acts : List Act) → count_by (mine k) (byes_of i acts) ≤ count_by says_bye (filter (is_to k) (items_said acts))
byes_said k i [] = omega arith
byes_said k i (act ∷ acts) =
    let a = sum_by-append (λ (y : Member). cond (mine k y) 1 0) (bye_of i act) (byes_of i acts) in
    let b = byes_here k i act in let c = byes_said k i acts in
    let d = sum_by-append (λ (i : Item). cond (says_bye i) 1 0) (filter (is_to k) (item_of act)) (filter (is_to k) (items_said acts)) in
    let e = ap (count_by says_bye) (filter-append (is_to k) (item_of act) (items_said acts)) in omega arith

bye_why : (body : Said) → is_bye body ≡ true → (why : Why) × (body ≡ Bye why)
bye_why (Hello n) e = absurd cc
bye_why (Frame n p) e = absurd cc
bye_why (Echo n p) e = absurd cc
bye_why (Reply control) e = absurd cc
bye_why Ping e = absurd cc
bye_why (Bye why) e = (why, refl)

-- Nothing follows a Bye.
abbrev pub EndsInBye : List Item → Type 0
EndsInBye items = (front rest : List Item) (bye : Item) (why : Why) → items ≡ front ++ bye ∷ rest →
    bye.body ≡ Bye why → rest ≡ []

bye_step : (item : Item) (items : List Item) (b : Bool) → says_bye item ≡ b → EndsInBye (item ∷ items) → count_by says_bye items ≤ 1 → count_by says_bye (item ∷ items) ≤ 1
bye_step item items true e ends few =
    let (why, is) = bye_why item.body e in
    let none : items ≡ [] = ends [] items item why refl is in
    let s = sum_by-cons (λ (i : Item). cond (says_bye i) 1 0) item items in
    let one : one_if (says_bye item) ≡ 1 = ap one_if e in
    let rest : count_by says_bye items ≡ 0 = ap (count_by says_bye) none in omega arith
bye_step item items false e ends few =
    let s = sum_by-cons (λ (i : Item). cond (says_bye i) 1 0) item items in
    let one : one_if (says_bye item) ≡ 0 = ap one_if e in omega arith

-- A life has one Bye at the most.
pub one_bye_only : (items : List Item) → EndsInBye items → count_by says_bye items ≤ 1
one_bye_only [] ends = omega arith
one_bye_only (item ∷ items) ends =
    bye_step item items (says_bye item) refl ends
    (one_bye_only items (λ front rest bye why e is. ends (item ∷ front) rest bye why (ap (λ (l : List Item). item ∷ l) e) is))

assoc_items : (xs ys zs : List Item) → (xs ++ ys) ++ zs ≡ xs ++ (ys ++ zs)
assoc_items [] ys zs = refl
assoc_items (x ∷ xs) ys zs = ap (λ (l : List Item). x ∷ l) (assoc_items xs ys zs)

items_append : (acts more : List Act) → items_said (acts ++ more) ≡ items_said acts ++ items_said more
items_append [] more = refl
items_append (act ∷ acts) more =
    ap (λ (l : List Item). item_of act ++ l) (items_append acts more) ∙ sym (assoc_items (item_of act) (items_said acts) (items_said more))

-- Of a member whose items, of all that was said, are a life, one Bye was said at the most.
pub byes_once : (k : Member) (i : ℕ) (acts more : List Act) (life : List Item) → filter (is_to k) (items_said (acts ++ more)) ≡ life → EndsInBye life → count_by (mine k) (byes_of i acts) ≤ 1
byes_once k i acts more life e ends =
    let a = byes_said k i acts in
    let b = one_bye_only life ends in
    let c = ap (count_by says_bye) (sym e ∙ ap (filter (is_to k)) (items_append acts more) ∙ filter-append (is_to k) (items_said acts) (items_said more)) in
    let d = sum_by-append (λ (i : Item). cond (says_bye i) 1 0) (filter (is_to k) (items_said acts)) (filter (is_to k) (items_said more)) in omega arith

-- An item that was said of a queue by a link, and is a Bye to the member.
pub record HasSaidBye (i : ℕ) (acts : List Act) (k : Member) : Type 0 where
  pub m : ℕ
  pub q : ℕ
  pub item : Item
  pub said : IsIn (things_of m q acts) item
  pub its_link : item.link ≡ i
  pub its_member : item.member ≡ k

bye_is : (member : Member) (body : Said) (k : Member) (n : ℕ) → slice_get (bye_to member body) n ≡ Some k → member ≡ k
bye_is member (Hello a) k n e = absurd (none-some k e)
bye_is member (Frame a p) k n e = absurd (none-some k e)
bye_is member (Echo a p) k n e = absurd (none-some k e)
bye_is member (Reply control) k n e = absurd (none-some k e)
bye_is member Ping k n e = absurd (none-some k e)
bye_is member (Bye why) k zero e = same_Some member k e
bye_is member (Bye why) k (suc n) e = absurd (none-some k e)

bye_if : (b : Bool) (member : Member) (body : Said) (k : Member) (n : ℕ) → slice_get (cond b (bye_to member body) []) n ≡ Some k → (b ≡ true) × (member ≡ k)
bye_if true member body k n e = (refl, bye_is member body k n e)
bye_if false member body k n e = absurd (none-some k e)

itself : (m q : ℕ) (item : Item) → thing_of m q (Act.Says m q item) ≡ item ∷ []
itself m q item = ap (λ (b : Bool). cond b (item ∷ []) []) (and_from (m == m) (q == q) (eq-eqb m m refl) (eq-eqb q q refl))

bye_of_act : (i : ℕ) (acts : List Act) (k : Member) (act : Act) (n : ℕ) → IsIn acts act → slice_get (bye_of i act) n ≡ Some k → HasSaidBye i acts k
bye_of_act i acts k (Act.Says m q item) n there e =
    let (here, same) = bye_if (i == item.link) item.member item.body k n e in record {
      m = m;
      q = q;
      item = item;
      said = in_flat (thing_of m q) acts there.0 (Act.Says m q item) item there.1
          (subst (λ (l : List Item). IsIn l item) (sym (itself m q item)) (0, refl));
      its_link = sym (eqb-true i item.link here);
      its_member = same;
    }
bye_of_act i acts k (Act.Answers direct) n there e = absurd (none-some k e)
bye_of_act i acts k (Act.Notes link member) n there e = absurd (none-some k e)

pub has_said_bye : (i : ℕ) (acts : List Act) (k : Member) → IsIn (byes_of i acts) k → HasSaidBye i acts k
has_said_bye i acts k h =
    let one = from_flat (bye_of i) acts k h in bye_of_act i acts k one.item one.its.0 one.there one.its.1

-- A list of members in which none stands more often than in another is no longer than that.

abbrev counts_one : Member → Member → ℕ
counts_one k y = one_if (mine k y)

-- The list without one item that is this member.
record WithoutOne (xs : List Member) (y : Member) : Type 0 where
  pub rest : List Member
  pub long : length xs ≡ suc (length rest)
  pub counts : (k : Member) → count_by (mine k) xs ≡ counts_one k y + count_by (mine k) rest

without_step : (x y : Member) (xs : List Member) (b : Bool) → mine y x ≡ b → 1 ≤ count_by (mine y) (x ∷ xs) → (1 ≤ count_by (mine y) xs → WithoutOne xs y) → WithoutOne (x ∷ xs) y
without_step x y xs true e h later =
    let same = same_member x y e in record {
      rest = xs;
      long = refl;
      counts = λ k. sum_by-cons (counts_one k) x xs ∙ ap (λ (z : Member). counts_one k z + count_by (mine k) xs) same;
    }
without_step x y xs false e h later =
    let s = sum_by-cons (counts_one y) x xs in
    let none : counts_one y x ≡ 0 = ap one_if e in
    let r = later (omega arith) in record {
      rest = x ∷ r.rest;
      long = ap suc r.long;
      counts = λ k.
          let a = sum_by-cons (counts_one k) x xs in let c = sum_by-cons (counts_one k) x r.rest in
          let d = r.counts k in omega arith;
    }

without_one : (xs : List Member) (y : Member) → 1 ≤ count_by (mine y) xs → WithoutOne xs y
without_one [] y h = absurd (omega (arith, h))
without_one (x ∷ xs) y h = without_step x y xs (mine y x) refl h (without_one xs y)

pub fewer : (ys xs : List Member) → ((k : Member) → count_by (mine k) ys ≤ count_by (mine k) xs) → length ys ≤ length xs
fewer [] xs h = omega arith
fewer (y ∷ ys) xs h =
    let first = sum_by-cons (counts_one y) y ys in
    let one : counts_one y y ≡ 1 = ap one_if (is_same_self y) in
    let all = h y in
    let r = without_one xs y (omega arith) in
    let less = fewer ys r.rest (λ k.
    let a = h k in let b = sum_by-cons (counts_one k) y ys in let c = r.counts k in omega arith) in
    let long = r.long in omega arith

counted_step : (p : Member → Bool) (x : Member) (xs : List Member) (b : Bool) → p x ≡ b → 0 < count_by p (x ∷ xs) → (0 < count_by p xs → (y : Member) × IsIn xs y × (p y ≡ true)) → (y : Member) × IsIn (x ∷ xs) y × (p y ≡ true)
counted_step p x xs true e h later = (x, (0, refl), e)
counted_step p x xs false e h later =
    let s = sum_by-cons (λ (x : Member). cond (p x) 1 0) x xs in
    let none : one_if (p x) ≡ 0 = ap one_if e in
    let (y, there, is) = later (omega arith) in (y, (suc there.0, there.1), is)

-- What is counted stands in the list.
pub counted_in : (p : Member → Bool) (xs : List Member) → 0 < count_by p xs → (y : Member) × IsIn xs y × (p y ≡ true)
counted_in p [] h = absurd (omega (arith, h))
counted_in p (x ∷ xs) h = counted_step p x xs (p x) refl h (counted_in p xs)

option_long : (o : Option Member) (rest : List Member) (n : ℕ) → length rest ≤ n → length (cons_option o rest) ≤ suc n
option_long None rest n h = omega arith
option_long (Some k) rest n h = omega arith

-- There are no more claims than entries.
pub claims_long : (entries : List Entry) → length (claimed_members entries) ≤ length entries
claims_long [] = omega arith
claims_long (entry ∷ entries) =
    option_long (option_map (λ (claim : Claim). claim.member) entry.claim) (claimed_members entries) (length entries) (claims_long entries)

option_counts : (k : Member) (o : Option Member) (rest : List Member) → count_by (mine k) rest ≤ count_by (mine k) (cons_option o rest)
option_counts k None rest = omega arith
option_counts k (Some m) rest = let s = sum_by-cons (counts_one k) m rest in omega arith

here_counts : (k : Member) (o : Option Claim) (claim : Claim) (rest : List Member) → o ≡ Some claim → claim.member ≡ k → 1 ≤ count_by (mine k) (cons_option (option_map (λ (claim : Claim). claim.member) o) rest)
here_counts k o claim rest e same =
    let s = sum_by-cons (counts_one k) claim.member rest in
    let one : counts_one k claim.member ≡ 1 = ap (counts_one k) same ∙ ap one_if (is_same_self k) in
    let some : 1 ≤ count_by (mine k) (claim.member ∷ rest) = omega arith in
    subst (λ (o : Option Claim). 1 ≤ count_by (mine k) (cons_option (option_map (λ (claim : Claim). claim.member) o) rest)) (sym e) some

-- The member of a claim is counted.
pub claim_counts : (k : Member) (entries : List Entry) (n : ℕ) (claim : Claim) → claim_at entries n ≡ Some claim → claim.member ≡ k → 1 ≤ count_by (mine k) (claimed_members entries)
claim_counts k [] n claim e same = absurd (none-some claim e)
claim_counts k (entry ∷ entries) zero claim e same = here_counts k entry.claim claim (claimed_members entries) e same
claim_counts k (entry ∷ entries) (suc n) claim e same =
    let r = claim_counts k entries n claim e same in
    let s = option_counts k (option_map (λ (claim : Claim). claim.member) entry.claim) (claimed_members entries) in omega arith

-- What a link's receiver popped of its notes is counted, and so the memberships on the link are in turn.

-- The laws that this rests on.
pub record NoteLaws : Type 0 where
  pub members : MemberLaws
  pub order : TurnsKeepEachMemberInOrder

no_pairs : (R : Joined → Joined → Type 0) (j : Joined) → AllPairs R (j ∷ [])
no_pairs R j = λ i n d lt less. absurd (omega arith)

or_false : (b : Bool) → b || false ≡ b
or_false true = refl
or_false false = refl

things_append : (m q : ℕ) (acts more : List Act) → things_of m q (acts ++ more) ≡ things_of m q acts ++ things_of m q more
things_append m q [] more = refl
things_append m q (act ∷ acts) more =
    ap (λ (l : List Item). thing_of m q act ++ l) (things_append m q acts more)
    ∙ sym (append_assoc (thing_of m q act) (things_of m q acts) (things_of m q more))

moved_counts : (k y : Member) (acts : List Act) (i : ℕ) (entries : List Entry) → y ≡ k → (count_by (mine y) (byes_of i acts) ≤ 1) × (1 ≤ count_by (mine y) (claimed_members entries)) → count_by (mine k) (byes_of i acts) ≤ count_by (mine k) (claimed_members entries)
moved_counts k y acts i entries same (few, some) =
    subst (λ (m : Member). count_by (mine m) (byes_of i acts) ≤ count_by (mine m) (claimed_members entries)) same (omega arith)

module _ {EL ML BL : Type 0} where
  -- all that was said to the member of an asker is a life
  said_to : NoteLaws → (run : Run EL ML BL) (i : ℕ) (acts more : List Act) (j : Joined) → SayAll acts more (carried run.handed.queues) → IsJoined (carried run.handed.queues) i j → filter (is_to j.member) (items_said (acts ++ more)) ≡ items_of (carried run.handed.queues) j
  said_to laws run i acts more j say is =
      let queues = carried run.handed.queues in
      let turn : AreInTurn queues i (notes_of i acts) (j ∷ []) = record {
        each = All-from_recursion (IsJoined queues i) (j ∷ []) (is, tt);
        waits = no_pairs (WaitsFor (notes_of i acts)) j;
      } in
      filter_agree (is_to j.member) (is_to_any (j ∷ [])) (λ item. sym (or_false (is_to j.member item))) (items_said (acts ++ more))
      ∙ laws.order acts more queues i (j ∷ []) say turn ∙ append-nil (items_of queues j)

  -- a Bye on a link is to a member that an entry of the link claimed, and the only one to it
  bye_claimed : NoteLaws → (run : Run EL ML BL) (links : List Link) (i : ℕ) (link : Link) (acts more : List Act) (k : Member) → AreMembers run links → At links i link → SayAll acts more (carried run.handed.queues) → IsIn (byes_of i acts) k → (count_by (mine k) (byes_of i acts) ≤ 1) × (1 ≤ count_by (mine k) (claimed_members link.entries))
  bye_claimed laws run links i link acts more k h at say there =
      let b = has_said_bye i acts k there in
      let stands : IsIn (carried run.handed.queues b.m b.q) b.item =
      subst (λ (l : List Item). IsIn l b.item) (sym (things_append b.m b.q acts more) ∙ say.things b.m b.q)
      (in_front (things_of b.m b.q acts) (things_of b.m b.q more) b.item b.said.0 b.said.1) in
      let is = is_of_run laws.members.carried run links b.m b.q b.item h.carried stands in
      let a = item_has_asker laws.members.joins run links b.m b.q b.item i link h.carried is at b.its_link in
      let letter = letter_of run.plan b.m in let j = begun run.plan.modules letter a.claim in
      let joined = is_joined laws.members run links i link letter a.position b.item.peer a.claim h at a.asker in
      let same : a.claim.member ≡ k = a.member ∙ b.its_member in (
        subst (λ (k : Member). count_by (mine k) (byes_of i acts) ≤ 1) same
            (byes_once a.claim.member i acts more (items_of (carried run.handed.queues) j) (said_to laws run i acts more j say joined) joined.life.ends),
        claim_counts k link.entries a.position a.claim a.asker.is_claim same,
      )

  byes_by : NoteLaws → (run : Run EL ML BL) (links : List Link) (i : ℕ) (link : Link) (acts more : List Act) (k : Member) → AreMembers run links → At links i link → SayAll acts more (carried run.handed.queues) → (0 < count_by (mine k) (byes_of i acts)) ⊎ (count_by (mine k) (byes_of i acts) ≤ 0) → count_by (mine k) (byes_of i acts) ≤ count_by (mine k) (claimed_members link.entries)
  byes_by laws run links i link acts more k h at say (inl some) =
      let (y, there, is) = counted_in (mine k) (byes_of i acts) some in
      moved_counts k y acts i link.entries (same_member y k is) (bye_claimed laws run links i link acts more y h at say there)
  byes_by laws run links i link acts more k h at say (inr none) = omega arith

  -- No more Byes on a link than it has entries.
  pub byes_long : NoteLaws → (run : Run EL ML BL) (links : List Link) (i : ℕ) (link : Link) (acts more : List Act) → AreMembers run links → At links i link → SayAll acts more (carried run.handed.queues) → length (byes_of i acts) ≤ length link.entries
  byes_long laws run links i link acts more h at say =
      let few = fewer (byes_of i acts) (claimed_members link.entries) (λ k. byes_by laws run links i link acts more k h at say (cases_lt 0 (count_by (mine k) (byes_of i acts)))) in
      let more_entries = claims_long link.entries in omega arith

says_length : (heard : List Heard) (entries : List Entry) → SaysEach heard entries → length entries ≡ length heard
says_length [] [] h = refl
says_length [] (e ∷ entries) h = absurd h
says_length (x ∷ heard) [] h = absurd h
says_length (x ∷ heard) (e ∷ entries) h = ap suc (says_length heard entries h.1)

pub all_in : {A : Type 0} (P : A → Type 0) (xs : List A) → ((i : ℕ) (x : A) → slice_get xs i ≡ Some x → P x) → AllByRecursion P xs
all_in P [] h = tt
all_in P (x ∷ xs) h = (h 0 x refl, all_in P xs (λ i y e. h (suc i) y e))

-- What the notes of a link were, and what its receiver popped of them.
pub record AreNoted (entries : List Entry) (acts : List Act) (i : ℕ) (popped : List Member) : Type 0 where
  pub rest : List Member
  pub settled : notes_of i acts ≡ popped ++ rest
  pub byes : notes_of i acts ≡ byes_of i acts
  pub greeted : IsGreetedAfter entries popped
  pub differ : ClaimsDiffer entries

module _ {EL ML BL : Type 0} where
  popped_counted : NoteLaws → (run : Run EL ML BL) (links : List Link) (i : ℕ) (link : Link) (acts more : List Act) (popped : List Member) → AreMembers run links → At links i link → SayAll acts more (carried run.handed.queues) → AreNoted link.entries acts i popped → SaysEach link.heard link.entries → IsCounted link.heard → IsCounted popped
  popped_counted laws run links i link acts more popped h at say noted says counted =
      let a = byes_long laws run links i link acts more h at say in
      let b = says_length link.heard link.entries says in
      let c = ap length (sym noted.settled ∙ noted.byes) in
      let d = length-append popped noted.rest in omega arith

  -- The memberships of each peer on a link, and what goes to it.
  pub are_its : NoteLaws → (run : Run EL ML BL) (links : List Link) (i : ℕ) (link : Link) (acts more : List Act) (popped : List Member) (x : Peer) → AreMembers run links → At links i link → SayAll acts more (carried run.handed.queues) → AreNoted link.entries acts i popped → SaysEach link.heard link.entries → IsCounted link.heard → AreItsMemberships acts (carried run.handed.queues) (link_setup run.plan i) link.entries x
  are_its laws run links i link acts more popped x h at say noted says counted =
      let setup = link_setup run.plan i in let queues = carried run.handed.queues in record {
        in_turn = record {
          each = All-from_recursion (IsJoined queues i) (memberships setup link.entries x) (all_in (IsJoined queues i) (memberships setup link.entries x) (λ p one e.
              let (n, b) = has_begun setup link.entries x one (p, e) in
              subst (IsJoined queues i) b.joined (is_joined laws.members run links i link b.letter n b.from b.claim h at b.asker)));
          waits = memberships_wait setup link.entries x popped noted.rest (notes_of i acts) noted.settled
              (popped_counted laws run links i link acts more popped h at say noted says counted) noted.greeted noted.differ;
        };
        its_items = to_memberships laws.members run links i link x h at;
      }
