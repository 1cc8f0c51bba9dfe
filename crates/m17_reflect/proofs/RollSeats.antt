-- What the closed roll shows of the links: their claims, and whom their seats refused.
use Rattle.std.proofs.Common.{◌≡◌, ℕ, zero, suc, ◌+◌, ◌<◌, ◌≤◌, Bool, true, false, cond, List, [], ◌∷◌, ◌++◌, map, length, nat_lt, Some, sym, subst, refl, ap, ◌∙◌, arith, not, is_some, Option, None}
use Rattle.std.specs.Prelude.{◌==◌, slice_get, slice_index_or, filter, Contains, All}
use Rattle.std.specs.List.{AllByRecursion, range_with_len, cons_option}
use Rattle.std.proofs.lemmas.Bool.{eqb-true, and_parts}
use Rattle.std.proofs.lemmas.Bool.Decides.{nat_tests}
use Rattle.std.proofs.lemmas.List.{length-append, length-map}
use Rattle.std.proofs.lemmas.Option.{same_Some, none-some, slice_get-get_or}
use Rattle.std.proofs.lemmas.List.Elements.{recursion_from_All, All-contains_itself}
use Rattle.m17_values.specs.declared.member.Member.{Member}
use Rattle.m17_ports.specs.Book.{BookTold}
use Rattle.m17_ports.specs.Ear.{EarTold}
use Rattle.m17_directory.specs.Entries.{Entry, Setup, Claim, claim_at}
use Rattle.m17_directory.specs.Routed.{link_verdict, past_at, asks_at, others_at}
use Rattle.m17_directory.specs.Laws.{claimed_members, is_full, ClaimsAreAsked, ClaimsArePlaced, AllPlacesAreClaimed, AskersJoinOrAreFull}
use Rattle.m17_roll.specs.Closing.{EndView, IsEnded, claims_of}
use Rattle.m17_roll.specs.Run.{IsRollRun}
use Rattle.m17_roll.specs.Seat.{RollView}
use Rattle.m17_receiver.specs.declared.receiver.Receiver.{Receiver}
use Rattle.m17_receiver.specs.Claims.{turned_away, IsPatientAt, HasFreePlaceAt}
use Rattle.m17_reflect.specs.Links.{Link, At, link_setup, setup_at}
use Rattle.m17_reflect.specs.Run.{Run, module_count}
use Rattle.m17_reflect.specs.Patience.{AreSeats, AreTurnedAway, IsFullWhenTaken, PlacesAreFull}
use Rattle.m17_reflect.specs.Jobs.{AreReceivers}
use Rattle.m17_reflect.proofs.LinksHeard.{Came, all_at}
use Rattle.m17_reflect.proofs.ListPlaces.{get_behind, contains_at, get_front}
use Rattle.m17_reflect.proofs.ModuleTrails.{claims_in, is_at}
use Rattle.m17_reflect.proofs.PlaceByPlace.{at_below, below_at, AllZip3, zip3_at, zip3_length, mapped_at}
use Rattle.std.specs.Option.{option_map}
use Rattle.m17_roll.specs.Sightings.{member}
use Rattle.m17_reflect.specs.Trails.{events_of}
use Rattle.m17_reflect.specs.Queues.{QueuesCarry}
use Rattle.m17_reflect.proofs.ModulesWorked.{patient_misses_none}
use Rattle.m17_reflect.proofs.ClaimsDiffer.{claim_in}

abbrev pub seat_of : {E B : Type 0} → Receiver E B → RollView
seat_of k = k.seat

append_assoc_claims : (xs ys zs : List Member) → (xs ++ ys) ++ zs ≡ xs ++ (ys ++ zs)
append_assoc_claims [] ys zs = refl
append_assoc_claims (x ∷ xs) ys zs = ap (λ (l : List Member). x ∷ l) (append_assoc_claims xs ys zs)

append_none : (xs : List Member) → xs ++ [] ≡ xs
append_none [] = refl
append_none (x ∷ xs) = ap (λ (l : List Member). x ∷ l) (append_none xs)

claims_append : (xs ys : List RollView) → claims_of (xs ++ ys) ≡ claims_of xs ++ claims_of ys
claims_append [] ys = refl
claims_append (x ∷ xs) ys =
    ap (λ (l : List Member). x.claimed ++ l) (claims_append xs ys) ∙ sym (append_assoc_claims x.claimed (claims_of xs) (claims_of ys))

-- the seat claimed nothing and refused nobody
abbrev pub TookNone : RollView → Type 0
TookNone s = (s.claimed ≡ []) × (s.refused ≡ [])

no_claims : (seats : List RollView) → AllByRecursion TookNone seats → claims_of seats ≡ []
no_claims [] h = refl
no_claims (s ∷ seats) h = ap (λ (l : List Member). l ++ claims_of seats) h.0.0 ∙ no_claims seats h.1

seat_claims : {E B EL BL : Type 0} (hears : E → EarTold EL) (writes : B → BookTold BL) (js ks : List (Receiver E B)) (links : List Link) → AllZip3 (Came hears writes) js ks links → claims_of (map seat_of ks) ≡ claims_in links
seat_claims hears writes [] [] [] h = refl
seat_claims hears writes [] [] (z ∷ zs) h = absurd h
seat_claims hears writes [] (y ∷ ys) zs h = absurd h
seat_claims hears writes (x ∷ xs) [] zs h = absurd h
seat_claims hears writes (x ∷ xs) (y ∷ ys) [] h = absurd h
seat_claims hears writes (x ∷ xs) (y ∷ ys) (z ∷ zs) h =
    ap (λ (l : List Member). l ++ claims_of (map seat_of ys)) h.0.claimed.claims
    ∙ ap (λ (l : List Member). claimed_members z.entries ++ l) (seat_claims hears writes xs ys zs h.1)

-- The seats of a closed roll: those of the receivers, and behind them those of the workers.
pub record IsRollOf {E B : Type 0} (ks : List (Receiver E B)) (others : List RollView) (roll : EndView)
    : Type 0 where
  pub claimed : roll.claimed ≡ claims_of (map seat_of ks ++ others)
  pub refused : roll.refused ≡ map (λ (s : RollView). s.refused) (map seat_of ks ++ others)
  pub no_other : AllByRecursion TookNone others

module _ {E B : Type 0} where
  -- all that was claimed are the links' claims
  pub roll_claims : {EL BL : Type 0} (hears : E → EarTold EL) (writes : B → BookTold BL) (js ks : List (Receiver E B)) (links : List Link) (others : List RollView) (roll : EndView) → AllZip3 (Came hears writes) js ks links → IsRollOf ks others roll → roll.claimed ≡ claims_in links
  roll_claims hears writes js ks links others roll h is =
      is.claimed ∙ claims_append (map seat_of ks) others ∙ ap (λ (l : List Member). claims_of (map seat_of ks) ++ l) (no_claims others is.no_other)
      ∙ append_none (claims_of (map seat_of ks)) ∙ seat_claims hears writes js ks links h

split_all : (P : Member → Type 0) (xs ys : List Member) → AllByRecursion P (xs ++ ys) → AllByRecursion P xs × AllByRecursion P ys
split_all P [] ys h = (tt, h)
split_all P (x ∷ xs) ys h = let (front, back) = split_all P xs ys h.1 in ((h.0, front), back)

-- what holds of all claims holds of each link's
pub claims_each : (P : Member → Type 0) (links : List Link) → AllByRecursion P (claims_in links) → (i : ℕ) (link : Link) → At links i link → AllByRecursion P (claimed_members link.entries)
claims_each P [] h i link e = absurd (none-some link e)
claims_each P (l ∷ links) h zero link e =
    subst (λ (m : Link). AllByRecursion P (claimed_members m.entries)) (same_Some l link e)
    (split_all P (claimed_members l.entries) (claims_in links) h).0
claims_each P (l ∷ links) h (suc i) link e =
    claims_each P links (split_all P (claimed_members l.entries) (claims_in links) h).1 i link e

is_below : (a b : ℕ) → a < b → nat_lt a b ≡ true
is_below a b lt = grind (arith, nat_tests)

-- the place of each claim is there
pub claims_placed : (roll : EndView) (places : ℕ) (links : List Link) → IsRollRun roll.words roll.claimed roll.given → length roll.words ≡ places → roll.claimed ≡ claims_in links → (i : ℕ) (link : Link) → At links i link → AllByRecursion (λ k. is_at places k ≡ true) (claimed_members link.entries)
claims_placed roll places links run count is i link e =
    claims_each (λ k. is_at places k ≡ true) links
    (subst (AllByRecursion (λ k. is_at places k ≡ true)) is
    (recursion_from_All (λ k. is_at places k ≡ true) roll.claimed (λ n d lt.
    let inside = run.within (slice_index_or roll.claimed n d) (All-contains_itself roll.claimed n d lt) in
    is_below (slice_index_or roll.claimed n d).place places (omega arith)))) i link e

at_front : {A : Type 0} (xs ys : List A) (i : ℕ) (x : A) → slice_get xs i ≡ Some x → slice_get (xs ++ ys) i ≡ Some x
at_front [] ys i x e = absurd (none-some x e)
at_front (z ∷ xs) ys zero x e = e
at_front (z ∷ xs) ys (suc i) x e = at_front xs ys i x e

pub contained_at : {A : Type 0} (xs : List A) (i : ℕ) (x : A) → slice_get xs i ≡ Some x → Contains xs x
contained_at [] i x e = absurd (none-some x e)
contained_at (y ∷ xs) zero x e = (0, omega arith, same_Some y x e)
contained_at (y ∷ xs) (suc i) x e = let (k, lt, is) = contained_at xs i x e in (suc k, omega arith, is)

some_kept_step : (b : Bool) (x : ℕ) (ys : List ℕ) → b ≡ true → (a : ℕ) × (rest : List ℕ) × (cond b (x ∷ ys) ys ≡ a ∷ rest)
some_kept_step true x ys e = (x, ys, refl)
some_kept_step false x ys e = absurd cc

more_kept_step : (b : Bool) (x a : ℕ) (ys rest : List ℕ) → ys ≡ a ∷ rest → (a : ℕ) × (rest : List ℕ) × (cond b (x ∷ ys) ys ≡ a ∷ rest)
more_kept_step true x a ys rest e = (x, ys, refl)
more_kept_step false x a ys rest e = (a, rest, e)

same_place : (k m : ℕ) → (k == m) ≡ true → k ≡ m
same_place k m e = eqb-true k m e

other_place : (k m : ℕ) → (k == m) ≡ false → k ≤ m → k < m
other_place k m e le = grind (arith, nat_tests)

some_kept_by : (p : ℕ → Bool) (k n m : ℕ) (b : Bool) → (k == m) ≡ b → k ≤ m → p m ≡ true → (k < m → (a : ℕ) × (rest : List ℕ) × (filter p (range_with_len (k + 1) n) ≡ a ∷ rest)) → (a : ℕ) × (rest : List ℕ) × (filter p (range_with_len k (suc n)) ≡ a ∷ rest)
some_kept_by p k n m true e le pass later =
    some_kept_step (p k) k (filter p (range_with_len (k + 1) n)) (ap p (same_place k m e) ∙ pass)
some_kept_by p k n m false e le pass later =
    let (a, rest, is) = later (other_place k m e le) in
    more_kept_step (p k) k a (filter p (range_with_len (k + 1) n)) rest is

-- a number of a range that passes stands in what is kept
some_kept : (p : ℕ → Bool) (k n m : ℕ) → k ≤ m → m < k + n → p m ≡ true → (a : ℕ) × (rest : List ℕ) × (filter p (range_with_len k n) ≡ a ∷ rest)
some_kept p k zero m le lt e = absurd (omega arith)
some_kept p k (suc n) m le lt e = some_kept_by p k n m (k == m) refl le e
    (λ less. some_kept p (k + 1) n m (omega arith) (omega arith) e)

-- an entry that is Full is turned away
kept_full : (setup : Setup) (entries : List Entry) (n : ℕ) → n < length entries → is_full (link_verdict setup entries n) ≡ true → (a : ℕ) × (rest : List ℕ) × (turned_away setup entries ≡ a ∷ rest)
unfolding turned_away
kept_full setup entries n lt full =
    some_kept (λ n. is_full (link_verdict setup entries n)) 0 (length entries) n (omega arith) (omega arith) full

full_when_refused : {EL ML BL : Type 0} (run : Run EL ML BL) (links : List Link) → AreTurnedAway run links → IsEnded run.handed.roll → IsFullWhenTaken run links
full_when_refused run links away ended i link n e lt full =
    let setup = link_setup run.plan i in
    let (asker, rest, is) = kept_full setup link.entries n lt full in
    ended.refused_when_full (asker, rest, contained_at run.handed.roll.refused i (asker ∷ rest) (away i link e ∙ ap Some is))

module _ {EL ML BL E B : Type 0} where
  -- whom the receivers' seats refused, where they claim once
  pub turned_away_are : (hears : E → EarTold EL) (writes : B → BookTold BL) (run : Run EL ML BL) (js ks : List (Receiver E B)) (links : List Link) (others : List RollView) → AreReceivers run.plan js → AllZip3 (Came hears writes) js ks links → IsRollOf ks others run.handed.roll → run.plan.patient ≡ false → AreTurnedAway run links
  turned_away_are hears writes run js ks links others are h is impatient i link e =
      let lens = zip3_length (Came hears writes) js ks links h in
      let inside = below_at links i link e in
      let (j, at_j) = at_below js i (omega (arith, lens.1)) in
      let (k, at_k) = at_below ks i (omega (arith, lens.0, lens.1)) in
      let it = are i j at_j in
      let c = zip3_at (Came hears writes) js ks links h i j k link at_j at_k e in
      ap (λ (l : List (List ℕ)). slice_get l i) is.refused
      ∙ mapped_at (λ (s : RollView). s.refused) (map seat_of ks ++ others) i k.seat (at_front (map seat_of ks) others i k.seat (mapped_at seat_of ks i k at_k))
      ∙ ap Some (c.claimed.refused (it.patient ∙ impatient) ∙ ap (λ (s : Setup). turned_away s link.entries) it.setup)

  -- the seats behind those of the links
  pub seats_are : (run : Run EL ML BL) (links : List Link) (ks : List (Receiver E B)) (others : List RollView) → IsRollOf ks others run.handed.roll → length ks ≡ length links → length others ≡ module_count run.plan → AreSeats run links
  seats_are run links ks others is long count =
      let front = map seat_of ks in
      let first : length front ≡ length links = length-map ks seat_of ∙ long in record {
        count = ap length is.refused ∙ length-map (front ++ others) (λ (s : RollView). s.refused) ∙ omega (arith, length-append front others, first, count);
        modules = λ m less.
            let (s, at) = at_below others m (omega (arith, count)) in
            let there : slice_get (front ++ others) (length links + m) ≡ Some s = ap (λ (n : ℕ). slice_get (front ++ others) (n + m)) (sym first) ∙ get_behind front others m ∙ at in
            ap (λ (l : List (List ℕ)). slice_get l (length links + m)) is.refused
            ∙ mapped_at (λ (s : RollView). s.refused) (front ++ others) (length links + m) s there
            ∙ ap Some (all_at TookNone others is.no_other m s at).1;
      }

  -- who found no place in a run that isn't patient
  pub impatient_full : (hears : E → EarTold EL) (writes : B → BookTold BL) (run : Run EL ML BL) (js ks : List (Receiver E B)) (links : List Link) (others : List RollView) → AreReceivers run.plan js → AllZip3 (Came hears writes) js ks links → IsRollOf ks others run.handed.roll → IsEnded run.handed.roll → AreSeats run links → run.plan.patient ≡ false → PlacesAreFull run links
  impatient_full hears writes run js ks links others are h is ended seats impatient =
      let away = turned_away_are hears writes run js ks links others are h is impatient in record {
        patient = λ yes. absurd (let wrong : true ≡ false = sym yes ∙ impatient in cc);
        impatient = λ _. away;
        any = full_when_refused run links away ended;
        seats = seats;
      }

-- Who found no place: in a patient run, where an entry is Full, each place was claimed by the entry's own link.

module _ {A : Type 0} where
  pub contains_front : (xs ys : List A) (x : A) → Contains xs x → Contains (xs ++ ys) x
  contains_front xs ys x h = let (i, e) = contains_at xs x h in contained_at (xs ++ ys) i x (get_front xs ys i x e)

  pub contains_back : (xs ys : List A) (x : A) → Contains ys x → Contains (xs ++ ys) x
  contains_back [] ys x h = h
  contains_back (y ∷ xs) ys x h = let (i, less, is) = contains_back xs ys x h in (suc i, omega arith, is)

  contains_option : (o : Option A) (rest : List A) (x : A) → Contains rest x → Contains (cons_option o rest) x
  contains_option None rest x h = h
  contains_option (Some y) rest x h = contains_back (y ∷ []) rest x h

abbrev member_of_claim : Option Claim → Option Member
member_of_claim o = option_map (λ (claim : Claim). claim.member) o

-- the member of a claim is among the claimed members
pub claim_contained : (entries : List Entry) (n : ℕ) (claim : Claim) → claim_at entries n ≡ Some claim → Contains (claimed_members entries) claim.member
claim_contained [] n claim e = absurd (none-some claim e)
claim_contained (entry ∷ entries) zero claim e =
    subst (λ (o : Option Claim). Contains (cons_option (member_of_claim o) (claimed_members entries)) claim.member) (sym e) (0, omega arith, refl)
claim_contained (entry ∷ entries) (suc n) claim e =
    contains_option (member_of_claim entry.claim) (claimed_members entries) claim.member (claim_contained entries n claim e)

-- what a link claimed is among all claims
pub link_contained : (links : List Link) (i : ℕ) (link : Link) (k : Member) → At links i link → Contains (claimed_members link.entries) k → Contains (claims_in links) k
link_contained [] i link k e h = absurd (none-some link e)
link_contained (l ∷ links) zero link k e h =
    contains_front (claimed_members l.entries) (claims_in links) k (subst (λ (m : Link). Contains (claimed_members m.entries) k) (sym (same_Some l link e)) h)
link_contained (l ∷ links) (suc i) link k e h =
    contains_back (claimed_members l.entries) (claims_in links) k (link_contained links i link k e h)

no_claim : (o : Option Claim) → not (is_some o) ≡ true → o ≡ None
no_claim None e = refl
no_claim (Some claim) e = absurd cc

below_is : (a b : ℕ) → nat_lt a b ≡ true → a < b
below_is a b e = grind (arith, nat_tests)

-- the links' claims, each of one of the places
pub placed : (plan_places : ℕ) (setup : Setup) (entries : List Entry) → setup.places ≡ plan_places → ((n : ℕ) (claim : Claim) → claim_at entries n ≡ Some claim → is_at plan_places claim.member ≡ true) → ClaimsArePlaced setup entries
placed plan_places setup entries same h n claim e = let less = below_is claim.member.place plan_places (h n claim e) in omega arith

-- The laws that this rests on.
pub record FullLaws : Type 0 where
  pub all_claimed : AllPlacesAreClaimed
  pub askers : AskersJoinOrAreFull

-- a patient run leaves nothing out
pub patient_missed : {EL ML BL : Type 0} (run : Run EL ML BL) → QueuesCarry run → length run.handed.trails ≡ module_count run.plan → run.plan.patient ≡ true → All (λ count. count ≡ 0) run.handed.missed
patient_missed run carried trails patient m d lt =
    let (trail, at_trail) = at_below run.handed.trails m (omega (arith, carried.missed_count)) in
    let (row, at_row) = at_below run.handed.queues m (omega (arith, carried.missed_count, carried.count)) in
    let missed : ℕ = slice_index_or run.handed.missed m d in
    patient_misses_none (events_of trail) (record { setup = setup_at run.plan m; patient = run.plan.patient; queues = row; missed = missed })
    (carried.each m trail row missed at_trail at_row (slice_get-get_or run.handed.missed m d lt)) patient

module _ {EL ML BL E B : Type 0} where
  -- The receivers of a run, and the roll behind it.
  pub record HasRoll (hears : E → EarTold EL) (writes : B → BookTold BL) (run : Run EL ML BL) (js ks : List (Receiver E B)) (links : List Link)
      (others : List RollView) : Type 0 where
    pub receivers : AreReceivers run.plan js
    pub came : AllZip3 (Came hears writes) js ks links
    pub roll : IsRollOf ks others run.handed.roll
    pub ended : IsEnded run.handed.roll
    pub places : length run.handed.roll.words ≡ run.plan.places
    pub workers : length others ≡ module_count run.plan

  patient_at : (hears : E → EarTold EL) (writes : B → BookTold BL) (run : Run EL ML BL) (js ks : List (Receiver E B)) (links : List Link) (others : List RollView) → HasRoll hears writes run js ks links others → run.plan.patient ≡ true → (i : ℕ) (link : Link) → At links i link
      → ClaimsAreAsked (link_setup run.plan i) link.entries × ((n : ℕ) → n < length link.entries → asks_at (past_at (link_setup run.plan i) link.entries n) ≡ true → IsPatientAt (link_setup run.plan i) link.entries n)
      × ((n : ℕ) → HasFreePlaceAt (link_setup run.plan i) link.entries n)
  patient_at hears writes run js ks links others h patient i link e =
      let lens = zip3_length (Came hears writes) js ks links h.came in
      let inside = below_at links i link e in
      let (j, at_j) = at_below js i (omega (arith, lens.1)) in
      let (k, at_k) = at_below ks i (omega (arith, lens.0, lens.1)) in
      let it = h.receivers i j at_j in
      let c = (zip3_at (Came hears writes) js ks links h.came i j k link at_j at_k e).claimed in
      subst (λ (s : Setup). ClaimsAreAsked s link.entries × ((n : ℕ) → n < length link.entries → asks_at (past_at s link.entries n) ≡ true → IsPatientAt s link.entries n) × ((n : ℕ) → HasFreePlaceAt s link.entries n)) it.setup
      (c.asked, c.patient_claims (it.patient ∙ patient), c.patient_places (it.patient ∙ patient))

  full_when_taken : FullLaws → (hears : E → EarTold EL) (writes : B → BookTold BL) (run : Run EL ML BL) (js ks : List (Receiver E B)) (links : List Link) (others : List RollView) → HasRoll hears writes run js ks links others → run.plan.patient ≡ true → IsFullWhenTaken run links
  full_when_taken laws hears writes run js ks links others h is_patient i link n e lt full q less =
      let setup = link_setup run.plan i in
      let (asked, patient, _) = patient_at hears writes run js ks links others h is_patient i link e in
      let claims = roll_claims hears writes js ks links others run.handed.roll h.came h.roll in
      let parts = and_parts (asks_at (past_at setup link.entries n)) (not (is_some (claim_at link.entries n))) (sym (laws.askers.full setup link.entries n) ∙ full) in
      let many : length (others_at (past_at setup link.entries n)) ≡ setup.places = (patient n lt parts.0).0 (no_claim (claim_at link.entries n) parts.1) in
      let within = placed run.plan.places setup link.entries refl
      (claim_in (λ k. is_at run.plan.places k ≡ true) link.entries (claims_placed run.handed.roll run.plan.places links h.ended.run h.places claims i link e)) in
      let (first, claim, earlier, there, at) = laws.all_claimed setup link.entries n q asked within lt parts.0 many (omega (arith, h.places)) in
      let make : ℕ → Member = λ p. member p claim.member.generation in
      let found : Contains run.handed.roll.claimed claim.member =
      subst (λ (ms : List Member). Contains ms claim.member) (sym claims) (link_contained links i link claim.member e (claim_contained link.entries first claim there)) in
      (claim.member.generation, subst (λ (m : Member). Contains run.handed.roll.claimed m) (ap make at) found)

  its_seats : (hears : E → EarTold EL) (writes : B → BookTold BL) (run : Run EL ML BL) (js ks : List (Receiver E B)) (links : List Link) (others : List RollView) → HasRoll hears writes run js ks links others → AreSeats run links
  its_seats hears writes run js ks links others h =
      let lens = zip3_length (Came hears writes) js ks links h.came in
      seats_are run links ks others h.roll (lens.0 ∙ sym lens.1) h.workers

  -- who found no place in a run that is patient
  pub patient_full : FullLaws → (hears : E → EarTold EL) (writes : B → BookTold BL) (run : Run EL ML BL) (js ks : List (Receiver E B)) (links : List Link) (others : List RollView) → HasRoll hears writes run js ks links others → run.plan.patient ≡ true → All (λ count. count ≡ 0) run.handed.missed → PlacesAreFull run links
  patient_full laws hears writes run js ks links others h patient missed = record {
    patient = λ _. record {
      missed = missed;
      full = λ i link n e. (patient_at hears writes run js ks links others h patient i link e).1 n;
      given = λ i link n e. (patient_at hears writes run js ks links others h patient i link e).2 n;
    };
    impatient = λ no. absurd (let wrong : true ≡ false = sym patient ∙ no in cc);
    any = full_when_taken laws hears writes run js ks links others h patient;
    seats = its_seats hears writes run js ks links others h;
  }

  full_by : FullLaws → (hears : E → EarTold EL) (writes : B → BookTold BL) (run : Run EL ML BL) (js ks : List (Receiver E B)) (links : List Link) (others : List RollView) (patient : Bool) → run.plan.patient ≡ patient → HasRoll hears writes run js ks links others → QueuesCarry run → length run.handed.trails ≡ module_count run.plan → PlacesAreFull run links
  full_by laws hears writes run js ks links others true is h carried trails =
      patient_full laws hears writes run js ks links others h is (patient_missed run carried trails is)
  full_by laws hears writes run js ks links others false is h carried trails =
      impatient_full hears writes run js ks links others h.receivers h.came h.roll h.ended (its_seats hears writes run js ks links others h) is

  -- who found no place in any run
  pub who_is_full : FullLaws → (hears : E → EarTold EL) (writes : B → BookTold BL) (run : Run EL ML BL) (js ks : List (Receiver E B)) (links : List Link) (others : List RollView) → HasRoll hears writes run js ks links others → QueuesCarry run → length run.handed.trails ≡ module_count run.plan → PlacesAreFull run links
  who_is_full laws hears writes run js ks links others = full_by laws hears writes run js ks links others run.plan.patient refl
