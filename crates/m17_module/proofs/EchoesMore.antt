-- What is recorded, one position further on.
use Rattle.std.proofs.Common.{◌≡◌, ℕ, zero, suc, ◌+◌, ◌-◌, ◌<◌, ◌≤◌, ◌&&◌, ◌||◌, Bool, true, false, cond, List, [], ◌∷◌, ◌++◌, length, take, drop, nat_lt, is_none, option_map, Option, None, Some, refl, ap, sym, ◌∙◌, arith}
use Rattle.std.specs.List.{flat_map, range_with_len, count_by, sum_by, find}
use Rattle.std.specs.Option.{option_and_then, option_or, option_map_or}
use Rattle.std.proofs.lemmas.Bool.{cond-true, cond-false, lt-ltb}
use Rattle.std.proofs.lemmas.Bool.Decides.{nat_tests}
use Rattle.std.proofs.lemmas.Option.{same_Some}
use Rattle.std.proofs.lemmas.List.{append-nil, drop-append-le, drop_all, length-take}
use Rattle.std.proofs.lemmas.List.Sums.{sum_by-append}
use Rattle.std.proofs.lemmas.List.Concat.{flat_map-append}
use Rattle.m17_values.specs.declared.member.Member.{Member}
use Rattle.m17_stream.specs.declared.packet.StreamPacket.{StreamPacket}
use Rattle.m17_control.specs.declared.event.Event.{Event}
use Rattle.m17_floor.specs.declared.act.Act.{Act}
use Rattle.m17_floor.specs.declared.act.ActKind.{ActKind}
use Rattle.m17_floor.specs.declared.act.ActKind.TheVariants.{Join, Leave, Packet, Other}
use Rattle.m17_lookup.specs.Lookup.{last_below}
use Rattle.m17_floor.specs.Acts.{is_join_of, settles, kind_at, moment_at, joined_at}
use Rattle.m17_module.specs.Recording.{Recording, most_frames}
use Rattle.m17_module.specs.Setup.{Setup}
use Rattle.m17_module.specs.Events.{acts_of}
use Rattle.m17_module.specs.Echoes.{is_admitted_at, is_opened_at, holder_at, positions_from, admitted_packet, held_before, has_end_bit, closes, close_before, is_in_since, opening, recording_of, last_opened, recording_with}
use Rattle.m17_lookup.proofs.LastBelow.{last_below_suc, last_below_lt}
use Rattle.m17_module.proofs.Below.{length_more}
use Rattle.m17_module.proofs.ItemsMore.{range_more}
use Rattle.m17_module.proofs.Life.{joined_suc}

pub positions_suc : (o n : ℕ) → o ≤ n → positions_from o (suc n) ≡ positions_from o n ++ n ∷ []
positions_suc o n h =
    let more : suc n - o ≡ suc (n - o) = omega arith in
    let at : o + (n - o) ≡ n = omega arith in
    ap (range_with_len o) more ∙ range_more o (n - o) ∙ ap (λ m. range_with_len o (n - o) ++ m ∷ []) at

-- the first frames of what goes on
taken : (m : ℕ) (xs ys : List StreamPacket) → take m (xs ++ ys) ≡ take m (take m xs ++ ys)
taken zero xs ys = refl
taken (suc m) [] ys = refl
taken (suc m) (x ∷ xs) ys = ap (λ l. x ∷ l) (taken m xs ys)

found_first : (b : Bool) (x : ℕ) (o o' rest : Option ℕ) → o' ≡ option_or o rest → cond b (Some x) o' ≡ option_or (cond b (Some x) o) rest
found_first true x o o' rest e = refl
found_first false x o o' rest e = e

find_more : (p : ℕ → Bool) (xs : List ℕ) (n : ℕ) → find p (xs ++ n ∷ []) ≡ option_or (find p xs) (cond (p n) (Some n) None)
find_more p [] n = refl
find_more p (x ∷ xs) n = found_first (p x) x (find p xs) (find p (xs ++ n ∷ [])) (cond (p n) (Some n) None) (find_more p xs n)

map_or : (f : ℕ → ℕ) (o : Option ℕ) (b : Bool) (n : ℕ) → option_map f (option_or o (cond b (Some n) None)) ≡ option_or (option_map f o) (cond b (Some (f n)) None)
map_or f (Some c) b n = refl
map_or f None true n = refl
map_or f None false n = refl

count_one : (b : Bool) → count_by (λ has_echo. has_echo) (b ∷ []) ≡ cond b 1 0
count_one true = refl
count_one false = refl

count_more : (xs : List Bool) (b : Bool) → count_by (λ has_echo. has_echo) (xs ++ b ∷ []) ≡ count_by (λ has_echo. has_echo) xs + cond b 1 0
count_more xs b = sum_by-append (λ (x : Bool). cond x 1 0) xs (b ∷ []) ∙ ap (λ n. sum_by (λ (x : Bool). cond x 1 0) xs + n) (count_one b)

-- a position that closes what was opened below it
abbrev pub shuts : Setup → List Act → ℕ → Bool
shuts setup acts n = (is_admitted_at setup acts n && has_end_bit (kind_at acts n)) || is_none (holder_at setup acts n)

closes_is : (setup : Setup) (acts : List Act) (o n : ℕ) → o < n → closes setup acts o n ≡ shuts setup acts n
unfolding closes
closes_is setup acts o n h =
    ap (λ b. (is_admitted_at setup acts n && has_end_bit (kind_at acts n)) || (b && is_none (holder_at setup acts n))) (lt-ltb o n h)

-- the recording, with what a position adds to it
abbrev pub moved : ℕ → Bool → List StreamPacket → Bool → Recording → Recording
moved at shut more has_echo r = record {
  member = r.member;
  frames = take most_frames (r.frames ++ more);
  close = option_or r.close (cond shut (Some at) None);
  given = r.given + cond has_echo 1 0;
}

abbrev pub unless_settled : ActKind → Recording → Option Recording
unless_settled kind r = cond (settles r.member kind) None (Some r)

-- who is in since before o
since_cond : (s below joins : Bool) (o n : ℕ) (j : Option ℕ) → o ≤ n → option_map_or (λ i. nat_lt i o) (cond s (cond below (cond joins (Some n) None) None) j) false ≡ cond s false (option_map_or (λ i. nat_lt i o) j false)
since_cond false below joins o n j h = refl
since_cond true false joins o n j h = refl
since_cond true true false o n j h = refl
since_cond true true true o n j h = grind (arith, nat_tests)

pub since_suc : (places : ℕ) (events : List Event) (k : Member) (o n : ℕ) → o ≤ n → is_in_since places (acts_of events) k o (suc n) ≡ cond (settles k (kind_at (acts_of events) n)) false (is_in_since places (acts_of events) k o n)
since_suc places events k o n h =
    ap (λ j. option_map_or (λ i. nat_lt i o) j false) (joined_suc places events k n)
    ∙ since_cond (settles k (kind_at (acts_of events) n)) (nat_lt k.place places) (is_join_of k (kind_at (acts_of events) n)) o n (joined_at places (acts_of events) k n) h

stays_on : (kind : ActKind) (s t : Bool) (old new : Recording) (move : Recording → Recording) → settles (move old).member kind ≡ s → new ≡ move old → cond (cond s false t) (Some new) None ≡ option_and_then (unless_settled kind) (option_map move (cond t (Some old) None))
stays_on kind true true old new move e is = sym (cond-true (settles (move old).member kind) None (Some (move old)) e)
stays_on kind true false old new move e is = refl
stays_on kind false true old new move e is = ap Some is ∙ sym (cond-false (settles (move old).member kind) None (Some (move old)) e)
stays_on kind false false old new move e is = refl

-- what one position adds
abbrev made : Member → List StreamPacket → Option ℕ → ℕ → Recording
made k frames close given = record { member = k; frames = frames; close = close; given = given }

held_suc : (setup : Setup) (acts : List Act) (o n : ℕ) → o ≤ n → held_before setup acts o (suc n) ≡ take most_frames (held_before setup acts o n ++ admitted_packet setup acts n)
held_suc setup acts o n h =
    let packets : List StreamPacket = flat_map (admitted_packet setup acts) (positions_from o n) in
    ap (λ ns. take most_frames (flat_map (admitted_packet setup acts) ns)) (positions_suc o n h)
    ∙ ap (take most_frames) (flat_map-append (admitted_packet setup acts) (positions_from o n) (n ∷ []) ∙ ap (λ xs. packets ++ xs) (append-nil (admitted_packet setup acts n)))
    ∙ taken most_frames packets (admitted_packet setup acts n)

close_suc : (setup : Setup) (acts : List Act) (o n : ℕ) → o < n → option_map (moment_at acts) (close_before setup acts o (suc n)) ≡ option_or (option_map (moment_at acts) (close_before setup acts o n)) (cond (shuts setup acts n) (Some (moment_at acts n)) None)
close_suc setup acts o n h =
    ap (λ ns. option_map (moment_at acts) (find (closes setup acts o) ns)) (positions_suc o n (omega arith))
    ∙ ap (option_map (moment_at acts)) (find_more (closes setup acts o) (positions_from o n) n)
    ∙ map_or (moment_at acts) (close_before setup acts o n) (closes setup acts o n) n
    ∙ ap (λ b. option_or (option_map (moment_at acts) (close_before setup acts o n)) (cond b (Some (moment_at acts n)) None)) (closes_is setup acts o n h)

given_suc : (o : ℕ) (echoed : List Bool) (b : Bool) → o < length echoed → count_by (λ has_echo. has_echo) (drop (suc o) (echoed ++ b ∷ [])) ≡ count_by (λ has_echo. has_echo) (drop (suc o) echoed) + cond b 1 0
given_suc o echoed b h = ap (count_by (λ has_echo. has_echo)) (drop-append-le (suc o) echoed (b ∷ []) (omega arith)) ∙ count_more (drop (suc o) echoed) b

of_suc : (setup : Setup) (events : List Event) (n o : ℕ) (echoed : List Bool) (b : Bool) (kind : ActKind) → o < n → length echoed ≡ n →
    recording_of (opening setup (acts_of events) o (suc n)) (echoed ++ b ∷ []) kind
    ≡ option_and_then (unless_settled (kind_at (acts_of events) n)) (option_map (moved (moment_at (acts_of events) n) (shuts setup (acts_of events) n) (admitted_packet setup (acts_of events) n) b) (recording_of (opening setup (acts_of events) o n) echoed kind))
of_suc setup events n o echoed b (Packet k p) h len =
    let acts : List Act = acts_of events in
    let move : Recording → Recording = moved (moment_at acts n) (shuts setup acts n) (admitted_packet setup acts n) b in
    let old : Recording = made k (held_before setup acts o n) (option_map (moment_at acts) (close_before setup acts o n)) (count_by (λ has_echo. has_echo) (drop (suc o) echoed)) in
    let new : Recording = made k (held_before setup acts o (suc n)) (option_map (moment_at acts) (close_before setup acts o (suc n))) (count_by (λ has_echo. has_echo) (drop (suc o) (echoed ++ b ∷ []))) in
    let is : new ≡ move old =
    ap (λ frames. made k frames new.close new.given) (held_suc setup acts o n (omega arith))
    ∙ ap (λ close. made k (move old).frames close new.given) (close_suc setup acts o n h)
    ∙ ap (made k (move old).frames (move old).close) (given_suc o echoed b (omega arith)) in
    ap (λ stays. cond stays (Some new) None) (since_suc setup.places events k o n (omega arith))
    ∙ stays_on (kind_at acts n) (settles k (kind_at acts n)) (is_in_since setup.places acts k o n) old new move refl is
of_suc setup events n o echoed b (Join k listens) h len = refl
of_suc setup events n o echoed b (Leave k) h len = refl
of_suc setup events n o echoed b Other h len = refl

below_suc : (setup : Setup) (events : List Event) (n : ℕ) (echoed : List Bool) (b : Bool) (last : Option ℕ) → (((o : ℕ) → last ≡ Some o → o < n)) → length echoed ≡ n →
    option_and_then (λ o. recording_of (opening setup (acts_of events) o (suc n)) (echoed ++ b ∷ []) (kind_at (acts_of events) o)) last
    ≡ option_and_then (unless_settled (kind_at (acts_of events) n)) (option_map (moved (moment_at (acts_of events) n) (shuts setup (acts_of events) n) (admitted_packet setup (acts_of events) n) b) (option_and_then (λ o. recording_of (opening setup (acts_of events) o n) echoed (kind_at (acts_of events) o)) last))
below_suc setup events n echoed b None h len = refl
below_suc setup events n echoed b (Some o) h len = of_suc setup events n o echoed b (kind_at (acts_of events) o) (h o refl) len

-- A position that opens nothing.
pub recording_goes_on : (setup : Setup) (events : List Event) (n : ℕ) (echoed : List Bool) (b : Bool) → length echoed ≡ n → is_opened_at setup (acts_of events) n ≡ false →
    recording_with setup (acts_of events) (suc n) (echoed ++ b ∷ [])
    ≡ option_and_then (unless_settled (kind_at (acts_of events) n)) (option_map (moved (moment_at (acts_of events) n) (shuts setup (acts_of events) n) (admitted_packet setup (acts_of events) n) b) (recording_with setup (acts_of events) n echoed))
unfolding recording_with
recording_goes_on setup events n echoed b len other =
    let opened : ℕ → Bool = is_opened_at setup (acts_of events) in
    ap (option_and_then (λ o. recording_of (opening setup (acts_of events) o (suc n)) (echoed ++ b ∷ []) (kind_at (acts_of events) o)))
    (last_below_suc opened n ∙ cond-false (opened n) (Some n) (last_below opened n) other)
    ∙ below_suc setup events n echoed b (last_below opened n) (λ o e. last_below_lt opened n o e) len

-- A position that opens the floor.
positions_one : (n : ℕ) → positions_from n (suc n) ≡ n ∷ []
positions_one n = let one : suc n - n ≡ suc zero = omega arith in ap (range_with_len n) one

or_false : (b : Bool) → (b || false) ≡ b
or_false true = refl
or_false false = refl

closes_at : (setup : Setup) (acts : List Act) (n : ℕ) → closes setup acts n n ≡ (is_admitted_at setup acts n && has_end_bit (kind_at acts n))
unfolding closes
closes_at setup acts n =
    let no : nat_lt n n ≡ false = grind (arith, nat_tests) in
    ap (λ b. (is_admitted_at setup acts n && has_end_bit (kind_at acts n)) || (b && is_none (holder_at setup acts n))) no ∙ or_false (is_admitted_at setup acts n && has_end_bit (kind_at acts n))

mapped : (f : ℕ → ℕ) (b : Bool) (n : ℕ) → option_map f (cond b (Some n) None) ≡ cond b (Some (f n)) None
mapped f true n = refl
mapped f false n = refl

pub recording_opens : (setup : Setup) (events : List Event) (n : ℕ) (echoed : List Bool) (b : Bool) (k : Member) (p : StreamPacket) → length echoed ≡ n → is_opened_at setup (acts_of events) n ≡ true → kind_at (acts_of events) n ≡ Packet k p → is_in_since setup.places (acts_of events) k n n ≡ true → admitted_packet setup (acts_of events) n ≡ p ∷ [] → is_admitted_at setup (acts_of events) n ≡ true →
    recording_with setup (acts_of events) (suc n) (echoed ++ b ∷ []) ≡ Some (made k (p ∷ []) (cond p.last (Some (moment_at (acts_of events) n)) None) 0)
unfolding recording_with
recording_opens setup events n echoed b k p len opened is stays packet admitted =
    let acts : List Act = acts_of events in
    let test : ℕ → Bool = is_opened_at setup acts in
    let since : is_in_since setup.places acts k n (suc n) ≡ true =
    since_suc setup.places events k n n (omega arith)
    ∙ ap (λ kind. cond (settles k kind) false (is_in_since setup.places acts k n n)) is ∙ stays in
    let frames : held_before setup acts n (suc n) ≡ p ∷ [] =
    ap (λ ns. take most_frames (flat_map (admitted_packet setup acts) ns)) (positions_one n)
    ∙ ap (λ xs. take most_frames (xs ++ [])) packet in
    let close : option_map (moment_at acts) (close_before setup acts n (suc n)) ≡ cond p.last (Some (moment_at acts n)) None =
    ap (λ ns. option_map (moment_at acts) (find (closes setup acts n) ns)) (positions_one n)
    ∙ ap (λ c. option_map (moment_at acts) (cond c (Some n) None)) (closes_at setup acts n ∙ ap (λ x. x && has_end_bit (kind_at acts n)) admitted ∙ ap has_end_bit is)
    ∙ mapped (moment_at acts) p.last n in
    let given : count_by (λ has_echo. has_echo) (drop (suc n) (echoed ++ b ∷ [])) ≡ 0 =
    ap (count_by (λ has_echo. has_echo)) (drop_all (suc n) (echoed ++ b ∷ []) (omega (arith, length_more echoed b))) in
    ap (option_and_then (λ o. recording_of (opening setup acts o (suc n)) (echoed ++ b ∷ []) (kind_at acts o)))
    (last_below_suc test n ∙ cond-true (test n) (Some n) (last_below test n) opened)
    ∙ ap (recording_of (opening setup acts n (suc n)) (echoed ++ b ∷ [])) is
    ∙ cond-true (is_in_since setup.places acts k n (suc n)) _ None since
    ∙ ap (λ xs. Some (made k xs (option_map (moment_at acts) (close_before setup acts n (suc n))) (count_by (λ has_echo. has_echo) (drop (suc n) (echoed ++ b ∷ []))))) frames
    ∙ ap (λ c. Some (made k (p ∷ []) c (count_by (λ has_echo. has_echo) (drop (suc n) (echoed ++ b ∷ []))))) close
    ∙ ap (λ g. Some (made k (p ∷ []) (cond p.last (Some (moment_at acts n)) None) g)) given

-- What is found of who is recorded.
pub record IsFound (places : ℕ) (acts : List Act) (n : ℕ) (r : Recording) : Type 0 where
  pub join : ℕ
  pub joined : joined_at places acts r.member n ≡ Some join
  pub few : length r.frames ≤ most_frames

join_some : (o : ℕ) (j : Option ℕ) → option_map_or (λ i. nat_lt i o) j false ≡ true → (i : ℕ) × (j ≡ Some i)
join_some o None e = cc
join_some o (Some i) e = (i, refl)

found_cond : (b : Bool) (x r : Recording) → cond b (Some x) None ≡ Some r → (b ≡ true) × (x ≡ r)
found_cond true x r e = (refl, same_Some x r e)
found_cond false x r e = cc

found_of : (setup : Setup) (acts : List Act) (n : ℕ) (echoed : List Bool) (o : ℕ) (kind : ActKind) (r : Recording) → recording_of (opening setup acts o n) echoed kind ≡ Some r → IsFound setup.places acts n r
found_of setup acts n echoed o (Packet k p) r e =
    let parts = found_cond (is_in_since setup.places acts k o n) _ r e in
    let join = join_some o (joined_at setup.places acts k n) parts.0 in
    record {
      join = join.0;
      joined = ap (λ (x : Recording). joined_at setup.places acts x.member n) (sym parts.1) ∙ join.1;
      few = (let len : length r.frames ≡ length (held_before setup acts o n) = ap (λ (x : Recording). length x.frames) (sym parts.1) in omega (arith, length-take most_frames (flat_map (admitted_packet setup acts) (positions_from o n))));
    }
found_of setup acts n echoed o (Join k listens) r e = cc
found_of setup acts n echoed o (Leave k) r e = cc
found_of setup acts n echoed o Other r e = cc

found_last : (setup : Setup) (acts : List Act) (n : ℕ) (echoed : List Bool) (last : Option ℕ) (r : Recording) → option_and_then (λ o. recording_of (opening setup acts o n) echoed (kind_at acts o)) last ≡ Some r → IsFound setup.places acts n r
found_last setup acts n echoed None r e = cc
found_last setup acts n echoed (Some o) r e = found_of setup acts n echoed o (kind_at acts o) r e

pub found : (setup : Setup) (acts : List Act) (n : ℕ) (echoed : List Bool) (r : Recording) → recording_with setup acts n echoed ≡ Some r → IsFound setup.places acts n r
unfolding recording_with
found setup acts n echoed r e = found_last setup acts n echoed (last_opened setup acts n) r e
