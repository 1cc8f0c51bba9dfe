-- The bytes of a datagram's entry, field by field.
use Rattle.std.proofs.Common.{◌≡◌, ◌⊎◌, ℕ, ◌+◌, ◌-◌, ◌<◌, ◌≤◌, ◌^◌, Bool, true, false, nat_eq, List, [], ◌∷◌, ◌++◌, length, take, drop, get_or, slice_range, inl, inr, refl, sym, ap, subst, ◌∙◌, arith, append_assoc}
use Rattle.std.proofs.lemmas.List.{take_all, length-drop, length-take-le}
use Rattle.std.proofs.lemmas.List.Elements.{All-take, All-drop}
use Rattle.std.proofs.lemmas.Grind.{common_steps}
use Rattle.std.proofs.Math.Seq.{take-add}
use Rattle.m17_fields.specs.Fields.{be_16, be_64, IsBytes}
use Rattle.m17_values.specs.declared.heard.Heard.TheVariants.{Datagram}
use Rattle.m17_book.specs.Entries.{SpellsEntry, entry_bytes, family_bytes}
use Rattle.m17_book.specs.Records.{zeros_12}
use Rattle.m17_book.specs.Flaws.{kind_of}
use Rattle.m17_book.specs.Parsed.{BeginsWith, IsAddress}

-- one more byte
pub take_one : (b : List ℕ) (i : ℕ) → i < length b → take (i + 1) b ≡ take i b ++ get_or b i 0 ∷ []
take_one b i h = grind (arith, common_steps)

pub part_bytes : (n k : ℕ) (b : List ℕ) → IsBytes b → IsBytes (take k (drop n b))
part_bytes n k b h = All-take (λ byte. byte < 2 ^ 8) k (drop n b) (All-drop (λ byte. byte < 2 ^ 8) n b h)

datagram_bytes : (b ip bytes : List ℕ) (size at port len : ℕ) (six : Bool) → 10 + size + 2 + 1 + len ≤ length b → kind_of b ≡ 1
    → family_bytes six ip ≡ (get_or b 9 0 ∷ []) ++ take size (drop 10 b) → be_64 at ≡ take 8 (drop 1 b)
    → be_16 port ≡ take 2 (drop (10 + size) b) → len ≡ get_or b (10 + size + 2) 0 → bytes ≡ take len (drop (10 + size + 2 + 1) b)
    → length bytes ≡ len
    → take (10 + size + 2 + 1 + len) b ≡ entry_bytes (Datagram (record { six = six; ip = ip; port = port }) at bytes)
datagram_bytes b ip bytes size at port len six within kind family moment port_is len_is bytes_are long =
    let k : take 1 b ≡ 1 ∷ [] = take_one b 0 (omega arith) ∙ ap (λ x. x ∷ []) kind in
    let m : take 9 b ≡ (1 ∷ []) ++ be_64 at = take-add 1 8 b ∙ ap (λ xs. xs ++ take 8 (drop 1 b)) k ∙ ap (λ xs. (1 ∷ []) ++ xs) (sym moment) in
    let f : take 10 b ≡ (1 ∷ []) ++ be_64 at ++ (get_or b 9 0 ∷ []) = take_one b 9 (omega arith) ∙ ap (λ xs. xs ++ get_or b 9 0 ∷ []) m in
    let a : take (10 + size) b ≡ (1 ∷ []) ++ be_64 at ++ family_bytes six ip = take-add 10 size b ∙ ap (λ xs. xs ++ take size (drop 10 b)) f
    ∙ append_assoc ((1 ∷ []) ++ be_64 at) (get_or b 9 0 ∷ []) (take size (drop 10 b)) ∙ ap (λ xs. (1 ∷ []) ++ be_64 at ++ xs) (sym family) in
    let front = (1 ∷ []) ++ be_64 at ++ family_bytes six ip in
    let p : take (10 + size + 2) b ≡ front ++ be_16 port = take-add (10 + size) 2 b ∙ ap (λ xs. xs ++ take 2 (drop (10 + size) b)) a
    ∙ ap (λ xs. front ++ xs) (sym port_is) in
    let l : take (10 + size + 2 + 1) b ≡ front ++ be_16 port ++ (length bytes ∷ []) = take_one b (10 + size + 2) (omega arith)
    ∙ ap (λ xs. xs ++ get_or b (10 + size + 2) 0 ∷ []) p ∙ ap (λ n. front ++ be_16 port ++ (n ∷ [])) (sym len_is ∙ sym long) in
    take-add (10 + size + 2 + 1) len b ∙ ap (λ xs. xs ++ take len (drop (10 + size + 2 + 1) b)) l
    ∙ ap (λ xs. front ++ be_16 port ++ (length bytes ∷ []) ++ xs) (sym bytes_are)

part : (b : List ℕ) (i j k : ℕ) → j ≡ i + k → slice_range b i j ≡ take k (drop i b)
part b i j k e = ap (λ n. take (n - i) (drop i b)) e ∙ ap (λ n. take n (drop i b)) (omega arith)

-- what a reader of a datagram has found in the bytes, where the address has so many bytes
pub record Stands (b ip bytes : List ℕ) (size at port len : ℕ) : Type 0 where
  pub all : IsBytes b
  pub all_ip : IsBytes ip
  pub within : 10 + size + 2 + 1 + len ≤ length b
  pub kind : kind_of b ≡ 1
  pub address : IsAddress (slice_range b 10 (10 + size)) ip
  pub moment : be_64 at ≡ take 8 (drop 1 b)
  pub at_fits : at < 2 ^ 64
  pub port_fits : port < 2 ^ 16
  pub port_is : be_16 port ≡ take 2 (drop (10 + size) b)
  pub len_is : len ≡ get_or b (10 + size + 2) 0
  pub low : len ≤ 64
  pub bytes_are : bytes ≡ take 64 (slice_range b (10 + size + 2 + 1) (10 + size + 2 + 1 + len))

address_is : (b : List ℕ) (size : ℕ) → 10 + size ≤ length b
    → (slice_range b 10 (10 + size) ≡ take size (drop 10 b)) × (length (slice_range b 10 (10 + size)) ≡ size)
address_is b size h =
    let field = part b 10 (10 + size) size refl in
    (field, ap length field ∙ length-take-le size (drop 10 b) (omega (arith, length-drop 10 b)))

text_is : (b bytes : List ℕ) (from len : ℕ) → from + len ≤ length b → len ≤ 64 → bytes ≡ take 64 (slice_range b from (from + len))
    → (bytes ≡ take len (drop from b)) × (length bytes ≡ len)
text_is b bytes from len within low is =
    let long : length (take len (drop from b)) ≡ len = length-take-le len (drop from b) (omega (arith, length-drop from b)) in
    let same : bytes ≡ take len (drop from b) = is ∙ ap (take 64) (part b from (from + len) len refl) ∙ take_all 64 _ (omega arith) in
    (same, ap length same ∙ long)

family_4 : (b ip field : List ℕ) → get_or b 9 0 ≡ 4 → length field ≡ 4 → field ≡ take 4 (drop 10 b) → IsAddress field ip
    → family_bytes false ip ≡ (get_or b 9 0 ∷ []) ++ take 4 (drop 10 b)
family_4 b ip field nine long is address =
    ap (λ x. (x ∷ []) ++ take 4 ip) (sym nine)
    ∙ ap (λ xs. (get_or b 9 0 ∷ []) ++ xs) (ap (λ n. take n ip) (sym long) ∙ address.front ∙ is)

short_4 : (field ip : List ℕ) → length field ≡ 4 → IsAddress field ip → drop 4 ip ≡ zeros_12
short_4 field ip long address =
    ap (λ n. drop n ip) (sym long) ∙ address.back ∙ ap (λ n. drop n (0 ∷ 0 ∷ 0 ∷ 0 ∷ zeros_12)) long

family_6 : (b ip field : List ℕ) → get_or b 9 0 ≡ 6 → length field ≡ 16 → field ≡ take 16 (drop 10 b) → IsAddress field ip
    → family_bytes true ip ≡ (get_or b 9 0 ∷ []) ++ take 16 (drop 10 b)
family_6 b ip field nine long is address =
    ap (λ x. (x ∷ []) ++ ip) (sym nine)
    ∙ ap (λ xs. (get_or b 9 0 ∷ []) ++ xs) (sym (take_all 16 ip (omega (arith, address.size))) ∙ ap (λ n. take n ip) (sym long) ∙ address.front ∙ is)

begins : (b ip bytes : List ℕ) (size at port len : ℕ) (six : Bool) → Stands b ip bytes size at port len
    → family_bytes six ip ≡ (get_or b 9 0 ∷ []) ++ take size (drop 10 b) → (six ≡ false → drop 4 ip ≡ zeros_12)
    → BeginsWith SpellsEntry b (Datagram (record { six = six; ip = ip; port = port }) at bytes) (10 + size + 2 + 1 + len)
begins b ip bytes size at port len six s family short =
    let text = text_is b bytes (10 + size + 2 + 1) len s.within s.low s.bytes_are in
    let all : IsBytes bytes = subst IsBytes (sym text.0) (part_bytes (10 + size + 2 + 1) len b s.all) in
    record {
      some = omega arith;
      within = s.within;
      spelled = (
        (
          record { address = s.address.size; address_bytes = s.all_ip; short = short; port = s.port_fits },
          s.at_fits,
          omega (arith, text.1, s.low),
          all,
        ),
        datagram_bytes b ip bytes size at port len six s.within s.kind family s.moment s.port_is s.len_is text.0 text.1,
      );
    }

begins_4 : (b ip bytes : List ℕ) (at port len : ℕ) → get_or b 9 0 ≡ 4 → Stands b ip bytes 4 at port len
    → BeginsWith SpellsEntry b (Datagram (record { six = false; ip = ip; port = port }) at bytes) (10 + 4 + 2 + 1 + len)
begins_4 b ip bytes at port len nine s =
    let is = address_is b 4 (omega (arith, s.within)) in
    begins b ip bytes 4 at port len false s (family_4 b ip _ nine is.1 is.0 s.address) (λ _. short_4 _ ip is.1 s.address)

begins_6 : (b ip bytes : List ℕ) (at port len : ℕ) → get_or b 9 0 ≡ 6 → Stands b ip bytes 16 at port len
    → BeginsWith SpellsEntry b (Datagram (record { six = true; ip = ip; port = port }) at bytes) (10 + 16 + 2 + 1 + len)
begins_6 b ip bytes at port len nine s =
    let is = address_is b 16 (omega (arith, s.within)) in
    begins b ip bytes 16 at port len true s (family_6 b ip _ nine is.1 is.0 s.address) (λ e. cc)

pub begins_datagram : (b ip bytes : List ℕ) (size at port len : ℕ) → ((get_or b 9 0 ≡ 4) × (size ≡ 4)) ⊎ ((get_or b 9 0 ≡ 6) × (size ≡ 16))
    → Stands b ip bytes size at port len
    → BeginsWith SpellsEntry b (Datagram (record { six = nat_eq size 16; ip = ip; port = port }) at bytes) (10 + size + 2 + 1 + len)
begins_datagram b ip bytes size at port len family s =
    let P : ℕ → Type 0 = λ n. Stands b ip bytes n at port len
    → BeginsWith SpellsEntry b (Datagram (record { six = nat_eq n 16; ip = ip; port = port }) at bytes) (10 + n + 2 + 1 + len) in
    elim family [
      | inl h ↦ subst P (sym h.1) (λ t. begins_4 b ip bytes at port len h.0 t) s
      | inr h ↦ subst P (sym h.1) (λ t. begins_6 b ip bytes at port len h.0 t) s
    ]
