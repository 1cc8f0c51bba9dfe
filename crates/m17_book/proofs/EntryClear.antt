-- Entries of a trace: no spelling begins another, and what begins with one has no flaw.
use Rattle.std.proofs.Common.{◌≡◌, ◌⊎◌, ℕ, ◌+◌, ◌<◌, ◌≤◌, ◌^◌, Bool, true, false, List, [], ◌∷◌, ◌++◌, length, take, drop, get_or, inl, inr, refl, sym, ap, subst, ◌∙◌, arith, append_assoc, length-append}
use Rattle.std.proofs.lemmas.List.{take-append-drop, length-take-le}
use Rattle.m17_fields.specs.Fields.{be_16, be_64, Fields16AreExact, Fields64AreExact}
use Rattle.m17_values.specs.declared.peer.Peer.{Peer}
use Rattle.m17_values.specs.declared.heard.Heard.{Heard}
use Rattle.m17_values.specs.declared.heard.Heard.TheVariants.{Datagram, Quiet, Fault, End}
use Rattle.m17_book.specs.Entries.{SpellsEntry, FitsEntry, entry_bytes, family_bytes}
use Rattle.m17_book.specs.Limits.{IsKind}
use Rattle.m17_book.specs.Flaws.{kind_of, EntryFlaw, EntryField, Family, Length_4, Length_6, IsInEntry, IsAllowedInEntry, IsShortEntry}
use Rattle.m17_book.specs.declared.refusal.Flaw.{Flaw}
use Rattle.m17_book.specs.declared.refusal.Flaw.TheVariants as flaws
use Rattle.m17_book.proofs.Pieces.{parts, cons_parts, behind}
use Rattle.m17_book.specs.Laws.{IsClear}

-- the bytes of a datagram, and whatever comes after them
nested : (from : Peer) (at : ℕ) (bytes x : List ℕ) → entry_bytes (Datagram from at bytes) ++ x
    ≡ 1 ∷ (be_64 at ++ (family_bytes from.six from.ip ++ (be_16 from.port ++ (length bytes ∷ (bytes ++ x)))))
nested from at bytes x = simp append_assoc

before_length : Peer → ℕ → List ℕ
before_length from at = (1 ∷ []) ++ be_64 at ++ family_bytes from.six from.ip ++ be_16 from.port

at_length : (from : Peer) (at : ℕ) (bytes x : List ℕ) → entry_bytes (Datagram from at bytes) ++ x ≡ before_length from at ++ length bytes ∷ (bytes ++ x)
unfolding before_length
at_length from at bytes x = simp append_assoc

long_64 : (n : ℕ) → length (be_64 n) ≡ 8
long_64 n = refl

long_16 : (n : ℕ) → length (be_16 n) ≡ 2
long_16 n = refl

long_before : (from : Peer) (at : ℕ) → length (before_length from at) ≡ 11 + length (family_bytes from.six from.ip)
unfolding before_length
long_before from at = omega (
  arith,
  length-append ((1 ∷ []) ++ be_64 at ++ family_bytes from.six from.ip) (be_16 from.port),
  length-append ((1 ∷ []) ++ be_64 at) (family_bytes from.six from.ip),
  long_64 at,
  long_16 from.port,
)

long_family : (six : Bool) (ip : List ℕ) → length ip ≡ 16 → ((six ≡ false) × (length (family_bytes six ip) ≡ 5)) ⊎ ((six ≡ true) × (length (family_bytes six ip) ≡ 17))
long_family false ip long = inl (refl, omega (arith, length-take-le 4 ip (omega arith)))
long_family true ip long = inr (refl, omega arith)

-- two addresses of which the bytes are the same
same_ip_4 : (ip ip' : List ℕ) → length ip ≡ 16 → length ip' ≡ 16 → take 4 ip ≡ take 4 ip' → drop 4 ip ≡ drop 4 ip' → ip ≡ ip'
same_ip_4 ip ip' l l' t d = sym (take-append-drop 4 ip) ∙ ap (λ xs. xs ++ drop 4 ip) t ∙ ap (λ xs. take 4 ip' ++ xs) d ∙ take-append-drop 4 ip'

same_family : (six six' : Bool) (ip ip' s t : List ℕ) → length ip ≡ 16 → length ip' ≡ 16 → (six ≡ false → six' ≡ false → drop 4 ip ≡ drop 4 ip')
    → family_bytes six ip ++ s ≡ family_bytes six' ip' ++ t → (six ≡ six') × (ip ≡ ip') × (s ≡ t)
same_family false false ip ip' s t l l' zeros e =
    let h = parts (take 4 ip) (take 4 ip') s t (length-take-le 4 ip (omega arith) ∙ sym (length-take-le 4 ip' (omega arith))) (cons_parts 4 4 _ _ e).1 in
    (refl, same_ip_4 ip ip' l l' h.0 (zeros refl refl), h.1)
same_family true true ip ip' s t l l' zeros e =
    let h = parts ip ip' s t (omega arith) (cons_parts 6 6 _ _ e).1 in (refl, h.0, h.1)
same_family false true ip ip' s t l l' zeros e = absurd (omega (arith, (cons_parts 4 6 _ _ e).0))
same_family true false ip ip' s t l l' zeros e = absurd (omega (arith, (cons_parts 6 4 _ _ e).0))

peer_eq : (p q : Peer) → p.six ≡ q.six → p.ip ≡ q.ip → p.port ≡ q.port → p ≡ q
peer_eq p q s i o = ap (λ (x : Bool). record p { six = x }) s ∙ ap (λ (x : List ℕ). record p { six = q.six; ip = x }) i
    ∙ ap (λ (x : ℕ). record q { port = x }) o

same_datagram : Fields16AreExact → Fields64AreExact → (from from' : Peer) (at at' : ℕ) (bytes bytes' x y : List ℕ) → FitsEntry (Datagram from at bytes)
    → FitsEntry (Datagram from' at' bytes') → entry_bytes (Datagram from at bytes) ++ x ≡ entry_bytes (Datagram from' at' bytes') ++ y
    → Datagram from at bytes ≡ Datagram from' at' bytes'
same_datagram law16 law64 from from' at at' bytes bytes' x y f f' e =
    let whole = (cons_parts 1 1 _ _ (sym (nested from at bytes x) ∙ e ∙ nested from' at' bytes' y)).1 in
    let moment = parts (be_64 at) (be_64 at') _ _ (long_64 at ∙ sym (long_64 at')) whole in
    let family = same_family from.six from'.six from.ip from'.ip _ _ f.0.address f'.0.address (λ s s'. f.0.short s ∙ sym (f'.0.short s')) moment.1 in
    let port = parts (be_16 from.port) (be_16 from'.port) _ _ (long_16 from.port ∙ sym (long_16 from'.port)) family.2 in
    let len = cons_parts (length bytes) (length bytes') _ _ port.1 in
    let text = parts bytes bytes' x y len.0 len.1 in
    let same_at : at ≡ at' = law64.one_number at at' f.1 f'.1 moment.0 in
    let same_port : from.port ≡ from'.port = law16.one_number from.port from'.port f.0.port f'.0.port port.0 in
    let same_peer : from ≡ from' = peer_eq from from' family.0 family.1 same_port in
    ap (λ (p : Peer). Datagram p at bytes) same_peer ∙ ap (λ (n : ℕ). Datagram from' n bytes) same_at ∙ ap (λ (b : List ℕ). Datagram from' at' b) text.0

same_quiet : Fields64AreExact → (at at' : ℕ) (x y : List ℕ) → at < 2 ^ 64 → at' < 2 ^ 64 → entry_bytes (Quiet at) ++ x ≡ entry_bytes (Quiet at') ++ y → Quiet at ≡ Quiet at'
same_quiet law at at' x y f f' e =
    let bytes = parts ((2 ∷ []) ++ be_64 at) ((2 ∷ []) ++ be_64 at') x y refl e in
    ap Quiet (law.one_number at at' f f' (cons_parts 2 2 _ _ bytes.0).1)

-- the first byte of an entry is that of its kind
kind_code : Heard → ℕ
kind_code (Datagram from at bytes) = 1
kind_code (Quiet at) = 2
kind_code Fault = 3
kind_code End = 0

starts : (v : Heard) (x : List ℕ) → FitsEntry v → get_or (entry_bytes v ++ x) 0 0 ≡ kind_code v
unfolding kind_code
starts (Datagram from at bytes) x f = ap (λ xs. get_or xs 0 0) (nested from at bytes x)
starts (Quiet at) x f = refl
starts Fault x f = refl
starts End x f = absurd f

one_entry : Fields16AreExact → Fields64AreExact → (v w : Heard) (x y : List ℕ) → FitsEntry v → FitsEntry w → entry_bytes v ++ x ≡ entry_bytes w ++ y
    → kind_code v ≡ kind_code w → v ≡ w
unfolding kind_code
one_entry law16 law64 (Datagram from at bytes) (Datagram from' at' bytes') x y f g e k = same_datagram law16 law64 from from' at at' bytes bytes' x y f g e
one_entry law16 law64 (Datagram from at bytes) (Quiet at') x y f g e k = absurd (omega arith)
one_entry law16 law64 (Datagram from at bytes) Fault x y f g e k = absurd (omega arith)
one_entry law16 law64 (Datagram from at bytes) End x y f g e k = absurd g
one_entry law16 law64 (Quiet at) (Datagram from at' bytes) x y f g e k = absurd (omega arith)
one_entry law16 law64 (Quiet at) (Quiet at') x y f g e k = same_quiet law64 at at' x y f g e
one_entry law16 law64 (Quiet at) Fault x y f g e k = absurd (omega arith)
one_entry law16 law64 (Quiet at) End x y f g e k = absurd g
one_entry law16 law64 Fault (Datagram from at bytes) x y f g e k = absurd (omega arith)
one_entry law16 law64 Fault (Quiet at) x y f g e k = absurd (omega arith)
one_entry law16 law64 Fault Fault x y f g e k = refl
one_entry law16 law64 Fault End x y f g e k = absurd g
one_entry law16 law64 End w x y f g e k = absurd f

one : Fields16AreExact → Fields64AreExact → (v w : Heard) (a b x y : List ℕ) → SpellsEntry v a → SpellsEntry w b → a ++ x ≡ b ++ y → (v ≡ w) × (a ≡ b)
one law16 law64 v w a b x y h k e =
    let same = ap (λ xs. xs ++ x) (sym h.1) ∙ e ∙ ap (λ xs. xs ++ y) k.1 in
    let kind = sym (starts v x h.0) ∙ ap (λ xs. get_or xs 0 0) same ∙ starts w y k.0 in
    let value = one_entry law16 law64 v w x y h.0 k.0 same kind in
    (value, h.1 ∙ ap entry_bytes value ∙ sym k.1)

-- bytes that begin with a whole entry: a fault, a quiet, a datagram behind an address of 4 bytes, or of 16
pub record IsWholeDatagram (b : List ℕ) (family at : ℕ) : Type 0 where
  pub kind : kind_of b ≡ 1
  pub family_is : get_or b 9 0 ≡ family
  pub short : get_or b at 0 ≤ 64
  pub within : at + 1 + get_or b at 0 ≤ length b

abbrev pub IsWhole : List ℕ → Type 0
IsWhole b = (kind_of b ≡ 3) ⊎ ((kind_of b ≡ 2) × (9 ≤ length b)) ⊎ IsWholeDatagram b 4 16 ⊎ IsWholeDatagram b 6 28

whole_4 : (from : Peer) (at : ℕ) (bytes x b : List ℕ) → FitsEntry (Datagram from at bytes) → b ≡ entry_bytes (Datagram from at bytes) ++ x
    → from.six ≡ false → length (family_bytes from.six from.ip) ≡ 5 → IsWholeDatagram b 4 16
whole_4 from at bytes x b f e four five =
    let split = e ∙ at_length from at bytes x in
    let len = behind b (before_length from at) (bytes ++ x) (length bytes) 16 split (omega (arith, long_before from at)) in
    let size : length b ≡ 16 + 1 + length bytes + length x =
    omega (arith, ap length split, length-append (before_length from at) (length bytes ∷ (bytes ++ x)), length-append bytes x, long_before from at) in
    record {
      kind = ap (λ xs. get_or xs 0 0) (e ∙ nested from at bytes x);
      family_is = ap (λ xs. get_or xs 9 0) (e ∙ nested from at bytes x)
          ∙ ap (λ (s : Bool). get_or (family_bytes s from.ip ++ (be_16 from.port ++ (length bytes ∷ (bytes ++ x)))) 0 0) four;
      short = omega (arith, len, f.2);
      within = omega (arith, len, size);
    }

whole_6 : (from : Peer) (at : ℕ) (bytes x b : List ℕ) → FitsEntry (Datagram from at bytes) → b ≡ entry_bytes (Datagram from at bytes) ++ x
    → from.six ≡ true → length (family_bytes from.six from.ip) ≡ 17 → IsWholeDatagram b 6 28
whole_6 from at bytes x b f e six five =
    let split = e ∙ at_length from at bytes x in
    let len = behind b (before_length from at) (bytes ++ x) (length bytes) 28 split (omega (arith, long_before from at)) in
    let size : length b ≡ 28 + 1 + length bytes + length x =
    omega (arith, ap length split, length-append (before_length from at) (length bytes ∷ (bytes ++ x)), length-append bytes x, long_before from at) in
    record {
      kind = ap (λ xs. get_or xs 0 0) (e ∙ nested from at bytes x);
      family_is = ap (λ xs. get_or xs 9 0) (e ∙ nested from at bytes x)
          ∙ ap (λ (s : Bool). get_or (family_bytes s from.ip ++ (be_16 from.port ++ (length bytes ∷ (bytes ++ x)))) 0 0) six;
      short = omega (arith, len, f.2);
      within = omega (arith, len, size);
    }

whole_datagram : (from : Peer) (at : ℕ) (bytes x b : List ℕ) → FitsEntry (Datagram from at bytes) → b ≡ entry_bytes (Datagram from at bytes) ++ x
    → ((from.six ≡ false) × (length (family_bytes from.six from.ip) ≡ 5)) ⊎ ((from.six ≡ true) × (length (family_bytes from.six from.ip) ≡ 17)) → IsWhole b
whole_datagram from at bytes x b f e (inl h) = inr (inr (inl (whole_4 from at bytes x b f e h.0 h.1)))
whole_datagram from at bytes x b f e (inr h) = inr (inr (inr (whole_6 from at bytes x b f e h.0 h.1)))

whole : (v : Heard) (x b : List ℕ) → FitsEntry v → b ≡ entry_bytes v ++ x → IsWhole b
whole (Datagram from at bytes) x b f e = whole_datagram from at bytes x b f e (long_family from.six from.ip f.0.address)
whole (Quiet at) x b f e = inr (inl (ap (λ xs. get_or xs 0 0) e, omega (arith, ap length e)))
whole Fault x b f e = inl (ap (λ xs. get_or xs 0 0) e)
whole End x b f e = absurd f

no_bad_4 : (b : List ℕ) (field : EntryField) → IsWholeDatagram b 4 16 → IsInEntry field b → (IsAllowedInEntry field b → ⊥) → ⊥
no_bad_4 b Family w is_in bad = bad (inl w.family_is)
no_bad_4 b Length_4 w is_in bad = bad w.short
no_bad_4 b Length_6 w is_in bad = omega (arith, w.family_is, is_in.1)

no_bad_6 : (b : List ℕ) (field : EntryField) → IsWholeDatagram b 6 28 → IsInEntry field b → (IsAllowedInEntry field b → ⊥) → ⊥
no_bad_6 b Family w is_in bad = bad (inr w.family_is)
no_bad_6 b Length_4 w is_in bad = omega (arith, w.family_is, is_in.1)
no_bad_6 b Length_6 w is_in bad = bad w.short

kind_in : (b : List ℕ) (field : EntryField) → IsInEntry field b → kind_of b ≡ 1
kind_in b Family h = h
kind_in b Length_4 h = h.0
kind_in b Length_6 h = h.0

is_kind : (b : List ℕ) → IsWhole b → IsKind (kind_of b)
is_kind b (inl h) = (omega arith, omega arith)
is_kind b (inr (inl h)) = (omega (arith, h.0), omega (arith, h.0))
is_kind b (inr (inr (inl h))) = (omega (arith, h.kind), omega (arith, h.kind))
is_kind b (inr (inr (inr h))) = (omega (arith, h.kind), omega (arith, h.kind))

not_cut : (b : List ℕ) → IsWhole b → IsShortEntry b → ⊥
not_cut b (inl h) s = s.fault h
not_cut b (inr (inl h)) s = omega (arith, s.quiet h.0, h.1)
not_cut b (inr (inr (inl h))) s = omega (arith, s.datagram_4 h.kind h.family_is, h.within)
not_cut b (inr (inr (inr h))) s = omega (arith, s.datagram_6 h.kind h.family_is, h.within)

not_bad : (b : List ℕ) (field : EntryField) → IsWhole b → IsInEntry field b → (IsAllowedInEntry field b → ⊥) → ⊥
not_bad b field (inl h) is_in bad = omega (arith, h, kind_in b field is_in)
not_bad b field (inr (inl h)) is_in bad = omega (arith, h.0, kind_in b field is_in)
not_bad b field (inr (inr (inl h))) is_in bad = no_bad_4 b field h is_in bad
not_bad b field (inr (inr (inr h))) is_in bad = no_bad_6 b field h is_in bad

pub whole_no_flaw : (b : List ℕ) (flaw : Flaw) → IsWhole b → EntryFlaw b flaw → ⊥
whole_no_flaw b flaws.Cut w h = not_cut b w h.2
whole_no_flaw b (flaws.Kind byte) w h = h.2 (subst IsKind (sym h.1) (is_kind b w))
whole_no_flaw b (flaws.Field k) w h = not_bad b h.1 w h.2.is_in h.2.bad

not_both : (v : Heard) (a x : List ℕ) (flaw : Flaw) → SpellsEntry v a → EntryFlaw (a ++ x) flaw → ⊥
not_both v a x flaw h bad = whole_no_flaw (a ++ x) flaw (whole v x (a ++ x) h.0 (ap (λ xs. xs ++ x) h.1)) bad

some_bytes : (v : Heard) → FitsEntry v → 0 < length (entry_bytes v)
some_bytes (Datagram from at bytes) f = omega (arith, ap length (nested from at bytes []), length-append (entry_bytes (Datagram from at bytes)) [])
some_bytes (Quiet at) f = omega arith
some_bytes Fault f = omega arith
some_bytes End f = absurd f

no_flaw : (f : Flaw) → EntryFlaw [] f → ⊥
no_flaw flaws.Cut h = omega (arith, h.0)
no_flaw (flaws.Kind byte) h = omega (arith, h.0)
no_flaw (flaws.Field k) h = omega (arith, h.2.whole)

pub clear : Fields16AreExact → Fields64AreExact → ((b : List ℕ) (f g : Flaw) → EntryFlaw b f → EntryFlaw b g → f ≡ g) → IsClear SpellsEntry EntryFlaw
clear law16 law64 one_flaw =
    record {
      one = one law16 law64;
      some = λ v a h. subst (λ (xs : List ℕ). 0 < length xs) (sym h.1) (some_bytes v h.0);
      not_both = not_both;
      one_flaw = one_flaw;
      no_flaw = no_flaw;
    }
