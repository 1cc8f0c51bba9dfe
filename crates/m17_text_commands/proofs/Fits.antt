-- The entries of an evening fit a trace, and how long each is.
use Rattle.std.proofs.Common.{◌≡◌, ℕ, ◌+◌, ◌-◌, ◌%◌, ◌^◌, ◌<◌, ◌≤◌, Bool, List, [], ◌∷◌, ◌++◌, length, codes, replicate, refl, arith, lit<, lit≤}
use Rattle.std.proofs.lemmas.List.Elements.{All-append, All-from_recursion, All-replicate}
use Rattle.m17_fields.specs.Fields.{be_16, be_48, IsBytes}
use Rattle.m17_lsd.specs.Lsd.{lsd_bytes}
use Rattle.m17_stream.specs.Stream.{frame_field}
use Rattle.m17_crc.specs.Crc.{crc_of}
use Rattle.m17_book.specs.Entries.{FitsPeer, FitsEntry, entry_bytes}
use Rattle.m17_text_commands.specs.declared.made.Made.{Made}
use Rattle.m17_text_commands.specs.declared.made.Made.TheVariants.{Conn, Pong, Frame, Quiet}
use Rattle.m17_text_commands.specs.Hotspots.{peer_of, address_of, module_of}
use Rattle.m17_text_commands.specs.Made.{heard_as, IsSound, lsd_of, front_of, conn_bytes, pong_bytes, frame_bytes, entry_length}

joined : (xs ys : List ℕ) → IsBytes xs → IsBytes ys → IsBytes (xs ++ ys)
joined xs ys a b = All-append (λ byte. byte < 2 ^ 8) xs ys a b

bytes_16 : (n : ℕ) → IsBytes (be_16 n)
bytes_16 n = All-from_recursion (λ byte. byte < 2 ^ 8) (be_16 n) (omega arith, (omega arith, tt))

bytes_48 : (n : ℕ) → IsBytes (be_48 n)
bytes_48 n = All-from_recursion (λ byte. byte < 2 ^ 8) (be_48 n)
    (omega arith, (omega arith, (omega arith, (omega arith, (omega arith, (omega arith, tt))))))

bytes_conn : (i : ℕ) → i < 12 → IsBytes (conn_bytes i)
bytes_conn i h = joined (codes "CONN") (be_48 (address_of i) ++ module_of i ∷ []) conn (joined (be_48 (address_of i)) (module_of i ∷ []) (bytes_48 (address_of i)) letter) where
  conn : IsBytes (codes "CONN")
  conn = All-from_recursion (λ byte. byte < 2 ^ 8) (codes "CONN") (lit< tt, (lit< tt, (lit< tt, (lit< tt, tt))))

  letter : IsBytes (module_of i ∷ [])
  letter = All-from_recursion (λ byte. byte < 2 ^ 8) (module_of i ∷ []) (omega arith, tt)

fits_peer : (i : ℕ) → i < 12 → FitsPeer (peer_of i)
fits_peer i h = record {
  address = refl;
  address_bytes = joined (10 ∷ 0 ∷ 0 ∷ (i + 1) ∷ []) (replicate 12 0) (All-from_recursion (λ byte. byte < 2 ^ 8) (10 ∷ 0 ∷ 0 ∷ (i + 1) ∷ []) (lit< tt, (lit< tt, (lit< tt, (omega arith, tt)))))
      (All-replicate (λ byte. byte < 2 ^ 8) 12 0 (lit< tt));
  short = λ _. refl;
  port = lit< tt;
}

pub length_entry : (at : ℕ) (made : Made) → length (entry_bytes (heard_as at made)) ≡ entry_length made
unfolding heard_as
length_entry at (Conn i) = refl
length_entry at (Pong i) = refl
length_entry at (Frame i sid number last) = refl
length_entry at Quiet = refl

pub short_entry : (made : Made) → entry_length made ≤ 71
short_entry (Conn i) = lit≤ tt
short_entry (Pong i) = lit≤ tt
short_entry (Frame i sid number last) = lit≤ tt
short_entry Quiet = lit≤ tt

bytes_pong : (i : ℕ) → IsBytes (pong_bytes i)
bytes_pong i = joined (codes "PONG") (be_48 (address_of i))
    (All-from_recursion (λ byte. byte < 2 ^ 8) (codes "PONG") (lit< tt, (lit< tt, (lit< tt, (lit< tt, tt))))) (bytes_48 (address_of i))

bytes_lsd : (i : ℕ) → IsBytes (lsd_bytes (lsd_of i))
bytes_lsd i = joined (be_48 (2 ^ 48 - 1)) (be_48 (address_of i) ++ be_16 5 ++ replicate 14 0) (bytes_48 (2 ^ 48 - 1))
    (joined (be_48 (address_of i)) (be_16 5 ++ replicate 14 0) (bytes_48 (address_of i))
    (joined (be_16 5) (replicate 14 0) (bytes_16 5) (All-replicate (λ byte. byte < 2 ^ 8) 14 0 (lit< tt))))

magic_bytes : IsBytes (codes "M17 ")
magic_bytes = All-from_recursion (λ byte. byte < 2 ^ 8) (codes "M17 ") (lit< tt, (lit< tt, (lit< tt, (lit< tt, tt))))

bytes_front : (i sid number : ℕ) (last : Bool) → IsBytes (front_of i sid number last)
bytes_front i sid number last =
    let field = be_16 (frame_field last number) in
    let payload = replicate 16 (number % 256) in
    joined (codes "M17 ") (be_16 sid ++ lsd_bytes (lsd_of i) ++ field ++ payload) magic_bytes
    (joined (be_16 sid) (lsd_bytes (lsd_of i) ++ field ++ payload) (bytes_16 sid)
    (joined (lsd_bytes (lsd_of i)) (field ++ payload) (bytes_lsd i)
    (joined field payload (bytes_16 (frame_field last number)) (All-replicate (λ byte. byte < 2 ^ 8) 16 (number % 256) (omega arith)))))

bytes_frame : (i sid number : ℕ) (last : Bool) → IsBytes (frame_bytes i sid number last)
bytes_frame i sid number last = joined (front_of i sid number last) (be_16 (crc_of (front_of i sid number last))) (bytes_front i sid number last) (bytes_16 (crc_of (front_of i sid number last)))

pub fits_entry : (at : ℕ) (made : Made) → at < 2 ^ 64 → IsSound made → FitsEntry (heard_as at made)
unfolding heard_as
fits_entry at (Conn i) h s = (fits_peer i s, h, lit≤ tt, bytes_conn i s)
fits_entry at (Pong i) h s = (fits_peer i s, h, lit≤ tt, bytes_pong i)
fits_entry at (Frame i sid number last) h s = (fits_peer i s.0, h, lit≤ tt, bytes_frame i sid number last)
fits_entry at Quiet h s = h
