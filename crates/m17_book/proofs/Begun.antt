-- The bytes of a record, field by field.
use Rattle.std.proofs.Common.{◌≡◌, ℕ, ◌<◌, ◌≤◌, nat_eq, List, [], ◌∷◌, ◌++◌, length, take, drop, get_or, sym, ap, subst, ◌∙◌, arith, if◌then◌else◌}
use Rattle.std.proofs.lemmas.Bool.Decides.{nat_tests}
use Rattle.std.proofs.Math.Seq.{take-add}
use Rattle.m17_callsign.specs.AddressBytes.{address_bytes}
use Rattle.m17_floor.specs.declared.verdict.Verdict.{Verdict}
use Rattle.m17_stream.specs.Stream.{SpellsStream}
use Rattle.m17_stream.specs.declared.packet.StreamPacket.{StreamPacket}
use Rattle.m17_book.specs.Records.{SpellsRecord, head_bytes, verdict_code, value_bytes}
use Rattle.m17_book.specs.Flaws.{kind_of}
use Rattle.m17_book.specs.Parsed.{BeginsWith, HasHead, IsValueOf}
use Rattle.m17_book.specs.declared.parse_record.Common.{Common}
use Rattle.m17_book.specs.declared.record.Record.TheVariants.{Join, Packet}
use Rattle.m17_book.proofs.Entry.{take_one}
use Rattle.m17_book.specs.Versions.{highest_verdict, MayJoin}
use Rattle.m17_book.specs.declared.version.Version.{Version}

-- the head and one byte more
pub head_and_byte : (b : List ℕ) (head : Common) (kind : ℕ) → HasHead b head → kind_of b ≡ kind → 31 ≤ length b
    → take 31 b ≡ head_bytes kind head.tag head.moment head.member ++ (get_or b 30 0 ∷ [])
head_and_byte b head kind h is long =
    take_one b 30 (omega arith) ∙ ap (λ xs. xs ++ get_or b 30 0 ∷ [])
    (h.bytes_are ∙ ap (λ k. head_bytes k head.tag head.moment head.member) is)

listen_code : (n : ℕ) → n < 2 → n ≡ (if nat_eq n 1 then 1 else 0)
listen_code n h = grind (arith, nat_tests)

module _ (version : Version) where
  pub begins_join : (b : List ℕ) (head : Common) (call : ℕ) → HasHead b head → kind_of b ≡ 1 → 37 ≤ length b → get_or b 30 0 < 2
      → MayJoin version call → address_bytes call ≡ take 6 (drop 31 b)
      → BeginsWith (SpellsRecord version) b (Join head.tag head.moment head.member (nat_eq (get_or b 30 0) 1) call) 37
  begins_join b head call h kind long low good is =
      let front = head_bytes 1 head.tag head.moment head.member in
      record {
        some = omega arith;
        within = long;
        spelled = (
          (h.fits, good),
          take-add 31 6 b ∙ ap (λ xs. xs ++ take 6 (drop 31 b)) (head_and_byte b head 1 h kind (omega arith))
              ∙ ap (λ n. front ++ (n ∷ []) ++ take 6 (drop 31 b)) (listen_code (get_or b 30 0) low)
              ∙ ap (λ xs. front ++ ((if nat_eq (get_or b 30 0) 1 then 1 else 0) ∷ []) ++ xs) (sym is),
        );
      }

  pub begins_packet : (b : List ℕ) (head : Common) (verdict : Verdict) (packet : StreamPacket) → HasHead b head → kind_of b ≡ 3 → 97 ≤ length b
      → verdict_code verdict ≤ highest_verdict version → IsValueOf (get_or b 30 0) (take 12 (drop 31 b)) verdict → SpellsStream packet (take 54 (drop 43 b))
      → BeginsWith (SpellsRecord version) b (Packet head.tag head.moment head.member verdict packet) 97
  begins_packet b head verdict packet h kind long known value stream =
      let front = head_bytes 3 head.tag head.moment head.member in
      let one : take 31 b ≡ front ++ (verdict_code verdict ∷ []) = head_and_byte b head 3 h kind (omega arith) ∙ ap (λ n. front ++ (n ∷ [])) (sym value.1) in
      let two : take 43 b ≡ front ++ (verdict_code verdict ∷ []) ++ value_bytes verdict = take-add 31 12 b ∙ ap (λ xs. xs ++ take 12 (drop 31 b)) one
      ∙ ap (λ xs. front ++ (verdict_code verdict ∷ []) ++ xs) (sym value.2) in
      record {
        some = omega arith;
        within = long;
        spelled = (
          (h.fits, (known, value.0), subst (SpellsStream packet) stream.spelling stream),
          take-add 43 54 b ∙ ap (λ xs. xs ++ take 54 (drop 43 b)) two
              ∙ ap (λ xs. front ++ (verdict_code verdict ∷ []) ++ value_bytes verdict ++ xs) stream.spelling,
        );
      }
