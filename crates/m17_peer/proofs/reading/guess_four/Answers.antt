-- The numbers of an IPv4 peer's text give it back.
use Rattle.std.proofs.Common.{ℕ, List, ◌++◌, ◌∷◌, [], decimal, drop, slice_index, arith, ap, sym, ◌∙◌}
use Rattle.m17_peer.proofs.Spelled.{byte_fits, colon_ends, dot_ends, end_ends, four_ip, four_spelled, low, same_peer}
use Rattle.m17_peer.proofs.reading.guess_four.Goals as goal

pub returns-clause-guessed : goal.returns-clause-guessed
returns-clause-guessed c = λ p six h.
    let ip : ℕ → ℕ = slice_index p.ip in
    let last : List ℕ = decimal p.port ++ [] in
    let d : List ℕ = decimal (slice_index p.ip 3) ++ (58 ∷ last) in
    let b : List ℕ = decimal (slice_index p.ip 2) ++ (46 ∷ d) in
    let a : List ℕ = decimal (slice_index p.ip 1) ++ (46 ∷ b) in
    let fits0 = byte_fits p 0 h.is_peer (omega arith) in
    let fits1 = byte_fits p 1 h.is_peer (omega arith) in
    let fits2 = byte_fits p 2 h.is_peer (omega arith) in
    let fits3 = byte_fits p 3 h.is_peer (omega arith) in
    let first = c.number-a.ensures (slice_index p.ip 0) (46 ∷ a) (omega arith) (dot_ends a) (c.of-rest.ensures ∙ h.text_is ∙ four_spelled p six) in
    let second = c.number-b.ensures (slice_index p.ip 1) (46 ∷ b) (omega arith) (dot_ends b) (c.pass.ensures ∙ ap (drop 1) first.1) in
    let third = c.number-c.ensures (slice_index p.ip 2) (46 ∷ d) (omega arith) (dot_ends d) (c.pass-2.ensures ∙ ap (drop 1) second.1) in
    let fourth = c.number-d.ensures (slice_index p.ip 3) (58 ∷ last) (omega arith) (colon_ends last) (c.pass-3.ensures ∙ ap (drop 1) third.1) in
    let port = c.number-port.ensures p.port [] h.is_peer.port_fits end_ends (c.pass-4.ensures ∙ ap (drop 1) fourth.1) in
    same_peer _ p (sym six)
    (four_ip p c.low_byte.result c.low_byte-2.result c.low_byte-3.result c.low_byte-4.result h.is_peer six
    (low _ _ _ c.low_byte.ensures first.0 fits0) (low _ _ _ c.low_byte-2.ensures second.0 fits1)
    (low _ _ _ c.low_byte-3.ensures third.0 fits2) (low _ _ _ c.low_byte-4.ensures fourth.0 fits3))
    port.0
