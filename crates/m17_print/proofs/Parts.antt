-- The text of a stream packet by its parts, and a line after six appends.
use Rattle.std.proofs.Common.{ℕ, ◌≡◌, List, ◌++◌, append_assoc, codes, decimal, if◌then◌else◌, ap, sym, ◌∙◌}
use Rattle.std.specs.Int.{w16, to_be_bytes}
use Rattle.m17_lsd.specs.Lsd.{text_of_type}
use Rattle.m17_stream.specs.declared.packet.StreamPacket.{StreamPacket}
use Rattle.m17_print.specs.Line.{hex_of}
use Rattle.m17_print.specs.Packets.{address_text, stream_text}
use Rattle.m17_print.specs.Parts.{ends_text, type_field_text, hex_field_text, number_text}

regrouped : (a b c d e f g h i j k l m n o p q r : List ℕ) →
    a ++ b ++ c ++ d ++ e ++ f ++ g ++ h ++ i ++ j ++ k ++ l ++ m ++ n ++ o ++ p ++ q ++ r
    ≡ (a ++ b) ++ ((c ++ d ++ e ++ f) ++ ((g ++ h ++ i ++ j) ++ ((k ++ l) ++ ((m ++ n ++ o ++ p) ++ (q ++ r)))))
regrouped a b c d e f g h i j k l m n o p q r = simp append_assoc

stream_text-parts : (p : StreamPacket) → stream_text p ≡
    hex_field_text (codes "stream ") (to_be_bytes w16 p.sid) ++ (ends_text p.lsd ++ (type_field_text p.lsd.kind
    ++ (hex_field_text (codes " meta ") p.lsd.meta ++ (number_text p.number p.last ++ hex_field_text (codes " payload ") p.payload))))
stream_text-parts p = regrouped (codes "stream ") (hex_of (to_be_bytes w16 p.sid)) (codes " dst ") (address_text p.lsd.dst)
    (codes " src ") (address_text p.lsd.src) (codes " type ") (hex_of (to_be_bytes w16 p.lsd.kind)) (codes " ") (text_of_type p.lsd.kind)
    (codes " meta ") (hex_of p.lsd.meta) (codes " number ") (decimal p.number) (codes " last ") (if p.last then codes "1" else codes "0")
    (codes " payload ") (hex_of p.payload)

appended_six : (l l1 l2 l3 l4 l5 l6 a b c d e f : List ℕ) → l1 ≡ l ++ a → l2 ≡ l1 ++ b → l3 ≡ l2 ++ c → l4 ≡ l3 ++ d → l5 ≡ l4 ++ e → l6 ≡ l5 ++ f → l6 ≡ l ++ (a ++ (b ++ (c ++ (d ++ (e ++ f)))))
appended_six l l1 l2 l3 l4 l5 l6 a b c d e f h1 h2 h3 h4 h5 h6 = rw (h6, h5, h4, h3, h2, h1) (simp append_assoc)

-- the parts of a packet, appended one after another
pub stream_appended : (p : StreamPacket) (sid l l1 l2 l3 l4 l5 l6 : List ℕ) → sid ≡ to_be_bytes w16 p.sid
    → l1 ≡ l ++ hex_field_text (codes "stream ") sid → l2 ≡ l1 ++ ends_text p.lsd → l3 ≡ l2 ++ type_field_text p.lsd.kind
    → l4 ≡ l3 ++ hex_field_text (codes " meta ") p.lsd.meta → l5 ≡ l4 ++ number_text p.number p.last
    → l6 ≡ l5 ++ hex_field_text (codes " payload ") p.payload → l6 ≡ l ++ stream_text p
stream_appended p sid l l1 l2 l3 l4 l5 l6 is h1 h2 h3 h4 h5 h6 =
    let first = h1 ∙ ap (λ (bytes : List ℕ). l ++ hex_field_text (codes "stream ") bytes) is in
    appended_six l l1 l2 l3 l4 l5 l6 (hex_field_text (codes "stream ") (to_be_bytes w16 p.sid)) (ends_text p.lsd) (type_field_text p.lsd.kind)
    (hex_field_text (codes " meta ") p.lsd.meta) (number_text p.number p.last) (hex_field_text (codes " payload ") p.payload)
    first h2 h3 h4 h5 h6
    ∙ ap (λ (text : List ℕ). l ++ text) (sym (stream_text-parts p))
