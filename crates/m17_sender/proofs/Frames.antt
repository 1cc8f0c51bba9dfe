-- `==` at frames decides whether they are one.
use Rattle.std.proofs.Common.{◌≡◌, Bool, ◌&&◌, ◌==◌, ap}
use Rattle.std.specs.Bool.{Decides}
use Rattle.std.specs.Cmp.{booleans_Decides}
use Rattle.std.specs.Str.{bytes_eq}
use Rattle.std.proofs.Math.Bool.{beq}
use Rattle.std.proofs.lemmas.Bool.Decides.{Decides-and, Decides-eqb, Decides-like}
use Rattle.std.proofs.lemmas.Slice.Eq.{bytes_eq-Decides}
use Rattle.m17_stream.specs.declared.packet.StreamPacket.{StreamPacket}
use Rattle.m17_stream.proofs.Packets.{same_packet}

abbrev lsd_test : StreamPacket → StreamPacket → Bool
lsd_test p q = (p.lsd.dst == q.lsd.dst)
    && ((p.lsd.src == q.lsd.src) && ((p.lsd.kind == q.lsd.kind) && bytes_eq p.lsd.meta q.lsd.meta))

lsd_decides : (p q : StreamPacket) → Decides (lsd_test p q) (p.lsd ≡ q.lsd)
lsd_decides p q = Decides-like (lsd_test p q)
    (λ e. λ i. record p.lsd { dst = e.0 i; src = e.1.0 i; kind = e.1.1.0 i; meta = e.1.1.1 i })
    (λ e. (ap (λ l. l.dst) e, (ap (λ l. l.src) e, (ap (λ l. l.kind) e, ap (λ l. l.meta) e))))
    (Decides-and _ _ (Decides-eqb p.lsd.dst q.lsd.dst) (Decides-and _ _ (Decides-eqb p.lsd.src q.lsd.src)
    (Decides-and _ _ (Decides-eqb p.lsd.kind q.lsd.kind) (bytes_eq-Decides p.lsd.meta q.lsd.meta))))

abbrev frame_test : StreamPacket → StreamPacket → Bool
frame_test p q = (p.sid == q.sid)
    && (lsd_test p q && ((p.number == q.number) && (beq p.last q.last && bytes_eq p.payload q.payload)))

pub frame_decides : (p q : StreamPacket) → Decides (frame_test p q) (p ≡ q)
frame_decides p q = Decides-like (frame_test p q)
    (λ e. same_packet p q e.0 e.1.0 e.1.1.0 e.1.1.1.0 e.1.1.1.1)
    (λ e. (ap (λ r. r.sid) e, (ap (λ r. r.lsd) e, (ap (λ r. r.number) e, (ap (λ r. r.last) e, ap (λ r. r.payload) e)))))
    (Decides-and _ _ (Decides-eqb p.sid q.sid) (Decides-and _ _ (lsd_decides p q)
    (Decides-and _ _ (Decides-eqb p.number q.number)
    (Decides-and _ _ (booleans_Decides p.last q.last) (bytes_eq-Decides p.payload q.payload)))))
