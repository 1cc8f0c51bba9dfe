-- The pieces of an IPv6 peer's text give it back.
use Rattle.std.proofs.Common.{◌≡◌, ◌++◌, [], decimal, sym, ◌∙◌}
use Rattle.m17_peer.proofs.Spelled.{end_ends, same_peer, six_ip, six_port, six_spelled}
use Rattle.m17_peer.proofs.reading.guess_six.Goals as goal

pub returns-clause-guessed : goal.returns-clause-guessed
returns-clause-guessed c = λ p six h.
    let text = h.text_is ∙ six_spelled p six in
    let rest : c.rest_from-rest.result ≡ decimal p.port ++ [] = six_port p c.args.bytes.now c.rest_from-rest.result text c.rest_from-rest.ensures in
    let port = c.number-port.ensures p.port [] h.is_peer.port_fits end_ends rest in
    same_peer c.six_peer.result p (c.six_peer.ensures.six ∙ sym six) (c.six_peer.ensures.ip ∙ six_ip p c.args.bytes.now _ _ _ _ h.is_peer text c.two_groups.ensures c.two_groups-2.ensures c.two_groups-3.ensures c.two_groups-4.ensures) (c.six_peer.ensures.port ∙ port.0)
