-- What follows from how peers and addresses belong together.
use Rattle.std.specs.Prelude.{◌≡◌}
use Rattle.std.specs.Net.Addr.{is_ipv6}
use Rattle.std.specs.Net.Socket.{socket_ip, socket_port, IsSocketAddr}
use Rattle.std.specs.declared.net.socket_addr.SocketAddr.{SocketAddr}
use Rattle.m17_values.specs.declared.peer.Peer.{Peer}
use Rattle.m17_net.specs.Address.{IsPeerAt, IsAddressOf}

-- What goes to the peer that a datagram came from, by a socket of the same family, goes to where the datagram came from.
abbrev pub AnswersGoBack : Type 0
AnswersGoBack = (from back : SocketAddr) (peer : Peer) → IsSocketAddr from
    → IsPeerAt from peer → IsAddressOf (is_ipv6 (socket_ip from)) peer back
    → (socket_ip back ≡ socket_ip from) × (socket_port back ≡ socket_port from)
