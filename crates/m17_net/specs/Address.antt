-- Peers, and the addresses of sockets at which they are.
use Rattle.std.specs.Prelude.{◌≡◌, ◌⊎◌, ℕ, Bool, true, false, List, ◌++◌, replicate, take}
use Rattle.std.specs.Net.Addr.{ipv4_octets, ipv6_octets, ipv6_segments, segments_of, low_octets, embedded_segments, IsIpv4Mapped}
use Rattle.std.specs.Net.Socket.{socket_ip, socket_port}
use Rattle.std.specs.declared.net.ipv4_addr.Ipv4Addr.{Ipv4Addr}
use Rattle.std.specs.declared.net.ip_addr.IpAddr.{IpAddr}
use Rattle.std.specs.declared.net.ip_addr.IpAddr.TheVariants.{V4, V6}
use Rattle.std.specs.declared.net.socket_addr.SocketAddr.{SocketAddr}
use Rattle.m17_values.specs.declared.peer.Peer.{Peer}

-- the peer has an IPv4 address of these bytes
abbrev pub HasFour : Peer → List ℕ → Type 0
HasFour peer octets = (peer.six ≡ false) × (peer.ip ≡ octets ++ replicate 12 0)

-- The peer has this IP address. An IPv4 address within one of IPv6 (IPv4-mapped) is the IPv4 address.
abbrev pub HasIp : Peer → IpAddr → Type 0
HasIp peer (V4 a) = HasFour peer (ipv4_octets a)
HasIp peer (V6 a) = (IsIpv4Mapped (ipv6_segments a) × HasFour peer (low_octets a))
    ⊎ (¬ (IsIpv4Mapped (ipv6_segments a)) × (peer.six ≡ true) × (peer.ip ≡ ipv6_octets a))

-- The peer is at this address: what an ear says of who sent a datagram.
abbrev pub IsPeerAt : SocketAddr → Peer → Type 0
IsPeerAt address peer = HasIp peer (socket_ip address) × (peer.port ≡ socket_port address)

-- The IP address by which a socket, of IPv6 or not, reaches the peer.
abbrev pub Reaches : Bool → IpAddr → Peer → Type 0
Reaches six (V4 a) peer =
    (six ≡ false) × (peer.six ≡ false) × (ipv4_octets a ≡ take 4 peer.ip)
Reaches six (V6 a) peer = ((peer.six ≡ true) × (ipv6_segments a ≡ segments_of peer.ip))
    ⊎ ((six ≡ true) × (peer.six ≡ false) × ((four : Ipv4Addr)
    × (ipv4_octets four ≡ take 4 peer.ip) × (ipv6_segments a ≡ embedded_segments 0xffff four)))

-- The address to which a socket, of IPv6 or not, sends what goes to the peer.
abbrev pub IsAddressOf : Bool → Peer → SocketAddr → Type 0
IsAddressOf six peer address =
    Reaches six (socket_ip address) peer × (socket_port address ≡ peer.port)
