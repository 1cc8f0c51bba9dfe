-- What goes to the peer at an address goes to that address.
use Rattle.std.proofs.Common.{◌≡◌, refl, sym, ◌∙◌, ap, inl, inr, ℕ, ◌+◌, ◌*◌, ◌/◌, ◌%◌, ◌^◌, ◌<◌, suc, Bool, true, false, List, [], ◌∷◌, ◌++◌, length, take, drop, replicate, get_or, arith, length-drop}
use Rattle.std.proofs.lemmas.List.{take-append-drop, get_or-drop}
use Rattle.std.proofs.Math.Seq.{take-append_seam}
use Rattle.std.specs.Net.Addr.{segments_of, octets_of, ipv4_octets, ipv6_segments, ipv6_octets, low_octets, embedded_segments, is_ipv6, IsIpv4Addr, IsIpv6Addr, IsIpv4Mapped}
use Rattle.std.specs.Net.Socket.{socket_ip, IsSocketAddr}
use Rattle.std.specs.declared.net.ipv4_addr.Ipv4Addr.{Ipv4Addr}
use Rattle.std.specs.declared.net.ipv6_addr.Ipv6Addr.{Ipv6Addr}
use Rattle.std.specs.declared.net.ip_addr.IpAddr.{IpAddr}
use Rattle.std.specs.declared.net.ip_addr.IpAddr.TheVariants as Ip
use Rattle.std.specs.declared.net.socket_addr.SocketAddr.{SocketAddr}
use Rattle.std.specs.declared.net.socket_addr.SocketAddr.TheVariants.{V4, V6}
use Rattle.m17_values.specs.declared.peer.Peer.{Peer}
use Rattle.m17_net.specs.Address.{HasFour, HasIp, Reaches}
use Rattle.m17_net.specs.Laws.{AnswersGoBack}

segments-of-octets : (xs : List ℕ) → ((k : ℕ) → get_or xs k 0 < 2 ^ 16)
    → segments_of (octets_of xs) ≡ xs
segments-of-octets [] small = refl
segments-of-octets (s ∷ xs) small =
    let whole : s / 256 * 256 + s % 256 ≡ s = omega arith in
    λ i. whole i ∷ segments-of-octets xs (λ k. small (suc k)) i

length-octets : (xs : List ℕ) → length (octets_of xs) ≡ 2 * length xs
length-octets [] = refl
length-octets (s ∷ xs) = omega (arith, length-octets xs)

-- the first of a list in front of another
front : (n : ℕ) (xs ys : List ℕ) → length xs ≡ n → take n (xs ++ ys) ≡ xs
front n xs ys e = ap (λ m. take m (xs ++ ys)) (sym e) ∙ take-append_seam xs ys

-- one truth value is not the other
clash : {A : Type 0} (six : Bool) → six ≡ true → six ≡ false → A
clash six on off = let both : true ≡ false = sym on ∙ off in cc

abbrev IsIp : IpAddr → Type 0
IsIp (Ip.V4 a) = IsIpv4Addr a
IsIp (Ip.V6 a) = IsIpv6Addr a

-- the IPv4 address of a peer, from the one that it was heard at
four-back : (octets back : List ℕ) (peer : Peer) → length octets ≡ 4 → HasFour peer octets
    → back ≡ take 4 peer.ip → back ≡ octets
four-back octets back peer four has e =
    e ∙ ap (take 4) has.1 ∙ front 4 octets (replicate 12 0) four

-- the segments of an IPv6 address that holds one of IPv4
mapped-back : (a b : Ipv6Addr) (four : Ipv4Addr) (peer : Peer) → IsIpv6Addr a
    → IsIpv4Mapped (ipv6_segments a) → HasFour peer (low_octets a)
    → ipv4_octets four ≡ take 4 peer.ip → ipv6_segments b ≡ embedded_segments 0xffff four
    → ipv6_segments b ≡ ipv6_segments a
mapped-back a b four peer is mapped has octets segments =
    let low : List ℕ = drop 6 (ipv6_segments a) in
    let two : length low ≡ 2 = omega (arith, length-drop 6 (ipv6_segments a), is.0) in
    let long : length (octets_of low) ≡ 4 = omega (arith, length-octets low) in
    let small : (k : ℕ) → get_or low k 0 < 2 ^ 16 =
    λ k. rw (get_or-drop 6 (ipv6_segments a) k 0) (is.1 (6 + k)) in
    let same : segments_of (ipv4_octets four) ≡ low =
    ap segments_of (four-back (octets_of low) (ipv4_octets four) peer long has octets)
    ∙ segments-of-octets low small in
    segments ∙ (λ i. sym mapped i ++ same i) ∙ take-append-drop 6 (ipv6_segments a)

six-back : (a b : Ipv6Addr) (peer : Peer) → IsIpv6Addr a → peer.ip ≡ ipv6_octets a
    → ipv6_segments b ≡ segments_of peer.ip → ipv6_segments b ≡ ipv6_segments a
six-back a b peer is ip segments =
    segments ∙ ap segments_of ip ∙ segments-of-octets (ipv6_segments a) is.1

same-six : (a b : Ipv6Addr) → ipv6_segments b ≡ ipv6_segments a → Ip.V6 b ≡ Ip.V6 a
same-six a b e = λ i. Ip.V6 (record { segments = e i })

ip-back : (a b : IpAddr) (peer : Peer) → IsIp a → HasIp peer a → Reaches (is_ipv6 a) b peer → b ≡ a
ip-back (Ip.V4 a) (Ip.V4 b) peer is has reaches =
    let e = four-back (ipv4_octets a) (ipv4_octets b) peer is.0 has reaches.2 in
    λ i. Ip.V4 (record { octets = e i })
ip-back (Ip.V4 a) (Ip.V6 b) peer is has (inl r) = clash peer.six r.0 has.0
ip-back (Ip.V4 a) (Ip.V6 b) peer is has (inr r) = clash false r.0 refl
ip-back (Ip.V6 a) (Ip.V4 b) peer is has reaches = clash true refl reaches.0
ip-back (Ip.V6 a) (Ip.V6 b) peer is (inl has) (inl r) = clash peer.six r.0 has.1.0
ip-back (Ip.V6 a) (Ip.V6 b) peer is (inl has) (inr r) =
    same-six a b (mapped-back a b r.2.0 peer is has.0 has.1 r.2.1 r.2.2)
ip-back (Ip.V6 a) (Ip.V6 b) peer is (inr has) (inl r) =
    same-six a b (six-back a b peer is has.2 r.1)
ip-back (Ip.V6 a) (Ip.V6 b) peer is (inr has) (inr r) = clash peer.six has.1 r.1

is-ip : (a : SocketAddr) → IsSocketAddr a → IsIp (socket_ip a)
is-ip (V4 a) is = is.0
is-ip (V6 a) is = is.0

pub answers-go-back : AnswersGoBack
answers-go-back from back peer is at goes =
    (ip-back (socket_ip from) (socket_ip back) peer (is-ip from is) at.0 goes.0, goes.1 ∙ at.1)
