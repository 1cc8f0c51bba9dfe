-- Which datagrams are stream packets (frames), and which peers are the same.
use Rattle.std.specs.Prelude.{◌==◌, ◌&&◌, ℕ, Bool, List, length, codes, nat_eq}
use Rattle.std.specs.Bool.{beq}
use Rattle.std.specs.List.{starts_with}
use Rattle.std.specs.Str.{bytes_eq}
use Rattle.m17_values.specs.declared.peer.Peer.{Peer}

abbrev pub same_peer : Peer → Peer → Bool
same_peer a b = beq a.six b.six && (bytes_eq a.ip b.ip && a.port == b.port)

-- The bytes of a stream packet, by their number and the first four. M17 Protocol Specification,
-- IP networking.
abbrev pub is_frame : List ℕ → Bool
is_frame bytes = length bytes == 54 && starts_with nat_eq bytes (codes "M17 ")
