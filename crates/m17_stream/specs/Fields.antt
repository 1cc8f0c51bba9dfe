-- Where the fields of a stream packet stand in its bytes. M17 Protocol Specification, IP networking.
use Rattle.std.specs.Prelude.{◌≡◌, ℕ, ◌<◌, ◌^◌, List}
use Rattle.m17_fields.specs.Fields.{be_16, field_at, IsBytes}
use Rattle.m17_lsd.specs.Lsd.{FitsFields, lsd_bytes}
use Rattle.m17_stream.specs.Stream.{frame_field}
use Rattle.m17_stream.specs.declared.packet.StreamPacket.{StreamPacket}

-- The fields of the packet between the magic and the CRC fit their places and stand in them.
pub record HasFields (p : StreamPacket) (bytes : List ℕ) : Type 0 where
  pub sid_fits : p.sid < 2 ^ 16
  pub lsd_fits : FitsFields p.lsd
  pub number_fits : p.number < 32768
  pub payload_fits : IsBytes p.payload
  pub sid : be_16 p.sid ≡ field_at 4 2 bytes
  pub lsd : lsd_bytes p.lsd ≡ field_at 6 28 bytes
  pub field : be_16 (frame_field p.last p.number) ≡ field_at 34 2 bytes
  pub payload : p.payload ≡ field_at 36 16 bytes
