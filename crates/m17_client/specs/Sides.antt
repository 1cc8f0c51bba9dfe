-- The two sides of a bridge.
use Rattle.std.specs.Prelude.{Bool, true, false}
use Rattle.m17_client.specs.declared.side.Side.{Side}
use Rattle.m17_client.specs.declared.side.Side.TheVariants.{Near, Far}

-- the other side
abbrev pub opposite : Side → Side
opposite Near = Far
opposite Far = Near

-- whether the two are one side
abbrev pub is_side : Side → Side → Bool
is_side Near Near = true
is_side Near Far = false
is_side Far Near = false
is_side Far Far = true

-- what there is one of on each side
pub record Both (T : Type 0) : Type 0 where
  pub near : T
  pub far : T

abbrev pub both : {T : Type 0} → T → T → Both T
both near far = record { near = near; far = far }

-- the one of a side
abbrev pub of : {T : Type 0} → Side → Both T → T
of Near pair = pair.near
of Far pair = pair.far
