-- For proofs: the laws of the crates below that a replay over threads rests on.
use Rattle.m17_directory.specs.Fits.{OthersFitThePlaces}
use Rattle.m17_directory.specs.Laws.{OnlyServedAreRouted, RouteCarriesLink}
use Rattle.m17_module.specs.Laws.{ItemsAreAtPlaces, ItemsKeepLinks}
use Rattle.m17_house.specs.Laws.{TalliesTellPackets}

pub record Laws : Type 0 where
  pub fit : OthersFitThePlaces
  pub served : OnlyServedAreRouted
  pub carries : RouteCarriesLink
  pub placed : ItemsAreAtPlaces
  pub linked : ItemsKeepLinks
  pub tell : TalliesTellPackets
