-- For proofs: the laws of the crates below that a run rests on.
use Rattle.m17_values.specs.declared.member.Member.{Member}
use Rattle.m17_ports.specs.Laws.{MouthsSayInTurn}
use Rattle.m17_control.specs.declared.event.Event.{Event}
use Rattle.m17_control.specs.declared.item.Direct.{Direct}
use Rattle.m17_control.specs.declared.item.Item.{Item}
use Rattle.m17_crew.specs.declared.order.Order.{Order}
use Rattle.m17_module.specs.Laws.{InFromJoinToEnd, ItemsAreAtPlaces, ItemsFollowTheirJoins, ShareIsALife, WhoIsSettledIsToldABye}
use Rattle.m17_directory.specs.Laws.{RouteCarriesLink, RouteEndsInOneStop, RouteIsOfClaimed, WhoJoinsLeaves, LeavesFollowJoins, JoinsOfAllModules, EachClaimJoins, JoinsAreTheClaims, AskersAskForServedModules, DoorCarriesReplies, AllPlacesAreClaimed, AskersJoinOrAreFull}
use Rattle.m17_lane.specs.RowsLaws.{RowsPush, RowsGrow, FirstOrderDecides}
use Rattle.m17_lane.specs.GridLaws.{GridsStand, RowsStand, OrderIsInterleaving}
use Rattle.m17_roll.specs.Laws.{NoMemberIsClaimedTwice, GivenBackIsFree}
use Rattle.m17_sender.specs.Laws.{LessOfALifeIsALife, TurnsKeepEachMemberInOrder, PeersAreToldInOrder, SpelledPartByPart}

-- of lanes, rows, grids and the roll
pub record OfLanes : Type 0 where
  pub orders : RowsPush Order
  pub first : FirstOrderDecides
  pub grids : GridsStand Event
  pub events : RowsStand Event
  pub event_order : OrderIsInterleaving Event
  pub items : RowsGrow Item
  pub replies : RowsPush Direct
  pub reply_rows : RowsStand Direct
  pub reply_order : OrderIsInterleaving Direct
  pub notes : RowsPush Member
  pub once : NoMemberIsClaimedTwice
  pub free : GivenBackIsFree

-- of links
pub record OfLinks : Type 0 where
  pub carries : RouteCarriesLink
  pub stops : RouteEndsInOneStop
  pub claimed : RouteIsOfClaimed
  pub leaves : WhoJoinsLeaves
  pub follow : LeavesFollowJoins
  pub joins : JoinsOfAllModules
  pub each : EachClaimJoins
  pub joins_are : JoinsAreTheClaims
  pub served : AskersAskForServedModules
  pub door : DoorCarriesReplies
  pub all_claimed : AllPlacesAreClaimed
  pub askers : AskersJoinOrAreFull

-- of modules and of what is said
pub record OfModules (L : Type 0) : Type 0 where
  pub placed : ItemsAreAtPlaces
  pub follow : ItemsFollowTheirJoins
  pub share : ShareIsALife
  pub between : InFromJoinToEnd
  pub byes : WhoIsSettledIsToldABye
  pub less : LessOfALifeIsALife
  pub members : TurnsKeepEachMemberInOrder
  pub peers : PeersAreToldInOrder
  pub spelled : SpelledPartByPart
  pub mouths : MouthsSayInTurn L
