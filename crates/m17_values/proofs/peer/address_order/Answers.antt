use Rattle.std.proofs.Common.{rules}
use Rattle.m17_values.proofs.Addresses.{spelled_order, upper_order, lower_order}
use Rattle.m17_values.proofs.peer.address_order.Goals as goal

pub returns-then-x-y : goal.returns-then-x-y
returns-then-x-y c = search (rules, spelled_order, upper_order)

pub returns : goal.returns
returns c = search (rules, spelled_order, lower_order)
