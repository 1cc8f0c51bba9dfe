use Rattle.m17_module.proofs.ItemsHold.{items_keep_links}
use Rattle.m17_module.proofs.laws.items_keep_links.Goals as goal

pub returns : goal.returns
returns c = items_keep_links
