use Rattle.m17_module.proofs.EchoOnce.{echo_once}
use Rattle.m17_module.proofs.laws.echoes_are_sent_once.Goals as goal

pub returns : goal.returns
returns c = echo_once
