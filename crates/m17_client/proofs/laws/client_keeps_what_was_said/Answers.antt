use Rattle.m17_client.proofs.KeptWay.{keeps_what_was_said}
use Rattle.m17_client.proofs.laws.client_keeps_what_was_said.Goals as goal

pub returns : goal.returns
returns c = keeps_what_was_said
