use Rattle.std.proofs.Common.{◌<◌, ◌^◌, arith}
use Rattle.std.proofs.lemmas.List.Elements.{All-from_get_or}
use Rattle.m17_house.proofs.run.reads.Goals as goal

pub returns : goal.returns
returns c =
    let b = c.args.bytes.now in
    let bytes = All-from_get_or (λ byte. byte < 2 ^ 8) b 0 (λ i _. omega (arith, c.type_inv.bytes i)) in
    c.decoding_is_exact.ensures.one_of_both b bytes
