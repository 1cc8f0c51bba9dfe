use Rattle.std.proofs.Common.{◌<◌, ◌^◌, arith}
use Rattle.std.proofs.lemmas.List.Elements.{All-from_get_or}
use Rattle.m17_control.proofs.Reading.{exact_ok, exact_err}
use Rattle.m17_control.proofs.reader.decode.Goals as goal

pub returns-clause-ok : goal.returns-clause-ok
returns-clause-ok c =
    let b = c.args.b.now in
    let bytes = All-from_get_or (λ byte. byte < 2 ^ 8) b 0 (λ i _. omega (arith, c.type_inv.b i)) in
    exact_ok b (c.decoding_is_exact.ensures.one_of_both b bytes) c.decode_first.result c.decode_first.ensures

pub returns-clause-err : goal.returns-clause-err
returns-clause-err c =
    let b = c.args.b.now in
    let bytes = All-from_get_or (λ byte. byte < 2 ^ 8) b 0 (λ i _. omega (arith, c.type_inv.b i)) in
    exact_err b (c.decoding_is_exact.ensures.one_of_both b bytes) c.decode_first.result c.decode_first.ensures
