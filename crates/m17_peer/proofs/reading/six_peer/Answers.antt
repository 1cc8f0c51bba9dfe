-- A peer of IPv6 has no bytes behind its address.
use Rattle.std.proofs.Common.{◌≡◌, ℕ, ◌<◌, ◌^◌, List, length, All, arith, ap, sym, subst, ◌∙◌}
use Rattle.std.proofs.lemmas.Bool.{false≢true}
use Rattle.std.proofs.lemmas.Grind.{common_steps}
use Rattle.std.proofs.lemmas.List.Elements.{All-from_get_or}
use Rattle.m17_peer.proofs.reading.six_peer.Goals as goal

pub returns-clause-is_peer : goal.returns-clause-is_peer
returns-clause-is_peer c =
    let same : c.unwrap.result.now ≡ c.args.ip.now = grind (arith, common_steps, c.as_array.ensures.cases, c.unwrap.ensures) in
    let all : All (λ (b : ℕ). b < 2 ^ 8) c.args.ip.now = All-from_get_or (λ (b : ℕ). b < 2 ^ 8) c.args.ip.now 0 (λ i less. (c.type_inv.ip i).fits) in
    record {
      bytes = ap length same ∙ c.requires;
      fits = subst (λ (xs : List ℕ). All (λ (b : ℕ). b < 2 ^ 8) xs) (sym same) all;
      port_fits = c.ranges.port.fits;
      zeros = λ e. absurd (false≢true (sym e));
    }
