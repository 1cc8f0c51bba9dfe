use Rattle.std.proofs.Common.{◌≡◌, ℕ, List, ◌∷◌, refl, sym, ap, subst, ◌∙◌, arith}
use Rattle.std.specs.Prelude.{min, ◌^◌, ◌-◌}
use Rattle.m17_values.specs.declared.heard.Heard.{Heard}
use Rattle.m17_values.specs.declared.heard.Heard.TheVariants.{Datagram}
use Rattle.m17_decorators.specs.Echo.{is_echo}
use Rattle.m17_decorators.specs.GuardMemory.{Recalls, echoes, last_ends}
use Rattle.m17_decorators.proofs.memory.Memory.hear.Goals as goal

pub returns-in-Datagram-clause-echo : goal.returns-in-Datagram-clause-echo
returns-in-Datagram-clause-echo c past r =
    c.hear_bytes.ensures.echo past (record { count = r.recalls.count; each = r.recalls.each })
    ∙ ap (λ (l : List ℕ). is_echo past c.in-Datagram.from c.in-Datagram.at l) c.bytes.ensures.same
    ∙ sym (ap (echoes past) c.in-Datagram.is)

pub returns-in-Datagram-clause-remembers : goal.returns-in-Datagram-clause-remembers
returns-in-Datagram-clause-remembers c past r =
    let is : Datagram c.in-Datagram.from c.in-Datagram.at c.bytes.result.now ≡ c.args.heard.now =
    ap (λ (l : List ℕ). Datagram c.in-Datagram.from c.in-Datagram.at l) c.bytes.ensures.same
    ∙ sym c.in-Datagram.is in record {
      recalls = subst (λ (h : Heard). Recalls c.hear_bytes.new.self (h ∷ past)) is
          (c.hear_bytes.ensures.recalls past
          (record { count = r.recalls.count; each = r.recalls.each }));
      ends = c.hear_bytes.ensures.ends
          ∙ ap (λ (h : Heard). min (last_ends (h ∷ past)) (2 ^ 64 - 1)) is;
    }
