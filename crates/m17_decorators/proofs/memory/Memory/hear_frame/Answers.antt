use Rattle.std.proofs.Common.{◌≡◌, ◌==◌, ◌<◌, ◌-◌, ◌^◌, ℕ, List, Bool, true, length, take, refl, sym, ap, subst, ◌∙◌, ◌∷◌, arith}
use Rattle.std.specs.Prelude.{nat_eq, codes}
use Rattle.std.specs.List.{starts_with}
use Rattle.std.proofs.lemmas.Bool.{eqb-true}
use Rattle.m17_values.specs.declared.heard.Heard.{Heard}
use Rattle.m17_values.specs.declared.heard.Heard.TheVariants.{Datagram}
use Rattle.m17_decorators.specs.Echo.{packets, up_to, is_another, up_to_said, up_to_parted}
use Rattle.m17_decorators.specs.GuardMemory.{bytes_bucket, Recalls, Agree, said_at, turned_at, parted_at}
use Rattle.m17_decorators.proofs.Recalling.{echo-is, asked-of, recalls-packet, whole-bytes}
use Rattle.m17_decorators.proofs.GuardStanding.{facts-are}
use Rattle.m17_decorators.proofs.memory.Memory.hear_frame.Goals as goal
use Rattle.m17_decorators.specs.Frame.{is_frame}

pub put-requires-clause-by_bytes : goal.put-requires-clause-by_bytes
put-requires-clause-by_bytes c = c.buckets_of-by_peer.ensures.bytes
    ∙ ap (λ (l : List ℕ). bytes_bucket c.args.self.now.keys c.args.from.now l)
    (sym (c.of.ensures.first ∙ whole-bytes c.args.bytes.now c.requires.frame))

pub returns-clause-echo : goal.returns-clause-echo
returns-clause-echo c past recalls =
    let m = c.args.self.now in
    let few : m.count < 2 ^ 64 - 1 = let most = c.requires.whole.count in
    let ne = c.if-self.false in omega arith in
    let asked = asked-of m past recalls few in
    let from = c.args.from.now in
    let bytes = c.args.bytes.now in
    let facts = facts-are m.slots.items m.count past from bytes
    c.latest_of-latest.result c.latest_same-same.result c.standing-parted.result.0
    c.standing-parted.result.1 c.said_before-said.result asked
    c.latest_of-latest.ensures c.latest_same-same.ensures c.standing-parted.ensures.parted
    c.standing-parted.ensures.turned c.said_before-said.ensures in
    c.is_echo-is_echo.ensures
    ∙ echo-is m.slots.items m.count past from c.args.at bytes c.standing-parted.result.0
    c.said_before-said.result asked few c.requires.frame facts.parted facts.said

pub returns-clause-recalls : goal.returns-clause-recalls
returns-clause-recalls c past recalls =
    let m = c.args.self.now in
    let few : m.count < 2 ^ 64 - 1 = let most = c.requires.whole.count in
    let ne = c.if-self.false in omega arith in
    let asked = asked-of m past recalls few in
    let from = c.args.from.now in
    let bytes = c.args.bytes.now in
    let facts = facts-are m.slots.items m.count past from bytes
    c.latest_of-latest.result c.latest_same-same.result c.standing-parted.result.0
    c.standing-parted.result.1 c.said_before-said.result asked
    c.latest_of-latest.ensures c.latest_same-same.ensures c.standing-parted.ensures.parted
    c.standing-parted.ensures.turned c.said_before-said.ensures in
    let eq : c.of.result ≡ bytes = c.of.ensures.first ∙ whole-bytes bytes c.requires.frame in
    subst (λ (l : List ℕ). Recalls c.put.new.self (Datagram from c.args.at l ∷ past)) eq
    (recalls-packet m c.put.new.self past _ recalls few c.requires.whole.slots c.put.ensures.put
    (ap (λ (l : List ℕ). is_frame l) eq ∙ c.requires.frame)
    refl facts.parted
    (subst (λ (l : List ℕ). Agree m.count c.standing-parted.result.1
    (packets (up_to (is_another from l) past))) (sym eq) facts.turned)
    (subst (λ (l : List ℕ). Agree m.count c.said_before-said.result
    (packets (up_to_said from l past))) (sym eq) facts.said))
