use Rattle.std.proofs.Common.{◌≡◌, [], ◌∷◌, ◌++◌, length, map, refl, ap, sym, subst, ◌∙◌, List, true, Option, Vec, Global}
use Rattle.std.specs.List.{range_with_len}
use Rattle.m17_values.specs.declared.heard.Heard.{Heard}
use Rattle.m17_port_memory.specs.Kept.{ScriptKept, TalliesKept}
use Rattle.m17_port_memory.specs.Peers.{named_in}
use Rattle.m17_port_memory.specs.Tells.{script_ear_told, tally_mouth_told}
use Rattle.m17_directory.specs.declared.verdict.LinkVerdict.{LinkVerdict}
use Rattle.m17_plan.specs.declared.plan.Plan.{Plan}
use Rattle.m17_plan.specs.Planned.{IsPlan}
use Rattle.m17_replay.specs.Tapes.{IsFilledInOrder, OutcomesKept, outcomes_on, packet_on}
use Rattle.m17_replay.proofs.Lists.{head_is, mapped_one}
use Rattle.m17_replay.proofs.Whole.{IsOver, freely_replayed, tape_there, ears_back, mouths_back}
use Rattle.m17_replay.proofs.replaying.replay_over_threads.Goals as goal

pub reflect-requires-clause-plan : goal.reflect-requires-clause-plan
reflect-requires-clause-plan g c κs within =
    subst IsPlan (sym c.patient_plan-patient.ensures) (record {
      some_place = c.requires.plan.some_place;
      at_most = c.requires.plan.at_most;
      some_module = c.requires.plan.some_module;
      parrots = c.requires.plan.parrots;
    })

pub take_apart-requires-clause-ear : goal.take_apart-requires-clause-ear
take_apart-requires-clause-ear g c =
    let one_ear : c.push_reserved.new.self.items ≡ c.new.result ∷ [] = c.push_reserved.ensures.items ∙ ap (λ l. l ++ c.new.result ∷ []) c.in-Ok-make_rooms.ensures.no_ear in
    let it = ears_back _ c.in-Ok-reflect.ensures.headline c.in-Ok-reflect.returned.ears.items c.new.result (ap (map script_ear_told) one_ear) refl in
    (it.0, it.1)

pub take_apart-requires-clause-mouth : goal.take_apart-requires-clause-mouth
take_apart-requires-clause-mouth g c =
    let one_ear : c.push_reserved.new.self.items ≡ c.new.result ∷ [] = c.push_reserved.ensures.items ∙ ap (λ l. l ++ c.new.result ∷ []) c.in-Ok-make_rooms.ensures.no_ear in
    let one_mouth : c.push_reserved-2.new.self.items ≡ c.args.mouth ∷ [] = c.push_reserved-2.ensures.items ∙ ap (λ l. l ++ c.args.mouth ∷ []) c.in-Ok-make_rooms.ensures.no_mouth in
    let it = mouths_back _ c.in-Ok-reflect.ensures.headline c.in-Ok-reflect.returned.mouths.items c.args.mouth (ap (λ (es : List ScriptKept). length (map script_ear_told es)) one_ear) (ap (map tally_mouth_told) one_mouth) refl in
    (it.0, it.1)

pub take_apart-requires-clause-tape : goal.take_apart-requires-clause-tape
take_apart-requires-clause-tape g c =
    let script = c.args.heard.items in
    let one_ear : c.push_reserved.new.self.items ≡ c.new.result ∷ [] = c.push_reserved.ensures.items ∙ ap (λ l. l ++ c.new.result ∷ []) c.in-Ok-make_rooms.ensures.no_ear in
    let it = ears_back _ c.in-Ok-reflect.ensures.headline c.in-Ok-reflect.returned.ears.items c.new.result (ap (map script_ear_told) one_ear) refl in
    let many : c.in-Ok.entries ≡ length script = c.in-Ok.ensures.1 ∙ c.count-len.ensures.count ∙ ap length c.deref.ensures.value in
    let headline = c.in-Ok-reflect.ensures.headline in
    let over : IsOver c.args.plan.now script _ = record {
      plan_is = c.patient_plan-patient.ensures ∙ ap (λ n. let p : Plan = record c.args.plan.now { patient = true; entries = n } in p) many;
      ends = c.requires.ends;
      first = c.new.result;
      new = c.new.ensures;
      before = ap (map script_ear_told) one_ear;
      last = it.0;
      same = it.2 ∙ ap (λ (e : ScriptKept). e.script) c.new.ensures;
      after = ap (map script_ear_told) it.1;
    } in
    let tape = tape_there c.args.plan.now script _ headline over in
    let v = mapped_one (λ (t : Vec (Option LinkVerdict) Global). t.items) c.in-Ok-reflect.returned.link_tapes.items tape.0 tape.1 in
    (v.0, v.1, subst IsFilledInOrder (sym v.2) tape.2)

pub returns-in-Ok-reflect-clause-same_heard : goal.returns-in-Ok-reflect-clause-same_heard
returns-in-Ok-reflect-clause-same_heard g c =
    let one_ear : c.push_reserved.new.self.items ≡ c.new.result ∷ [] = c.push_reserved.ensures.items ∙ ap (λ l. l ++ c.new.result ∷ []) c.in-Ok-make_rooms.ensures.no_ear in
    let it = ears_back _ c.in-Ok-reflect.ensures.headline c.in-Ok-reflect.returned.ears.items c.new.result (ap (map script_ear_told) one_ear) refl in
    head_is c.take_apart.result.heard.items c.args.heard.items (sym c.take_apart.ensures.heard ∙ ap (map (λ (e : ScriptKept). e.script)) it.1 ∙ ap (λ (l : List Heard). l ∷ []) (it.2 ∙ ap (λ (e : ScriptKept). e.script) c.new.ensures))

pub returns-in-Ok-reflect-clause-same_peers : goal.returns-in-Ok-reflect-clause-same_peers
returns-in-Ok-reflect-clause-same_peers g c =
    let one_ear : c.push_reserved.new.self.items ≡ c.new.result ∷ [] = c.push_reserved.ensures.items ∙ ap (λ l. l ++ c.new.result ∷ []) c.in-Ok-make_rooms.ensures.no_ear in
    let one_mouth : c.push_reserved-2.new.self.items ≡ c.args.mouth ∷ [] = c.push_reserved-2.ensures.items ∙ ap (λ l. l ++ c.args.mouth ∷ []) c.in-Ok-make_rooms.ensures.no_mouth in
    let it = mouths_back _ c.in-Ok-reflect.ensures.headline c.in-Ok-reflect.returned.mouths.items c.args.mouth (ap (λ (es : List ScriptKept). length (map script_ear_told es)) one_ear) (ap (map tally_mouth_told) one_mouth) refl in
    ap (λ (m : TalliesKept). named_in m.entries) (head_is c.take_apart.result.mouth it.0 (sym c.take_apart.ensures.mouth ∙ it.1)) ∙ it.2

pub returns-in-Ok-reflect-clause-same_mouth : goal.returns-in-Ok-reflect-clause-same_mouth
returns-in-Ok-reflect-clause-same_mouth g c =
    let one_ear : c.push_reserved.new.self.items ≡ c.new.result ∷ [] = c.push_reserved.ensures.items ∙ ap (λ l. l ++ c.new.result ∷ []) c.in-Ok-make_rooms.ensures.no_ear in
    let one_mouth : c.push_reserved-2.new.self.items ≡ c.args.mouth ∷ [] = c.push_reserved-2.ensures.items ∙ ap (λ l. l ++ c.args.mouth ∷ []) c.in-Ok-make_rooms.ensures.no_mouth in
    let it = mouths_back _ c.in-Ok-reflect.ensures.headline c.in-Ok-reflect.returned.mouths.items c.args.mouth (ap (λ (es : List ScriptKept). length (map script_ear_told es)) one_ear) (ap (map tally_mouth_told) one_mouth) refl in
    ap (λ (m : TalliesKept). m.number) (head_is c.take_apart.result.mouth it.0 (sym c.take_apart.ensures.mouth ∙ it.1)) ∙ it.3

pub returns-in-Ok-reflect-clause-judged : goal.returns-in-Ok-reflect-clause-judged
returns-in-Ok-reflect-clause-judged g c =
    let script = c.args.heard.items in
    let one_ear : c.push_reserved.new.self.items ≡ c.new.result ∷ [] = c.push_reserved.ensures.items ∙ ap (λ l. l ++ c.new.result ∷ []) c.in-Ok-make_rooms.ensures.no_ear in
    let it = ears_back _ c.in-Ok-reflect.ensures.headline c.in-Ok-reflect.returned.ears.items c.new.result (ap (map script_ear_told) one_ear) refl in
    let many : c.in-Ok.entries ≡ length script = c.in-Ok.ensures.1 ∙ c.count-len.ensures.count ∙ ap length c.deref.ensures.value in
    let headline = c.in-Ok-reflect.ensures.headline in
    let over : IsOver c.args.plan.now script _ = record {
      plan_is = c.patient_plan-patient.ensures ∙ ap (λ n. let p : Plan = record c.args.plan.now { patient = true; entries = n } in p) many;
      ends = c.requires.ends;
      first = c.new.result;
      new = c.new.ensures;
      before = ap (map script_ear_told) one_ear;
      last = it.0;
      same = it.2 ∙ ap (λ (e : ScriptKept). e.script) c.new.ensures;
      after = ap (map script_ear_told) it.1;
    } in
    let tape = tape_there c.args.plan.now script _ headline over in
    let v = mapped_one (λ (t : Vec (Option LinkVerdict) Global). t.items) c.in-Ok-reflect.returned.link_tapes.items tape.0 tape.1 in
    let one_mouth : c.push_reserved-2.new.self.items ≡ c.args.mouth ∷ [] = c.push_reserved-2.ensures.items ∙ ap (λ l. l ++ c.args.mouth ∷ []) c.in-Ok-make_rooms.ensures.no_mouth in
    let tapes = c.in-Ok-reflect.returned.tapes.items in
    let served = c.patient_plan-patient.result.modules in
    let outcomes : c.take_apart.result.outcomes ≡ outcomes_on served tape.0 tapes =
    head_is c.take_apart.result.outcomes (outcomes_on served tape.0 tapes)
    (sym c.take_apart.ensures.outcomes ∙ ap (map (λ (t : Vec (Option LinkVerdict) Global). outcomes_on served t.items tapes)) v.1 ∙ ap (λ l. outcomes_on served l tapes ∷ []) v.2) in
    freely_replayed c.known_laws.ensures c.args.plan.now script _ headline over c.take_apart.result.outcomes.verdicts c.take_apart.result.outcomes.packets c.take_apart.result.mouth (record {
      tape = tape.0;
      tapes = tape.1;
      verdicts_are = ap (λ (o : OutcomesKept). o.verdicts) outcomes;
      packets_are = ap (λ (o : OutcomesKept). o.packets) outcomes ∙ ap (λ (l : List LinkVerdict). map (packet_on served tapes l) (range_with_len 0 (length l))) (sym (ap (λ (o : OutcomesKept). o.verdicts) outcomes));
      before = tally_mouth_told c.args.mouth;
      after = tally_mouth_told c.take_apart.result.mouth;
      is_before = ap (map tally_mouth_told) one_mouth;
      is_after = ap (map tally_mouth_told) c.take_apart.ensures.mouth;
      sound = refl;
      still = refl;
      nothing = c.requires.nothing_said;
      told = λ y. refl;
    })
