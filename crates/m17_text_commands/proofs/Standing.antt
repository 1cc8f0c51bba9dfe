-- The table of talkers goes on standing for the acts, one more at a time.
use Rattle.std.proofs.Common.{◌≡◌, ℕ, ◌<◌, List, [], ◌∷◌, ◌++◌, length, max, slice_get, slice_set, get_or, Option, Some, refl, sym, ap, subst, ◌∙◌, inl, inr}
use Rattle.std.proofs.lemmas.Option.{slice_get_read}
use Rattle.m17_lists.proofs.Places.{written_or_as_before}
use Rattle.m17_values.specs.declared.member.Member.{Member}
use Rattle.m17_stream.specs.declared.packet.StreamPacket.{StreamPacket}
use Rattle.m17_floor.specs.declared.act.Act.{Act}
use Rattle.m17_floor.specs.declared.act.ActKind.TheVariants.{Packet, Other}
use Rattle.m17_floor.specs.declared.verdict.Verdict.{Verdict}
use Rattle.m17_floor.specs.Setup.{FloorSetup}
use Rattle.m17_floor.specs.Acts.{moment_before}
use Rattle.m17_floor.specs.Laws.{OtherActsChangeNothing}
use Rattle.m17_floor.specs.Rule.{Frame, FloorState}
use Rattle.m17_floor.specs.StandsFor.{FloorStandsFor, OwnStandsFor, MaySpeak, IsJudged}
use Rattle.m17_text_commands.specs.Judge.{judge_setup, talker, talkers}
use Rattle.m17_text_commands.specs.Table.{TableKept, TableStandsFor}
use Rattle.m17_text_commands.proofs.Joins.{moment_more}

-- a talker's packet that was judged
pub judged_more : (acts : List Act) (act : Act) (t : ℕ) (verdict : Verdict) (kept : TableKept) (floor' : FloorState) (own' : Option Frame)
    → t < length kept.owns → TableStandsFor acts kept → IsJudged judge_setup acts act (talker t) verdict floor' own'
    → TableStandsFor (acts ++ act ∷ []) (record { floor = floor'; owns = slice_set kept.owns t own'; moment = max kept.moment act.at })
judged_more acts act t verdict kept floor' own' within stands judged = record {
  floor_stands = judged.floor_stands;
  each_stands = λ k own at_place. elim (written_or_as_before kept.owns t own' k own within at_place) [
    | inl p ↦ subst (λ (m : ℕ). OwnStandsFor judge_setup (acts ++ act ∷ []) (talker m) own) (sym p.0) (p.1 ∙ judged.own_stands)
    | inr p ↦ judged.others_stand (talker k) own (λ same. p.0 (ap (λ (m : Member). m.place) same)) (stands.each_stands k own p.1)
  ];
  all_may_speak = λ k below. judged.speakers (talker k) (stands.all_may_speak k below);
  moment_is = ap (λ m. max m act.at) stands.moment_is ∙ sym (moment_more acts act);
}

-- a moment that came with nothing that matters to the floor
pub passed_more : OtherActsChangeNothing → (acts : List Act) (at : ℕ) (kept : TableKept) → TableStandsFor acts kept
    → TableStandsFor (acts ++ (record { at = at; kind = Other }) ∷ []) (record kept { moment = max kept.moment at })
passed_more law acts at kept stands =
    let act : Act = record { at = at; kind = Other } in
    let keeps = law judge_setup acts act refl in
    record {
      floor_stands = keeps.floor kept.floor stands.floor_stands;
      each_stands = λ k own at_place. keeps.own (talker k) own (stands.each_stands k own at_place);
      all_may_speak = λ k below. keeps.speakers (talker k) (stands.all_may_speak k below);
      moment_is = ap (λ m. max m at) stands.moment_is ∙ sym (moment_more acts act);
    }

-- a talker's packet is judged by the floor rule of these acts
pub ruled_at : (acts : List Act) (at t q : ℕ) (p : StreamPacket) (verdict : Verdict) (kept : TableKept) (floor' : FloorState) (own own' : Option Frame) (moment' : ℕ)
    → q ≡ t → own ≡ get_or kept.owns t own → t < length kept.owns → t < talkers → moment' ≡ max kept.moment at → TableStandsFor acts kept
    → ((setup : FloorSetup) (before : List Act) (m : ℕ) → FloorStandsFor setup before kept.floor → OwnStandsFor setup before (talker q) own → MaySpeak setup before (talker q)
    → moment' ≡ max (moment_before before (length before)) m → IsJudged setup before (record { at = m; kind = Packet (talker q) p }) (talker q) verdict floor' own')
    → IsJudged judge_setup acts (record { at = at; kind = Packet (talker t) p }) (talker t) verdict floor' own'
ruled_at acts at t q p verdict kept floor' own own' moment' same read within below later stands rule =
    let slot : slice_get kept.owns t ≡ Some own = slice_get_read kept.owns (length kept.owns) t own refl within read in
    let its_own : OwnStandsFor judge_setup acts (talker q) own = subst (λ (k : ℕ). OwnStandsFor judge_setup acts (talker k) own) (sym same) (stands.each_stands t own slot) in
    let speaks : MaySpeak judge_setup acts (talker q) = subst (λ (k : ℕ). MaySpeak judge_setup acts (talker k)) (sym same) (stands.all_may_speak t below) in
    let now : moment' ≡ max (moment_before acts (length acts)) at = later ∙ ap (λ m. max m at) stands.moment_is in
    subst (λ (k : ℕ). IsJudged judge_setup acts (record { at = at; kind = Packet (talker k) p }) (talker k) verdict floor' own') same (rule judge_setup acts at stands.floor_stands its_own speaks now)
