-- The line of one more record.
use Rattle.std.proofs.Common.{◌≡◌, ℕ, ◌+◌, List, [], ◌∷◌, ◌++◌, length, Some, codes, decimal, sym, ap, ◌∙◌, inl, inr}
use Rattle.m17_stream.specs.declared.packet.StreamPacket.{StreamPacket}
use Rattle.m17_stream.specs.declared.packet.StreamRefusal.{StreamRefusal}
use Rattle.m17_stream.specs.Stream.{SpellsStream, RefusesStream}
use Rattle.m17_floor.specs.declared.act.Act.{Act}
use Rattle.m17_floor.specs.declared.act.ActKind.TheVariants.{Packet, Other}
use Rattle.m17_floor.specs.declared.verdict.Verdict.{Verdict}
use Rattle.m17_floor.specs.Floor.{verdict_at}
use Rattle.m17_print.specs.Refused.{stream_refusal_text}
use Rattle.m17_print.specs.Verdicts.{verdict_text}
use Rattle.m17_print.proofs.TextsOfLines.{slice_get_after}
use Rattle.m17_text_commands.specs.Judge.{judge_setup, talker, talkers, IsRecordLine}
use Rattle.m17_text_commands.specs.Records.{moment_of_record, talker_of, packet_of}

-- the packet was refused
pub refusal_line : (acts : List Act) (n at : ℕ) (bytes line : List ℕ) (refusal : StreamRefusal) → length acts ≡ talkers + n → at ≡ moment_of_record bytes
    → RefusesStream (packet_of bytes) refusal → line ≡ ((decimal n ++ codes " ") ++ stream_refusal_text refusal) ++ 10 ∷ []
    → IsRecordLine (acts ++ (record { at = at; kind = Other }) ∷ []) n bytes line
refusal_line acts n at bytes line refusal size moment refused text = inr (record {
  refusal = refusal;
  refused = refused;
  act = slice_get_after acts (record { at = at; kind = Other }) [] (talkers + n) size ∙ ap (λ (m : ℕ). let act : Act = record { at = m; kind = Other } in Some act) moment;
  text = text;
})

-- the packet was judged
pub verdict_line : (acts : List Act) (n at place : ℕ) (bytes line : List ℕ) (packet : StreamPacket) (verdict : Verdict) → length acts ≡ talkers + n
    → at ≡ moment_of_record bytes → place ≡ talker_of bytes → SpellsStream packet (packet_of bytes)
    → verdict_at judge_setup (acts ++ (record { at = at; kind = Packet (talker place) packet }) ∷ []) (length acts) ≡ Some verdict
    → line ≡ ((decimal n ++ codes " ") ++ verdict_text verdict) ++ 10 ∷ []
    → IsRecordLine (acts ++ (record { at = at; kind = Packet (talker place) packet }) ∷ []) n bytes line
verdict_line acts n at place bytes line packet verdict size moment who spelled ruled text =
    let act : Act = record { at = at; kind = Packet (talker place) packet } in
    inl (record {
      packet = packet;
      spelled = spelled;
      act = slice_get_after acts act [] (talkers + n) size
          ∙ ap (λ (m : ℕ). let a : Act = record { at = m; kind = Packet (talker place) packet } in Some a) moment
          ∙ ap (λ (t : ℕ). let a : Act = record { at = moment_of_record bytes; kind = Packet (talker t) packet } in Some a) who;
      verdict = verdict;
      ruled = ap (verdict_at judge_setup (acts ++ act ∷ [])) (sym size) ∙ ruled;
      text = text;
    })
