-- An input of `judge` has one text.
use Rattle.std.proofs.Common.{◌≡◌, ℕ, ◌+◌, ◌*◌, ◌<◌, ◌^◌, List, [], ◌∷◌, ◌++◌, length, slice_get, get_or, Option, Some, unwrap_or, refl, sym, ap, subst, ◌∙◌, arith, inl, inr, length-append}
use Rattle.std.proofs.lemmas.Option.{slice_get-get_or}
use Rattle.std.proofs.lemmas.List.{get_or-append-add}
use Rattle.std.proofs.lemmas.List.Elements.{All-take, All-drop}
use Rattle.m17_fields.specs.Fields.{IsBytes}
use Rattle.m17_fields.specs.Reading.{IsOnlyValue, IsOnlyRefusal, HasOneReading}
use Rattle.m17_stream.specs.declared.packet.StreamPacket.{StreamPacket}
use Rattle.m17_stream.specs.declared.packet.StreamRefusal.{StreamRefusal}
use Rattle.m17_stream.specs.Laws.{ReadingIsExact}
use Rattle.m17_stream.specs.Stream.{SpellsStream, RefusesStream}
use Rattle.m17_floor.specs.declared.act.Act.{Act}
use Rattle.m17_floor.specs.declared.verdict.Verdict.{Verdict}
use Rattle.m17_print.specs.Endings.{input_refused_line}
use Rattle.m17_print.specs.Refused.{stream_refusal_text}
use Rattle.m17_print.specs.Texts.{IsTextOf}
use Rattle.m17_print.specs.Verdicts.{verdict_text}
use Rattle.m17_print.proofs.TextsOfLines.{equal_lists, one_text}
use Rattle.m17_text_commands.specs.declared.judge_reason.JudgeReason.{JudgeReason}
use Rattle.m17_text_commands.specs.declared.judge_reason.JudgeReason.TheVariants.{Cut, Large}
use Rattle.m17_text_commands.specs.JudgeReasons.{judge_reason_words}
use Rattle.m17_text_commands.specs.Judge.{joins, talkers, acts_with, packet_act, passed_act, numbered_line, IsVerdictLine, IsRefusalLine, IsRecordLine, HasRecordLine, IsTextOfRecords}
use Rattle.m17_text_commands.specs.JudgeLaws.{OneJudgeText}
use Rattle.m17_text_commands.specs.Records.{record_at, packet_of, AreRecords, RefusesRecords}
use Rattle.m17_text_commands.proofs.Joins.{length-joins}

-- bytes as a stream packet: the only one, or refused for the only reason
abbrev IsOnlyPacket : List ℕ → StreamPacket → Type 0
IsOnlyPacket bytes p = IsOnlyValue SpellsStream RefusesStream bytes p

abbrev IsOnlyReason : List ℕ → StreamRefusal → Type 0
IsOnlyReason bytes r = IsOnlyRefusal SpellsStream RefusesStream bytes r

abbrev HasReading : List ℕ → Type 0
HasReading bytes = HasOneReading SpellsStream RefusesStream bytes

-- the act of a record
act_of_packet : (acts : List Act) (n : ℕ) (bytes line : List ℕ) (p : StreamPacket) → IsOnlyPacket (packet_of bytes) p → IsRecordLine acts n bytes line
    → slice_get acts (talkers + n) ≡ Some (packet_act bytes p)
act_of_packet acts n bytes line p only (inl j) = j.act ∙ ap (λ (q : StreamPacket). Some (packet_act bytes q)) (only.no_other j.packet j.spelled)
act_of_packet acts n bytes line p only (inr t) = absurd (only.no_refusal t.refusal t.refused)

act_of_refusal : (acts : List Act) (n : ℕ) (bytes line : List ℕ) (r : StreamRefusal) → IsOnlyReason (packet_of bytes) r → IsRecordLine acts n bytes line
    → slice_get acts (talkers + n) ≡ Some (passed_act bytes)
act_of_refusal acts n bytes line r only (inl j) = absurd (only.no_value j.packet j.spelled)
act_of_refusal acts n bytes line r only (inr t) = t.act

same_act : (a b : List Act) (n : ℕ) (bytes line other : List ℕ) → HasReading (packet_of bytes) → IsRecordLine a n bytes line → IsRecordLine b n bytes other
    → slice_get a (talkers + n) ≡ slice_get b (talkers + n)
same_act a b n bytes line other (inl (p, only)) in_a in_b = act_of_packet a n bytes line p only in_a ∙ sym (act_of_packet b n bytes other p only in_b)
same_act a b n bytes line other (inr (r, only)) in_a in_b = act_of_refusal a n bytes line r only in_a ∙ sym (act_of_refusal b n bytes other r only in_b)

-- the acts after the Joins
after_joins : (more : List Act) (n : ℕ) → n < length more → slice_get (acts_with more) (talkers + n) ≡ slice_get more n
after_joins [] n within = absurd (omega arith)
after_joins (first ∷ rest) n within =
    let more = first ∷ rest in
    let size = length-joins talkers in
    let there : slice_get (acts_with more) (talkers + n) ≡ Some (get_or (acts_with more) (talkers + n) first) =
    slice_get-get_or (acts_with more) (talkers + n) first (omega (arith, length-append (joins talkers) more)) in
    let past : get_or (acts_with more) (talkers + n) first ≡ get_or more n first =
    ap (λ k. get_or (acts_with more) (k + n) first) (sym size) ∙ get_or-append-add (joins talkers) more n first in
    there ∙ ap Some past ∙ sym (slice_get-get_or more n first within)

one_verdict_line : (acts : List Act) (n : ℕ) (bytes a b : List ℕ) → IsVerdictLine acts n bytes a → IsVerdictLine acts n bytes b → a ≡ b
one_verdict_line acts n bytes a b in_a in_b =
    let same : in_a.verdict ≡ in_b.verdict = ap (λ (o : Option Verdict). unwrap_or o in_a.verdict) (sym in_a.ruled ∙ in_b.ruled) in
    in_a.text ∙ ap (λ (v : Verdict). numbered_line n (verdict_text v)) same ∙ sym in_b.text

one_refusal_line : (acts : List Act) (n : ℕ) (bytes a b : List ℕ) (r : StreamRefusal) → IsOnlyReason (packet_of bytes) r → IsRefusalLine acts n bytes a → IsRefusalLine acts n bytes b → a ≡ b
one_refusal_line acts n bytes a b r only in_a in_b =
    let same : in_a.refusal ≡ in_b.refusal = only.no_other in_a.refusal in_a.refused ∙ sym (only.no_other in_b.refusal in_b.refused) in
    in_a.text ∙ ap (λ (x : StreamRefusal). numbered_line n (stream_refusal_text x)) same ∙ sym in_b.text

-- over the same acts a record has one line
one_line : (acts : List Act) (n : ℕ) (bytes a b : List ℕ) → HasReading (packet_of bytes) → IsRecordLine acts n bytes a → IsRecordLine acts n bytes b → a ≡ b
one_line acts n bytes a b reading (inl x) (inl y) = one_verdict_line acts n bytes a b x y
one_line acts n bytes a b (inl (p, only)) (inl x) (inr y) = absurd (only.no_refusal y.refusal y.refused)
one_line acts n bytes a b (inr (r, only)) (inl x) (inr y) = absurd (only.no_value x.packet x.spelled)
one_line acts n bytes a b (inl (p, only)) (inr x) y = absurd (only.no_refusal x.refusal x.refused)
one_line acts n bytes a b (inr (r, only)) (inr x) (inl y) = absurd (only.no_value y.packet y.spelled)
one_line acts n bytes a b (inr (r, only)) (inr x) (inr y) = one_refusal_line acts n bytes a b r only x y

-- the packet of a record is bytes
packet_bytes : (input : List ℕ) (n : ℕ) → IsBytes input → IsBytes (packet_of (record_at input n))
packet_bytes input n are = All-drop (λ (byte : ℕ). byte < 2 ^ 8) 10 (record_at input n) (All-take (λ (byte : ℕ). byte < 2 ^ 8) 64 _ (All-drop (λ (byte : ℕ). byte < 2 ^ 8) (64 * n) input are))

-- so many records have one list of acts, and one text
one_list : ReadingIsExact → (input : List ℕ) (count : ℕ) (a b : List ℕ) → IsBytes input → (in_a : IsTextOfRecords input count a) → (in_b : IsTextOfRecords input count b) → in_a.more ≡ in_b.more
one_list reading input count a b are in_a in_b =
    equal_lists in_a.more in_b.more (in_a.acts_count ∙ sym in_b.acts_count) (λ n below.
    let within : n < count = omega (arith, in_a.acts_count) in
    let x = in_a.lines.each n within in
    let y = in_b.lines.each n within in
    sym (after_joins in_a.more n below)
    ∙ same_act (acts_with in_a.more) (acts_with in_b.more) n (record_at input n) x.0 y.0 (reading _ (packet_bytes input n are)) x.2 y.2
    ∙ after_joins in_b.more n (omega (arith, in_b.acts_count)))

one_of_records : ReadingIsExact → (input : List ℕ) (count : ℕ) (a b : List ℕ) → IsBytes input → IsTextOfRecords input count a → IsTextOfRecords input count b → a ≡ b
one_of_records reading input count a b are in_a in_b =
    let same = one_list reading input count a b are in_a in_b in
    one_text (HasRecordLine input in_a.more) count a b
    (λ n one other _ in_one in_other. one_line (acts_with in_a.more) n (record_at input n) one other (reading _ (packet_bytes input n are)) in_one in_other)
    in_a.lines
    (subst (λ (more : List Act). IsTextOf (HasRecordLine input more) count b) (sym same) in_b.lines)

-- the input is refused at one record, for one reason, or not at all
not_both : (input : List ℕ) (count n place : ℕ) (reason : JudgeReason) → AreRecords input count → RefusesRecords input n place reason → ⊥
not_both input count n place Cut are refuses = omega (arith, are.whole, refuses.1, refuses.2)
not_both input count n place Large are refuses = omega (arith, are.whole, are.not_large, refuses.0, refuses.1)

-- one refusal
abbrev IsSameRefusal : ℕ → ℕ → ℕ → ℕ → JudgeReason → JudgeReason → Type 0
IsSameRefusal m n p q a b = (m ≡ n) × (p ≡ q) × (a ≡ b)

one_refusal : (input : List ℕ) (m n p q : ℕ) (a b : JudgeReason) → RefusesRecords input m p a → RefusesRecords input n q b → IsSameRefusal m n p q a b
one_refusal input m n p q Cut Cut x y = (omega (arith, x.1, x.2, y.1, y.2), x.3 ∙ sym y.3, refl)
one_refusal input m n p q Cut Large x y = absurd (omega (arith, x.0, x.2, y.0, y.1))
one_refusal input m n p q Large Cut x y = absurd (omega (arith, x.0, x.1, y.0, y.2))
one_refusal input m n p q Large Large x y = (x.0 ∙ sym y.0, omega (arith, x.0, x.2, y.0, y.2), refl)

pub one_judge_text : ReadingIsExact → OneJudgeText
one_judge_text reading input a b are (inl (m, are_a, is_a)) (inl (n, are_b, is_b)) =
    let same : m ≡ n = omega (arith, are_a.whole, are_b.whole) in
    one_of_records reading input n a b are (subst (λ (k : ℕ). IsTextOfRecords input k a) same is_a) is_b
one_judge_text reading input a b are (inl (m, are_a, is_a)) (inr (n, place, why, before, refuses, is_b, text)) = absurd (not_both input m n place why are_a refuses)
one_judge_text reading input a b are (inr (m, place, why, before, refuses, is_a, text)) (inl (n, are_b, is_b)) = absurd (not_both input n m place why are_b refuses)
one_judge_text reading input a b are (inr (m, p, why_a, before_a, refuses_a, is_a, text_a)) (inr (n, q, why_b, before_b, refuses_b, is_b, text_b)) =
    let same = one_refusal input m n p q why_a why_b refuses_a refuses_b in
    let before : before_a ≡ before_b = one_of_records reading input n before_a before_b are (subst (λ (k : ℕ). IsTextOfRecords input k before_a) same.0 is_a) is_b in
    text_a ∙ ap (λ xs. xs ++ input_refused_line p (judge_reason_words why_a)) before
    ∙ ap (λ (k : ℕ). before_b ++ input_refused_line k (judge_reason_words why_a)) same.1
    ∙ ap (λ (why : JudgeReason). before_b ++ input_refused_line q (judge_reason_words why)) same.2 ∙ sym text_b
