-- Each list of bytes is read as a script, or is refused.
use Rattle.std.proofs.Common.{◌≡◌, ℕ, zero, suc, ◌+◌, ◌*◌, ◌<◌, ◌≤◌, ◌^◌, ◌⊎◌, List, [], ◌∷◌, ◌++◌, length, take, drop, Some, refl, sym, subst, arith, inl, inr}
use Rattle.std.proofs.lemmas.List.{length-drop, length-take-le, length_push}
use Rattle.std.proofs.lemmas.List.Elements.{All-take, All-drop}
use Rattle.std.proofs.lemmas.Bool.{cases_lt}
use Rattle.m17_fields.specs.Fields.{IsBytes}
use Rattle.m17_stream.specs.Laws.{ReadingIsExact}
use Rattle.m17_stream.specs.Stream.{SpellsStream}
use Rattle.m17_stream.specs.declared.packet.StreamPacket.{StreamPacket}
use Rattle.m17_client_commands.specs.declared.reason.ScriptReason.{ScriptReason}
use Rattle.m17_client_commands.specs.declared.reason.ScriptReason.TheVariants.{Cut, Field, Large}
use Rattle.m17_client_commands.specs.Laws.{IsReadOrRefused}
use Rattle.m17_client_commands.specs.Script.{Due, most_records, from_record, last_moment, script_moment, packet_of, BeginsWith, IsEarly, RefusesNext, SpellsDue}
use Rattle.m17_client_commands.proofs.Records.{at_start, begins_more, moment_front, packet_front}

-- nothing is left
ends : (input : List ℕ) (script : List Due) → BeginsWith input script → length (from_record input (length script)) ≤ 0 → IsReadOrRefused input
ends input script begins none =
    inl (script, record { begins = begins; whole = omega (arith, begins.within, length-drop (62 * length script) input) })

-- a byte is left, and no record may come
is_full : (input : List ℕ) (script : List Due) → BeginsWith input script → length script ≡ most_records → 0 < length (from_record input (length script)) → IsReadOrRefused input
is_full input script begins full some = inr (62 * length script, Large, record { script = script; begins = begins; stops = inl (full, some, refl) })

-- no record comes
stops : (input : List ℕ) (script : List Due) (k : ℕ) (reason : ScriptReason) → BeginsWith input script → length script < most_records
    → RefusesNext (last_moment script) (from_record input (length script)) k reason → IsReadOrRefused input
stops input script k reason begins few wrong = inr (62 * length script + k, reason, record { script = script; begins = begins; stops = inr (few, k, wrong, refl) })

early_or_not : (moment : ℕ) (rest : List ℕ) → IsEarly moment rest ⊎ (IsEarly moment rest → ⊥)
early_or_not moment rest = elim (cases_lt (length rest) 8) [
  | inl short ↦ inr (λ (early : IsEarly moment rest). omega (arith, early.0))
  | inr long ↦ elim (cases_lt (script_moment rest) moment) [
    | inl below ↦ inl (long, below)
    | inr later ↦ inr (λ (early : IsEarly moment rest). omega (arith, early.1))
  ]
]

not_early : (moment : ℕ) (rest : List ℕ) → (IsEarly moment rest → ⊥) → 62 ≤ length rest → moment ≤ script_moment rest
not_early moment rest never room = elim (cases_lt (script_moment rest) moment) [
  | inl below ↦ absurd (never (omega arith, below))
  | inr later ↦ later
]

-- the record that what is left begins with
next_due : (rest : List ℕ) (packet : StreamPacket) → 62 ≤ length rest → SpellsStream packet (packet_of rest) → SpellsDue (script_moment rest, packet) (take 62 rest)
next_due rest packet room spells = record {
  size = length-take-le 62 rest room;
  moment_is = sym (moment_front rest);
  packet_is = subst (λ (bytes : List ℕ). SpellsStream packet bytes) (sym (packet_front rest)) spells;
}

-- so many records more may come
reads : ReadingIsExact → (input : List ℕ) → IsBytes input → (more : ℕ) (script : List Due) → length script + more ≡ most_records → BeginsWith input script → IsReadOrRefused input
reads law input bytes zero script count begins = elim (cases_lt 0 (length (from_record input (length script)))) [
  | inl some ↦ is_full input script begins (omega arith) some
  | inr none ↦ ends input script begins none
]
reads law input bytes (suc more) script count begins =
    let rest : List ℕ = from_record input (length script) in
    let few : length script < most_records = omega arith in
    let part : IsBytes (packet_of rest) = All-take (λ byte. byte < 2 ^ 8) 54 (drop 8 rest) (All-drop (λ byte. byte < 2 ^ 8) 8 rest (All-drop (λ byte. byte < 2 ^ 8) (62 * length script) input bytes)) in
    elim (cases_lt 0 (length rest)) [
      | inr none ↦ ends input script begins none
      | inl some ↦ elim (early_or_not (last_moment script) rest) [
        | inl early ↦ stops input script 0 Field begins few (inl (early, refl))
        | inr never ↦ elim (cases_lt (length rest) 62) [
          | inl short ↦ stops input script (length rest) Cut begins few (some, short, never, refl)
          | inr room ↦ elim (law (packet_of rest) part) [
            | inl found ↦
                let due : Due = (script_moment rest, found.0) in
                let later : last_moment script ≤ script_moment rest = not_early (last_moment script) rest never room in
                let longer : length (script ++ due ∷ []) ≡ length script + 1 = length_push script due in
                reads law input bytes more (script ++ due ∷ []) (omega arith) (begins_more input script due few room begins (next_due rest found.0 room found.1.spelled) later)
            | inr refused ↦ stops input script 8 Field begins few (inr (room, never, refused.1.no_value, refl))
          ]
        ]
      ]
    ]

pub read_or_refused : ReadingIsExact → (input : List ℕ) → IsBytes input → IsReadOrRefused input
read_or_refused law input bytes = reads law input bytes most_records [] (omega arith) (at_start input (Some input) refl).begins
