-- An entry of bytes says exactly one thing, since its bytes spell one packet or are refused for one reason.
use Rattle.std.proofs.Common.{◌≡◌, ℕ, List, inl, inr, refl, ap, ◌∙◌}
use Rattle.m17_fields.specs.Reading.{HasOneReading}
use Rattle.m17_values.specs.declared.heard.Heard.{Heard}
use Rattle.m17_values.specs.declared.heard.Heard.TheVariants as heard
use Rattle.m17_values.specs.declared.peer.Peer.{Peer}
use Rattle.m17_control.specs.Forms.{Spells, Refuses}
use Rattle.m17_control.specs.Laws.{DecodingIsExact}
use Rattle.m17_directory.specs.Entries.{Notice, Says}
use Rattle.m17_directory.specs.Laws.{EachEntrySaysOneThing}

abbrev SaysOne : Heard → Type 0
SaysOne h = (notice : Notice) × Says h notice × ((other : Notice) → Says h other → other ≡ notice)

says_read : (from : Peer) (at : ℕ) (bytes : List ℕ) → HasOneReading Spells Refuses bytes → SaysOne (heard.Datagram from at bytes)
says_read from at bytes (inl v) =
    let one : (other : Notice) → Says (heard.Datagram from at bytes) other → other ≡ Notice.Sent from at v.0 = λ other says. elim says [
      | inl w ↦ w.2 ∙ ap (Notice.Sent from at) (v.1.no_other w.0 w.1)
      | inr w ↦ absurd (v.1.no_refusal w.0 w.1)
    ] in
    (Notice.Sent from at v.0, inl (v.0, v.1.spelled, refl), one)
says_read from at bytes (inr r) =
    let one : (other : Notice) → Says (heard.Datagram from at bytes) other → other ≡ Notice.Garbled from at r.0 = λ other says. elim says [
      | inl w ↦ absurd (r.1.no_value w.0 w.1)
      | inr w ↦ w.2 ∙ ap (Notice.Garbled from at) (r.1.no_other w.0 w.1)
    ] in
    (Notice.Garbled from at r.0, inr (r.0, r.1.refused, refl), one)

pub says_one : DecodingIsExact → EachEntrySaysOneThing
says_one exact (heard.Datagram from at bytes) h = says_read from at bytes (exact.one_of_both bytes h)
says_one exact (heard.Quiet at) h = (Notice.Quiet at, refl, λ other e. e)
says_one exact heard.Fault h = (Notice.Fault, refl, λ other e. e)
says_one exact heard.End h = (Notice.End, refl, λ other e. e)
