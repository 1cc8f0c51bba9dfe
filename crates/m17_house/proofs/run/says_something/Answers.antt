use Rattle.std.proofs.Common.{ℕ, List, inl, inr, refl, sym, subst}
use Rattle.m17_values.specs.declared.heard.Heard.{Heard}
use Rattle.m17_values.specs.declared.heard.Heard.TheVariants as heard
use Rattle.m17_values.specs.declared.peer.Peer.{Peer}
use Rattle.m17_fields.specs.Reading.{HasOneReading}
use Rattle.m17_control.specs.Forms.{Spells, Refuses}
use Rattle.m17_directory.specs.Entries.{Notice, Says}
use Rattle.m17_house.proofs.run.says_something.Goals as goal

noticed : (from : Peer) (at : ℕ) (bytes : List ℕ) → HasOneReading Spells Refuses bytes → (notice : Notice) × Says (heard.Datagram from at bytes) notice
noticed from at bytes (inl one) = (Notice.Sent from at one.0, inl (one.0, one.1.spelled, refl))
noticed from at bytes (inr one) = (Notice.Garbled from at one.0, inr (one.0, one.1.refused, refl))

pub returns-in-Datagram : goal.returns-in-Datagram
returns-in-Datagram c =
    let one : HasOneReading Spells Refuses c.in-Datagram.bytes = subst (λ (xs : List ℕ). HasOneReading Spells Refuses xs) c.bytes.ensures.same c.reads.ensures in
    subst (λ (h : Heard). (notice : Notice) × Says h notice) (sym c.in-Datagram.is)
    (noticed c.in-Datagram.from c.in-Datagram.at c.in-Datagram.bytes one)

pub returns-in-Quiet : goal.returns-in-Quiet
returns-in-Quiet c = subst (λ (h : Heard). (notice : Notice) × Says h notice) (sym c.in-Quiet.is) (Notice.Quiet c.in-Quiet.at, refl)
