-- An input has one text.
use Rattle.std.proofs.Common.{◌≡◌, ℕ, List, [], ◌∷◌, ◌++◌, ap, sym, subst, ◌∙◌}
use Rattle.std.specs.List.{AllByRecursion}
use Rattle.m17_values.specs.declared.heard.Heard.{Heard}
use Rattle.m17_values.specs.declared.heard.Heard.TheVariants.{Datagram, Quiet, Fault, End}
use Rattle.m17_book.specs.Book.{IsTrace}
use Rattle.m17_book.specs.Entries.{FitsEntry, SpellsEntry}
use Rattle.m17_book.specs.Laws.{TracesAreExact}
use Rattle.m17_book.specs.Limits.{SpellsEach}
use Rattle.m17_directory.specs.Laws.{HasBytes}
use Rattle.m17_house.specs.Laws.{OneReplay}
use Rattle.m17_house.specs.Replay.{IsReplayOf}
use Rattle.m17_replay.specs.Laws.{OneReplayText}
use Rattle.m17_replay.specs.Replay.{is_lost, replay_text}

-- the datagrams of a trace are bytes
has_bytes : (h : Heard) → FitsEntry h → HasBytes h
has_bytes (Datagram from at bytes) fits = fits.3
has_bytes (Quiet at) fits = tt
has_bytes Fault fits = tt
has_bytes End fits = tt

all_bytes : (entries : List Heard) (body : List ℕ) → SpellsEach SpellsEntry entries body → AllByRecursion HasBytes (entries ++ End ∷ [])
all_bytes [] body each = (tt, tt)
all_bytes (h ∷ entries) body each = (has_bytes h each.2.0, all_bytes entries each.1 each.3)

pub heard_bytes : (bytes : List ℕ) (heard : List Heard) → IsTrace bytes heard → AllByRecursion HasBytes heard
heard_bytes bytes heard trace = subst (λ (hs : List Heard). AllByRecursion HasBytes hs) (sym trace.4) (all_bytes trace.1 trace.3.0 trace.3.1)

pub one_text : TracesAreExact → OneReplay → OneReplayText
one_text exact law plan summary lost lost' bytes text text' r s =
    let heards : s.heard ≡ r.heard = exact.one_value bytes s.heard r.heard s.is_trace r.is_trace in
    let there : IsReplayOf plan r.heard s.entries = subst (λ (hs : List Heard). IsReplayOf plan hs s.entries) heards s.is_replay in
    let same : r.entries ≡ s.entries = law plan r.heard r.entries s.entries (heard_bytes bytes r.heard r.is_trace) r.is_replay there in (
      sym r.is_lost_so ∙ ap is_lost same ∙ s.is_lost_so,
      r.text_is ∙ ap (replay_text plan summary) same ∙ sym s.text_is,
    )
