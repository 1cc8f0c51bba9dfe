-- A replay in which places are given freely has the text of the plain one.
use Rattle.std.proofs.Common.{◌≡◌, ℕ, Bool, List, refl, sym, subst}
use Rattle.m17_values.specs.declared.heard.Heard.{Heard}
use Rattle.m17_book.specs.Book.{IsTrace}
use Rattle.m17_directory.specs.Entries.{Entry}
use Rattle.m17_plan.specs.declared.plan.Plan.{Plan}
use Rattle.m17_house.specs.Free.{IsFreeReplayOf}
use Rattle.m17_house.specs.Laws.{AReplayThereIs}
use Rattle.m17_replay.specs.Laws.{IsFreeReplayText, TextIsFreeOfPlaces}
use Rattle.m17_replay.specs.Replay.{is_lost, replay_text, IsReplayText}
use Rattle.m17_replay.proofs.HeardLemmas.{ends_somewhere}
use Rattle.m17_replay.proofs.OneText.{heard_bytes}

pub plain_text : AReplayThereIs → TextIsFreeOfPlaces → (plan : Plan) (summary lost : Bool) (bytes : List ℕ) (heard : List Heard) (entries : List Entry) → IsTrace bytes heard → IsFreeReplayOf plan heard entries → is_lost entries ≡ lost → IsReplayText plan summary lost bytes (replay_text plan summary entries)
plain_text there free plan summary lost bytes heard entries trace is e =
    let (plain, replay) = there plan heard (heard_bytes bytes heard trace) (ends_somewhere heard (trace.1, trace.4)) in
    let text : List ℕ = replay_text plan summary plain in
    let its : IsReplayText plan summary (is_lost plain) bytes text = record { heard = heard; entries = plain; is_trace = trace; is_replay = replay; is_lost_so = refl; text_is = refl } in
    let own : IsFreeReplayText plan summary lost bytes (replay_text plan summary entries) = record { heard = heard; entries = entries; is_trace = trace; is_replay = is; is_lost_so = e; text_is = refl } in
    let (same_loss, same_text) = free.same plan summary lost (is_lost plain) bytes (replay_text plan summary entries) text own (free.given plan summary (is_lost plain) bytes text its) in
    subst (λ (t : List ℕ). IsReplayText plan summary lost bytes t) (sym same_text)
    (subst (λ (b : Bool). IsReplayText plan summary b bytes text) (sym same_loss) its)
