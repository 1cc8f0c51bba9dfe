-- An echo is one item, to its member.
use Rattle.std.proofs.Common.{◌≡◌, ℕ, Bool, true, false, cond, [], get_or, option_map, Option, None, Some, refl, ap, sym, ◌∙◌}
use Rattle.std.specs.Option.{option_and_then}
use Rattle.std.proofs.lemmas.Option.{same_Some}
use Rattle.m17_values.specs.declared.member.Member.{Member}
use Rattle.m17_stream.specs.declared.packet.StreamPacket.{StreamPacket}
use Rattle.m17_control.specs.declared.item.Said.TheVariants as said
use Rattle.m17_floor.specs.Acts.{moment_at}
use Rattle.m17_module.specs.Recording.{Recording, is_due, next_frame, due_of}
use Rattle.m17_module.specs.Events.{acts_of}
use Rattle.m17_module.specs.Seats.{seats_at, seat_of}
use Rattle.m17_module.specs.Echoes.{recording_with, echoed_before, echo_at}
use Rattle.m17_module.specs.Items.{to_one, echo_items, echoes_at}
use Rattle.m17_module.specs.Laws.{EachEchoIsSentOnce}
use Rattle.m17_module.proofs.FramesMine.{seat_of_some}
use Rattle.m17_module.proofs.SeatsMore.{joined_has_seat, seats_at_is}
use Rattle.m17_module.proofs.EchoesMore.{IsFound, found}

abbrev for_member : Member → StreamPacket → Member × StreamPacket
for_member k p = (k, p)

-- whom it is for
due_cases : (k : Member) (b : Bool) (o : Option StreamPacket) (e : Member × StreamPacket) → cond b (option_map (λ p. for_member k p) o) None ≡ Some e → e.0 ≡ k
due_cases k false o e is = cc
due_cases k true None e is = cc
due_cases k true (Some p) e is = ap (λ (x : Member × StreamPacket). x.0) (sym (same_Some (for_member k p) e is))

due_is : (at : ℕ) (r : Recording) (e : Member × StreamPacket) → due_of at r ≡ Some e → e.0 ≡ r.member
due_is at r e is = due_cases r.member (is_due at r) (next_frame r) e is

record IsFor (recording : Option Recording) (e : Member × StreamPacket) : Type 0 where
  of : Recording
  is : recording ≡ Some of
  member : e.0 ≡ of.member

echo_for : (at : ℕ) (recording : Option Recording) (e : Member × StreamPacket) → option_and_then (due_of at) recording ≡ Some e → IsFor recording e
echo_for at None e is = cc
echo_for at (Some r) e is = record { of = r; is = refl; member = due_is at r e is }

pub echo_once : EachEchoIsSentOnce
unfolding echoes_at echo_at
echo_once setup events n echo parrot is =
    let found_for : IsFor (recording_with setup (acts_of events) n (echoed_before setup (acts_of events) n)) echo =
    echo_for (moment_at (acts_of events) n) _ echo is in
    let at : IsFound setup.places (acts_of events) n found_for.of = found setup (acts_of events) n (echoed_before setup (acts_of events) n) found_for.of found_for.is in
    let has = joined_has_seat setup.places events n found_for.of.member at.join at.joined in
    let here : seat_of (seats_at setup.places events n) echo.0 ≡ Some has.seat =
    ap (seat_of (seats_at setup.places events n)) found_for.member
    ∙ seat_of_some found_for.of.member (get_or (seats_at setup.places events n) found_for.of.member.place None) has.seat (seats_at_is setup.places events n found_for.of.member.place has.below ∙ has.is) has.mine in (
      has.seat,
      here,
      ap (λ b. cond b (echo_items n (seats_at setup.places events n) (echo_at setup (acts_of events) n)) []) parrot
          ∙ ap (echo_items n (seats_at setup.places events n)) is
          ∙ ap (to_one (said.Echo n echo.1)) here,
    )
