use Rattle.std.proofs.Common.{◌≡◌, ℕ, ◌+◌, ◌-◌, refl, sym, ap, ◌∙◌, inl, inr, arith, Some}
use Rattle.std.specs.List.{slice_get}
use Rattle.std.proofs.lemmas.Bool.Decides.{leb_tells}
use Rattle.std.proofs.lemmas.Option.{slice_get_read, slice_get_within}
use Rattle.m17_stream.specs.declared.packet.StreamPacket.{StreamPacket}
use Rattle.m17_client.proofs.script.is_in_order.Goals as goal

pub returns-then-moment-before : goal.returns-then-moment-before
returns-then-moment-before c = (
  λ e. absurd (cc),
  λ order.
      let script = c.args.script.now in
      let at : slice_get script (c.loop-i.i - 1) ≡ Some c.index-script-i.result =
      slice_get_read script _ (c.loop-i.i - 1) c.index-script-i.result refl (omega arith) c.index-script-i.is in
      let here : slice_get script c.loop-i.i ≡ Some c.index-script-i-in-loop-i.result =
      slice_get_read script _ c.loop-i.i c.index-script-i-in-loop-i.result refl (omega arith)
      c.index-script-i-in-loop-i.is in
      let place : c.loop-i.i - 1 + 1 ≡ c.loop-i.i = omega arith in
      let risen = order (c.loop-i.i - 1) c.index-script-i.result c.index-script-i-in-loop-i.result at
      (ap (slice_get script) place ∙ here) in absurd (omega (arith, risen)),
)

pub loop-i-preserved : goal.loop-i-preserved
loop-i-preserved c = λ n a b within at next. elim (leb_tells (n + 2) c.loop-i.i) [
  | inl early ↦ c.loop-i.invariant n a b (omega (arith, early.1)) at next
  | inr late ↦ (
      let script = c.args.script.now in
      let first : n ≡ c.loop-i.i - 1 = omega (arith, late.1) in
      let second : n + 1 ≡ c.loop-i.i = omega (arith, late.1) in
      let one : Some a ≡ Some c.index-script-i.result = sym at ∙ ap (slice_get script) first
      ∙ slice_get_read script _ (c.loop-i.i - 1) c.index-script-i.result refl (omega arith) c.index-script-i.is in
      let two : Some b ≡ Some c.index-script-i-in-loop-i.result = sym next ∙ ap (slice_get script) second
      ∙ slice_get_read script _ c.loop-i.i c.index-script-i-in-loop-i.result refl (omega arith)
      c.index-script-i-in-loop-i.is in
      let is_a : a ≡ c.index-script-i.result = cc in
      let is_b : b ≡ c.index-script-i-in-loop-i.result = cc in
      let moment_a = ap (λ (r : ℕ × StreamPacket). r.0) is_a in
      let moment_b = ap (λ (r : ℕ × StreamPacket). r.0) is_b in omega arith)
]

pub returns : goal.returns
returns c = (
  λ e n a b at next.
      let within = slice_get_within c.args.script.now (n + 1) b next in
      c.loop-i.invariant n a b (omega arith) at next,
  λ order. refl,
)
