use Rattle.std.proofs.Common.{rules, refl, sym, subst, ⊎_elim, inl, inr, ◌≡◌, ℕ, ◌*◌, ◌/◌, ◌<◌, ◌∷◌, [], arith}
use Rattle.std.proofs.lemmas.List.Elements.{Contains-append_right}
use Rattle.m17_roll.specs.Sightings.{sighting, IsTaken}
use Rattle.m17_roll.specs.Seat.{RollView}
use Rattle.std.specs.List.{Contains}
use Rattle.m17_roll.specs.Rule.{Mine, SeenElse}
use Rattle.m17_roll.proofs.Claiming.{looking_for, claiming_for, else_more}
use Rattle.m17_roll.proofs.Seated.{look_taken, look_free, lost, won, passes_two}
use Rattle.m17_roll.proofs.seat.RollSeat.try_at.Goals as goal

pub load-word-requires : goal.load-word-requires
load-word-requires g c =
    let key : c.deref.result.now.shared.key.places ≡ c.args.self.now.places = search rules in
    let same = c.self.view_is in
    let others = subst (λ (v : RollView). SeenElse c.args.self.now.places c.args.place v.seen g.A.Asker.askers) (sym same) c.requires.others in (
      search rules,
      search rules,
      looking_for _ _ _ _ _ _ _ (search rules) (subst (λ (p : ℕ). SeenElse p c.args.place c.self.inside.seat.me.0.seen g.A.Asker.askers) (sym key) others),
    )

pub invariant_of-self : goal.invariant_of-self
invariant_of-self g c =
    let e = c.load-word.ensures in
    let found : IsTaken c.load-word.result = ⊎_elim (λ odd. inl odd) (λ t. inr t.1) c.then-word-eq1.either in
    look_taken c.self.inside c.load-word.new.seat c.args.place c.load-word.result g.A.Asker.askers c.self.invariant e.0 e.2 found

pub compare_exchange-found-requires : goal.compare_exchange-found-requires
compare_exchange-found-requires g c =
    let r : ℕ = c.load-word.result in
    let me = c.self.inside.seat.me in
    let who = g.A.Asker.askers in
    let e = c.load-word.ensures in
    let not_odd = c.if-word-eq1.false in
    let not_last = c.if-word.false in
    let in_type = c.load-word.type_inv in
    let is = e.2.free (λ t. ⊎_elim not_odd not_last t) in
    let key : c.deref-2.result.now.shared.key.places ≡ c.args.self.now.places = search rules in
    let others = subst (λ (v : RollView). SeenElse c.args.self.now.places c.args.place v.seen who) (sym c.self.view_is) c.requires.others in
    let others' = subst (λ (p : ℕ). SeenElse p c.args.place me.0.seen who) (sym key) others in
    let more = else_more c.deref-2.result.now.shared.key.places c.args.place me.0.seen (sighting c.args.place r ∷ []) who others' in
    let here = Contains-append_right me.0.seen (sighting c.args.place r ∷ []) (sighting c.args.place r) (0, omega arith, refl) in
    let twice : r ≡ 2 * (r / 2) = omega arith in
    let low : r < 18446744073709551614 = omega arith in
    let one : 0 < c.load-word.new.seat.me.0.parts = subst (λ (m : Mine). 0 < m.0.parts) (sym is) (let part = c.self.invariant.one in omega arith) in (
      search rules,
      search rules,
      claiming_for _ _ _ _ _ _ (r / 2) _ _ who one (search rules) twice refl low
          (subst (λ (m : Mine). SeenElse c.deref-2.result.now.shared.key.places c.args.place m.0.seen who) (sym is) more)
          (subst (λ (m : Mine). Contains m.0.seen (sighting c.args.place r)) (sym is) here),
    )

pub invariant_of-self-then-found-word : goal.invariant_of-self-then-found-word
invariant_of-self-then-found-word g c =
    let e = c.load-word.ensures in
    let f = c.compare_exchange-found.ensures in
    let free : ¬ IsTaken c.load-word.result = λ t. ⊎_elim c.if-word-eq1.false c.if-word.false t in
    let one = look_free c.self.inside c.load-word.new.seat c.args.place c.load-word.result g.A.Asker.askers c.self.invariant e.0 e.2 free in
    lost record { table = c.self.inside.table; seat = c.load-word.new.seat; places = c.self.inside.places }
    c.compare_exchange-found.new.seat c.args.place c.load-word.result c.compare_exchange-found.result g.A.Asker.askers one f.0 f.2 c.if-found-word.true

pub returns-then-found-word-clause-refused : goal.returns-then-found-word-clause-refused
returns-then-found-word-clause-refused g c =
    let e = c.load-word.ensures in
    let f = c.compare_exchange-found.ensures in
    let free : ¬ IsTaken c.load-word.result = λ t. ⊎_elim c.if-word-eq1.false c.if-word.false t in
    let p = passes_two c.self.inside c.load-word.new.seat c.compare_exchange-found.new.seat c.args.place c.load-word.result c.compare_exchange-found.result
    g.A.Asker.askers e.2 free f.2 c.if-found-word.true (subst (λ (v : RollView). c.args.place < v.places) (sym c.self.view_is) c.requires.in_roll) in
    rw (← c.self.view_is) p

pub invariant_of-self-2 : goal.invariant_of-self-2
invariant_of-self-2 g c =
    let e = c.load-word.ensures in
    let f = c.compare_exchange-found.ensures in
    let free : ¬ IsTaken c.load-word.result = λ t. ⊎_elim c.if-word-eq1.false c.if-word.false t in
    let one = look_free c.self.inside c.load-word.new.seat c.args.place c.load-word.result g.A.Asker.askers c.self.invariant e.0 e.2 free in
    won record { table = c.self.inside.table; seat = c.load-word.new.seat; places = c.self.inside.places }
    c.compare_exchange-found.new.seat c.args.place c.load-word.result c.compare_exchange-found.result g.A.Asker.askers one f.0 f.2 (search rules)
