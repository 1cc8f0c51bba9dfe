use Rattle.std.proofs.Common.{◌≡◌, ◌<◌, false, IsSome, is_some, Some, None, length, refl, ap, sym, subst, ◌∙◌, arith}
use Rattle.std.proofs.lemmas.Option.{slice_get_read, get_or_from_slice_get}
use Rattle.m17_floor.specs.Legal.{book_setup}
use Rattle.m17_book.specs.Roster.{People, last_in, listens_of, RosterStandsFor}
use Rattle.m17_book.proofs.Rosters.{speak_stands, may_speak, place_within}
use Rattle.m17_book.proofs.roster.Roster.speak.Goals as goal

pub returns : goal.returns
returns c = record {
  stands = λ limit acts moment at stands.
      let people : People = record { stays = c.self.inside.stays; lasts = c.self.inside.lasts; floor = c.self.inside.floor } in
      let inside : RosterStandsFor limit acts people = subst (λ (p : People). RosterStandsFor limit acts p) (sym c.self.view_is) stands in
      let speaks : listens_of people.stays c.args.k ≡ Some false = ap (λ (p : People). listens_of p.stays c.args.k) c.self.view_is ∙ c.requires in
      let is : IsSome (listens_of people.stays c.args.k) = ap (λ (o : _). is_some o) speaks in
      let within : c.args.k.place < length people.lasts = omega (arith, place_within people.stays c.args.k is, c.self.invariant.0, c.self.invariant.1) in
      let read : last_in people.lasts c.args.k.place ≡ c.index-self-k.result = get_or_from_slice_get people.lasts c.args.k.place c.index-self-k.result None (slice_get_read people.lasts (length people.lasts) c.args.k.place c.index-self-k.result refl within c.index-self-k.is) in
      let judged = c.judge.ensures.by_rule (book_setup limit) acts moment inside.floor (sym c.index-self-k.is ∙ sym read ∙ inside.owns c.args.k is) (may_speak limit people c.args.k acts speaks inside) at in
      (speak_stands c.one_act_more_goes_by_what_is_left.ensures.stays limit people c.args.k c.args.p.now c.judge.result c.judge.new.self c.judge.new.own acts moment within speaks judged inside, judged.verdict_is);
}
