-- What a mouth has said of one list of datagrams and then of another.
use Rattle.std.proofs.Common.{◌≡◌, ◌≤◌, Bool, true, false, not, cond, ◌+◌, List, [], ◌∷◌, ◌++◌, length, count_by, refl, sym, ap, subst, ◌∙◌, arith, Option}
use Rattle.std.specs.List.{items_where_true}
use Rattle.std.proofs.lemmas.List.{length-append}
use Rattle.std.proofs.lemmas.List.Sums.{sum_by-append}
use Rattle.std.specs.Option.{option_map}
use Rattle.m17_values.specs.declared.peer.Peer.{Peer}
use Rattle.m17_io.specs.Faults.{HasRisen}
use Rattle.m17_ports.specs.Told.{told_then}
use Rattle.m17_ports.specs.Tallies.{IsTallied, tally_then}
use Rattle.m17_ports.specs.declared.tally.Tally.{Tally}
use Rattle.m17_ports.specs.Mouth.{AreTallied, Datagram, MouthTold, SaidOf}
use Rattle.m17_ports.proofs.Telling.{told-in-turn, nothing-more}

-- the tallies, when nothing more is said, and when two lists are
tallied_from : (a b c : Peer → Option Tally) (ds : List Datagram)
    → ((peer : Peer) → b peer ≡ a peer) → AreTallied b ds c → AreTallied a ds c
tallied_from a b c [] same h = λ peer. h peer ∙ same peer
tallied_from a b c (d ∷ ds) same h = (
  h.0,
  record {
    its_peer = h.1.its_peer ∙ ap (λ t. option_map (λ u. tally_then u d.1) t) (same d.0);
    others = λ peer ne. h.1.others peer ne ∙ same peer;
  },
  h.2,
)

tallied_both : (a b c : Peer → Option Tally) (first second : List Datagram)
    → AreTallied a first b → AreTallied b second c → AreTallied a (first ++ second) c
tallied_both a b c [] second h k = tallied_from a b c second h k
tallied_both a b c (d ∷ ds) second h k = (h.0, h.1, tallied_both h.0 b c ds second h.2 k)

-- which of two lists went
went_both : (went more : List Bool) (first second : List Datagram) → length went ≡ length first
    → items_where_true (went ++ more) (first ++ second)
    ≡ items_where_true went first ++ items_where_true more second
went_both [] more [] second e = refl
went_both [] more (x ∷ xs) second e = absurd (omega arith)
went_both (b ∷ bs) more [] second e = absurd (omega arith)
went_both (true ∷ bs) more (x ∷ xs) second e =
    ap (λ (l : List Datagram). x ∷ l) (went_both bs more xs second (omega arith))
went_both (false ∷ bs) more (x ∷ xs) second e = went_both bs more xs second (omega arith)

lost_both : (went more : List Bool) → count_by not (went ++ more) ≡ count_by not went + count_by not more
lost_both went more = sum_by-append (λ b. cond (not b) 1 0) went more

pub say-nothing : {L : Type 0} (mouth : MouthTold L) → SaidOf mouth [] mouth
say-nothing mouth = record {
  went = [];
  each = refl;
  told = sym (nothing-more mouth.said);
  tallied = λ peer. refl;
  counted = omega arith;
  lost = omega arith;
  none_lost = λ e. refl;
  same_device = refl;
}

pub one-went : {L : Type 0} (before after : MouthTold L) (d : Datagram)
    → after.said ≡ told_then before.said (d ∷ []) → IsTallied before.tallies d.0 d.1 after.tallies
    → after.faults ≡ before.faults → after.device ≡ before.device → SaidOf before (d ∷ []) after
one-went before after d told tallied stands same = record {
  went = true ∷ [];
  each = refl;
  told = told;
  tallied = (after.tallies, tallied, λ peer. refl);
  counted = omega arith;
  lost = omega arith;
  none_lost = λ e. stands;
  same_device = same;
}

pub one-lost : {L : Type 0} (before after : MouthTold L) (d : Datagram)
    → after.said ≡ before.said → after.tallies ≡ before.tallies → before.faults ≤ after.faults
    → HasRisen before.faults after.faults → after.device ≡ before.device → SaidOf before (d ∷ []) after
one-lost before after d told tallied counted risen same = record {
  went = false ∷ [];
  each = refl;
  told = told ∙ sym (nothing-more before.said);
  tallied = λ peer. ap (λ (f : Peer → Option Tally). f peer) tallied;
  counted = counted;
  lost = risen;
  none_lost = λ e. absurd (omega arith);
  same_device = same;
}

pub say-in-turn : {L : Type 0} (a b c : MouthTold L) (first second : List Datagram)
    → SaidOf a first b → SaidOf b second c → SaidOf a (first ++ second) c
say-in-turn a b c first second h k =
    let which = went_both h.went k.went first second h.each in
    let many = lost_both h.went k.went in record {
      went = h.went ++ k.went;
      each = omega (arith, h.each, k.each, length-append h.went k.went, length-append first second);
      told = k.told ∙ ap (λ (t : Option (List Datagram)). told_then t (items_where_true k.went second)) h.told
          ∙ told-in-turn a.said (items_where_true h.went first) (items_where_true k.went second)
          ∙ ap (told_then a.said) (sym which);
      tallied = subst (λ (l : List Datagram). AreTallied a.tallies l c.tallies) (sym which)
          (tallied_both a.tallies b.tallies c.tallies (items_where_true h.went first)
          (items_where_true k.went second) h.tallied k.tallied);
      counted = omega (arith, h.counted, k.counted);
      lost = omega (arith, many, h.lost, k.lost, h.counted, k.counted);
      none_lost = λ e. k.none_lost (omega (arith, e, many)) ∙ h.none_lost (omega (arith, e, many));
      same_device = k.same_device ∙ h.same_device;
    }
