-- The text of the guess is compared with the text.
use Rattle.std.proofs.Common.{◌≡◌, List, ℕ, ap, sym, subst, ◌∙◌, Some}
use Rattle.std.proofs.lemmas.Bool.{false≢true}
use Rattle.std.specs.Cmp.Lexicographic.{bytes_decides}
use Rattle.m17_values.specs.declared.peer.Peer.{Peer}
use Rattle.m17_peer.specs.Text.{IsTextOf, text_of}
use Rattle.m17_peer.proofs.reading.read.Goals as goal

pub returns-then-eq : goal.returns-then-eq
returns-then-eq c =
    let same : c.as_str.result.now ≡ c.args.words.now = (bytes_decides c.as_str.result.now c.args.words.now).0 (sym c.eq.ensures ∙ c.if-eq.true) in
    let text : c.args.words.now ≡ text_of c.guess-peer.result = sym same ∙ c.as_str.ensures.value ∙ c.text.ensures.text in
    record {
      some = λ p. (
        λ e. (let is : c.guess-peer.result ≡ p = cc in subst (λ (x : Peer). IsTextOf x c.args.words.now) is (record { is_peer = c.guess-peer.ensures.is_peer; text_is = text })),
        λ h. ap Some (c.guess-peer.ensures.guessed p (subst (λ (x : List ℕ). IsTextOf p x) (sym c.as_bytes.ensures.value) h)),
      );
    }

pub returns-else-eq : goal.returns-else-eq
returns-else-eq c = record {
  some = λ p. (
    λ e. absurd (cc),
    λ h.
        let is : c.guess-peer.result ≡ p = c.guess-peer.ensures.guessed p (subst (λ (x : List ℕ). IsTextOf p x) (sym c.as_bytes.ensures.value) h) in
        let same : c.as_str.result.now ≡ c.args.words.now = c.as_str.ensures.value ∙ c.text.ensures.text ∙ ap text_of is ∙ sym h.text_is in
        absurd (false≢true (sym c.if-eq.false ∙ c.eq.ensures ∙ (bytes_decides c.as_str.result.now c.args.words.now).1 same)),
  );
}
