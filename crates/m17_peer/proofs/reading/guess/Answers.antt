-- The first byte tells which kind of peer it is.
use Rattle.std.proofs.Common.{sym, ◌∙◌}
use Rattle.m17_peer.proofs.Spelled.{is_six, is_four}
use Rattle.m17_peer.proofs.reading.guess.Goals as goal

pub returns-then-byte_at-eq91-clause-guessed : goal.returns-then-byte_at-eq91-clause-guessed
returns-then-byte_at-eq91-clause-guessed c = λ p h.
    c.guess_six.ensures.guessed p (is_six p c.args.bytes.now h (sym c.byte_at.ensures ∙ c.if-byte_at-eq91.true)) h

pub returns-else-byte_at-eq91-clause-guessed : goal.returns-else-byte_at-eq91-clause-guessed
returns-else-byte_at-eq91-clause-guessed c = λ p h.
    c.guess_four.ensures.guessed p (is_four p c.args.bytes.now h (λ e. c.if-byte_at-eq91.false (c.byte_at.ensures ∙ e))) h
