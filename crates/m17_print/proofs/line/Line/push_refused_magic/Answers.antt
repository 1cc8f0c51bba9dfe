use Rattle.std.proofs.Common.{append_assoc, refl}
use Rattle.m17_print.proofs.line.Line.push_refused_magic.Goals as goal

pub returns-clause-appended : goal.returns-clause-appended
returns-clause-appended c = rw (c.push_hex.ensures.appended, c.push_text.ensures.appended, append_assoc) refl
