use Rattle.std.specs.Io.KnownBytes.{Keeps}
use Rattle.m17_app.proofs.std_in.read_once.Given as goal

-- the reader has given nothing yet
abbrev pub invariant-loop : goal.invariant-loop
invariant-loop g l = Keeps (g.R.Read.remaining l.fn.reader) (g.R.Read.remaining l.reader)
