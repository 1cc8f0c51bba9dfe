-- What the errors of a socket mean to an ear and a mouth.
use Rattle.std.specs.declared.io.ErrorKind.{ErrorKind}
use Rattle.std.specs.declared.io.ErrorKind.TheVariants.{WouldBlock, TimedOut, Interrupted, ConnectionRefused, ConnectionReset, HostUnreachable, NetworkUnreachable, NetworkDown}
use Rattle.m17_net.specs.declared.trouble.Trouble.{Trouble}
use Rattle.m17_net.specs.declared.trouble.Trouble.TheVariants.{Waited, Passing, Unreachable, Broken}

-- what an error of this kind means
abbrev pub meaning_of : ErrorKind → Trouble
meaning_of WouldBlock = Waited
meaning_of TimedOut = Waited
meaning_of Interrupted = Passing
meaning_of ConnectionRefused = Passing
meaning_of ConnectionReset = Passing
meaning_of HostUnreachable = Unreachable
meaning_of NetworkUnreachable = Unreachable
meaning_of NetworkDown = Unreachable
meaning_of _ = Broken
