-- How `serve` ends, among all the ways that a run may. It refuses no input.
use Rattle.m17_print.specs.declared.ending.Ending.{Ending}
use Rattle.m17_print.specs.declared.ending.Ending.TheVariants as endings
use Rattle.m17_print.specs.declared.ending.NoReason.{NoReason}
use Rattle.m17_serve.specs.declared.served.ServeEnding.{ServeEnding}
use Rattle.m17_serve.specs.declared.served.ServeEnding.TheVariants.{Finished, LinkLost, BookFailed, WriteFailed, PortFailed, CrewRefused, NoMemory}

abbrev pub serve_ending : ServeEnding → Ending NoReason
serve_ending Finished = endings.Finished
serve_ending LinkLost = endings.LinkLost
serve_ending BookFailed = endings.BookFailed
serve_ending WriteFailed = endings.WriteFailed
serve_ending PortFailed = endings.PortFailed
serve_ending CrewRefused = endings.CrewRefused
serve_ending NoMemory = endings.NoMemory
