use Rattle.m17_floor.proofs.Openings.{openings_clean, in_time, taken_free}
use Rattle.m17_floor.proofs.laws.openings_are_clean.Goals as goal

pub returns-clause-clean : goal.returns-clause-clean
returns-clause-clean c = openings_clean

pub returns-clause-in_time : goal.returns-clause-in_time
returns-clause-in_time c = in_time

pub returns-clause-free : goal.returns-clause-free
returns-clause-free c = taken_free
