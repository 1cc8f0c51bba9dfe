use Rattle.m17_worker.proofs.KeptRecords.{records_keep, books_legal}
use Rattle.m17_worker.proofs.laws.books_are_legal.Goals as goal

pub returns-clause-acts : goal.returns-clause-acts
returns-clause-acts c = records_keep

pub returns-clause-legal : goal.returns-clause-legal
returns-clause-legal c = books_legal c.records_are_legal.ensures
