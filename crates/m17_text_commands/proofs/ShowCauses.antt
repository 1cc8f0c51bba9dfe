-- Counts of faults over several calls.
use Rattle.std.proofs.Common.{◌≡◌, ℕ, Option, None, refl, ◌∙◌, arith}
use Rattle.m17_io.specs.declared.fault.Fault.{Fault}
use Rattle.m17_io.specs.Faults.{HasCauses}

-- calls without a fault, and then a call
pub after_none : (a b c : ℕ × ℕ) (fault : Option Fault) → HasCauses a b None → HasCauses b c fault → HasCauses a c fault
after_none a b c fault first then =
    let reads : b.0 ≡ a.0 = first.no_read_fault (λ e. cc) in
    let writes : b.1 ≡ a.1 = first.no_write_fault (λ e. cc) in
    record {
      reads_counted = omega (arith, then.reads_counted);
      writes_counted = omega (arith, then.writes_counted);
      read_failed = λ is. rw reads at (then.read_failed is);
      write_failed = λ is. rw writes at (then.write_failed is);
      no_read_fault = λ is. then.no_read_fault is ∙ reads;
      no_write_fault = λ is. then.no_write_fault is ∙ writes;
    }

-- no call
pub none_called : (a : ℕ × ℕ) → HasCauses a a None
none_called a = record {
  reads_counted = omega arith;
  writes_counted = omega arith;
  read_failed = λ is. cc;
  write_failed = λ is. cc;
  no_read_fault = λ _. refl;
  no_write_fault = λ _. refl;
}
