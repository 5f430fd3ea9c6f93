use Rattle.std.proofs.Common.{◌≡◌, ◌≤◌, ◌+◌, ◌-◌, ◌++◌, vec_len, vec_capacity}
use Rattle.rd_contents.specs.Pages.{bytes_from}
use Rattle.rd_contents.proofs.pages.append.Given as goal

abbrev pub invariant-loop-done : goal.invariant-loop-done
invariant-loop-done l = record { within : l.done ≤ l.count; len : vec_len l.out ≡ vec_len l.initial.out + l.done; room : vec_len l.initial.out + l.count ≤ vec_capacity l.out; bytes : l.out.items ≡ l.initial.out.items ++ bytes_from l.pages.entries l.offset l.done }

abbrev pub decreases-loop-done : goal.decreases-loop-done
decreases-loop-done l = l.count - l.done
