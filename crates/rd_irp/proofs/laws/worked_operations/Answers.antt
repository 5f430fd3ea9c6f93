use Rattle.std.proofs.Common.{refl}
use Rattle.rd_base.specs.Counted.{count_to}
use Rattle.rd_irp.specs.Op.{write_body, query_dir_body, lock_body, range, directory_body, op_body}
use Rattle.rd_irp.proofs.laws.worked_operations.Goals as goal

pub returns-clause-cut_write : goal.returns-clause-cut_write
unfolding op_body write_body
returns-clause-cut_write c = refl

pub returns-clause-odd_path : goal.returns-clause-odd_path
unfolding op_body directory_body query_dir_body
returns-clause-odd_path c = refl

pub returns-clause-many_ranges : goal.returns-clause-many_ranges
unfolding op_body lock_body count_to
returns-clause-many_ranges c = refl

pub returns-clause-few_ranges : goal.returns-clause-few_ranges
unfolding op_body lock_body count_to range
returns-clause-few_ranges c = refl
