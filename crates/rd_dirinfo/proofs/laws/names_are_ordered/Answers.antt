use Rattle.rd_dirinfo.proofs.NamingLemmas.{name_order, path_order, equal_is_same, equal_is_same_path, never_before_itself, one_of_three, before_respects}
use Rattle.rd_dirinfo.proofs.laws.names_are_ordered.Goals as goal

pub returns : goal.returns
returns c = record {
  order = name_order c.args.naming;
  paths = path_order c.args.naming;
  same = equal_is_same c.args.naming;
  same_paths = equal_is_same_path c.args.naming;
  never = never_before_itself c.args.naming;
  one = one_of_three c.args.naming;
  respects = before_respects c.args.naming;
}
