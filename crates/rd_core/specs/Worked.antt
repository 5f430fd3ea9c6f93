-- An end with numbers for states and messages, for worked cases.
use Rattle.std.specs.Prelude.{ℕ}
use Rattle.rd_core.specs.Core.{CoreState, new_core, with_message}

abbrev pub fresh : CoreState ℕ ℕ
fresh = new_core 0

abbrev pub holding_eight : CoreState ℕ ℕ
holding_eight = with_message fresh 8

abbrev pub holding_both : CoreState ℕ ℕ
holding_both = with_message (with_message fresh 7) 8
