-- What a judge that has taken some entries says of one more, and that it has taken this one then too.
use Rattle.std.proofs.Common.{◌≡◌, ◌∙◌, sym, subst, ap, List, [], ◌∷◌, ◌++◌, Bool}
use Rattle.std.specs.Prelude.{None, nat_le}
use Rattle.std.specs.Bool.{Decides}
use Rattle.rd_base.specs.declared.journal.Item.{Item}
use Rattle.rd_base.specs.Lawful.{FewUnsent}
use Rattle.rd_lawful.specs.Rules.{few_unsent, rule_broken, unsent_count}
use Rattle.rd_lawful.specs.Memory.{Remembered, broken_by, nothing_taken, remember}
use Rattle.rd_lawful.specs.Judged.{HasTaken}
use Rattle.rd_lawful.proofs.LawLemmas.{so_far-more, so_far-nil}
use Rattle.rd_lawful.proofs.MemoryLemmas.{broken_same, memory_more, nothing_is}
use Rattle.rd_lawful.proofs.TestLemmas.{few-decides}

pub taken-none : HasTaken nothing_taken []
taken-none = record { lawful = so_far-nil; memory = nothing_is }

module _ (m : Remembered) (items : List Item) (taken : HasTaken m items) where
  pub judged : (entry : Item) → broken_by m entry ≡ rule_broken items entry
  judged entry = sym (broken_same items m taken.memory entry)

  pub taken-more : (entry : Item) → broken_by m entry ≡ None → HasTaken (remember m entry) (items ++ entry ∷ [])
  taken-more entry none = record { lawful = so_far-more items entry taken.lawful (broken_same items m taken.memory entry ∙ none); memory = memory_more items m taken.memory entry none }

  -- the journal may end
  pub ends-decides : (may : Bool) → may ≡ nat_le m.unsent 128 → Decides may (FewUnsent items)
  ends-decides may is =
      let same : few_unsent items ≡ may = ap (λ n. nat_le n 128) (ap (unsent_count items) taken.memory.channel ∙ taken.memory.unsent) ∙ sym is in
      subst (λ b. Decides b (FewUnsent items)) same (few-decides items)
