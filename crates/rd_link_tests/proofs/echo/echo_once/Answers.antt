use Rattle.std.proofs.Common.{◌≡◌, ◌∙◌, ℕ, List, ◌++◌, ◌∷◌, [], Option, Some, subst}
use Rattle.std.specs.Io.KnownBytes.{Consumes, Appends}
use Rattle.rd_base.proofs.ResultLemmas.{on_ok_of, of_on_ok}
use Rattle.rd_link.specs.Links.{SettledChannel, Links, Lends, TakesBack}
use Rattle.rd_link.proofs.LinkLemmas.{lent_and_settled}
use Rattle.rd_link_tests.proofs.echo.echo_once.Goals as goal

-- the same bytes were read and written, and no call failed
passed_and_settled : (old middle new : Option Links) (left held left' held' kept : Option (List ℕ)) (reads writes reads' writes' kept_writes : ℕ)
    → Lends old middle left held → (reads ≡ 0) × (writes ≡ 0) → (reads' ≡ reads) × (writes' ≡ writes)
    → (bytes : List ℕ) × Consumes left left' bytes × Appends held held' bytes → kept ≡ held' → kept_writes ≡ writes' → TakesBack middle new left' kept reads' kept_writes
    → (settled : List SettledChannel) → old ≡ Some (record { settled = settled; lent = [] })
    → (bytes : List ℕ) × (new ≡ Some (record { settled = settled ++ record { read = bytes; written = bytes; faults = 0; write_faults = 0 } ∷ []; lent = [] }))
passed_and_settled old middle new left held left' held' kept reads writes reads' writes' kept_writes lends none faultless passed keeps keeps_count settles settled told = (
  passed.0,
  lent_and_settled settled old middle new left held left' held' 0 0 passed.0 passed.0 told lends passed.1 passed.2
      (subst (λ (o : Option (List ℕ)). TakesBack middle new left' o 0 0) keeps
      (subst (λ (n : ℕ). TakesBack middle new left' kept n 0) (faultless.0 ∙ none.0)
      (subst (λ (n : ℕ). TakesBack middle new left' kept reads' n) (keeps_count ∙ faultless.1 ∙ none.1) settles))),
)

-- What one read gave was written, and both are told of the channel.
pub returns-clause-echoed : goal.returns-clause-echoed
returns-clause-echoed g c =
    let lends = c.in_ok-input.ensures.lends in
    let none = c.in_ok-input.ensures.faultless in
    let keeps = c.hang_up.ensures in
    let settles = c.settle.ensures.settles in
    on_ok_of {P = (settled : List SettledChannel) → g.L.Linker.linked c.args.linker.now ≡ Some (record { settled = settled; lent = [] })
    → (bytes : List ℕ) × (g.L.Linker.linked c.settle.new.self ≡ Some (record { settled = settled ++ record { read = bytes; written = bytes; faults = 0; write_faults = 0 } ∷ []; lent = [] }))}
    c.pass_on-passed.result (λ is. passed_and_settled _ _ _ _ _ _ _ _ _ _ _ _ _ lends none (of_on_ok _ is c.pass_on-passed.ensures.faultless)
    (of_on_ok _ is c.pass_on-passed.ensures.passed) keeps.held keeps.faults settles)
