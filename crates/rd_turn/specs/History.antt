-- The histories of an object: lists of its calls, each with its reply and the number of the pass that made it.
use Rattle.std.specs.Prelude.{◌≡◌, ℕ, ◌==◌, List, [], ◌∷◌, filter}
use Rattle.rd_turn.specs.declared.object.Entry.{Entry}

module _ {O C R : Type 0} (steps : O → C → R → O → Type 0) where
  -- the calls, one after the other, lead the object from one value to another, and each reply is one that it gives there
  abbrev pub Leads : O → List (Entry C R) → O → Type 0
  Leads here [] there = here ≡ there
  Leads here (e ∷ es) there = (next : O) × steps here e.call e.reply next × Leads next es there

  -- a legal history of the object from its opening value on
  abbrev pub IsLegal : O → List (Entry C R) → Type 0
  IsLegal opening entries = (last : O) × Leads opening entries last

module _ {C R : Type 0} where
  -- the call that the pass of this number made, with its reply
  abbrev pub entry : ℕ → C → R → Entry C R
  entry by call reply = record { by = by; call = call; reply = reply }

  -- the calls of the pass of this number, in their order
  abbrev pub calls_of : ℕ → List (Entry C R) → List (Entry C R)
  calls_of number entries = filter (λ e. e.by == number) entries
