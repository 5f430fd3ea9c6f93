-- What callers see of a turn and of its passes, and what the calls of a turn do to a pass.
use Rattle.std.specs.Prelude.{◌≡◌, ℕ, suc, ◌<◌, ◌≤◌, ◌⊎◌, List, [], ◌∷◌, ◌++◌, length, All, Contains, Option, Some, refl}
use Rattle.std.specs.Coded.{Coded, code_by, coded×, coded_ℕ, coded_list, coded_option}
use mathlib.Core.List.{IsPrefix}
use Rattle.atomic_table.specs.Seated.{TableId, table_id_coded}
use Rattle.rd_turn.specs.declared.object.Entry.{Entry}
use Rattle.rd_turn.specs.History.{entry, calls_of}

-- 2 ^ 32: at most so many passes are split from pass 0
abbrev pub max_made : ℕ
max_made = 4294967296

-- which turn it is: its table, which no other turn has, and the value of the object that it was made with
pub record TurnId (O : Type 0) : Type 0 where
  pub table : TableId
  pub opening : O

-- A pass: the table and the opening of its turn, its number, how many passes were split from it, how many of these were not joined, the
-- numbers of those that were, each with the count of its calls, and the beginning of the history that it has seen.
pub record PassState (O C R : Type 0) : Type 0 where
  pub table : TableId
  pub opening : Option O
  pub number : ℕ
  pub made : ℕ
  pub out : ℕ
  pub joined : List (ℕ × ℕ)
  pub seen : List (Entry C R)

abbrev pub turn_coded : {O : Type 0} → Coded O → Coded (TurnId O)
turn_coded {O} o = code_by (TableId × O) (coded× table_id_coded o) (λ p. (p.table, p.opening)) (λ t. record { table = t.0; opening = t.1 }) (λ _. refl)

abbrev pub entry_coded : {C R : Type 0} → Coded C → Coded R → Coded (Entry C R)
entry_coded {C} {R} c r = code_by (ℕ × (C × R)) (coded× coded_ℕ (coded× c r)) (λ e. (e.by, (e.call, e.reply))) (λ t. record { by = t.0; call = t.1.0; reply = t.1.1 }) (λ _. refl)

abbrev pub pass_coded : {O C R : Type 0} → Coded O → Coded C → Coded R → Coded (PassState O C R)
pass_coded {O} {C} {R} o c r = code_by (TableId × (Option O × (ℕ × (ℕ × (ℕ × (List (ℕ × ℕ) × List (Entry C R)))))))
    (coded× table_id_coded (coded× (coded_option o) (coded× coded_ℕ (coded× coded_ℕ (coded× coded_ℕ (coded× (coded_list (coded× coded_ℕ coded_ℕ)) (coded_list (entry_coded c r))))))))
    (λ t. (t.table, (t.opening, (t.number, (t.made, (t.out, (t.joined, t.seen)))))))
    (λ t. record { table = t.0; opening = t.1.0; number = t.1.1.0; made = t.1.1.1.0; out = t.1.1.1.1.0; joined = t.1.1.1.1.1.0; seen = t.1.1.1.1.1.1 }) (λ _. refl)

module _ {C R : Type 0} where
  -- of two lists the one that both are prefixes of
  abbrev pub IsLongerOf : List (Entry C R) → List (Entry C R) → List (Entry C R) → Type 0
  IsLongerOf xs ys longer = ((longer ≡ xs) ⊎ (longer ≡ ys)) × IsPrefix xs longer × IsPrefix ys longer

module _ {O C R : Type 0} where
  -- the pass belongs to this turn
  abbrev pub Belongs : TurnId O → PassState O C R → Type 0
  Belongs turn p = (p.table ≡ turn.table) × (p.opening ≡ Some turn.opening)

  -- the pass that a turn is made with
  abbrev pub first_pass : TurnId O → PassState O C R
  first_pass turn = record { table = turn.table; opening = Some turn.opening; number = 0; made = 0; out = 0; joined = []; seen = [] }

  -- a pass from which one more was split
  abbrev pub after_split : PassState O C R → PassState O C R
  after_split p = record p { made = suc p.made; out = suc p.out }

  -- the pass that was split from it: it has seen as much, and made no call
  abbrev pub new_pass : PassState O C R → PassState O C R
  new_pass p = record { table = p.table; opening = p.opening; number = suc p.made; made = 0; out = 0; joined = []; seen = p.seen }

  -- all but the list stays as it was
  abbrev pub IsSamePass : PassState O C R → PassState O C R → Type 0
  IsSamePass p q = (q.number ≡ p.number) × (q.made ≡ p.made) × (q.out ≡ p.out) × (q.joined ≡ p.joined)

  -- none of these calls is the pass's own; and where it is pass 0, none is of a pass that was joined to it
  abbrev pub AreOthers : PassState O C R → List (Entry C R) → Type 0
  AreOthers p added = (calls_of p.number added ≡ []) × (p.number ≡ 0 → All (λ j. calls_of j.0 added ≡ []) p.joined)

  -- the list goes on with calls of others
  abbrev pub GoesOn : PassState O C R → PassState O C R → Type 0
  GoesOn p q = (added : List (Entry C R)) × (q.seen ≡ p.seen ++ added) × AreOthers p added

  -- the list goes on with calls of others, and ends with the pass's call
  abbrev pub Called : PassState O C R → C → R → PassState O C R → Type 0
  Called p call reply q = (added : List (Entry C R)) × (q.seen ≡ (p.seen ++ added) ++ entry p.number call reply ∷ []) × AreOthers p added

  -- where it is pass 0, each number in its list is at most the count of passes that it made
  abbrev pub IsNumbered : PassState O C R → Type 0
  IsNumbered p = p.number ≡ 0 → All (λ e. e.by ≤ p.made) p.seen

  -- each pass that was split from it was joined to it, and of that pass its list has as many calls as it had made
  abbrev pub HasAllCalls : PassState O C R → Type 0
  HasAllCalls p = (k : ℕ) → 0 < k → k ≤ p.made → Contains p.joined (k, length (calls_of k p.seen))
