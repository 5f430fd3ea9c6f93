-- What a yes says of each journal: it is lawful, and its device's own.
use Rattle.std.proofs.Common.{◌≡◌, ℕ, ◌+◌, Bool, true, false, List, [], ◌∷◌, ◌++◌, map, not, Option, None, Some, Ok, Err, refl, sym, ap, ◌∙◌, arith}
use Rattle.std.specs.Prelude.{◌==◌, ◌&&◌, if◌then◌else◌, unwrap_or}
use Rattle.std.proofs.Math.Bool.{beq}
use Rattle.std.proofs.lemmas.Bool.Decides.{nat_tests}
use Rattle.std.specs.List.{AllByRecursion}
use Rattle.std.specs.Option.{option_map_or}
use Rattle.std.specs.Map.{keys_of}
use Rattle.rd_base.specs.declared.journal.Item.{Item}
use Rattle.rd_base.specs.declared.journal.Item.TheVariants.{Came, Ran, Cancelled, Sent, Cut}
use Rattle.rd_base.specs.declared.journal.Key.{Key}
use Rattle.rd_base.specs.Lawful.{IsLawful}
use Rattle.rd_drive.specs.Device.{is_parked}
use Rattle.rd_drive.specs.Replies.{AreToldBy, IsToldBy, run_of}
use Rattle.rd_irp.specs.declared.op.Op.{Op}
use Rattle.rd_irp.specs.declared.op.Op.TheVariants as op
use Rattle.rd_irp.specs.declared.request.Request.{Request}
use Rattle.rd_declared.specs.Devices.{Declared, device_cut, device_step}
use Rattle.rd_declared.specs.Replies.{no_request}
use Rattle.rd_audit_file.specs.declared.line.JournalLine.{JournalLine}
use Rattle.rd_audit_file.specs.declared.line.JournalLine.TheVariants.{Entry}
use Rattle.rd_audit_file.specs.Journals.{journal_ids, journal_lines}
use Rattle.rd_recorded.specs.Channels.{HeardChannel, HeardRequest}
use Rattle.rd_audit.specs.declared.verdict.Verdict.TheVariants as verdict
use Rattle.rd_audited.specs.Meaning.{AreOwnJournals, NamesOwn}
use Rattle.rd_audit.specs.Replayed.{Account, DeviceSoFar, account_after, agrees, closes_file, heard_at, named_by, replayed, request_named, standing_after, standing_new}

-- each entry agrees with the device behind those before it
abbrev pub AgreeAll : List HeardChannel → DeviceSoFar → List Item → Type 0
AgreeAll channels d [] = Unit {0}
AgreeAll channels d (entry ∷ entries) = (agrees channels d entry ≡ true) × AgreeAll channels (standing_after channels d entry) entries

-- where all entries of a journal were gone over, each agreed, and the lines behind them go on
pub record GoesThrough (channels : List HeardChannel) (devices : List (ℕ × Declared)) (d : DeviceSoFar) (entries : List Item) (lines : List JournalLine) (account : Account) : Type 0 where
  pub agreed : AgreeAll channels d entries
  pub last : DeviceSoFar
  pub so_far : Account
  pub rest : replayed channels devices (Some last) so_far lines ≡ Ok account

some_entry : (channels : List HeardChannel) (devices : List (ℕ × Declared)) (d : DeviceSoFar) (r : Account) (entry : Item) (lines : List JournalLine) (account : Account)
    → replayed channels devices (Some d) r (Entry entry ∷ lines) ≡ Ok account
    → (agrees channels d entry ≡ true) × (replayed channels devices (Some (standing_after channels d entry)) (account_after channels d entry r) lines ≡ Ok account)
some_entry channels [] d r entry lines account is = go (agrees channels d entry) refl is
  where
    go : (b : Bool) → agrees channels d entry ≡ b → (if b then replayed channels [] (Some (standing_after channels d entry)) (account_after channels d entry r) lines else Err (verdict.Mark d.device (d.count + 1))) ≡ Ok account
        → (agrees channels d entry ≡ true) × (replayed channels [] (Some (standing_after channels d entry)) (account_after channels d entry r) lines ≡ Ok account)
    go true e is = (e, is)
    go false e is = absurd cc
some_entry channels (f ∷ devices) d r entry lines account is = go (agrees channels d entry) refl is
  where
    go : (b : Bool) → agrees channels d entry ≡ b → (if b then replayed channels (f ∷ devices) (Some (standing_after channels d entry)) (account_after channels d entry r) lines else Err (verdict.Mark d.device (d.count + 1))) ≡ Ok account
        → (agrees channels d entry ≡ true) × (replayed channels (f ∷ devices) (Some (standing_after channels d entry)) (account_after channels d entry r) lines ≡ Ok account)
    go true e is = (e, is)
    go false e is = absurd cc

goes_through : (channels : List HeardChannel) (devices : List (ℕ × Declared)) (d : DeviceSoFar) (r : Account) (entries : List Item) (lines : List JournalLine) (account : Account)
    → replayed channels devices (Some d) r (map (λ entry. Entry entry) entries ++ lines) ≡ Ok account → GoesThrough channels devices d entries lines account
goes_through channels devices d r [] lines account is = record { agreed = tt; last = d; so_far = r; rest = is }
goes_through channels devices d r (entry ∷ entries) lines account is =
    let one = some_entry channels devices d r entry (map (λ entry. Entry entry) entries ++ lines) account is in
    let others = goes_through channels devices (standing_after channels d entry) (account_after channels d entry r) entries lines account one.1 in
    record { agreed = (one.0, others.agreed); last = others.last; so_far = others.so_far; rest = others.rest }

-- ---- an entry that agrees

and_left : (a b : Bool) → a && b ≡ true → a ≡ true
and_left true b is = refl
and_left false b is = absurd cc

and_right : (a b : Bool) → a && b ≡ true → b ≡ true
and_right true b is = is
and_right false b is = absurd cc

-- what came
came_own : (channels : List HeardChannel) (d : DeviceSoFar) (key : Key) → agrees channels d (Came key) ≡ true → NamesOwn channels d.device (Came key)
came_own channels d key is = go (heard_at channels key) refl is
  where
    go : (o : Option HeardRequest) → heard_at channels key ≡ o → option_map_or (λ (a : HeardRequest). a.device == d.device) o false ≡ true → NamesOwn channels d.device (Came key)
    go None e is = absurd cc
    go (Some a) e is =
        let same : (a.device == d.device) ≡ true = is in
        (a, e, grind (arith, nat_tests, same))

-- what ran
ran_named : (channels : List HeardChannel) (d : DeviceSoFar) (key : Key) (moment : ℕ) (starved parked : Bool) → agrees channels d (Ran key moment starved parked) ≡ true → NamesOwn channels d.device (Ran key moment starved parked)
ran_named channels d key moment starved parked is = go (named_by channels key) refl is
  where
    test : Request → Bool
    test r = beq (is_parked (run_of device_step device_cut (request_named channels) d.state key moment starved).answer) parked && not (starved && closes_file r.op)

    go : (o : Option Request) → named_by channels key ≡ o → option_map_or test o false ≡ true → NamesOwn channels d.device (Ran key moment starved parked)
    go None e is = absurd cc
    go (Some r) e is = (r, e)

same_mark : (a b : Bool) → beq a b ≡ true → a ≡ b
same_mark true true is = refl
same_mark true false is = absurd cc
same_mark false true is = absurd cc
same_mark false false is = refl

ran_told : (channels : List HeardChannel) (d : DeviceSoFar) (key : Key) (moment : ℕ) (starved parked : Bool) → agrees channels d (Ran key moment starved parked) ≡ true
    → IsToldBy device_step device_cut (request_named channels) d.state (Ran key moment starved parked)
ran_told channels d key moment starved parked is = go (named_by channels key) refl is
  where
    mark : Bool
    mark = is_parked (run_of device_step device_cut (request_named channels) d.state key moment starved).answer

    closes : (o : Op) → o ≡ op.Close → closes_file o ≡ true
    closes o is = ap closes_file is

    go : (o : Option Request) → named_by channels key ≡ o → option_map_or (λ (r : Request). beq mark parked && not (starved && closes_file r.op)) o false ≡ true
        → IsToldBy device_step device_cut (request_named channels) d.state (Ran key moment starved parked)
    go None e is = absurd cc
    go (Some r) e is =
        let named : request_named channels key ≡ r = ap (λ (x : Option Request). unwrap_or x no_request) e in (
          same_mark mark parked (and_left (beq mark parked) (not (starved && closes_file r.op)) is),
          λ starves close.
              let closed : closes_file r.op ≡ true = closes r.op (ap (λ (q : Request). q.op) (sym named) ∙ close) in
              let none : not (starved && closes_file r.op) ≡ true = and_right (beq mark parked) (not (starved && closes_file r.op)) is in
              let clash : not (true && true) ≡ true = ap (λ (b : Bool). not (true && b)) (sym closed) ∙ ap (λ (b : Bool). not (b && closes_file r.op)) (sym starves) ∙ none in
              cc clash,
        )

entry_own : (channels : List HeardChannel) (d : DeviceSoFar) (entry : Item) → agrees channels d entry ≡ true → NamesOwn channels d.device entry
entry_own channels d (Came key) is = came_own channels d key is
entry_own channels d (Ran key moment starved parked) is = ran_named channels d key moment starved parked is
entry_own channels d (Cancelled key) is = tt
entry_own channels d (Sent key) is = tt
entry_own channels d (Cut cause) is = tt

entry_told : (channels : List HeardChannel) (d : DeviceSoFar) (entry : Item) → agrees channels d entry ≡ true → IsToldBy device_step device_cut (request_named channels) d.state entry
entry_told channels d (Came key) is = tt
entry_told channels d (Ran key moment starved parked) is = ran_told channels d key moment starved parked is
entry_told channels d (Cancelled key) is = tt
entry_told channels d (Sent key) is = tt
entry_told channels d (Cut cause) is = tt

all_own : (channels : List HeardChannel) (d : DeviceSoFar) (entries : List Item) → AgreeAll channels d entries → AllByRecursion (NamesOwn channels d.device) entries
all_own channels d [] agreed = tt
all_own channels d (entry ∷ entries) agreed = (entry_own channels d entry agreed.0, all_own channels (standing_after channels d entry) entries agreed.1)

all_told : (channels : List HeardChannel) (d : DeviceSoFar) (entries : List Item) → AgreeAll channels d entries → AreToldBy device_step device_cut (request_named channels) d.state entries
all_told channels d [] agreed = tt
all_told channels d (entry ∷ entries) agreed = (entry_told channels d entry agreed.0, all_told channels (standing_after channels d entry) entries agreed.1)

-- ---- all journals

pub own_journals : (channels : List HeardChannel) (devices : List (ℕ × Declared)) (standing : Option DeviceSoFar) (r : Account) (journals : List (ℕ × List Item)) (account : Account)
    → journal_ids journals ≡ keys_of devices → AllByRecursion (λ (j : ℕ × List Item). IsLawful j.1) journals → replayed channels devices standing r (journal_lines journals) ≡ Ok account
    → AreOwnJournals channels devices journals
own_journals channels [] standing r [] account same lawful is = tt
own_journals channels [] standing r (j ∷ journals) account same lawful is = absurd cc
own_journals channels (d ∷ devices) standing r [] account same lawful is = absurd cc
own_journals channels (d ∷ devices) standing r (j ∷ journals) account same lawful is =
    let through = goes_through channels devices (standing_new d) r j.1 (journal_lines journals) account is in
    let others : journal_ids journals ≡ keys_of devices = cc in (
      cc,
      record { lawful = lawful.0; named = all_own channels (standing_new d) j.1 through.agreed; marked = all_told channels (standing_new d) j.1 through.agreed },
      own_journals channels devices (Some through.last) through.so_far journals account others lawful.1 through.rest,
    )
