-- The devices that have a life in a host's table are those that its replies say have one.
use Rattle.std.proofs.Common.{◌≡◌, ◌∙◌, refl, sym, ap, subst, inl, inr, ℕ, suc, ◌+◌, ◌==◌, ◌&&◌, ◌||◌, arith, Bool, true, false, not, cond, List, [], ◌∷◌, ◌++◌, length, Some, None, Option, Result, Ok, Err, eqb-true, ne_eqb, eq-eqb, is_some, is_ok, length-append}
use Rattle.std.specs.Prelude.{filter, nat_le}
use Rattle.std.specs.List.{list_any}
use Rattle.std.specs.List.Sorted.{IsStrictlySortedBy}
use Rattle.std.specs.Map.{keys_of, lookup, remove_entry}
use Rattle.std.specs.Ordering.{match_ordering, nat_cmp}
use Rattle.std.specs.BTreeMap.{insert_entry, is_at}
use Rattle.std.specs.declared.cmp.Ordering.{Ordering}
use Rattle.std.specs.declared.cmp.Ordering.TheVariants.{Equal, Greater, Less}
use Rattle.std.proofs.lemmas.Bool.{cases_eq}
use Rattle.rd_base.specs.declared.status.Status.{Status}
use Rattle.rd_base.specs.Limits.{max_devices}
use Rattle.rd_base.specs.Statuses as status
use Rattle.rd_devices.specs.declared.list.Announce.{Announce}
use Rattle.rd_host.specs.Core as host
use Rattle.rd_host.specs.Order.{Replying, with_device_reply, with_reply, without_device}
use Rattle.rd_host.specs.Served.{code_for, is_served_type}
use Rattle.rd_irp.specs.declared.completion.Head.{Head}
use Rattle.rd_pending.proofs.Effects as effects
use Rattle.rd_pending.proofs.MapLemmas.{beside, gone, inserted, kept, rises_with, rises_without}
use Rattle.rd_pending.specs.declared.calls.CompleteNo.{CompleteNo}
use Rattle.rd_pending.specs.declared.calls.Completed.{Completed}
use Rattle.rd_pending.specs.declared.calls.LiveNo.{LiveNo}
use Rattle.rd_pending.specs.declared.calls.LiveNo.TheVariants as live_no
use Rattle.rd_pending.specs.declared.calls.Outcome.TheVariants.{Done}
use Rattle.rd_pending.specs.Table as table
use Rattle.rd_pending.specs.Table.{Fate, TableState, Untaken, freed, known, life_of, live_refusal, max_lives, untaken_at, with_fate}
use Rattle.rd_deeds.specs.Host.{HostSide, admits, live_code}

-- ---- lists of ids

abbrev pub has : ℕ → List ℕ → Bool
has d xs = list_any (λ id. id == d) xs

abbrev pub Apart : List ℕ → Type 0
Apart [] = Unit {0}
Apart (x ∷ xs) = (has x xs ≡ false) × Apart xs

or_none : (a : Bool) → (a || false) ≡ a
or_none true = refl
or_none false = refl

or_assoc : (a b c : Bool) → (a || (b || c)) ≡ ((a || b) || c)
or_assoc true b c = refl
or_assoc false b c = refl

has_more : (d y : ℕ) (xs : List ℕ) → has d (xs ++ y ∷ []) ≡ (has d xs || (y == d))
has_more d y [] = or_none (y == d)
has_more d y (x ∷ xs) = ap (λ (b : Bool). (x == d) || b) (has_more d y xs) ∙ or_assoc (x == d) (has d xs) (y == d)

none_first : (a b : Bool) → (a || b) ≡ false → (a ≡ false) × (b ≡ false)
none_first true b e = absurd (cc e)
none_first false b e = (refl, e)

turned : (a b : ℕ) → (a == b) ≡ false → (b == a) ≡ false
turned a b e = ne_eqb b a (λ same. absurd (cc (e, eq-eqb a b (sym same))))

apart_more : (y : ℕ) (xs : List ℕ) → Apart xs → has y xs ≡ false → Apart (xs ++ y ∷ [])
apart_more y [] apart none = (refl, tt)
apart_more y (x ∷ xs) apart none =
    let (other, others) = none_first (x == y) (has y xs) none in
    (has_more x y xs ∙ ap (λ (b : Bool). b || (y == x)) apart.0 ∙ turned x y other, apart_more y xs apart.1 others)

abbrev without : ℕ → List ℕ → List ℕ
without d xs = filter (λ id. not (id == d)) xs

has_without : (e d : ℕ) (xs : List ℕ) → has e (without d xs) ≡ (has e xs && not (e == d))
has_without e d [] = refl
has_without e d (x ∷ xs) = by (x == d) refl (x == e) refl (has_without e d xs)
  where
    by : (a : Bool) → (x == d) ≡ a → (b : Bool) → (x == e) ≡ b → has e (without d xs) ≡ (has e xs && not (e == d))
        → has e (cond (not a) (x ∷ without d xs) (without d xs)) ≡ ((b || has e xs) && not (e == d))
    by true f true g later =
        let same : (e == d) ≡ true = eq-eqb e d (sym (eqb-true x e g) ∙ eqb-true x d f) in
        later ∙ rw same (and_none (has e xs))
      where
        and_none : (a : Bool) → (a && false) ≡ false
        and_none true = refl
        and_none false = refl
    by true f false g later = later
    by false f true g later =
        let other : (e == d) ≡ false = ne_eqb e d (λ same. absurd (cc (f, g, same))) in rw (g, other) refl
    by false f false g later = rw g later

apart_without : (d : ℕ) (xs : List ℕ) → Apart xs → Apart (without d xs)
apart_without d [] apart = tt
apart_without d (x ∷ xs) apart = by (x == d) (apart_without d xs apart.1)
  where
    by : (a : Bool) → Apart (without d xs) → Apart (cond (not a) (x ∷ without d xs) (without d xs))
    by true later = later
    by false later = (has_without x d xs ∙ ap (λ (b : Bool). b && not (x == d)) apart.0, later)

without_same : (d : ℕ) (xs : List ℕ) → has d xs ≡ false → without d xs ≡ xs
without_same d [] none = refl
without_same d (x ∷ xs) none =
    let (other, others) = none_first (x == d) (has d xs) none in
    rw other (ap (λ (ys : List ℕ). x ∷ ys) (without_same d xs others))

without_one : (d : ℕ) (xs : List ℕ) → Apart xs → has d xs ≡ true → suc (length (without d xs)) ≡ length xs
without_one d [] apart some = absurd (cc some)
without_one d (x ∷ xs) apart some = by (x == d) refl some (without_one d xs apart.1)
  where
    by : (a : Bool) → (x == d) ≡ a → (a || has d xs) ≡ true → (has d xs ≡ true → suc (length (without d xs)) ≡ length xs) → suc (length (cond (not a) (x ∷ without d xs) (without d xs))) ≡ suc (length xs)
    by true e some later = ap (λ (ys : List ℕ). suc (length ys)) (without_same d xs (subst (λ (k : ℕ). has k xs ≡ false) (eqb-true x d e) apart.0))
    by false e some later = ap suc (later some)

-- ---- maps

one_longer : (k x : ℕ) (es : List (ℕ × ℕ)) → lookup (is_at (nat_cmp k)) es ≡ None → length (insert_entry nat_cmp es k x) ≡ suc (length es)
one_longer k x [] none = refl
one_longer k x (e ∷ es) none = by (nat_cmp k e.0) refl none (one_longer k x es)
  where
    by : (r : Ordering) → nat_cmp k e.0 ≡ r → cond (is_at (nat_cmp k) e.0) (Some e.1) (lookup (is_at (nat_cmp k)) es) ≡ None
        → (lookup (is_at (nat_cmp k)) es ≡ None → length (insert_entry nat_cmp es k x) ≡ suc (length es))
        → length (match_ordering r ((k, x) ∷ e ∷ es) ((e.0, x) ∷ es) (e ∷ insert_entry nat_cmp es k x)) ≡ suc (suc (length es))
    by Less is none later = refl
    by Equal is none later = let some : Some e.1 ≡ None = (let there = rw is at none in there) in absurd (cc some)
    by Greater is none later = ap suc (later (let there = rw is at none in there))

one_shorter : (k x : ℕ) (es : List (ℕ × ℕ)) → lookup (is_at (nat_cmp k)) es ≡ Some x → suc (length (remove_entry (is_at (nat_cmp k)) es)) ≡ length es
one_shorter k x [] some = absurd (cc some)
one_shorter k x (e ∷ es) some = by (is_at (nat_cmp k) e.0) some (one_shorter k x es)
  where
    by : (b : Bool) → cond b (Some e.1) (lookup (is_at (nat_cmp k)) es) ≡ Some x → (lookup (is_at (nat_cmp k)) es ≡ Some x → suc (length (remove_entry (is_at (nat_cmp k)) es)) ≡ length es)
        → suc (length (cond b es (e ∷ remove_entry (is_at (nat_cmp k)) es))) ≡ suc (length es)
    by true some later = refl
    by false some later = ap suc (later some)

-- ---- the lives of a table

-- No reply is due; the devices with a life, and how many were given, are those of the table.
pub record AreLives (r : Replying) (t : TableState) : Type 0 where
  pub none_due : r.due ≡ []
  pub alive : (d : ℕ) → has d r.alive ≡ is_some (life_of t d)
  pub long : length r.alive ≡ length t.lives
  pub apart : Apart r.alive
  pub given : r.given ≡ t.given
  pub rises : IsStrictlySortedBy nat_cmp (keys_of t.lives)

pub same_lives : (r : Replying) (t x : TableState) → x.lives ≡ t.lives → x.given ≡ t.given → AreLives r t → AreLives r x
same_lives r t x lives given l = record {
  none_due = l.none_due;
  alive = λ d. l.alive d ∙ ap (λ (es : List (ℕ × ℕ)). is_some (lookup (is_at (nat_cmp d)) es)) (sym lives);
  long = l.long ∙ ap (λ (es : List (ℕ × ℕ)). length es) (sym lives);
  apart = l.apart;
  given = l.given ∙ sym given;
  rises = subst (λ (es : List (ℕ × ℕ)). IsStrictlySortedBy nat_cmp (keys_of es)) (sym lives) l.rises;
}

-- a device is removed
pub removed_lives : (r : Replying) (t : TableState) (d : ℕ) → AreLives r t → AreLives (without_device r d) (table.remove t d).0
removed_lives r t d l = elim (effects.removes t d) [
  | inl none ↦
      let off : has d r.alive ≡ false = l.alive d ∙ ap is_some none.absent in
      let same : without_device r d ≡ r = ap (λ (ids : List ℕ). record r { alive = ids }) (without_same d r.alive off) in
      subst (λ (q : Replying). AreLives q (table.remove t d).0) (sym same) (subst (AreLives r) (sym none.same) l)
  | inr effect ↦
      let on : has d r.alive ≡ true = l.alive d ∙ ap is_some effect.present in
      let lives : ((table.remove t d).0).lives ≡ remove_entry (is_at (nat_cmp d)) t.lives = ap (λ (x : TableState). x.lives) effect.new in
      let less : length r.alive ≡ suc (length (remove_entry (is_at (nat_cmp d)) t.lives)) = l.long ∙ sym (one_shorter d effect.life t.lives effect.present) in
      record {
        none_due = l.none_due;
        alive = λ e. has_without e d r.alive ∙ elim (cases_eq e d) [
          | inl same ↦
              let none : lookup (is_at (nat_cmp e)) ((table.remove t d).0).lives ≡ None =
              ap (λ (es : List (ℕ × ℕ)). lookup (is_at (nat_cmp e)) es) lives ∙ ap (λ (k : ℕ). lookup (is_at (nat_cmp k)) (remove_entry (is_at (nat_cmp d)) t.lives)) same ∙ gone d t.lives l.rises in
              ap (λ (b : Bool). has e r.alive && not b) (eq-eqb e d same) ∙ none_and (has e r.alive) ∙ ap is_some (sym none)
          | inr other ↦
              let there : lookup (is_at (nat_cmp e)) ((table.remove t d).0).lives ≡ life_of t e = ap (λ (es : List (ℕ × ℕ)). lookup (is_at (nat_cmp e)) es) lives ∙ kept d e other t.lives in
              ap (λ (b : Bool). has e r.alive && not b) (ne_eqb e d other) ∙ and_all (has e r.alive) ∙ l.alive e ∙ ap is_some (sym there)
        ];
        long = (let shorter : suc (length (without d r.alive)) ≡ length r.alive = without_one d r.alive l.apart on in omega (arith, shorter, less)) ∙ ap (λ (es : List (ℕ × ℕ)). length es) (sym lives);
        apart = apart_without d r.alive l.apart;
        given = l.given ∙ ap (λ (x : TableState). x.given) (sym effect.new);
        rises = subst (λ (es : List (ℕ × ℕ)). IsStrictlySortedBy nat_cmp (keys_of es)) (sym lives) (rises_without (is_at (nat_cmp d)) t.lives l.rises);
      }
]
  where
    none_and : (a : Bool) → (a && false) ≡ false
    none_and true = refl
    none_and false = refl

    and_all : (a : Bool) → (a && true) ≡ a
    and_all true = refl
    and_all false = refl

-- ---- a device is announced

-- What it is replied to with, and what is due then where nothing was: this, and what the host made of it.
pub record Admits (r : Replying) (s : HostSide) (a : Announce) : Type 0 where
  pub code : Status
  pub next : Replying
  pub replied : with_device_reply r a ≡ record next { due = record { id = a.id; code = code } ∷ [] }
  pub table_after : TableState
  pub made : admits s a ≡ record { core = host.reply s.core a.id code; table = table_after }
  pub lives : AreLives next table_after
  pub open_after : table_after.channel ≡ (s.table).channel

-- a reply that says no
refused_reply : (r : Replying) (t : TableState) (d : ℕ) (code : Status) → (code.0 == (status.success).0) ≡ false → r.due ≡ [] → with_reply r d code ≡ record r { due = record { id = d; code = code } ∷ [] }
refused_reply r t d code other none = rw (other, none) refl

begun_reply : (r : Replying) (d : ℕ) → r.due ≡ [] → with_reply r d status.success ≡ record { due = record { id = d; code = status.success } ∷ []; alive = r.alive ++ d ∷ []; given = r.given + 1 }
begun_reply r d none = rw none refl

pub admitted : (r : Replying) (s : HostSide) (a : Announce) (c : ℕ) → (s.table).channel ≡ Some c → AreLives r s.table → Admits r s a
admitted r s a c opened l = by (is_served_type a.kind) refl
  where
    t : TableState
    t = s.table

    -- it stays as it is
    refuses : (code : Status) → (code.0 == (status.success).0) ≡ false → code_for r.alive r.given a.kind a.id ≡ code → admits s a ≡ record { core = host.reply s.core a.id code; table = s.table } → Admits r s a
    refuses code other is made = record {
      code = code;
      next = r;
      replied = ap (with_reply r a.id) is ∙ refused_reply r s.table a.id code other l.none_due;
      table_after = s.table;
      made = made;
      lives = l;
      open_after = refl;
    }

    begins : is_served_type a.kind ≡ true → code_for r.alive r.given a.kind a.id ≡ status.success → live_refusal s.table a.id ≡ None → Admits r s a
    begins served is free =
        let effect = effects.lives s.table a.id free in
        let x : TableState = record s.table { lives = insert_entry nat_cmp (s.table).lives a.id ((s.table).given + 1); given = (s.table).given + 1; begun = (s.table).begun + 1 } in
        let off : has a.id r.alive ≡ false = l.alive a.id ∙ ap is_some effect.absent in
        let ok : (table.live s.table a.id).1 ≡ Ok ((s.table).given + 1) = rw free refl in
        record {
          code = status.success;
          next = record { due = []; alive = r.alive ++ a.id ∷ []; given = r.given + 1 };
          replied = ap (with_reply r a.id) is ∙ begun_reply r a.id l.none_due;
          table_after = x;
          made = (let all : admits s a ≡ record { table = (table.live s.table a.id).0; core = host.reply s.core a.id (live_code (table.live s.table a.id).1) } = rw served refl in all)
              ∙ ap (λ (y : TableState). record { table = y; core = host.reply s.core a.id (live_code (table.live s.table a.id).1) }) effect.new
              ∙ ap (λ (y : Result ℕ LiveNo). record { table = x; core = host.reply s.core a.id (live_code y) }) ok;
          lives = record {
            none_due = refl;
            alive = λ e. has_more e a.id r.alive ∙ elim (cases_eq e a.id) [
              | inl same ↦
                  let there : lookup (is_at (nat_cmp e)) x.lives ≡ Some ((s.table).given + 1) = rw same (inserted a.id ((s.table).given + 1) (s.table).lives) in
                  ap (λ (b : Bool). has e r.alive || b) (eq-eqb a.id e (sym same)) ∙ any_or (has e r.alive) ∙ ap is_some (sym there)
              | inr other ↦
                  let there : lookup (is_at (nat_cmp e)) x.lives ≡ life_of s.table e = beside a.id ((s.table).given + 1) e other (s.table).lives in
                  ap (λ (b : Bool). has e r.alive || b) (ne_eqb a.id e (λ same. absurd (other (sym same)))) ∙ or_none (has e r.alive) ∙ l.alive e ∙ ap is_some (sym there)
            ];
            long = (let more : length (insert_entry nat_cmp (s.table).lives a.id ((s.table).given + 1)) ≡ suc (length (s.table).lives) = one_longer a.id ((s.table).given + 1) (s.table).lives effect.absent in
                omega (arith, length-append r.alive (a.id ∷ []), more, l.long));
            apart = apart_more a.id r.alive l.apart off;
            given = ap (λ (n : ℕ). n + 1) l.given;
            rises = rises_with a.id ((s.table).given + 1) (s.table).lives l.rises;
          };
          open_after = refl;
        }
      where
        any_or : (a : Bool) → (a || true) ≡ true
        any_or true = refl
        any_or false = refl

    -- what a refusal comes to
    made_by : is_served_type a.kind ≡ true → (cause : LiveNo) → live_refusal s.table a.id ≡ Some cause → admits s a ≡ record { core = host.reply s.core a.id (live_code (Err cause)); table = s.table }
    made_by served cause is = rw (served, is) refl

    served_by : is_served_type a.kind ≡ true → (x : Bool) → is_some (life_of s.table a.id) ≡ x → (y : Bool) → nat_le max_devices (length (s.table).lives) ≡ y → (z : Bool) → nat_le max_lives (s.table).given ≡ z → Admits r s a
    served_by served true e y f z g =
        let is : live_refusal s.table a.id ≡ Some live_no.Already = rw (opened, e) refl in
        let code : code_for r.alive r.given a.kind a.id ≡ status.object_name_collision = rw (served, l.alive a.id, e) refl in
        refuses status.object_name_collision refl code (made_by served live_no.Already is)
    served_by served false e true f z g =
        let is : live_refusal s.table a.id ≡ Some live_no.Full = rw (opened, e, f) refl in
        let code : code_for r.alive r.given a.kind a.id ≡ status.insufficient_resources = rw (served, l.alive a.id, e, l.long, f) refl in
        refuses status.insufficient_resources refl code (made_by served live_no.Full is)
    served_by served false e false f true g =
        let is : live_refusal s.table a.id ≡ Some (live_no.Worn (s.table).given) = rw (opened, e, f, g) refl in
        let code : code_for r.alive r.given a.kind a.id ≡ status.insufficient_resources = rw (served, l.alive a.id, e, l.long, f, l.given, g) refl in
        refuses status.insufficient_resources refl code (made_by served (live_no.Worn (s.table).given) is)
    served_by served false e false f false g =
        let is : live_refusal s.table a.id ≡ None = rw (opened, e, f, g) refl in
        let code : code_for r.alive r.given a.kind a.id ≡ status.success = rw (served, l.alive a.id, e, l.long, f, l.given, g) refl in
        begins served code is

    by : (b : Bool) → is_served_type a.kind ≡ b → Admits r s a
    by true served = served_by served (is_some (life_of s.table a.id)) refl (nat_le max_devices (length (s.table).lives)) refl (nat_le max_lives (s.table).given) refl
    by false other = refuses status.not_supported refl (rw other refl) (rw other refl)

-- ---- completions

fate_lives : (t : TableState) (n : ℕ) (f : Fate) → ((with_fate t n f).lives ≡ t.lives) × ((with_fate t n f).given ≡ t.given)
fate_lives t n f = go (untaken_at t n) refl
  where
    go : (o : Option Untaken) → untaken_at t n ≡ o → ((with_fate t n f).lives ≡ t.lives) × ((with_fate t n f).given ≡ t.given)
    go None e = rw e (refl, refl)
    go (Some u) e = rw e (refl, refl)

pub completed_lives : (t : TableState) (head : Head) (bytes : List ℕ) → (((table.complete t head bytes).0).lives ≡ t.lives) × (((table.complete t head bytes).0).given ≡ t.given)
completed_lives t head bytes = go (table.complete t head bytes).1 refl
  where
    go : (r : Result Completed CompleteNo) → (table.complete t head bytes).1 ≡ r → (((table.complete t head bytes).0).lives ≡ t.lives) × (((table.complete t head bytes).0).given ≡ t.given)
    go (Err cause) e = let same = effects.refused t head bytes cause e in (ap (λ (x : TableState). x.lives) same, ap (λ (x : TableState). x.given) same)
    go (Ok gave) e =
        let done = effects.completes t head bytes (ap is_ok e) in
        elim done.effect [
          | inl late ↦ (ap (λ (x : TableState). x.lives) late.new, ap (λ (x : TableState). x.given) late.new)
          | inr given ↦
              let rest = fate_lives (freed t head.completion) (done.slot).number (known (Done given.reply)) in
              (ap (λ (x : TableState). x.lives) given.new ∙ rest.0, ap (λ (x : TableState). x.given) given.new ∙ rest.1)
        ]
