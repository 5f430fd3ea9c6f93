-- What is in line to be answered, and what was: what an entry of a journal, a message that is written, and one that is read do to it.
use Rattle.std.proofs.Common.{◌≡◌, ◌∙◌, refl, sym, ap, subst, ℕ, ◌==◌, ◌&&◌, Bool, true, false, cond, eqb-true, List, [], ◌∷◌, ◌++◌, append_assoc, Option, Some, None}
use Rattle.std.specs.Prelude.{◌||◌, filter, not}
use Rattle.std.specs.List.{cons_option}
use Rattle.std.specs.Option.{option_map_or}
use Rattle.std.proofs.lemmas.List.Elements.{filter_map-append}
use Rattle.rd_base.specs.declared.journal.Item.{Item}
use Rattle.rd_base.specs.declared.journal.Item.TheVariants.{Came, Cancelled, Cut, Ran, Sent}
use Rattle.rd_base.specs.declared.journal.Key.{Key}
use Rattle.rd_client.specs.Core.{Outgoing}
use Rattle.rd_hello.specs.declared.end_fault.EndFault.{EndFault}
use Rattle.rd_served.proofs.RunsInsides.{AreOwn, IsOwn}
use Rattle.rd_world.specs.Events.{deed_on}
use Rattle.rd_deeds.specs.Talk.{Deed, EndsWith, Has, adds, client_read, client_reads, client_writes, completes, host_begins, host_ends, host_reads, host_writes, journal, removes, stores, submits, takes, tells}
use Rattle.rd_deeds.specs.Told.{came, came_as, is_of_device, requests_to, told, told_at, without_last}
use Rattle.rd_world.specs.World.{Kept}
use Rattle.rd_served.proofs.JournalsCameLemmas.{came_true}
use Rattle.rd_directs.proofs.TurnLemmas.{none_before, said_ends, turn_left}
use Rattle.rd_directs.specs.Turns.{DirectTurn, TurnIn, Turns, kept_at, never, said}
use Rattle.rd_served.specs.Deeds.{sent_by}
use Rattle.rd_served_refusals.specs.Heeding.{PassesNone, once_written}

-- ---- lists

kept_parts : (f : ℕ → Bool) (xs ys : List ℕ) → filter f (xs ++ ys) ≡ filter f xs ++ filter f ys
kept_parts f [] ys = refl
kept_parts f (x ∷ xs) ys = by (f x) (kept_parts f xs ys)
  where
    by : (b : Bool) → filter f (xs ++ ys) ≡ filter f xs ++ filter f ys → cond b (x ∷ filter f (xs ++ ys)) (filter f (xs ++ ys)) ≡ cond b (x ∷ filter f xs) (filter f xs) ++ filter f ys
    by true later = ap (λ (zs : List ℕ). x ∷ zs) later
    by false later = later

kept_twice : (f g : ℕ → Bool) (xs : List ℕ) → filter (λ x. not (f x || g x)) xs ≡ filter (λ x. not (f x)) (filter (λ x. not (g x)) xs)
kept_twice f g [] = refl
kept_twice f g (x ∷ xs) = by (f x) refl (g x) (kept_twice f g xs)
  where
    once : List ℕ
    once = filter (λ x. not (g x)) xs

    all : List ℕ
    all = filter (λ x. not (f x || g x)) xs

    by : (a : Bool) → f x ≡ a → (b : Bool) → all ≡ filter (λ x. not (f x)) once → cond (not (a || b)) (x ∷ all) all ≡ filter (λ x. not (f x)) (cond (not b) (x ∷ once) once)
    by true e true later = later
    by false e true later = later
    by true e false later = later ∙ ap (λ (b : Bool). cond (not b) (x ∷ filter (λ x. not (f x)) once) (filter (λ x. not (f x)) once)) (sym e)
    by false e false later = ap (λ (zs : List ℕ). x ∷ zs) later ∙ ap (λ (b : Bool). cond (not b) (x ∷ filter (λ x. not (f x)) once) (filter (λ x. not (f x)) once)) (sym e)

-- an index that came is in none of those
never_one : (c : ℕ) (j : List Item) (n : ℕ) (ys : List ℕ) → came c j n ≡ true → never c j (n ∷ ys) ≡ never c j ys
never_one c j n ys is = ap (λ (b : Bool). cond (not b) (n ∷ never c j ys) (never c j ys)) is

never_within : (c : ℕ) (j : List Item) (n : ℕ) (xs ys : List ℕ) → came c j n ≡ true → never c j (xs ++ n ∷ ys) ≡ never c j (xs ++ ys)
never_within c j n xs ys is =
    kept_parts (λ i. not (came c j i)) xs (n ∷ ys) ∙ ap (λ (zs : List ℕ). never c j xs ++ zs) (never_one c j n ys is) ∙ sym (kept_parts (λ i. not (came c j i)) xs ys)

option_append : (k : Option ℕ) (xs ys : List ℕ) → cons_option k (xs ++ ys) ≡ cons_option k xs ++ ys
option_append None xs ys = refl
option_append (Some n) xs ys = refl

-- ---- what stands in an outbox

pub said_more : (c d : ℕ) (os more : List Outgoing) (line : List ℕ) → said c d (os ++ more) line ≡ said c d more (said c d os line)
said_more c d [] more line = refl
said_more c d (o ∷ os) more line = said_more c d os more (cons_option (told_at c d (deed_on c o)) line)

said_before : (c d : ℕ) (os : List Outgoing) (line : List ℕ) → said c d os line ≡ said c d os [] ++ line
said_before c d [] line = refl
said_before c d (o ∷ os) line = by (told_at c d (deed_on c o)) (λ l. said_before c d os l)
  where
    by : (x : Option ℕ) → ((l : List ℕ) → said c d os l ≡ said c d os [] ++ l) → said c d os (cons_option x line) ≡ said c d os (cons_option x []) ++ line
    by None later = later line
    by (Some n) later = later (n ∷ line) ∙ sym (append_assoc (said c d os []) (n ∷ []) line) ∙ ap (λ (zs : List ℕ). zs ++ line) (sym (later (n ∷ [])))

-- an index that came, and was told
line_within : (c d : ℕ) (j : List Item) (k : Option ℕ) (os : List Outgoing) (n : ℕ) (line : List ℕ) → came c j n ≡ true → never c j (cons_option k (said c d os (n ∷ line))) ≡ never c j (cons_option k (said c d os line))
line_within c d j k os n line is =
    ap (λ (zs : List ℕ). never c j (cons_option k zs)) (said_before c d os (n ∷ line)) ∙ ap (never c j) (option_append k (said c d os []) (n ∷ line))
    ∙ never_within c j n (cons_option k (said c d os [])) line is
    ∙ sym (ap (λ (zs : List ℕ). never c j (cons_option k zs)) (said_before c d os line) ∙ ap (never c j) (option_append k (said c d os []) line))

pub once_told : (c d : ℕ) (os : List Outgoing) (deeds : List Deed) → told c d (once_written c os deeds) ≡ said c d os (told c d deeds)
once_told c d [] deeds = refl
once_told c d (o ∷ os) deeds = once_told c d os (deed_on c o ∷ deeds)

pub once_before : (c : ℕ) (os : List Outgoing) (xs ys : List Deed) → once_written c os (xs ++ ys) ≡ once_written c os xs ++ ys
once_before c [] xs ys = refl
once_before c (o ∷ os) xs ys = once_before c os (deed_on c o ∷ xs) ys

pub told_some : (c d : ℕ) (key : Key) (m : List ℕ) (n : ℕ) → told_at c d (completes key m) ≡ Some n → (key.channel ≡ c) × (is_of_device d m ≡ true) × (key.index ≡ n)
told_some c d key m n is = by (key.channel == c) refl (is_of_device d m) refl is
  where
    by : (a : Bool) → (key.channel == c) ≡ a → (b : Bool) → is_of_device d m ≡ b → cond (a && b) (Some key.index) None ≡ Some n → (key.channel ≡ c) × (is_of_device d m ≡ true) × (key.index ≡ n)
    by true e true g same = (eqb-true key.channel c e, g, cc (same))
    by true e false g same = absurd (cc (same))
    by false e b g same = absurd (cc (same))

-- ---- of the requests that never came the longer list has all of the shorter, at its end

abbrev pub Follows : ℕ → ℕ → List Deed → List ℕ → List ℕ → Type 0
Follows c d deeds long short = EndsWith (never c (journal d deeds) long) (never c (journal d deeds) short)

follows_item : (c : ℕ) (j : List Item) (x : Item) (long short : List ℕ) → EndsWith (never c j long) (never c j short) → EndsWith (never c (x ∷ j) long) (never c (x ∷ j) short)
follows_item c j (Ran k m s p) long short is = is
follows_item c j (Cancelled k) long short is = is
follows_item c j (Sent k) long short is = is
follows_item c j (Cut cause) long short is = is
follows_item c j (Came k) long short (first, same) = (
  filter (λ x. not (f x)) first,
  kept_twice f g long ∙ ap (filter (λ x. not (f x))) same ∙ kept_parts (λ x. not (f x)) first (never c j short) ∙ ap (λ (zs : List ℕ). filter (λ x. not (f x)) first ++ zs) (sym (kept_twice f g short)),
)
  where
    f : ℕ → Bool
    f i = came_as c i (Came k)

    g : ℕ → Bool
    g i = came c j i

pub follows_own : (c d : ℕ) (deeds : List Deed) (y : Deed) (long short : List ℕ) → IsOwn y → Follows c d deeds long short → Follows c d (y ∷ deeds) long short
follows_own c d deeds (stores e x) long short own is = by (e == d)
  where
    by : (b : Bool) → EndsWith (never c (cons_option (cond b (Some x) None) (journal d deeds)) long) (never c (cons_option (cond b (Some x) None) (journal d deeds)) short)
    by true = follows_item c (journal d deeds) x long short is
    by false = is
follows_own c d deeds (removes e) long short own is = is
follows_own c d deeds (adds e) long short own is = is
follows_own c d deeds (submits a n o) long short own is = absurd own
follows_own c d deeds (takes n) long short own is = absurd own
follows_own c d deeds (tells n) long short own is = absurd own
follows_own c d deeds (host_begins n) long short own is = absurd own
follows_own c d deeds (host_ends n) long short own is = absurd own
follows_own c d deeds (host_writes n m) long short own is = absurd own
follows_own c d deeds (host_reads n m) long short own is = absurd own
follows_own c d deeds (client_reads n m) long short own is = absurd own
follows_own c d deeds (client_writes n m) long short own is = absurd own
follows_own c d deeds (completes k m) long short own is = absurd own

-- more stands before the longer one
pub follows_first : (c d : ℕ) (deeds : List Deed) (first long short : List ℕ) → Follows c d deeds long short → Follows c d deeds (first ++ long) short
follows_first c d deeds first long short (prefix, same) = (
  never c (journal d deeds) first ++ prefix,
  kept_parts (λ i. not (came c (journal d deeds) i)) first long ∙ ap (λ (zs : List ℕ). never c (journal d deeds) first ++ zs) same ∙ sym (append_assoc (never c (journal d deeds) first) prefix (never c (journal d deeds) short)),
)

-- ---- what was passed over on a channel

-- what is in line there, against all requests but the last
abbrev pub Heeds : ℕ → List Outgoing → List Deed → Type 0
Heeds c os deeds = (d : ℕ) → Follows c d deeds (said c d os (told c d deeds)) (requests_to d (without_last (client_read c deeds)))

abbrev pub Past : ℕ → List Deed → Type 0
Past c deeds = (rest : List Deed) × PassesNone c deeds rest

own_told : (c d : ℕ) (y : Deed) (deeds : List Deed) → IsOwn y → told c d (y ∷ deeds) ≡ told c d deeds
own_told c d (stores e x) deeds own = refl
own_told c d (removes e) deeds own = refl
own_told c d (adds e) deeds own = refl
own_told c d (submits a n o) deeds own = absurd own
own_told c d (takes n) deeds own = absurd own
own_told c d (tells n) deeds own = absurd own
own_told c d (host_begins n) deeds own = absurd own
own_told c d (host_ends n) deeds own = absurd own
own_told c d (host_writes n m) deeds own = absurd own
own_told c d (host_reads n m) deeds own = absurd own
own_told c d (client_reads n m) deeds own = absurd own
own_told c d (client_writes n m) deeds own = absurd own
own_told c d (completes k m) deeds own = absurd own

pub own_read : (c : ℕ) (y : Deed) (deeds : List Deed) → IsOwn y → client_read c (y ∷ deeds) ≡ client_read c deeds
own_read c (stores e x) deeds own = refl
own_read c (removes e) deeds own = refl
own_read c (adds e) deeds own = refl
own_read c (submits a n o) deeds own = absurd own
own_read c (takes n) deeds own = absurd own
own_read c (tells n) deeds own = absurd own
own_read c (host_begins n) deeds own = absurd own
own_read c (host_ends n) deeds own = absurd own
own_read c (host_writes n m) deeds own = absurd own
own_read c (host_reads n m) deeds own = absurd own
own_read c (client_reads n m) deeds own = absurd own
own_read c (client_writes n m) deeds own = absurd own
own_read c (completes k m) deeds own = absurd own

pub heeds_own : (c : ℕ) (os : List Outgoing) (deeds : List Deed) (y : Deed) → IsOwn y → Heeds c os deeds → Heeds c os (y ∷ deeds)
heeds_own c os deeds y own is d =
    follows_own c d deeds y (said c d os (told c d (y ∷ deeds))) (requests_to d (without_last (client_read c (y ∷ deeds)))) own
    (subst (λ (t : List ℕ). Follows c d deeds (said c d os t) (requests_to d (without_last (client_read c (y ∷ deeds))))) (sym (own_told c d y deeds own))
    (subst (λ (ms : List (List ℕ)). Follows c d deeds (said c d os (told c d deeds)) (requests_to d (without_last ms))) (sym (own_read c y deeds own)) (is d)))

pub heeds_grown : (c : ℕ) (os more : List Outgoing) (deeds : List Deed) → Heeds c os deeds → Heeds c (os ++ more) deeds
heeds_grown c os more deeds is d =
    let (first, same) = said_ends c d more (said c d os (told c d deeds)) in
    subst (λ (t : List ℕ). Follows c d deeds t (requests_to d (without_last (client_read c deeds)))) (sym (said_more c d os more (told c d deeds) ∙ same))
    (follows_first c d deeds first (said c d os (told c d deeds)) (requests_to d (without_last (client_read c deeds))) (is d))

-- a completion is written of a key that came
pub heeds_written : (c : ℕ) (os : List Outgoing) (deeds : List Deed) (key : Key) (m : List ℕ) → ((d n : ℕ) → told_at c d (completes key m) ≡ Some n → came c (journal d deeds) n ≡ true) → Heeds c os deeds → Heeds c os (completes key m ∷ deeds)
heeds_written c os deeds key m there is d = by (told_at c d (completes key m)) refl
  where
    by : (o : Option ℕ) → told_at c d (completes key m) ≡ o → Follows c d deeds (said c d os (cons_option o (told c d deeds))) (requests_to d (without_last (client_read c deeds)))
    by None e = is d
    by (Some n) e = ((is d).0, line_within c d (journal d deeds) None os n (told c d deeds) (there d n e) ∙ (is d).1)

-- the first message of an outbox is written
pub heeds_sent : (c channel : ℕ) (o : Outgoing) (os : List Outgoing) (deeds : List Deed) → Heeds c (o ∷ os) deeds → Heeds c os (sent_by channel o.message o.answers ++ deeds)
heeds_sent c channel o os deeds is = by o.answers is
  where
    by : (a : Option Key) → ((d : ℕ) → Follows c d deeds (said c d os (cons_option (told_at c d (option_map_or (λ key. completes key o.message) a (client_writes c o.message))) (told c d deeds))) (requests_to d (without_last (client_read c deeds))))
        → Heeds c os (sent_by channel o.message a ++ deeds)
    by None so = so
    by (Some key) so = so

-- ---- a channel that is over

past_as : (c : ℕ) (deeds : List Deed) (is : Past c deeds) (d : ℕ) → Follows c d deeds (told c d is.0 ++ told c d deeds) (requests_to d (without_last (client_read c deeds)))
past_as c deeds is d = subst (λ (t : List ℕ). Follows c d deeds t (requests_to d (without_last (client_read c deeds)))) (filter_map-append (told_at c d) is.0 deeds) ((is.1).each d)

past_of : (c : ℕ) (deeds rest : List Deed) → PassesNone c deeds rest → (more : List Deed) → ((d : ℕ) → Follows c d more (told c d rest ++ told c d more) (requests_to d (without_last (client_read c more)))) → Past c more
past_of c deeds rest is more each = (rest, record { left = is.left; each = λ d. subst (λ (t : List ℕ). Follows c d more t (requests_to d (without_last (client_read c more)))) (sym (filter_map-append (told_at c d) rest more)) (each d) })

pub past_own : (c : ℕ) (deeds : List Deed) (y : Deed) → IsOwn y → Past c deeds → Past c (y ∷ deeds)
past_own c deeds y own is = past_of c deeds is.0 is.1 (y ∷ deeds) (λ d.
    follows_own c d deeds y (told c d is.0 ++ told c d (y ∷ deeds)) (requests_to d (without_last (client_read c (y ∷ deeds)))) own
    (subst (λ (t : List ℕ). Follows c d deeds (told c d is.0 ++ t) (requests_to d (without_last (client_read c (y ∷ deeds))))) (sym (own_told c d y deeds own))
    (subst (λ (ms : List (List ℕ)). Follows c d deeds (told c d is.0 ++ told c d deeds) (requests_to d (without_last ms))) (sym (own_read c y deeds own)) (past_as c deeds is d))))

pub past_owns : (c : ℕ) (more deeds : List Deed) → AreOwn more → Past c deeds → Past c (more ++ deeds)
past_owns c [] deeds own is = is
past_owns c (y ∷ more) deeds own is = past_own c (more ++ deeds) y own.0 (past_owns c more deeds own.1 is)

pub past_written : (c : ℕ) (deeds : List Deed) (key : Key) (m : List ℕ) → ((d n : ℕ) → told_at c d (completes key m) ≡ Some n → came c (journal d deeds) n ≡ true) → Past c deeds → Past c (completes key m ∷ deeds)
past_written c deeds key m there is = past_of c deeds is.0 is.1 (completes key m ∷ deeds) (λ d. by d (told_at c d (completes key m)) refl)
  where
    by : (d : ℕ) (o : Option ℕ) → told_at c d (completes key m) ≡ o → Follows c d deeds (told c d is.0 ++ cons_option o (told c d deeds)) (requests_to d (without_last (client_read c deeds)))
    by d None e = past_as c deeds is d
    by d (Some n) e = let so = past_as c deeds is d in (so.0, never_within c (journal d deeds) n (told c d is.0) (told c d deeds) (there d n e) ∙ so.1)

pub past_plain : (c channel : ℕ) (deeds : List Deed) (m : List ℕ) → Past c deeds → Past c (client_writes channel m ∷ deeds)
past_plain c channel deeds m is = past_of c deeds is.0 is.1 (client_writes channel m ∷ deeds) (λ d. past_as c deeds is d)

-- of a key of another channel
pub past_other : (c : ℕ) (deeds : List Deed) (key : Key) (m : List ℕ) → (key.channel ≡ c → ⊥) → Past c deeds → Past c (completes key m ∷ deeds)
past_other c deeds key m other is = past_written c deeds key m (λ d n e. absurd (other (told_some c d key m n e).0)) is

pub past_read : (c channel : ℕ) (deeds : List Deed) (m : List ℕ) → client_read c (client_reads channel m ∷ deeds) ≡ client_read c deeds → Past c deeds → Past c (client_reads channel m ∷ deeds)
past_read c channel deeds m same is = past_of c deeds is.0 is.1 (client_reads channel m ∷ deeds) (λ d.
    subst (λ (ms : List (List ℕ)). Follows c d deeds (told c d is.0 ++ told c d deeds) (requests_to d (without_last ms))) (sym same) (past_as c deeds is d))

-- ---- turns

-- the job that is kept back came
pub turns_kept_came : {os : List Outgoing} {deeds : List Deed} {f : Option EndFault} {o : Option ℕ} (k : Kept) → Has (Came k.job.key) (journal k.device deeds) → Turns (Some k) os deeds f o → Turns None os deeds f o
turns_kept_came {os = os} {deeds = deeds} {f = f} {o = o} k has is = record { at = λ c d. by c d (k.job.key.channel == c) refl (k.device == d) refl (is.at c d) }
  where
    line : ℕ → ℕ → List ℕ
    line c d = said c d os (told c d deeds)

    there : (c d : ℕ) → (k.job.key.channel == c) ≡ true → (k.device == d) ≡ true → came c (journal d deeds) k.job.key.index ≡ true
    there c d e g = subst (λ (x : ℕ). came x (journal d deeds) k.job.key.index ≡ true) (eqb-true k.job.key.channel c e) (came_true k.job.key (journal d deeds) (subst (λ (x : ℕ). Has (Came k.job.key) (journal x deeds)) (eqb-true k.device d g) has))

    by : (c d : ℕ) (a : Bool) → (k.job.key.channel == c) ≡ a → (b : Bool) → (k.device == d) ≡ b → DirectTurn c (journal d deeds) (requests_to d (client_read c deeds)) (cons_option (cond (a && b) (Some k.job.key.index) None) (line c d)) f o
        → DirectTurn c (journal d deeds) (requests_to d (client_read c deeds)) (line c d) f o
    by c d true e true g t = record { others = t.others; stands = t.stands ∙ ap (λ (zs : List ℕ). t.others ++ zs) (never_one c (journal d deeds) k.job.key.index (line c d) (there c d e g)); all = t.all }
    by c d true e false g t = t
    by c d false e b g t = t

-- a completion is written of a key that came
pub turns_written : {k : Option Kept} {os : List Outgoing} {deeds : List Deed} {f : Option EndFault} {o : Option ℕ} (key : Key) (m : List ℕ) → ((c d n : ℕ) → told_at c d (completes key m) ≡ Some n → came c (journal d deeds) n ≡ true) → Turns k os deeds f o → Turns k os (completes key m ∷ deeds) f o
turns_written {k = k} {os = os} {deeds = deeds} {f = f} {o = o} key m there is = record { at = λ c d. by c d (told_at c d (completes key m)) refl }
  where
    by : (c d : ℕ) (x : Option ℕ) → told_at c d (completes key m) ≡ x → DirectTurn c (journal d deeds) (requests_to d (client_read c deeds)) (cons_option (kept_at c d k) (said c d os (cons_option x (told c d deeds)))) f o
    by c d None e = is.at c d
    by c d (Some n) e = let t = is.at c d in record {
      others = t.others;
      stands = t.stands ∙ ap (λ (zs : List ℕ). t.others ++ zs) (sym (line_within c d (journal d deeds) (kept_at c d k) os n (told c d deeds) (there c d n e)));
      all = t.all;
    }

-- the first message of an outbox is written
pub turns_sent : {k : Option Kept} {deeds : List Deed} {f : Option EndFault} {x : Option ℕ} (channel : ℕ) (o : Outgoing) (os : List Outgoing) → Turns k (o ∷ os) deeds f x → Turns k os (sent_by channel o.message o.answers ++ deeds) f x
turns_sent {k = k} {deeds = deeds} {f = f} {x = x} channel o os is = by o.answers is.at
  where
    by : (a : Option Key) → ((c d : ℕ) → DirectTurn c (journal d deeds) (requests_to d (client_read c deeds)) (cons_option (kept_at c d k) (said c d os (cons_option (told_at c d (option_map_or (λ key. completes key o.message) a (client_writes c o.message))) (told c d deeds)))) f x)
        → Turns k os (sent_by channel o.message a ++ deeds) f x
    by None so = record { at = so }
    by (Some key) so = record { at = so }

-- nothing more is read then
pub turns_shut : {k : Option Kept} {os : List Outgoing} {deeds : List Deed} {f : Option EndFault} {o : Option ℕ} → Turns k os deeds f o → Turns k os deeds None None
turns_shut is = record { at = λ c d. let t = is.at c d in record { others = t.others; stands = t.stands; all = λ fine opens. absurd (cc (opens)) } }

-- a job is given up
pub turns_lost : {k : Option Kept} {os : List Outgoing} {deeds : List Deed} {f : Option EndFault} {o : Option ℕ} → Turns k os deeds f o → Turns None os deeds f None
turns_lost {k = k} {os = os} {deeds = deeds} is = record {
  at = λ c d. turn_left (cons_option (kept_at c d k) []) (said c d os (told c d deeds)) (option_append (kept_at c d k) [] (said c d os (told c d deeds))) (λ fine opens. cc (opens)) (is.at c d);
}

pub turns_ended : {k : Option Kept} {os : List Outgoing} {deeds : List Deed} {f : Option EndFault} {o : Option ℕ} → Turns k os deeds f o → Turns None [] deeds f None
turns_ended {k = k} {os = os} {deeds = deeds} is = record {
  at = λ c d. turn_left (cons_option (kept_at c d k) (said c d os [])) (told c d deeds)
      (ap (λ (zs : List ℕ). cons_option (kept_at c d k) zs) (said_before c d os (told c d deeds)) ∙ option_append (kept_at c d k) (said c d os []) (told c d deeds)) (λ fine opens. cc (opens)) (is.at c d);
}

-- a channel begins, on which nothing was read
pub turns_begun : {os : List Outgoing} {deeds : List Deed} {f : Option EndFault} {o : Option ℕ} (channel : ℕ) → client_read channel deeds ≡ [] → Turns None os deeds f o → Turns None [] deeds None (Some channel)
turns_begun {os = os} {deeds = deeds} channel unread is = record { at = so }
  where
    stands : (c d : ℕ) → never c (journal d deeds) (requests_to d (client_read c deeds)) ≡ ((is.at c d).others ++ never c (journal d deeds) (said c d os [])) ++ never c (journal d deeds) (told c d deeds)
    stands c d =
        (is.at c d).stands ∙ ap (λ (zs : List ℕ). (is.at c d).others ++ zs) (ap (never c (journal d deeds)) (said_before c d os (told c d deeds)) ∙ kept_parts (λ i. not (came c (journal d deeds) i)) (said c d os []) (told c d deeds))
        ∙ sym (append_assoc (is.at c d).others (never c (journal d deeds) (said c d os [])) (never c (journal d deeds) (told c d deeds)))

    none : (c d : ℕ) → Some channel ≡ Some c → never c (journal d deeds) (requests_to d (client_read c deeds)) ≡ []
    none c d opens =
        let same : channel ≡ c = cc (opens) in
        ap (λ (ms : List (List ℕ)). never c (journal d deeds) (requests_to d ms)) (ap (λ (n : ℕ). client_read n deeds) (sym same) ∙ unread)

    so : (c d : ℕ) → TurnIn None [] deeds None (Some channel) c d
    so c d = record {
      others = (is.at c d).others ++ never c (journal d deeds) (said c d os []);
      stands = stands c d;
      all = λ fine opens. none_before ((is.at c d).others ++ never c (journal d deeds) (said c d os [])) (never c (journal d deeds) (told c d deeds)) (sym (stands c d) ∙ none c d opens);
    }
