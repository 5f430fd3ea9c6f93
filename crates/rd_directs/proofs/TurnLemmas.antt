-- Direct answers are told in the order of reading.
use Rattle.std.proofs.Common.{◌==◌, eq-eqb, eqb-true, cond, append-nil, Bool, List, [], ap, arith, false, inl, inr, map, refl, subst, sym, true, ℕ, ◌+◌, ◌&&◌, ◌++◌, ◌<◌, ◌∙◌, ◌∷◌, ◌≡◌, lit<, ◌^◌}
use Rattle.std.specs.Prelude.{◌||◌, find, nat_le, nat_lt, not, Err, None, Ok, Option, Result, Some, filter, fold, length, if◌then◌else◌, is_some}
use Rattle.std.specs.List.{cons_option, list_any}
use Rattle.std.specs.Option.{option_map_or}
use Rattle.std.proofs.lemmas.Bool.Decides.{nat_tests}
use Rattle.rd_base.specs.Statuses.{insufficient_resources, no_such_device}
use Rattle.rd_base.specs.declared.journal.Item.{Item}
use Rattle.rd_base.specs.declared.journal.Item.TheVariants.{Came, Cancelled, Cut, Ran, Sent}
use Rattle.rd_base.specs.declared.journal.Key.{Key}
use Rattle.rd_base.specs.declared.status.Status.{Status}
use Rattle.rd_client.specs.Core as client
use Rattle.rd_client.specs.Core.{ClientCoreState, Outgoing, client_hear, job_of, listed, listed_one}
use Rattle.rd_client.specs.declared.heard.Heard.{Heard}
use Rattle.rd_client.specs.declared.heard.Heard.TheVariants as heard
use Rattle.rd_core.specs.Core as core
use Rattle.rd_devices.specs.DeviceList.{list_bytes}
use Rattle.rd_devices.specs.Removal.{removal_bytes}
use Rattle.rd_devices.specs.declared.list.Announce.{Announce}
use Rattle.rd_drive.specs.Outcome.{fault}
use Rattle.rd_drive.specs.declared.plan.Job.{Job}
use Rattle.rd_hello.specs.declared.client.ClientState.{ClientState}
use Rattle.rd_hello.specs.declared.end_fault.EndFault.{EndFault}
use Rattle.rd_irp.specs.Fits.{BodyFits, kind_of}
use Rattle.rd_irp.specs.declared.completion.Head.{Head}
use Rattle.rd_irp.specs.declared.request.Request.{Request}
use Rattle.rd_journals.proofs.AskingLemmas.{HeardAs, hears}
use Rattle.rd_journals.specs.Jobs.{AreFine, FitsCompletion}
use Rattle.rd_journals.specs.Orderly.{IsNext, Orderly}
use Rattle.rd_deeds.proofs.Messages.{head_read}
use Rattle.rd_world.specs.Events.{deed_on}
use Rattle.rd_deeds.specs.Talk.{Deed, EndsWith, Has, client_read, client_reads, completes, head_in, is_request, journal, request_in, tells, stores, removes, adds, submits, takes, host_begins, host_ends, host_writes, host_reads, client_writes}
use Rattle.rd_deeds.specs.Told.{CompletesWith, came, came_as, is_of_device, requests_to, told, told_at}
use Rattle.rd_world.specs.World.{Kept, WorldState}
use Rattle.rd_journals.proofs.RunsInsides.{AreOwn, IsInside, IsOwn}
use Rattle.rd_directs.specs.Turns.{InTurn, DirectTurn, TurnIn, Turns, kept_at, never, said}

-- ---- lists

kept_parts : (f : ℕ → Bool) (xs ys : List ℕ) → filter f (xs ++ ys) ≡ filter f xs ++ filter f ys
kept_parts f [] ys = refl
kept_parts f (x ∷ xs) ys = by (f x) (kept_parts f xs ys)
  where
    by : (b : Bool) → filter f (xs ++ ys) ≡ filter f xs ++ filter f ys → cond b (x ∷ filter f (xs ++ ys)) (filter f (xs ++ ys)) ≡ cond b (x ∷ filter f xs) (filter f xs) ++ filter f ys
    by true later = ap (λ (zs : List ℕ). x ∷ zs) later
    by false later = later

kept_twice : (f g : ℕ → Bool) (xs : List ℕ) → filter (λ x. not (f x || g x)) xs ≡ filter (λ x. not (f x)) (filter (λ x. not (g x)) xs)
kept_twice f g [] = refl
kept_twice f g (x ∷ xs) = by (f x) refl (g x) (kept_twice f g xs)
  where
    once : List ℕ
    once = filter (λ x. not (g x)) xs

    all : List ℕ
    all = filter (λ x. not (f x || g x)) xs

    by : (a : Bool) → f x ≡ a → (b : Bool) → all ≡ filter (λ x. not (f x)) once → cond (not (a || b)) (x ∷ all) all ≡ filter (λ x. not (f x)) (cond (not b) (x ∷ once) once)
    by true e true later = later
    by false e true later = later
    by true e false later = later ∙ ap (λ (b : Bool). cond (not b) (x ∷ filter (λ x. not (f x)) once) (filter (λ x. not (f x)) once)) (sym e)
    by false e false later = ap (λ (zs : List ℕ). x ∷ zs) later ∙ ap (λ (b : Bool). cond (not b) (x ∷ filter (λ x. not (f x)) once) (filter (λ x. not (f x)) once)) (sym e)

pub none_before : (xs ys : List ℕ) → xs ++ ys ≡ [] → xs ≡ []
none_before [] ys e = refl
none_before (x ∷ xs) ys e = absurd (cc e)

-- ---- a turn

turn_stored : {c : ℕ} {j : List Item} {reqs line : List ℕ} {f : Option EndFault} {o : Option ℕ} (x : Item) → DirectTurn c j reqs line f o → DirectTurn c (x ∷ j) reqs line f o
turn_stored (Ran k m s p) t = record { others = t.others; stands = t.stands; all = t.all }
turn_stored (Cancelled k) t = record { others = t.others; stands = t.stands; all = t.all }
turn_stored (Sent k) t = record { others = t.others; stands = t.stands; all = t.all }
turn_stored (Cut cause) t = record { others = t.others; stands = t.stands; all = t.all }
turn_stored {c = c} {j = j} {reqs = reqs} {line = line} (Came k) t = record {
  others = filter (λ x. not (f x)) t.others;
  stands = kept_twice f g reqs ∙ ap (filter (λ x. not (f x))) t.stands ∙ kept_parts (λ x. not (f x)) t.others (never c j line) ∙ ap (λ (zs : List ℕ). filter (λ x. not (f x)) t.others ++ zs) (sym (kept_twice f g line));
  all = λ fine opens. ap (filter (λ x. not (f x))) (t.all fine opens);
}
  where
    f : ℕ → Bool
    f i = came_as c i (Came k)

    g : ℕ → Bool
    g i = came c j i

-- a shorter line, whose first ones are left
pub turn_left : {c : ℕ} {j : List Item} {reqs line : List ℕ} {f f' : Option EndFault} {o o' : Option ℕ} (first rest : List ℕ) → line ≡ first ++ rest → (f' ≡ None → o' ≡ Some c → ⊥) → DirectTurn c j reqs line f o → DirectTurn c j reqs rest f' o'
turn_left {c = c} {j = j} {reqs = reqs} {line = line} first rest same shut t = record {
  others = t.others ++ never c j first;
  stands = t.stands ∙ ap (λ (zs : List ℕ). t.others ++ never c j zs) same ∙ ap (λ (zs : List ℕ). t.others ++ zs) (kept_parts (λ i. not (came c j i)) first rest) ∙ sym (assoc t.others (never c j first) (never c j rest));
  all = λ fine opens. absurd (shut fine opens);
}
  where
    assoc : (xs ys zs : List ℕ) → (xs ++ ys) ++ zs ≡ xs ++ (ys ++ zs)
    assoc [] ys zs = refl
    assoc (x ∷ xs) ys zs = ap (λ (l : List ℕ). x ∷ l) (assoc xs ys zs)

-- ---- what is to be written

said_same : (c d : ℕ) (os : List Outgoing) (more : List Outgoing) (line : List ℕ) → ((o : Outgoing) → Has o more → o.answers ≡ None) → said c d (os ++ more) line ≡ said c d os line
said_same c d (o ∷ os) more line none = said_same c d os more (cons_option (told_at c d (deed_on c o)) line) none
said_same c d [] [] line none = refl
said_same c d [] (o ∷ more) line none =
    ap (λ (a : Option Key). said c d more (cons_option (told_at c d (option_map_or (λ key. completes key o.message) a (client_writes c o.message))) line)) (none o (inl refl))
    ∙ said_same c d [] more line (λ x has. none x (inr has))

said_last : (c d : ℕ) (os : List Outgoing) (o : Outgoing) (line : List ℕ) → said c d (os ++ o ∷ []) line ≡ cons_option (told_at c d (deed_on c o)) (said c d os line)
said_last c d [] o line = refl
said_last c d (x ∷ os) o line = said_last c d os o (cons_option (told_at c d (deed_on c x)) line)

moved : (n : ℕ) (line xs : List ℕ) → xs ++ n ∷ line ≡ (xs ++ n ∷ []) ++ line
moved n line [] = refl
moved n line (x ∷ xs) = ap (λ (l : List ℕ). x ∷ l) (moved n line xs)

pub said_ends : (c d : ℕ) (os : List Outgoing) (line : List ℕ) → EndsWith (said c d os line) line
said_ends c d [] line = ([], refl)
said_ends c d (o ∷ os) line = by (told_at c d (deed_on c o)) (λ l. said_ends c d os l)
  where
    by : (x : Option ℕ) → ((l : List ℕ) → EndsWith (said c d os l) l) → EndsWith (said c d os (cons_option x line)) line
    by None later = later line
    by (Some n) later = let (first, same) = later (n ∷ line) in (first ++ n ∷ [], same ∙ moved n line first)

-- ---- deeds

pub turns_own : {k : Option Kept} {os : List Outgoing} {f : Option EndFault} {o : Option ℕ} (deeds : List Deed) (y : Deed) → IsOwn y → Turns k os deeds f o → Turns k os (y ∷ deeds) f o
turns_own {k = k} {os = os} {f = f} {o = o} deeds (stores e x) own is = record { at = λ c d. by c d (e == d) }
  where
    by : (c d : ℕ) (b : Bool) → DirectTurn c (cons_option (cond b (Some x) None) (journal d deeds)) (requests_to d (client_read c deeds)) (cons_option (kept_at c d k) (said c d os (told c d deeds))) f o
    by c d true = turn_stored x (is.at c d)
    by c d false = is.at c d
turns_own deeds (removes d) own is = record { at = is.at }
turns_own deeds (adds d) own is = record { at = is.at }
turns_own deeds (submits a n o) own is = absurd own
turns_own deeds (takes n) own is = absurd own
turns_own deeds (tells n) own is = absurd own
turns_own deeds (host_begins c) own is = absurd own
turns_own deeds (host_ends c) own is = absurd own
turns_own deeds (host_writes c m) own is = absurd own
turns_own deeds (host_reads c m) own is = absurd own
turns_own deeds (client_reads c m) own is = absurd own
turns_own deeds (client_writes c m) own is = absurd own
turns_own deeds (completes k m) own is = absurd own

pub turns_deeds : {k : Option Kept} {os : List Outgoing} {f : Option EndFault} {o : Option ℕ} (more deeds : List Deed) → AreOwn more → Turns k os deeds f o → Turns k os (more ++ deeds) f o
turns_deeds [] deeds own is = is
turns_deeds (y ∷ more) deeds own is = turns_own (more ++ deeds) y own.0 (turns_deeds more deeds own.1 is)

pub turns_inside : {k : Option Kept} {os : List Outgoing} {f : Option EndFault} {o : Option ℕ} (w v : WorldState) → IsInside w v → Turns k os w.deeds f o → Turns k os v.deeds f o
turns_inside {k = k} {os = os} {f = f} {o = o} w v inside is = subst (λ (ds : List Deed). Turns k os ds f o) (sym inside.deeds) (turns_deeds inside.more w.deeds inside.own is)

pub turns_said : {k : Option Kept} {os : List Outgoing} {deeds : List Deed} {f : Option EndFault} {o : Option ℕ} (grown more : List Outgoing) → grown ≡ os ++ more → ((x : Outgoing) → Has x more → x.answers ≡ None) → Turns k os deeds f o → Turns k grown deeds f o
turns_said {k = k} {os = os} {deeds = deeds} {f = f} {o = o} grown more same none is = record {
  at = λ c d.
      subst (λ (line : List ℕ). DirectTurn c (journal d deeds) (requests_to d (client_read c deeds)) (cons_option (kept_at c d k) line) f o)
      (sym (said_same c d os more (told c d deeds) none) ∙ ap (λ (xs : List Outgoing). said c d xs (told c d deeds)) (sym same)) (is.at c d);
}

-- a job is answered directly
pub turns_direct : {os : List Outgoing} {deeds : List Deed} {f : Option EndFault} {o : Option ℕ} (k : Kept) (m : List ℕ) → ((q : ℕ) → is_of_device q m ≡ (k.device == q)) → Turns (Some k) os deeds f o
    → Turns None (os ++ record { message = m; answers = Some k.job.key } ∷ []) deeds f o
turns_direct {os = os} {deeds = deeds} {f = f} {o = o} k m of is = record {
  at = λ c d.
      subst (λ (line : List ℕ). DirectTurn c (journal d deeds) (requests_to d (client_read c deeds)) line f o)
      (ap (λ (b : Bool). cons_option (cond (k.job.key.channel == c && b) (Some k.job.key.index) None) (said c d os (told c d deeds))) (sym (of d))
      ∙ sym (said_last c d os (record { message = m; answers = Some k.job.key }) (told c d deeds))) (is.at c d);
}

-- a job comes
came_at : {os : List Outgoing} {deeds : List Deed} {f : Option EndFault} {o : Option ℕ} (k : Kept) → Turns (Some k) os deeds f o → (c d : ℕ) → TurnIn None os (stores k.device (Came k.job.key) ∷ deeds) f o c d
came_at {os = os} {deeds = deeds} {f = f} {o = o} k is c d = by (k.job.key.channel == c) refl (k.device == d) refl (k.device == d) refl (is.at c d)
  where
    line : List ℕ
    line = said c d os (told c d deeds)

    gone : (t : Bool) → t ≡ true → cond (not t) (k.job.key.index ∷ never c (Came k.job.key ∷ journal d deeds) line) (never c (Came k.job.key ∷ journal d deeds) line) ≡ never c (Came k.job.key ∷ journal d deeds) line
    gone true e = refl
    gone false e = absurd (cc e)

    here : (k.job.key.channel == c) ≡ true → came c (Came k.job.key ∷ journal d deeds) k.job.key.index ≡ true
    here e = rw (e, eq-eqb k.job.key.index k.job.key.index refl) refl

    by : (a : Bool) → (k.job.key.channel == c) ≡ a → (x : Bool) → (k.device == d) ≡ x → (y : Bool) → (k.device == d) ≡ y
        → DirectTurn c (journal d deeds) (requests_to d (client_read c deeds)) (cons_option (cond (a && x) (Some k.job.key.index) None) line) f o
        → DirectTurn c (cons_option (cond y (Some (Came k.job.key)) None) (journal d deeds)) (requests_to d (client_read c deeds)) line f o
    by true e true g true h t = let u = turn_stored (Came k.job.key) t in record { others = u.others; stands = u.stands ∙ ap (λ (zs : List ℕ). u.others ++ zs) (gone (came c (Came k.job.key ∷ journal d deeds) k.job.key.index) (here e)); all = u.all }
    by true e true g false h t = absurd (let no : ⊥ = grind (arith, nat_tests, g, h) in no)
    by true e false g true h t = turn_stored (Came k.job.key) t
    by true e false g false h t = t
    by false e x g true h t = turn_stored (Came k.job.key) t
    by false e x g false h t = t

pub turns_came : {os : List Outgoing} {deeds : List Deed} {f : Option EndFault} {o : Option ℕ} (k : Kept) → Turns (Some k) os deeds f o → Turns None os (stores k.device (Came k.job.key) ∷ deeds) f o
turns_came k is = record { at = came_at k is }

-- a message is read that is no request; or after something went wrong
turn_fault : {c : ℕ} {j : List Item} {reqs line : List ℕ} {f f' : Option EndFault} {o : Option ℕ} (n : ℕ) → (f' ≡ None → ⊥) → DirectTurn c j reqs line f o → DirectTurn c j (n ∷ reqs) line f' o
turn_fault {c = c} {j = j} {reqs = reqs} {line = line} {f' = f'} {o = o} n wrong t = by (came c j n) refl
  where
    by : (b : Bool) → came c j n ≡ b → DirectTurn c j (n ∷ reqs) line f' o
    by true e = record { others = t.others; stands = ap (λ (b : Bool). cond (not b) (n ∷ never c j reqs) (never c j reqs)) e ∙ t.stands; all = λ fine. absurd (wrong fine) }
    by false e = record { others = n ∷ t.others; stands = ap (λ (b : Bool). cond (not b) (n ∷ never c j reqs) (never c j reqs)) e ∙ ap (λ (zs : List ℕ). n ∷ zs) t.stands; all = λ fine. absurd (wrong fine) }

turn_asks : {c : ℕ} {j : List Item} {reqs line : List ℕ} {f f' : Option EndFault} {o : Option ℕ} (n m : ℕ) → m ≡ n → f ≡ None → o ≡ Some c → DirectTurn c j reqs line f o → DirectTurn c j (m ∷ reqs) (n ∷ line) f' o
turn_asks {c = c} {j = j} {reqs = reqs} {line = line} n m same fine opens t = record {
  others = [];
  stands = ap (λ (x : ℕ). never c j (x ∷ reqs)) same ∙ ap (λ (zs : List ℕ). cond (not (came c j n)) (n ∷ zs) zs) (t.stands ∙ ap (λ (zs : List ℕ). zs ++ never c j line) (t.all fine opens));
  all = λ g h. refl;
}

module _ {os : List Outgoing} {deeds : List Deed} {f : Option EndFault} {o : Option ℕ} (ch : ℕ) (m : List ℕ) (is : Turns None os deeds f o) where
  other_at : is_request m ≡ false → (c d : ℕ) → TurnIn None os (client_reads ch m ∷ deeds) f o c d
  other_at other c d = by (ch == c)
    where
      same : requests_to d (m ∷ client_read c deeds) ≡ requests_to d (client_read c deeds)
      same = ap (λ (b : Bool). if b && option_map_or (λ (r : Request). r.device == d) (request_in m) false then length (filter is_request (client_read c deeds)) ∷ requests_to d (client_read c deeds) else requests_to d (client_read c deeds)) other

      by : (b : Bool) → DirectTurn c (journal d deeds) (requests_to d (cons_option (cond b (Some m) None) (client_read c deeds))) (said c d os (told c d deeds)) f o
      by false = is.at c d
      by true = subst (λ (xs : List ℕ). DirectTurn c (journal d deeds) xs (said c d os (told c d deeds)) f o) (sym same) (is.at c d)

  pub turns_other : is_request m ≡ false → Turns None os (client_reads ch m ∷ deeds) f o
  turns_other other = record { at = other_at other }

  wrong_at : (f' : Option EndFault) → (f' ≡ None → ⊥) → (c d : ℕ) → TurnIn None os (client_reads ch m ∷ deeds) f' o c d
  wrong_at f' wrong c d = by (ch == c)
    where
      plainly : DirectTurn c (journal d deeds) (requests_to d (client_read c deeds)) (said c d os (told c d deeds)) f' o
      plainly = let t = is.at c d in record { others = t.others; stands = t.stands; all = λ fine. absurd (wrong fine) }

      asks : (b : Bool) → DirectTurn c (journal d deeds) (if b then length (filter is_request (client_read c deeds)) ∷ requests_to d (client_read c deeds) else requests_to d (client_read c deeds)) (said c d os (told c d deeds)) f' o
      asks true = turn_fault (length (filter is_request (client_read c deeds))) wrong (is.at c d)
      asks false = plainly

      by : (b : Bool) → DirectTurn c (journal d deeds) (requests_to d (cons_option (cond b (Some m) None) (client_read c deeds))) (said c d os (told c d deeds)) f' o
      by false = plainly
      by true = asks (is_request m && option_map_or (λ (r : Request). r.device == d) (request_in m) false)

  pub turns_wrong : (f' : Option EndFault) → (f' ≡ None → ⊥) → Turns None os (client_reads ch m ∷ deeds) f' o
  turns_wrong f' wrong = record { at = wrong_at f' wrong }

  asks_at : (k : Kept) (r : Request) → f ≡ None → o ≡ Some ch → is_request m ≡ true → request_in m ≡ Some r → k.device ≡ r.device → k.job.key.channel ≡ ch → length (filter is_request (client_read ch deeds)) ≡ k.job.key.index
      → (c d : ℕ) → TurnIn (Some k) os (client_reads ch m ∷ deeds) f o c d
  asks_at k r fine opens one spelled device channel counted c d =
      subst (λ (n : ℕ). DirectTurn c (journal d deeds) (requests_to d (cons_option (cond (ch == c) (Some m) None) (client_read c deeds))) (cons_option (cond (n == c && k.device == d) (Some k.job.key.index) None) line) f o) (sym channel)
      (by (ch == c) refl)
    where
      line : List ℕ
      line = said c d os (told c d deeds)

      reqs : List ℕ
      reqs = requests_to d (client_read c deeds)

      n : ℕ
      n = length (filter is_request (client_read c deeds))

      both : (is_request m && option_map_or (λ (r : Request). r.device == d) (request_in m) false) ≡ (r.device == d)
      both = rw (one, spelled) refl

      same : requests_to d (m ∷ client_read c deeds) ≡ cond (r.device == d) (n ∷ reqs) reqs
      same = ap (λ (b : Bool). cond b (n ∷ reqs) reqs) both

      at : (ch == c) ≡ true → (x : Bool) → (r.device == d) ≡ x → (y : Bool) → (k.device == d) ≡ y → DirectTurn c (journal d deeds) (cond x (n ∷ reqs) reqs) (cons_option (cond y (Some k.job.key.index) None) line) f o
      at e true g true h = turn_asks k.job.key.index n (ap (λ (x : ℕ). length (filter is_request (client_read x deeds))) (sym (eqb-true ch c e)) ∙ counted) fine (opens ∙ ap (λ (x : ℕ). Some x) (eqb-true ch c e)) (is.at c d)
      at e false g false h = is.at c d
      at e true g false h = absurd (let no : ⊥ = grind (arith, nat_tests, g, h, device) in no)
      at e false g true h = absurd (let no : ⊥ = grind (arith, nat_tests, g, h, device) in no)

      by : (b : Bool) → (ch == c) ≡ b → DirectTurn c (journal d deeds) (requests_to d (cons_option (cond b (Some m) None) (client_read c deeds))) (cons_option (cond (b && k.device == d) (Some k.job.key.index) None) line) f o
      by false e = is.at c d
      by true e = subst (λ (xs : List ℕ). DirectTurn c (journal d deeds) xs (cons_option (cond (k.device == d) (Some k.job.key.index) None) line) f o) (sym same) (at e (r.device == d) refl (k.device == d) refl)

  pub turns_asks : (k : Kept) (r : Request) → f ≡ None → o ≡ Some ch → is_request m ≡ true → request_in m ≡ Some r → k.device ≡ r.device → k.job.key.channel ≡ ch → length (filter is_request (client_read ch deeds)) ≡ k.job.key.index
      → Turns (Some k) os (client_reads ch m ∷ deeds) f o
  turns_asks k r fine opens one spelled device channel counted = record { at = asks_at k r fine opens one spelled device channel counted }
