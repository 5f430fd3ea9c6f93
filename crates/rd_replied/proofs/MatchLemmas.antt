-- What a device's journal gives by the requests that were read before is what it gives by those that the host wrote until now.
use Rattle.std.proofs.Common.{append_assoc, ◌≡◌, ◌∙◌, refl, sym, ap, subst, inl, inr, ℕ, Bool, List, [], ◌∷◌, ◌++◌, reverse, Some, None, Option}
use Rattle.std.specs.Prelude.{Contains}
use Rattle.std.specs.List.{cons_option}
use Rattle.std.specs.Map.{lookup}
use Rattle.std.specs.Option.{option_map_or, unwrap_or}
use Rattle.std.specs.Ordering.{nat_cmp}
use Rattle.std.specs.BTreeMap.{is_at}
use Rattle.rd_base.specs.Lawful.{IsLawful}
use Rattle.rd_base.specs.declared.journal.Item.{Item}
use Rattle.rd_base.specs.declared.journal.Item.TheVariants.{Came, Cancelled, Cut, Ran, Sent}
use Rattle.rd_base.specs.declared.journal.Key.{Key}
use Rattle.rd_drive.specs.Replies.{KeyedReply, replies_at, replies_by, state_after}
use Rattle.rd_irp.specs.declared.completion.Reply.{Reply}
use Rattle.rd_irp.specs.declared.request.Request.{Request}
use Rattle.rd_journals.specs.Jobs.{AnswersRead, IsSource}
use Rattle.rd_journals.specs.Reads.{ComesRead}
use Rattle.rd_journals.proofs.HeldLemmas.{turned_has}
use Rattle.rd_journals.proofs.ShortLemmas.{came_read}
use Rattle.rd_journals.proofs.WorkLemmas.{grown_more}
use Rattle.rd_declared.specs.Devices.{Declared, device_cut, device_step}
use Rattle.rd_deeds.specs.Joining.{IsCarried}
use Rattle.rd_declared.specs.Replies.{no_request, replies_read, request_read}
use Rattle.rd_world.specs.Recording.{request_of}
use Rattle.rd_world.specs.Session.{replies_in}
use Rattle.rd_deeds.specs.Talk.{Deed, EachAfter, Has, adds, client_read, client_reads, client_writes, completes, host_begins, host_ends, host_reads, host_writes, journal, removes, request_at, stored_by, stores, submits, takes, tells}
use Rattle.rd_declared.specs.declared.device.SessionDevice.{SessionDevice}
use Rattle.rd_world.proofs.Agreeing.{agree}
use Rattle.rd_deeds.proofs.Journals.{IsPlain, plain_of}
use Rattle.rd_deeds.proofs.Lists.{each_end}
use Rattle.rd_replied.specs.Replied.{AnswersBy, ComesFrom}

-- ---- two ways to name requests that agree on what ran

-- what ran is named alike
abbrev Alike : (Key → Request) → (Key → Request) → List Item → Type 0
Alike f g items = (key : Key) (moment : ℕ) (starved parked : Bool) → Has (Ran key moment starved parked) items → f key ≡ g key

gives_alike : (f g : Key → Request) (s : SessionDevice) (items : List Item) → Alike f g items → replies_by device_step device_cut f s items ≡ replies_by device_step device_cut g s items
gives_alike f g s [] alike = refl
gives_alike f g s (Ran key moment starved parked ∷ items) alike =
    same_run (alike key moment starved parked (inl refl)) (λ (next : SessionDevice). gives_alike f g next items (λ k m a b has. alike k m a b (inr has)))
  where
    given : Request → List KeyedReply
    given r = replies_at device_step device_cut (λ k. r) s (Ran key moment starved parked)

    left : Request → SessionDevice
    left r = state_after device_step device_cut (λ k. r) s (Ran key moment starved parked)

    gives : Request → List KeyedReply
    gives r = given r ++ replies_by device_step device_cut f (left r) items

    same_run : {r q : Request} → r ≡ q → ((next : SessionDevice) → replies_by device_step device_cut f next items ≡ replies_by device_step device_cut g next items)
        → gives r ≡ given q ++ replies_by device_step device_cut g (left q) items
    same_run {q = q} e later = ap gives e ∙ ap (λ (xs : List KeyedReply). given q ++ xs) (later (left q))
gives_alike f g s (Cut cause ∷ items) alike =
    ap (λ (xs : List KeyedReply). replies_at device_step device_cut f s (Cut cause) ++ xs) (gives_alike f g (device_cut s).state items (λ k m a b has. alike k m a b (inr has)))
gives_alike f g s (Came key ∷ items) alike = gives_alike f g s items (λ k m a b has. alike k m a b (inr has))
gives_alike f g s (Cancelled key ∷ items) alike = gives_alike f g s items (λ k m a b has. alike k m a b (inr has))
gives_alike f g s (Sent key ∷ items) alike = gives_alike f g s items (λ k m a b has. alike k m a b (inr has))

-- ---- what ran was read

-- what ran came before
ran_came : (items : List Item) → EachAfter IsPlain items → (key : Key) (moment : ℕ) (starved parked : Bool) → Has (Ran key moment starved parked) items → Has (Came key) items
ran_came [] each key m a b has = absurd has
ran_came (x ∷ items) each key m a b (inl same) = inr ((subst (IsPlain items) (sym same) each.0).0)
ran_came (x ∷ items) each key m a b (inr has) = inr (ran_came items each.1 key m a b has)

-- the entries of a device so far are the oldest of those until now
journal_end : (P : List Item → Item → Type 0) (d : ℕ) (late before : List Deed) → EachAfter P (journal d (late ++ before)) → EachAfter P (journal d before)
journal_end P d [] before each = each
journal_end P d (y ∷ late) before each = by (stored_by d y) each (journal_end P d late before)
  where
    by : (o : Option Item) → EachAfter P (cons_option o (journal d (late ++ before))) → (EachAfter P (journal d (late ++ before)) → EachAfter P (journal d before)) → EachAfter P (journal d before)
    by None all older = older all
    by (Some x) all older = older all.1

has_first : {A : Type 0} (x : A) (xs ys : List A) → Has x xs → Has x (xs ++ ys)
has_first x [] ys has = absurd has
has_first x (y ∷ xs) ys (inl same) = inl same
has_first x (y ∷ xs) ys (inr has) = inr (has_first x xs ys has)

module _ (devices : List (ℕ × Declared)) (deeds : List Deed) (carried : IsCarried deeds) (lawful : (device : ℕ) → IsLawful (reverse (journal device deeds))) (reads : EachAfter ComesRead deeds) where
  -- what the journal said before names the same requests by both
  named_alike : (late before : List Deed) → deeds ≡ late ++ before → (d : ℕ) (earlier later : List Item) → reverse (journal d before) ≡ earlier ++ later → Alike (request_read before) (request_of deeds) earlier
  named_alike late before parts d earlier later stands key m a b has =
      let ran : Has (Ran key m a b) (journal d before) = turned_has (Ran key m a b) (journal d before) (subst (Has (Ran key m a b)) (sym stands) (has_first (Ran key m a b) earlier later has)) in
      let plain : EachAfter IsPlain (journal d before) = journal_end IsPlain d late before (subst (λ (ds : List Deed). EachAfter IsPlain (journal d ds)) parts (plain_of (journal d deeds) (lawful d))) in
      let (r, read, named) = came_read d key before (each_end ComesRead late before (subst (EachAfter ComesRead) parts reads)) (ran_came (journal d before) plain key m a b ran) in
      let now : request_at (client_read key.channel deeds) key.index ≡ Some r =
      subst (λ (ds : List Deed). request_at (client_read key.channel ds) key.index ≡ Some r) (sym parts) (grown_more late before key.channel key.index r read) in
      ap (λ (o : Option Request). unwrap_or o no_request) read ∙ sym (agree deeds carried key r now)

  pub gives_same : (late before : List Deed) → deeds ≡ late ++ before → (d : ℕ) (earlier later : List Item) → reverse (journal d before) ≡ earlier ++ later → replies_read devices before d earlier ≡ replies_in devices deeds d earlier
  gives_same late before parts d earlier later stands = by (lookup (is_at (nat_cmp d)) devices)
    where
      by : (o : Option Declared)
          → option_map_or (λ (x : Declared). replies_by device_step device_cut (request_read before) x.state earlier) o [] ≡ option_map_or (λ (x : Declared). replies_by device_step device_cut (request_of deeds) x.state earlier) o []
      by None = refl
      by (Some x) = gives_alike (request_read before) (request_of deeds) x.state earlier (named_alike late before parts d earlier later stands)

  source_same : (late before : List Deed) → deeds ≡ late ++ before → (key : Key) (r : Request) (reply : Reply) → IsSource devices before key r reply → ComesFrom (replies_in devices deeds) before key r reply
  source_same late before parts key r reply (inl is) = inl (record {
    earlier = is.earlier;
    later = is.later;
    stands = is.stands;
    given = subst (λ (rs : List KeyedReply). Contains rs (key, reply)) (gives_same late before parts r.device is.earlier (Sent key ∷ is.later) is.stands) is.given;
  })
  source_same late before parts key r reply (inr other) = inr other

  one_same : (late before : List Deed) (y : Deed) → deeds ≡ late ++ y ∷ before → AnswersRead devices before y → AnswersBy (replies_in devices deeds) before y
  one_same late before (completes key m) parts is = record {
    request = is.request;
    reply = is.reply;
    read = is.read;
    completes = is.completes;
    given = source_same (late ++ completes key m ∷ []) before (parts ∙ sym (append_assoc late (completes key m ∷ []) before)) key is.request is.reply is.given;
  }
  one_same late before (host_begins c) parts is = tt
  one_same late before (host_ends c) parts is = tt
  one_same late before (removes d) parts is = tt
  one_same late before (adds d) parts is = tt
  one_same late before (submits a n o) parts is = tt
  one_same late before (takes n) parts is = tt
  one_same late before (tells n) parts is = tt
  one_same late before (host_writes c m) parts is = tt
  one_same late before (host_reads c m) parts is = tt
  one_same late before (client_reads c m) parts is = tt
  one_same late before (client_writes c m) parts is = tt
  one_same late before (stores d x) parts is = tt

  pub all_same : (late before : List Deed) → deeds ≡ late ++ before → EachAfter (AnswersRead devices) before → EachAfter (AnswersBy (replies_in devices deeds)) before
  all_same late [] parts each = tt
  all_same late (y ∷ before) parts each = (one_same late before y parts each.0, all_same (late ++ y ∷ []) before (parts ∙ sym (append_assoc late (y ∷ []) before)) each.1)
