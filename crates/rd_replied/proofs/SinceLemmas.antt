-- Where a cut alone gives a reply, or a request is cancelled, its device was removed since.
use Rattle.std.proofs.Common.{◌≡◌, ◌∙◌, refl, sym, ap, subst, inl, inr, ℕ, zero, suc, ◌<◌, arith, append_assoc, List, [], ◌∷◌, ◌++◌, reverse, Some, None, Option}
use Rattle.std.specs.Prelude.{Contains, slice_get}
use Rattle.std.specs.List.{cons_option}
use Rattle.std.specs.Map.{lookup}
use Rattle.std.specs.Option.{option_map_or}
use Rattle.std.specs.Ordering.{nat_cmp}
use Rattle.std.specs.BTreeMap.{is_at}
use Rattle.std.proofs.lemmas.List.{reverse-append, reverse-reverse}
use Rattle.rd_base.specs.Lawful.{IsBefore, IsLawful}
use Rattle.rd_base.specs.declared.journal.Cause.{Cause}
use Rattle.rd_base.specs.declared.journal.Cause.TheVariants.{Dropped, Removed}
use Rattle.rd_base.specs.declared.journal.Item.{Item}
use Rattle.rd_base.specs.declared.journal.Item.TheVariants.{Came, Cancelled, Cut, Ran, Sent}
use Rattle.rd_base.specs.declared.journal.Key.{Key}
use Rattle.rd_drive.specs.Replies.{replies_by}
use Rattle.rd_irp.specs.declared.completion.Reply.{Reply}
use Rattle.rd_irp.specs.declared.request.Request.{Request}
use Rattle.rd_journals.specs.Stations.{AreFit}
use Rattle.rd_journals.proofs.ReplyLemmas.{fit_at}
use Rattle.rd_journals.proofs.WorkLemmas.{grown_more}
use Rattle.rd_station.proofs.Members.{from_contains, has_append, has_left}
use Rattle.rd_declared.specs.Devices.{Declared, device_cut, device_step}
use Rattle.rd_world.specs.Recording.{request_of}
use Rattle.rd_world.specs.Session.{replies_in}
use Rattle.rd_deeds.specs.Talk.{Deed, EachAfter, Has, adds, client_read, client_reads, client_writes, completes, host_begins, host_ends, host_reads, host_writes, journal, removes, request_at, stored_by, stores, submits, takes, tells}
use Rattle.rd_deeds.specs.Told.{RemovedSince}
use Rattle.rd_deeds.proofs.Journals.{HasRun}
use Rattle.rd_replied.specs.Removals.{IsCutSince, IsGoneSince, TellsGone}
use Rattle.rd_replied.specs.Replied.{AnswersBy, ComesFrom}
use Rattle.rd_replied.specs.Since.{AnswersSince, IsAnswerSince}
use Rattle.rd_replied.proofs.CutLemmas.{gives_run, is_before, since_add, since_join, since_of, turn}

-- ---- lists

split_of : (x : Item) (xs : List Item) → Has x xs → (first : List Item) × (last : List Item) × (xs ≡ first ++ x ∷ last)
split_of x [] has = absurd has
split_of x (y ∷ xs) (inl same) = ([], xs, ap (λ (z : Item). z ∷ xs) (sym same))
split_of x (y ∷ xs) (inr has) = let (first, last, is) = split_of x xs has in (y ∷ first, last, ap (λ (zs : List Item). y ∷ zs) is)

journal_parts : (d : ℕ) (late before : List Deed) → journal d (late ++ before) ≡ journal d late ++ journal d before
journal_parts d [] before = refl
journal_parts d (y ∷ late) before = by (stored_by d y) (journal_parts d late before)
  where
    by : (o : Option Item) → journal d (late ++ before) ≡ journal d late ++ journal d before → cons_option o (journal d (late ++ before)) ≡ cons_option o (journal d late) ++ journal d before
    by None is = is
    by (Some x) is = ap (λ (xs : List Item). x ∷ xs) is

since_right : (key : Key) (items old : List Item) → IsCutSince old key → IsCutSince (items ++ old) key
since_right key [] old is = is
since_right key (x ∷ items) old is = since_add key x (items ++ old) (since_right key items old is)

since_left : (key : Key) (items old : List Item) → IsCutSince items key → IsCutSince (items ++ old) key
since_left key [] old is = absurd is
since_left key (Cut Removed ∷ items) old (inl has) = inl (has_left (Came key) items old has)
since_left key (Cut Removed ∷ items) old (inr is) = inr (since_left key items old is)
since_left key (Cut Dropped ∷ items) old is = since_left key items old is
since_left key (Came k ∷ items) old is = since_left key items old is
since_left key (Ran k m s p ∷ items) old is = since_left key items old is
since_left key (Cancelled k ∷ items) old is = since_left key items old is
since_left key (Sent k ∷ items) old is = since_left key items old is

at_has : (xs : List Item) (i : ℕ) (y : Item) → slice_get xs i ≡ Some y → Has y xs
at_has [] i y e = absurd (cc (e))
at_has (x ∷ xs) zero y e = let same : x ≡ y = cc (e) in inl (sym same)
at_has (x ∷ xs) (suc i) y e = inr (at_has xs i y e)

before_cut : (key : Key) (xs : List Item) (i j : ℕ) → i < j → slice_get xs i ≡ Some (Came key) → slice_get xs j ≡ Some (Cut Removed) → IsCutSince (reverse xs) key
before_cut key [] i j less a b = absurd (cc (a))
before_cut key (x ∷ xs) i zero less a b = absurd (omega (arith, less))
before_cut key (x ∷ xs) zero (suc j) less a b =
    let same : x ≡ Came key = cc (a) in
    subst (λ (ys : List Item). IsCutSince ys key) (sym (reverse-append (x ∷ []) xs)) (since_join key (reverse xs) (x ∷ []) (turn (Cut Removed) xs (at_has xs j (Cut Removed) b)) (inl (sym same)))
before_cut key (x ∷ xs) (suc i) (suc j) less a b =
    subst (λ (ys : List Item). IsCutSince ys key) (sym (reverse-append (x ∷ []) xs)) (since_left key (reverse xs) (x ∷ []) (before_cut key xs i j (omega (arith, less)) a b))

module _ (devices : List (ℕ × Declared)) (deeds : List Deed) (fit : AreFit devices) (lawful : (device : ℕ) → IsLawful (reverse (journal device deeds))) where
  all_parts : (late before : List Deed) → deeds ≡ late ++ before → (d : ℕ) → reverse (journal d deeds) ≡ reverse (journal d before) ++ reverse (journal d late)
  all_parts late before parts d = ap (λ (ds : List Deed). reverse (journal d ds)) parts ∙ ap reverse (journal_parts d late before) ∙ reverse-append (journal d late) (journal d before)

  -- a request that was cancelled was overtaken by a removal
  cancelled_since : (late before : List Deed) → deeds ≡ late ++ before → (d : ℕ) (key : Key) → Has (Cancelled key) (journal d before) → IsCutSince (journal d before) key
  cancelled_since late before parts d key has =
      let (first, last, is) = split_of (Cancelled key) (reverse (journal d before)) (turn (Cancelled key) (journal d before) has) in
      let (i, j, less, a, b) = (lawful d).cancelled_after_removal first (Cancelled key) (last ++ reverse (journal d late)) (all_parts late before parts d ∙ ap (λ (xs : List Item). xs ++ reverse (journal d late)) is ∙ append_assoc first (Cancelled key ∷ last) (reverse (journal d late))) in
      subst (λ (xs : List Item). IsCutSince xs key) (ap reverse (sym is) ∙ reverse-reverse (journal d before))
      (subst (λ (xs : List Item). IsCutSince xs key) (sym (reverse-append first (Cancelled key ∷ last))) (since_right key (reverse (Cancelled key ∷ last)) (reverse first) (before_cut key first i j less a b)))

  -- what a cut alone replies to ran before, so it came before
  ran_first : (d : ℕ) (key : Key) (reply : Reply) (xs : List Item) → Contains (replies_in devices deeds d xs) (key, reply) → HasRun key xs
  ran_first d key reply xs = by (lookup (is_at (nat_cmp d)) devices) refl
    where
      by : (o : Option Declared) → lookup (is_at (nat_cmp d)) devices ≡ o → Contains (option_map_or (λ (x : Declared). replies_by device_step device_cut (request_of deeds) x.state xs) o []) (key, reply) → HasRun key xs
      by None e has = absurd (omega (arith, has.1))
      by (Some x) e has =
          let own = fit_at devices d x fit e in
          elim (gives_run (request_of deeds) key reply xs x.state own.0 (from_contains (replies_by device_step device_cut (request_of deeds) x.state xs) (key, reply) has)) [ inl waits ↦ absurd (subst (Has waits.0) own.1 waits.1) | inr run ↦ run ]

  cut_since : (late before : List Deed) → deeds ≡ late ++ before → (d : ℕ) (key : Key) (reply : Reply) (earlier later : List Item) → reverse (journal d before) ≡ earlier ++ Sent key ∷ later
      → (first last : List Item) (cause : Cause) → earlier ≡ first ++ Cut cause ∷ last → Contains (replies_in devices deeds d (first ++ Cut cause ∷ [])) (key, reply) → IsCutSince (journal d before) key
  cut_since late before parts d key reply earlier later stands first last cause is given = by cause is
    where
      ran : HasRun key first
      ran =
          let (m, s, p, has) = ran_first d key reply (first ++ Cut cause ∷ []) given in
          elim (has_append (Ran key m s p) first (Cut cause ∷ []) has) [ inl there ↦ (m, s, p, there) | inr last ↦ elim last [ inl same ↦ absurd (cc (same)) | inr none ↦ absurd none ] ]

      whole : reverse (journal d deeds) ≡ earlier ++ Sent key ∷ (later ++ reverse (journal d late))
      whole = all_parts late before parts d ∙ ap (λ (xs : List Item). xs ++ reverse (journal d late)) stands ∙ append_assoc earlier (Sent key ∷ later) (reverse (journal d late))

      came : Has (Came key) first
      came =
          let (m, s, p, has) = ran in
          let (one, two, parted) = split_of (Ran key m s p) first has in
          let rest : List Item = (Cut cause ∷ last) ++ Sent key ∷ (later ++ reverse (journal d late)) in
          let at : reverse (journal d deeds) ≡ one ++ Ran key m s p ∷ (two ++ rest) =
          whole ∙ ap (λ (xs : List Item). xs ++ Sent key ∷ (later ++ reverse (journal d late))) is ∙ append_assoc first (Cut cause ∷ last) (Sent key ∷ (later ++ reverse (journal d late)))
          ∙ ap (λ (xs : List Item). xs ++ rest) parted ∙ append_assoc one (Ran key m s p ∷ two) rest in
          subst (Has (Came key)) (sym parted) (has_left (Came key) one (Ran key m s p ∷ two) (from_contains one (Came key) ((lawful d).runs_once one (Ran key m s p) (two ++ rest) at).0))

      by : (why : Cause) → earlier ≡ first ++ Cut why ∷ last → IsCutSince (journal d before) key
      by Dropped e = absurd (((lawful d).drop_forgets earlier (Sent key) (later ++ reverse (journal d late)) whole).0 (subst (λ (xs : List Item). IsBefore xs (Came key) (Cut Dropped)) (sym e) (is_before (Came key) (Cut Dropped) first last came)))
      by Removed e =
          subst (λ (xs : List Item). IsCutSince xs key) (reverse-reverse (journal d before))
          (subst (λ (xs : List Item). IsCutSince (reverse xs) key) (sym (stands ∙ ap (λ (xs : List Item). xs ++ Sent key ∷ later) e ∙ append_assoc first (Cut Removed ∷ last) (Sent key ∷ later))) (since_of key first (last ++ Sent key ∷ later) came))

  removed_since : (d : ℕ) (key : Key) (r : Request) (before : List Deed) → request_at (client_read key.channel before) key.index ≡ Some r → IsGoneSince d key before → RemovedSince d key r before
  removed_since d key r before read (late, early, m, parts, says, (q, was, named)) =
      let now : request_at (client_read key.channel before) key.index ≡ Some q =
      subst (λ (ds : List Deed). request_at (client_read key.channel ds) key.index ≡ Some q) (sym parts) (grown_more late (client_writes key.channel m ∷ early) key.channel key.index q was) in
      let both : Some q ≡ Some r = sym now ∙ read in
      let same : q ≡ r = cc (both) in
      (late, early, m, parts, says, was ∙ ap (λ (x : Request). Some x) same)

  one_since : (late before : List Deed) (key : Key) (r : Request) (reply : Reply) → deeds ≡ late ++ before → request_at (client_read key.channel before) key.index ≡ Some r
      → ((device : ℕ) → IsCutSince (journal device before) key → IsGoneSince device key before) → ComesFrom (replies_in devices deeds) before key r reply → IsAnswerSince (replies_in devices deeds) before key r reply
  one_since late before key r reply parts read gone (inl is) = inl (record {
    earlier = is.earlier;
    later = is.later;
    stands = is.stands;
    given = is.given;
    cut = λ first last cause e hadnt has. removed_since r.device key r before read (gone r.device (cut_since late before parts r.device key reply is.earlier is.later is.stands first last cause e has));
  })
  one_since late before key r reply parts read gone (inr (inl (cancelled, same))) = inr (inl (cancelled, same, removed_since r.device key r before read (gone r.device (cancelled_since late before parts r.device key cancelled))))
  one_since late before key r reply parts read gone (inr (inr direct)) = inr (inr direct)

  deed_since : (late before : List Deed) (y : Deed) → deeds ≡ late ++ y ∷ before → TellsGone before y → AnswersBy (replies_in devices deeds) before y → AnswersSince (replies_in devices deeds) before y
  deed_since late before (completes key m) parts gone is = record {
    request = is.request;
    reply = is.reply;
    read = is.read;
    completes = is.completes;
    given = one_since (late ++ completes key m ∷ []) before key is.request is.reply (parts ∙ sym (append_assoc late (completes key m ∷ []) before)) is.read gone is.given;
  }
  deed_since late before (host_begins c) parts gone is = tt
  deed_since late before (host_ends c) parts gone is = tt
  deed_since late before (removes d) parts gone is = tt
  deed_since late before (adds d) parts gone is = tt
  deed_since late before (submits a n o) parts gone is = tt
  deed_since late before (takes n) parts gone is = tt
  deed_since late before (tells n) parts gone is = tt
  deed_since late before (host_writes c m) parts gone is = tt
  deed_since late before (host_reads c m) parts gone is = tt
  deed_since late before (client_reads c m) parts gone is = tt
  deed_since late before (client_writes c m) parts gone is = tt
  deed_since late before (stores d x) parts gone is = tt

  pub all_since : (late before : List Deed) → deeds ≡ late ++ before → EachAfter TellsGone before → EachAfter (AnswersBy (replies_in devices deeds)) before → EachAfter (AnswersSince (replies_in devices deeds)) before
  all_since late [] parts gone each = tt
  all_since late (y ∷ before) parts gone each = (deed_since late before y parts gone.0 each.0, all_since (late ++ y ∷ []) before (parts ∙ sym (append_assoc late (y ∷ []) before)) gone.1 each.1)
