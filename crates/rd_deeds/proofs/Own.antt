-- A completion that is read is that of its own request, and the host takes it.
use Rattle.std.proofs.Common.{◌≡◌, ◌∙◌, refl, sym, ap, subst, ℕ, suc, ◌+◌, ◌≤◌, ◌==◌, ◌&&◌, Bool, true, false, cond, List, [], ◌∷◌, ◌++◌, length, map, take, Some, None, Option, arith, append_assoc, length-append, eq-eqb, eqb-true}
use Rattle.std.specs.Prelude.{filter, slice_get}
use Rattle.std.specs.List.{cons_option}
use Rattle.std.proofs.lemmas.List.{length-map, nil_from_length}
use Rattle.std.proofs.lemmas.List.Elements.{filter-append, filter_map-append}
use Rattle.rd_base.specs.declared.journal.Key.{Key}
use Rattle.rd_base.specs.declared.packet.Packet.TheVariants.{IoCompletion}
use Rattle.rd_hello.specs.Moves.{is_of}
use Rattle.rd_irp.specs.declared.completion.Head.{Head}
use Rattle.rd_irp.specs.declared.request.Request.{Request}
use Rattle.rd_pending.specs.Outcomes.{Accepted}
use Rattle.rd_pending.specs.Table.{Slot, slot_for}
use Rattle.rd_pending.proofs.AcceptedLemmas.{split_of}
use Rattle.rd_pending.proofs.CountLemmas.{pairs}
use Rattle.rd_pending.proofs.CourseLemmas.{heard_pairs}
use Rattle.rd_pending.proofs.Indices.{Indexed, indexed}
use Rattle.rd_pending.proofs.Sound.{alike_before, course, held}
use Rattle.rd_pending.proofs.Tame.{newest, newest_pairs, newest_split, with_pair}
use Rattle.rd_deeds.specs.HostDeeds.{calls_of, side_of}
use Rattle.rd_deeds.specs.Joining.{IsCarried, Stands, accepted, request_of_accepted}
use Rattle.rd_deeds.specs.Talk.{AtEachPoint, Deed, EachAfter, adds, answered, asked, client_read, client_reads, client_writes, client_wrote, completes, head_in, host_begins, host_ends, host_read, host_reads, host_writes, host_wrote, indices_of, is_request, message_asks_pair, message_has_pair, read_by_client, removes, request_at, request_in, stores, submits, takes, tells, written_by_client}
use Rattle.rd_deeds.proofs.Calls.{Does, calls_hold}
use Rattle.rd_deeds.proofs.Counting.{length-answered}
use Rattle.rd_deeds.proofs.Joined.{answers_newest, carried_now, counted, heard_is, heard_read}
use Rattle.rd_deeds.proofs.Lists.{each_end, filter_split, point_end, same_end}
use Rattle.rd_deeds.proofs.Messages.{head_is, packet_is}
use Rattle.rd_deeds.proofs.Telling.{Tells}
use Rattle.rd_deeds.proofs.Written.{Matches, Spells, requests_on, sound_side, written}

-- ---- requests that were read, among those that were accepted

split_matches : (xs : List Accepted) (us vs : List (List ℕ)) → Matches xs (us ++ vs) → (prefix : List Accepted) × (back : List Accepted) × (xs ≡ prefix ++ back) × Matches back vs
split_matches xs [] vs p = ([], xs, refl, p)
split_matches [] (u ∷ us) vs p = absurd p
split_matches (x ∷ xs) (u ∷ us) vs p =
    let (prefix, back, e, rest) = split_matches xs us vs p.1 in (x ∷ prefix, back, ap (λ (ys : List Accepted). x ∷ ys) e, rest)

pub indexed_end : (prefix back : List Accepted) → Indexed (prefix ++ back) → Indexed back
indexed_end [] back p = p
indexed_end (x ∷ prefix) back p = indexed_end prefix back p.1

pub matches_long : (xs : List Accepted) (ms : List (List ℕ)) → Matches xs ms → length ms ≡ length xs
matches_long [] [] p = refl
matches_long [] (m ∷ ms) p = absurd p
matches_long (x ∷ xs) [] p = absurd p
matches_long (x ∷ xs) (m ∷ ms) p = ap suc (matches_long xs ms p.1)

-- the indices of those with a pair
abbrev pub pair_indices : ℕ → ℕ → List Accepted → List ℕ
pair_indices d i xs = map (λ (a : Accepted). a.index) (filter (with_pair d i) xs)

indices_matched : (d i : ℕ) (xs : List Accepted) (ms : List (List ℕ)) → Matches xs (filter is_request ms) → Indexed xs → indices_of d i ms ≡ pair_indices d i xs
indices_matched d i [] [] p indexed = refl
indices_matched d i (x ∷ xs) [] p indexed = absurd p
indices_matched d i xs (m ∷ ms) p indexed = go (is_request m) refl xs p indexed (λ xs p indexed. indices_matched d i xs ms p indexed)
  where
    here : (x : Accepted) (xs : List Accepted) → is_request m ≡ true → Spells x m → x.index ≡ length xs → length (filter is_request ms) ≡ length xs → indices_of d i ms ≡ pair_indices d i xs
        → indices_of d i (m ∷ ms) ≡ pair_indices d i (x ∷ xs)
    here x xs e spelled index long old =
        let same : message_asks_pair d i m ≡ with_pair d i x = rw spelled refl in
        rw (e, same) (by (with_pair d i x))
      where
        by : (b : Bool) → cond b (length (filter is_request ms) ∷ indices_of d i ms) (indices_of d i ms) ≡ map (λ (a : Accepted). a.index) (cond b (x ∷ filter (with_pair d i) xs) (filter (with_pair d i) xs))
        by true = rw (long, sym index, old) refl
        by false = old

    go : (b : Bool) → is_request m ≡ b → (xs : List Accepted) → Matches xs (cond b (m ∷ filter is_request ms) (filter is_request ms)) → Indexed xs
        → ((xs : List Accepted) → Matches xs (filter is_request ms) → Indexed xs → indices_of d i ms ≡ pair_indices d i xs) → indices_of d i (m ∷ ms) ≡ pair_indices d i xs
    go true e [] p indexed later = absurd p
    go true e (x ∷ xs) p indexed later = here x xs e p.0 indexed.0 (matches_long xs (filter is_request ms) p.1) (later xs p.1 indexed.1)
    go false e xs p indexed later = rw e (later xs p indexed)

-- a request that was read is one that was accepted
pub record IsAccepted (xs : List Accepted) (k : ℕ) (r : Request) : Type 0 where
  pub prefix : List Accepted
  pub own : Accepted
  pub back : List Accepted
  pub parts : xs ≡ prefix ++ own ∷ back
  pub index : own.index ≡ k
  pub request : r ≡ request_of_accepted own

element_at : (xs : List Accepted) (ms : List (List ℕ)) (k : ℕ) (r : Request) → Matches xs (filter is_request ms) → Indexed xs → request_at ms k ≡ Some r → IsAccepted xs k r
element_at xs [] k r p indexed found = absurd (cc found)
element_at xs (m ∷ ms) k r p indexed found = go (is_request m) refl xs p indexed (length (filter is_request ms) == k) refl found (λ xs p indexed found. element_at xs ms k r p indexed found)
  where
    go : (b : Bool) → is_request m ≡ b → (xs : List Accepted) → Matches xs (cond b (m ∷ filter is_request ms) (filter is_request ms)) → Indexed xs
        → (q : Bool) → (length (filter is_request ms) == k) ≡ q → cond (b && q) (request_in m) (request_at ms k) ≡ Some r
        → ((xs : List Accepted) → Matches xs (filter is_request ms) → Indexed xs → request_at ms k ≡ Some r → IsAccepted xs k r) → IsAccepted xs k r
    go true e [] p indexed q e2 found later = absurd p
    go true e (x ∷ xs) p indexed true e2 found later =
        let same : r ≡ request_of_accepted x = cc (p.0, found) in
        record {
          prefix = [];
          own = x;
          back = xs;
          parts = refl;
          index = indexed.0 ∙ sym (matches_long xs (filter is_request ms) p.1) ∙ eqb-true (length (filter is_request ms)) k e2;
          request = same;
        }
    go true e (x ∷ xs) p indexed false e2 found later =
        let old = later xs p.1 indexed.1 found in
        record { prefix = x ∷ old.prefix; own = old.own; back = old.back; parts = ap (λ (ys : List Accepted). x ∷ ys) old.parts; index = old.index; request = old.request }
    go false e xs p indexed q e2 found later = later xs p indexed found

-- ---- the deed that wrote what is read

-- what a client wrote on a channel that is a completion completes a key of the channel
wrote_completion : (v : List Deed) (c : ℕ) (m : List ℕ) (h : Head) (deed : Deed) → Stands v deed → head_in m ≡ Some h → written_by_client c deed ≡ Some m → (key : Key) × (deed ≡ completes key m) × (key.channel ≡ c)
wrote_completion v c m h (completes key x) stands is e = go (key.channel == c) refl e
  where
    go : (b : Bool) → (key.channel == c) ≡ b → cond b (Some x) None ≡ Some m → (k : Key) × (completes key x ≡ completes k m) × (k.channel ≡ c)
    go true e2 e = let same : x ≡ m = cc e in (key, ap (completes key) same, eqb-true key.channel c e2)
    go false e2 e = absurd (cc e)
wrote_completion v c m h (client_writes channel x) stands is e = go (channel == c) e
  where
    go : (b : Bool) → cond b (Some x) None ≡ Some m → (k : Key) × (client_writes channel x ≡ completes k m) × (k.channel ≡ c)
    go true e =
        let same : x ≡ m = cc e in
        let named = packet_is IoCompletion IoCompletion m (head_is m h is) in
        absurd (cc (subst (λ (y : List ℕ). is_of IoCompletion y ≡ false) same stands, named))
    go false e = absurd (cc e)
wrote_completion v c m h (host_begins x) stands is e = absurd (cc e)
wrote_completion v c m h (host_ends x) stands is e = absurd (cc e)
wrote_completion v c m h (removes x) stands is e = absurd (cc e)
wrote_completion v c m h (adds x) stands is e = absurd (cc e)
wrote_completion v c m h (submits x named o) stands is e = absurd (cc e)
wrote_completion v c m h (takes x) stands is e = absurd (cc e)
wrote_completion v c m h (tells x) stands is e = absurd (cc e)
wrote_completion v c m h (host_writes x y) stands is e = absurd (cc e)
wrote_completion v c m h (host_reads x y) stands is e = absurd (cc e)
wrote_completion v c m h (client_reads x y) stands is e = absurd (cc e)
wrote_completion v c m h (stores x y) stands is e = absurd (cc e)

-- where a completion that is read comes from: the key that it answers, and how many with its pair came before
pub record Origin (before : List Deed) (c : ℕ) (m : List ℕ) (head : Head) : Type 0 where
  pub late : List Deed
  pub early : List Deed
  pub key : Key
  pub parts : before ≡ late ++ completes key m ∷ early
  pub channel : key.channel ≡ c
  pub wrote : client_wrote c early ≡ host_read c before
  pub request : Request
  pub found : request_at (client_read c early) key.index ≡ Some request
  pub newest_one : asked c head.device head.completion early ≡ key.index ∷ answered c head.device head.completion early
  pub count : length (answered c head.device head.completion early) ≡ length (filter (message_has_pair head.device head.completion) (host_read c before))

same_channel : (c : ℕ) (m : List ℕ) (ms : List (List ℕ)) → cons_option (cond (c == c) (Some m) None) ms ≡ m ∷ ms
same_channel c m ms = rw (eq-eqb c c refl) refl

pub origin : (client : ℕ) (before : List Deed) (c : ℕ) (m : List ℕ) (head : Head) → Does client before → AtEachPoint IsCarried (host_reads c m ∷ before) → EachAfter Stands before
    → EachAfter Tells before → head_in m ≡ Some head → Origin before c m head
origin client before c m head may carried stands told is =
    let prefix = carried.0.to_host c in
    let wrote : client_wrote c before ≡ prefix.0 ++ m ∷ host_read c before = prefix.1 ∙ ap (λ (ms : List (List ℕ)). prefix.0 ++ ms) (same_channel c m (host_read c before)) in
    let (u, x, v, e1, e2, same) = filter_split (written_by_client c) before prefix.0 m (host_read c before) wrote in
    let stands_x : EachAfter Stands (x ∷ v) = each_end Stands u (x ∷ v) (subst (EachAfter Stands) e1 stands) in
    let (key, is_x, channel) = wrote_completion v c m head x stands_x.0 is e2 in
    let split : before ≡ u ++ completes key m ∷ v = subst (λ (y : Deed). before ≡ u ++ y ∷ v) is_x e1 in
    let may_v : Does client (completes key m ∷ v) = each_end _ u (completes key m ∷ v) (subst (Does client) split may) in
    let carried_v : AtEachPoint IsCarried (completes key m ∷ v) = point_end IsCarried u (completes key m ∷ v) (subst (AtEachPoint IsCarried) split carried.1) in
    let stands_v : EachAfter Stands (completes key m ∷ v) = each_end Stands u (completes key m ∷ v) (subst (EachAfter Stands) split stands) in
    let told_v : EachAfter Tells (completes key m ∷ v) = each_end Tells u (completes key m ∷ v) (subst (EachAfter Tells) split told) in
    let own = told_v.0.0 in
    let pair : message_has_pair head.device head.completion m ≡ true = rw (is, eq-eqb head.device head.device refl, eq-eqb head.completion head.completion refl) refl in
    let turn = counted client v may_v.1 carried_v.1 stands_v.1 told_v.1 in
    record {
      late = u;
      early = v;
      key = key;
      parts = split;
      channel = channel;
      wrote = same;
      request = own.0;
      found = subst (λ (y : ℕ). request_at (client_read y v) key.index ≡ Some own.0) channel own.1;
      newest_one = subst (λ (y : ℕ). asked y head.device head.completion v ≡ key.index ∷ answered y head.device head.completion v) channel
          (answers_newest client v key m head.device head.completion may_v.1 (carried_now v carried_v.1) stands_v.1 turn told_v.0 pair);
      count = length-answered v stands_v.1 c head.device head.completion ∙ ap (λ (ms : List (List ℕ)). length (filter (message_has_pair head.device head.completion) ms)) same;
    }

-- ---- its own request

-- what was read by an earlier point is the end of what was accepted
read_part : (client : ℕ) (before late early : List Deed) (c : ℕ) → before ≡ late ++ early → Does client before → IsCarried before
    → (prefix : List Accepted) × (back : List Accepted) × (newest c (accepted client before) ≡ prefix ++ back) × Matches back (filter is_request (client_read c early)) × Indexed back
read_part client before late early c parts may carried =
    let w = written client before may c in
    let unread = carried.to_client c in
    let read : client_read c before ≡ client_read c late ++ client_read c early = ap (client_read c) parts ∙ filter_map-append (read_by_client c) late early in
    let all : host_wrote c before ≡ (unread.0 ++ client_read c late) ++ client_read c early =
    unread.1 ∙ ap (λ (ms : List (List ℕ)). unread.0 ++ ms) read ∙ sym (append_assoc unread.0 (client_read c late) (client_read c early)) in
    let requests : requests_on c before ≡ filter is_request (unread.0 ++ client_read c late) ++ filter is_request (client_read c early) =
    ap (filter is_request) all ∙ filter-append is_request (unread.0 ++ client_read c late) (client_read c early) in
    let whole : w.unsent ++ requests_on c before ≡ (w.unsent ++ filter is_request (unread.0 ++ client_read c late)) ++ filter is_request (client_read c early) =
    ap (λ (ms : List (List ℕ)). w.unsent ++ ms) requests ∙ sym (append_assoc w.unsent (filter is_request (unread.0 ++ client_read c late)) (filter is_request (client_read c early))) in
    let (prefix, back, e, matched) = split_matches (newest c (accepted client before)) (w.unsent ++ filter is_request (unread.0 ++ client_read c late)) (filter is_request (client_read c early))
    (subst (Matches (newest c (accepted client before))) whole w.matches) in
    (prefix, back, e, matched, indexed_end prefix back (subst Indexed e (indexed (calls_of client before) (calls_hold client before may) c).indexed))

module _ (client : ℕ) (before : List Deed) (c : ℕ) (m : List ℕ) (head : Head) (may : Does client before) (carried : AtEachPoint IsCarried before)
    (is_open : ((side_of client before).table).channel ≡ Some c) (o : Origin before c m head) where
  abbrev pub n : ℕ
  n = length (answered c head.device head.completion o.early)

  -- all requests with the pair were read by then, and all their completions but this one were taken
  pub counts : (pairs c head.device head.completion (accepted client before) ≡ suc n) × (heard_pairs head.device head.completion (course c (calls_of client before)) ≡ n)
      × (held (slot_for (side_of client before).table head.completion) head.device ≡ 1)
  counts =
      let part = read_part client before (o.late ++ completes o.key m ∷ []) o.early c (o.parts ∙ sym (append_assoc o.late (completes o.key m ∷ []) o.early)) may (carried_now before carried) in
      let asked_long : length (asked c head.device head.completion o.early) ≡ suc n = ap length o.newest_one in
      let part_long : length (filter (with_pair head.device head.completion) part.1) ≡ suc n =
      sym (length-map (filter (with_pair head.device head.completion) part.1) (λ (a : Accepted). a.index)) ∙ ap length (sym (indices_matched head.device head.completion part.1 (client_read c o.early) part.3 part.4)) ∙ asked_long in
      let all : pairs c head.device head.completion (accepted client before) ≡ length (filter (with_pair head.device head.completion) part.0) + length (filter (with_pair head.device head.completion) part.1) =
      sym (newest_pairs c head.device head.completion (accepted client before)) ∙ ap (λ (xs : List Accepted). length (filter (with_pair head.device head.completion) xs)) part.2
      ∙ ap length (filter-append (with_pair head.device head.completion) part.0 part.1) ∙ length-append {A = Accepted} (filter (with_pair head.device head.completion) part.0) (filter (with_pair head.device head.completion) part.1) in
      let even = (sound_side client before may).balanced c is_open head.device head.completion in
      let taken_few : heard_pairs head.device head.completion (course c (calls_of client before)) ≤ n =
      omega (arith, heard_is client before c head.device head.completion, heard_read client c head.device head.completion before may, o.count) in
      let one = held_one (slot_for (side_of client before).table head.completion) head.device in
      (omega (arith, all, part_long, even, taken_few, one), omega (arith, all, part_long, even, taken_few, one), omega (arith, all, part_long, even, taken_few, one))
    where
      held_one : (x : Option Slot) (d : ℕ) → held x d ≤ 1
      held_one None d = omega arith
      held_one (Some x) d = by (x.device == d)
        where
          by : (b : Bool) → cond b 1 0 ≤ 1
          by true = omega arith
          by false = omega arith

  -- the request with as many before it is the one that the completion answers
  pub own_request : (k : ℕ) (a : Accepted) → slice_get (accepted client before) k ≡ Some a → a.channel ≡ c → a.device ≡ head.device → a.id ≡ head.completion → alike_before (take k (accepted client before)) a ≡ n
      → (a.index ≡ o.key.index) × (o.request ≡ request_of_accepted a)
  own_request k a at in_c of_d with_i earlier =
      let d : ℕ = head.device in
      let i : ℕ = head.completion in
      let part = read_part client before (o.late ++ completes o.key m ∷ []) o.early c (o.parts ∙ sym (append_assoc o.late (completes o.key m ∷ []) o.early)) may (carried_now before carried) in
      let split = newest_split (take k (accepted client before)) (split_of k (accepted client before) a at).0 a in
      let parts : newest c (accepted client before) ≡ split.0 ++ a ∷ newest c (take k (accepted client before)) =
      subst (λ (x : ℕ). newest x (accepted client before) ≡ split.0 ++ a ∷ newest x (take k (accepted client before))) in_c (ap (newest a.channel) (split_of k (accepted client before) a at).1 ∙ split.1) in
      let own_pair : with_pair d i a ≡ true = rw (eq-eqb a.device d of_d, eq-eqb a.id i with_i) refl in
      let pairs_are : length (filter (with_pair d i) (newest c (take k (accepted client before)))) ≡ n = newest_pairs c d i (take k (accepted client before)) ∙ sym (same_pairs (take k (accepted client before))) ∙ earlier in
      let filtered : filter (with_pair d i) (newest c (accepted client before)) ≡ filter (with_pair d i) split.0 ++ a ∷ filter (with_pair d i) (newest c (take k (accepted client before))) =
      ap (filter (with_pair d i)) parts ∙ filter-append (with_pair d i) split.0 (a ∷ newest c (take k (accepted client before)))
      ∙ ap (λ (b : Bool). filter (with_pair d i) split.0 ++ cond b (a ∷ filter (with_pair d i) (newest c (take k (accepted client before)))) (filter (with_pair d i) (newest c (take k (accepted client before))))) own_pair in
      let total : length (filter (with_pair d i) (newest c (accepted client before))) ≡ suc n = newest_pairs c d i (accepted client before) ∙ counts.0 in
      let none : filter (with_pair d i) split.0 ≡ [] =
      nil_from_length (filter (with_pair d i) split.0) (omega (arith, total, ap length filtered, length-append {A = Accepted} (filter (with_pair d i) split.0) (a ∷ filter (with_pair d i) (newest c (take k (accepted client before)))), pairs_are)) in
      let first : pair_indices d i (newest c (accepted client before)) ≡ a.index ∷ pair_indices d i (newest c (take k (accepted client before))) =
      ap (map (λ (x : Accepted). x.index)) (filtered ∙ ap (λ (xs : List Accepted). xs ++ a ∷ filter (with_pair d i) (newest c (take k (accepted client before)))) none) in
      let asked_is : asked c d i o.early ≡ pair_indices d i part.1 = indices_matched d i part.1 (client_read c o.early) part.3 part.4 in
      let part_long : length (filter (with_pair d i) part.1) ≡ suc n = sym (length-map (filter (with_pair d i) part.1) (λ (x : Accepted). x.index)) ∙ ap length (sym asked_is) ∙ ap length o.newest_one in
      let parted : filter (with_pair d i) (newest c (accepted client before)) ≡ filter (with_pair d i) part.0 ++ filter (with_pair d i) part.1 = ap (filter (with_pair d i)) part.2 ∙ filter-append (with_pair d i) part.0 part.1 in
      let none_more : filter (with_pair d i) part.0 ≡ [] =
      nil_from_length (filter (with_pair d i) part.0) (omega (arith, total, ap length parted, length-append {A = Accepted} (filter (with_pair d i) part.0) (filter (with_pair d i) part.1), part_long)) in
      let second : pair_indices d i (newest c (accepted client before)) ≡ o.key.index ∷ answered c d i o.early =
      ap (map (λ (x : Accepted). x.index)) (parted ∙ ap (λ (xs : List Accepted). xs ++ filter (with_pair d i) part.1) none_more) ∙ sym asked_is ∙ o.newest_one in
      let index : a.index ≡ o.key.index = first_of (sym first ∙ second) in
      let found = element_at part.1 (client_read c o.early) o.key.index o.request part.3 part.4 o.found in
      let placed : newest c (accepted client before) ≡ (part.0 ++ found.prefix) ++ found.own ∷ found.back = part.2 ∙ ap (λ (xs : List Accepted). part.0 ++ xs) found.parts ∙ sym (append_assoc part.0 found.prefix (found.own ∷ found.back)) in
      let all_indexed = (indexed (calls_of client before) (calls_hold client before may) c).indexed in
      let own_index : a.index ≡ length (newest c (take k (accepted client before))) = (indexed_end split.0 (a ∷ newest c (take k (accepted client before))) (subst Indexed parts all_indexed)).0 in
      let its_index : (found.own).index ≡ length found.back = (indexed_end (part.0 ++ found.prefix) (found.own ∷ found.back) (subst Indexed placed all_indexed)).0 in
      let ends : a ∷ newest c (take k (accepted client before)) ≡ found.own ∷ found.back =
      same_end split.0 (a ∷ newest c (take k (accepted client before))) (part.0 ++ found.prefix) (found.own ∷ found.back) (sym parts ∙ placed) (omega (arith, own_index, its_index, index, found.index)) in
      let same : a ≡ found.own = first_one ends in
      (index, found.request ∙ ap request_of_accepted (sym same))
    where
      first_of : {x y : ℕ} {xs ys : List ℕ} → x ∷ xs ≡ y ∷ ys → x ≡ y
      first_of e = cc e

      first_one : {x y : Accepted} {xs ys : List Accepted} → x ∷ xs ≡ y ∷ ys → x ≡ y
      first_one e = cc e

      same_pairs : (xs : List Accepted) → alike_before xs a ≡ pairs c head.device head.completion xs
      same_pairs xs = rw (in_c, of_d, with_i) refl
