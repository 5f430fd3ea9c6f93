-- Completions answer requests in order, and no request is read while an earlier one with its pair isn't answered.
use Rattle.std.proofs.Common.{◌≡◌, ◌∙◌, refl, sym, ap, ℕ, suc, ◌≤◌, ◌==◌, ◌&&◌, Bool, true, false, cond, List, [], ◌∷◌, ◌++◌, length, Some, None, Option, arith}
use Rattle.std.specs.Prelude.{filter}
use Rattle.std.specs.List.{cons_option}
use Rattle.rd_base.specs.declared.packet.Packet.TheVariants.{IoCompletion}
use Rattle.rd_hello.specs.Moves.{is_of}
use Rattle.rd_irp.specs.declared.completion.Head.{Head}
use Rattle.rd_pending.specs.Outcomes.{Accepted}
use Rattle.rd_pending.proofs.CountLemmas.{pairs}
use Rattle.rd_pending.proofs.Tame.{newest, newest_pairs, with_pair}
use Rattle.rd_deeds.specs.Joining.{IsCarried, Stands, accepted, request_of_accepted}
use Rattle.rd_deeds.specs.Talk.{Deed, EachAfter, adds, answered, asked, client_read, client_reads, client_writes, client_wrote, completes, head_in, host_begins, host_ends, host_reads, host_writes, host_wrote, indices_of, is_request, message_asks_pair, message_has_pair, removes, stores, submits, takes, tells}
use Rattle.rd_deeds.proofs.Calls.{Does}
use Rattle.rd_deeds.proofs.Lists.{fewer_in_end}
use Rattle.rd_deeds.proofs.Messages.{head_is, packet_is, request_is}
use Rattle.rd_deeds.proofs.Written.{Matches, requests_on, written}

-- ---- what is asked

-- a message asks for a pair
abbrev pub asks : ℕ → ℕ → List ℕ → Bool
asks d i m = is_request m && message_asks_pair d i m

one_more : {A B : Type 0} (b : Bool) (x : A) (y : B) (xs : List A) (ys : List B) → length xs ≡ length ys → length (cond b (x ∷ xs) xs) ≡ length (cond b (y ∷ ys) ys)
one_more true x y xs ys e = ap suc e
one_more false x y xs ys e = e

pub length-indices : (d i : ℕ) (ms : List (List ℕ)) → length (indices_of d i ms) ≡ length (filter (asks d i) ms)
length-indices d i [] = refl
length-indices d i (m ∷ older) = one_more (asks d i m) _ _ _ _ (length-indices d i older)

-- those that ask are requests
asks_requests : (d i : ℕ) (ms : List (List ℕ)) → length (filter (asks d i) (filter is_request ms)) ≡ length (filter (asks d i) ms)
asks_requests d i [] = refl
asks_requests d i (m ∷ ms) = go (is_request m) refl (message_asks_pair d i m) (asks_requests d i ms)
  where
    go : (b : Bool) → is_request m ≡ b → (q : Bool) → length (filter (asks d i) (filter is_request ms)) ≡ length (filter (asks d i) ms)
        → length (filter (asks d i) (cond b (m ∷ filter is_request ms) (filter is_request ms))) ≡ length (cond (b && message_asks_pair d i m) (m ∷ filter (asks d i) ms) (filter (asks d i) ms))
    go true e q old = rw e (one_more (message_asks_pair d i m) m m _ _ old)
    go false e q old = old

-- what was written asks for what was accepted
matched_pairs : (d i : ℕ) (xs : List Accepted) (ms : List (List ℕ)) → Matches xs ms → length (filter (asks d i) ms) ≡ length (filter (with_pair d i) xs)
matched_pairs d i [] [] p = refl
matched_pairs d i [] (m ∷ ms) p = absurd p
matched_pairs d i (x ∷ xs) [] p = absurd p
matched_pairs d i (x ∷ xs) (m ∷ ms) p =
    ap (λ (b : Bool). length (cond b (m ∷ filter (asks d i) ms) (filter (asks d i) ms))) same ∙ one_more (with_pair d i x) m x _ _ (matched_pairs d i xs ms p.1)
  where
    same : asks d i m ≡ with_pair d i x
    same = rw (request_is m (request_of_accepted x) p.0, p.0) refl

pub asked_pairs : (client : ℕ) (deeds : List Deed) → Does client deeds → IsCarried deeds → (c d i : ℕ) → length (asked c d i deeds) ≤ pairs c d i (accepted client deeds)
asked_pairs client deeds may carried c d i =
    let w = written client deeds may c in
    let all : length (filter (asks d i) (w.unsent ++ requests_on c deeds)) ≡ pairs c d i (accepted client deeds) =
    matched_pairs d i (newest c (accepted client deeds)) (w.unsent ++ requests_on c deeds) w.matches ∙ newest_pairs c d i (accepted client deeds) in
    omega (
      arith,
      length-indices d i (client_read c deeds),
      fewer_in_end (asks d i) (host_wrote c deeds) (client_read c deeds) (carried.to_client c),
      asks_requests d i (host_wrote c deeds),
      fewer_in_end (asks d i) (w.unsent ++ requests_on c deeds) (requests_on c deeds) (w.unsent, refl),
      all,
    )

-- ---- what is answered

-- of what a client writes, completions alone complete
answered_step : (b p : Bool) (m : List ℕ) (k d i : ℕ) (ms : List (List ℕ)) (ks : List ℕ) → message_has_pair d i m ≡ p → length ks ≡ length (filter (message_has_pair d i) ms)
    → length (cons_option (cond (b && p) (Some k) None) ks) ≡ length (filter (message_has_pair d i) (cons_option (cond b (Some m) None) ms))
answered_step true true m k d i ms ks e old = rw e (ap suc old)
answered_step true false m k d i ms ks e old = rw e old
answered_step false p m k d i ms ks e old = old

written_step : (b : Bool) (m : List ℕ) (d i : ℕ) (ms : List (List ℕ)) → message_has_pair d i m ≡ false → length (filter (message_has_pair d i) (cons_option (cond b (Some m) None) ms)) ≡ length (filter (message_has_pair d i) ms)
written_step true m d i ms e = rw e refl
written_step false m d i ms e = refl

no_pair : (d i : ℕ) (m : List ℕ) → is_of IoCompletion m ≡ false → message_has_pair d i m ≡ false
no_pair d i m other = go (head_in m) refl
  where
    go : (o : Option Head) → head_in m ≡ o → message_has_pair d i m ≡ false
    go None e = rw e refl
    go (Some h) e = let is : is_of IoCompletion m ≡ true = packet_is IoCompletion IoCompletion m (head_is m h e) in absurd (cc (is, other))

pub length-answered : (deeds : List Deed) → EachAfter Stands deeds → (c d i : ℕ) → length (answered c d i deeds) ≡ length (filter (message_has_pair d i) (client_wrote c deeds))
length-answered [] stands c d i = refl
length-answered (completes key m ∷ before) stands c d i =
    answered_step (key.channel == c) (message_has_pair d i m) m key.index d i (client_wrote c before) (answered c d i before) refl (length-answered before stands.1 c d i)
length-answered (client_writes channel m ∷ before) stands c d i =
    length-answered before stands.1 c d i ∙ sym (written_step (channel == c) m d i (client_wrote c before) (no_pair d i m stands.0))
length-answered (host_begins channel ∷ before) stands c d i = length-answered before stands.1 c d i
length-answered (host_ends channel ∷ before) stands c d i = length-answered before stands.1 c d i
length-answered (removes device ∷ before) stands c d i = length-answered before stands.1 c d i
length-answered (adds device ∷ before) stands c d i = length-answered before stands.1 c d i
length-answered (submits x named o ∷ before) stands c d i = length-answered before stands.1 c d i
length-answered (takes number ∷ before) stands c d i = length-answered before stands.1 c d i
length-answered (tells n ∷ before) stands c d i = length-answered before stands.1 c d i
length-answered (host_writes channel m ∷ before) stands c d i = length-answered before stands.1 c d i
length-answered (host_reads channel m ∷ before) stands c d i = length-answered before stands.1 c d i
length-answered (client_reads channel m ∷ before) stands c d i = length-answered before stands.1 c d i
length-answered (stores device item ∷ before) stands c d i = length-answered before stands.1 c d i
