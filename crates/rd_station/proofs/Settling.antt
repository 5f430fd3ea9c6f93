-- What ends make of the jobs that wait inside a device, job by job and as a station has it.
use Rattle.std.proofs.Common.{◌≡◌, ◌∙◌, refl, sym, ap, subst, inl, inr, ℕ, suc, Bool, true, false, cond, not, List, [], ◌∷◌, ◌++◌, ◌||◌, length, map, arith, append_assoc}
use Rattle.std.specs.Prelude.{Some, filter, find}
use Rattle.std.specs.List.{flat_map}
use Rattle.std.specs.Option.{option_map_or}
use Rattle.rd_base.specs.declared.journal.Key.{Key}
use Rattle.rd_drive.specs.declared.step.End.{End}
use Rattle.rd_drive.specs.Device.{AreEnded, Parked}
use Rattle.rd_station.specs.declared.answers.Completion.{Completion}
use Rattle.rd_station.specs.declared.held.ParkedJob.{ParkedJob}
use Rattle.rd_station.specs.Queues.{by_first, settled_jobs}
use Rattle.rd_station.specs.Station.{completion_of, ended_completion, is_ended, is_key}
use Rattle.rd_station.specs.Tied.{as_parked}
use Rattle.rd_station.proofs.Members.{AreApart, Has, apart_key, has_map, key_self}
use Rattle.rd_station.proofs.Counts.{filter_same}
use Rattle.rd_station.proofs.Ending.{end_among, end_key, parked_key, same_keys, unended}

-- What ends make of jobs, as the station has it, and of which none is left over.
pub record AreSettled (ps : List ParkedJob) (ends : List End) : Type 0 where
  pub ready : (settled_jobs ps ends).0 ≡ flat_map (ended_completion ps) ends
  pub left : (settled_jobs ps ends).1 ≡ filter (λ p. not (is_ended ends p)) ps
  pub all : (settled_jobs ps ends).2 ≡ []

-- the completions of jobs among which one that has another key than every end stands first
others_complete : (p : ParkedJob) (ps : List ParkedJob) (ends : List End) → ¬ (Has p.key (map end_key ends)) → flat_map (ended_completion (p ∷ ps)) ends ≡ flat_map (ended_completion ps) ends
others_complete p ps [] none = refl
others_complete p ps (e ∷ ends) none = λ i.
    option_map_or (λ (q : ParkedJob). completion_of q.key q.completion q.kind e.reply ∷ []) (cond (apart_key p.key e.key (λ same. none (inl same)) i) (Some p) (find (λ (q : ParkedJob). is_key q.key e.key) ps)) []
    ++ others_complete p ps ends (λ has. none (inr has)) i

-- a job that no end is of stays first among those that wait on
stays_first : (p : ParkedJob) (ps : List ParkedJob) (ends : List End) → ¬ (Has p.key (map end_key ends)) → settled_jobs (p ∷ ps) ends ≡ ((settled_jobs ps ends).0, p ∷ (settled_jobs ps ends).1, (settled_jobs ps ends).2)
stays_first p [] [] none = refl
stays_first p (q ∷ ps) [] none = refl
stays_first p ps (e ∷ ends) none = ap (λ b. cond {A = List Completion × List ParkedJob × List End} b
    (completion_of p.key p.completion p.kind e.reply ∷ (settled_jobs ps ends).0, (settled_jobs ps ends).1, (settled_jobs ps ends).2)
    ((settled_jobs ps (e ∷ ends)).0, p ∷ (settled_jobs ps (e ∷ ends)).1, (settled_jobs ps (e ∷ ends)).2)) (apart_key p.key e.key (λ same. none (inl same)))

pub are_settled : (ps : List ParkedJob) (ends : List End) (left : List Parked) → AreEnded (map as_parked ps) ends left → AreApart (map parked_key ps) → AreSettled ps ends
are_settled [] ends left are apart = subst (AreSettled []) (sym are.0) (record { ready = refl; left = refl; all = refl })
are_settled (p ∷ ps) ends left (inl one) apart = subst (AreSettled (p ∷ ps)) (sym one.2) (here (are_settled ps one.1 left one.4 apart.1))
  where
    e : End
    e = one.0

    es : List End
    es = one.1

    own : is_key p.key e.key ≡ true
    own = ap (is_key p.key) one.3.0 ∙ key_self p.key

    others : ¬ (Has p.key (map end_key es))
    others has = apart.0 (subst (Has p.key) (same_keys ps) (end_among (map as_parked ps) es left one.4 p.key has))

    first : settled_jobs (p ∷ ps) (e ∷ es) ≡ (completion_of p.key p.completion p.kind e.reply ∷ (settled_jobs ps es).0, (settled_jobs ps es).1, (settled_jobs ps es).2)
    first = ap (λ b. cond {A = List Completion × List ParkedJob × List End} b
        (completion_of p.key p.completion p.kind e.reply ∷ (settled_jobs ps es).0, (settled_jobs ps es).1, (settled_jobs ps es).2)
        ((settled_jobs ps (e ∷ es)).0, p ∷ (settled_jobs ps (e ∷ es)).1, (settled_jobs ps (e ∷ es)).2)) own

    completes : ended_completion (p ∷ ps) e ≡ completion_of p.key p.completion p.kind e.reply ∷ []
    completes = ap (λ b. option_map_or (λ (q : ParkedJob). completion_of q.key q.completion q.kind e.reply ∷ []) (cond b (Some p) (find (λ (q : ParkedJob). is_key q.key e.key) ps)) []) own

    -- the others end as they do by the further ends
    same : filter (λ q. not (is_ended es q)) ps ≡ filter (λ q. not (is_ended (e ∷ es) q)) ps
    same = filter_same (λ q. not (is_ended es q)) (λ q. not (is_ended (e ∷ es) q)) ps
        (λ q has. sym (ap (λ b. not (b || is_ended es q)) (apart_key e.key q.key (λ s. apart.0 (subst (λ (k : Key). Has k (map parked_key ps)) (sym s ∙ one.3.0) (has_map parked_key q ps has))))))

    gone : is_ended (e ∷ es) p ≡ true
    gone = ap (λ b. b || is_ended es p) (ap (λ (k : Key). is_key k p.key) one.3.0 ∙ key_self p.key)

    here : AreSettled ps es → AreSettled (p ∷ ps) (e ∷ es)
    here later = record {
      ready = ap (λ (r : List Completion × List ParkedJob × List End). r.0) first ∙ (λ i. sym completes i ++ (later.ready ∙ sym (others_complete p ps es others)) i);
      left = ap (λ (r : List Completion × List ParkedJob × List End). r.1) first ∙ later.left ∙ same ∙ sym (ap (λ b. cond (not b) (p ∷ filter (λ q. not (is_ended (e ∷ es) q)) ps) (filter (λ q. not (is_ended (e ∷ es) q)) ps)) gone);
      all = ap (λ (r : List Completion × List ParkedJob × List End). r.2) first ∙ later.all;
    }
are_settled (p ∷ ps) ends left (inr on) apart = stays (are_settled ps ends on.0 on.2 apart.1)
  where
    none : ¬ (Has p.key (map end_key ends))
    none has = apart.0 (subst (Has p.key) (same_keys ps) (end_among (map as_parked ps) ends on.0 on.2 p.key has))

    stays : AreSettled ps ends → AreSettled (p ∷ ps) ends
    stays later = record {
      ready = ap (λ (r : List Completion × List ParkedJob × List End). r.0) (stays_first p ps ends none) ∙ later.ready ∙ sym (others_complete p ps ends none);
      left = ap (λ (r : List Completion × List ParkedJob × List End). r.1) (stays_first p ps ends none) ∙ ap (λ (qs : List ParkedJob). p ∷ qs) later.left
          ∙ sym (ap (λ b. cond (not b) (p ∷ filter (λ q. not (is_ended ends q)) ps) (filter (λ q. not (is_ended ends q)) ps)) (unended ends p none));
      all = ap (λ (r : List Completion × List ParkedJob × List End). r.2) (stays_first p ps ends none) ∙ later.all;
    }

-- ---- job by job

-- Of the jobs that waited some are still to be looked at, and stand before those that wait on; so far these became ready, with these ends left.
pub record Settling (ps : List ParkedJob) (ready : List Completion) (ends : List End) (waiting : List ParkedJob) (ready_now : List Completion) (ends_now : List End) (count : ℕ) : Type 0 where
  pub rest : List ParkedJob
  pub kept : List ParkedJob
  pub count_is : length rest ≡ count
  pub waits : waiting ≡ rest ++ kept
  pub ready_is : ready ++ (settled_jobs ps ends).0 ≡ ready_now ++ (settled_jobs rest ends_now).0
  pub left_is : (settled_jobs ps ends).1 ≡ kept ++ (settled_jobs rest ends_now).1
  pub ends_is : (settled_jobs ps ends).2 ≡ (settled_jobs rest ends_now).2

append_nil : {A : Type 0} (xs : List A) → xs ++ [] ≡ xs
append_nil [] = refl
append_nil {A} (x ∷ xs) = ap (λ (ys : List A). x ∷ ys) (append_nil xs)

-- at first none was looked at
pub settling_first : (ps : List ParkedJob) (ready : List Completion) (ends : List End) → Settling ps ready ends ps ready ends (length ps)
settling_first ps ready ends = record { rest = ps; kept = []; count_is = refl; waits = sym (append_nil ps); ready_is = refl; left_is = refl; ends_is = refl }

-- without ends all wait on
settled_nil : (ps : List ParkedJob) → settled_jobs ps [] ≡ ([], ps, [])
settled_nil [] = refl
settled_nil (p ∷ ps) = refl

-- without ends nothing becomes ready
pub settled_none : (ready : List Completion) (ps : List ParkedJob) (ends : List End) → ends ≡ [] → (ps ≡ (settled_jobs ps ends).1) × (ready ≡ ready ++ (settled_jobs ps ends).0)
settled_none ready ps ends none =
    let is : settled_jobs ps ends ≡ ([], ps, []) = ap (settled_jobs ps) none ∙ settled_nil ps in
    (λ i. (sym is i).1, sym (ap (λ (r : List Completion × List ParkedJob × List End). ready ++ r.0) is ∙ append_nil ready))

-- the first of the rest is looked at
pub settling_next : (ps : List ParkedJob) (ready : List Completion) (ends : List End) (waiting : List ParkedJob) (ready_now : List Completion) (ends_now : List End) (n : ℕ)
    → Settling ps ready ends waiting ready_now ends_now (suc n) → (job : ParkedJob) (jobs : List ParkedJob) → waiting ≡ job ∷ jobs
    → (waiting_then : List ParkedJob) (ready_then : List Completion) (ends_then : List End) → by_first job jobs ready_now ends_now ≡ (waiting_then, ready_then, ends_then)
    → Settling ps ready ends waiting_then ready_then ends_then n
settling_next ps ready ends waiting ready_now ends_now n is job jobs e waiting_then ready_then ends_then goes = by is.rest is.count_is is.waits is.ready_is is.left_is is.ends_is
  where
    Goal : List ParkedJob → List Completion → List End → Type 0
    Goal w r es = Settling ps ready ends w r es n

    by : (rest : List ParkedJob) → length rest ≡ suc n → waiting ≡ rest ++ is.kept → ready ++ (settled_jobs ps ends).0 ≡ ready_now ++ (settled_jobs rest ends_now).0
        → (settled_jobs ps ends).1 ≡ is.kept ++ (settled_jobs rest ends_now).1 → (settled_jobs ps ends).2 ≡ (settled_jobs rest ends_now).2 → Goal waiting_then ready_then ends_then
    by [] count waits ready_is left_is ends_is = absurd (omega (arith, count))
    by (q ∷ qs) count waits ready_is left_is ends_is =
        subst (λ (t : List ParkedJob × List Completion × List End). Goal t.0 t.1 t.2) (same ∙ goes) (looked ends_now ready_is left_is ends_is)
      where
        here : q ∷ (qs ++ is.kept) ≡ job ∷ jobs
        here = sym waits ∙ e

        same : by_first q (qs ++ is.kept) ready_now ends_now ≡ by_first job jobs ready_now ends_now
        same = let first : q ≡ job = cc in let others : qs ++ is.kept ≡ jobs = cc in λ i. by_first (first i) (others i) ready_now ends_now

        less : length qs ≡ n
        less = omega (arith, count)

        looked : (es : List End) → ready ++ (settled_jobs ps ends).0 ≡ ready_now ++ (settled_jobs (q ∷ qs) es).0 → (settled_jobs ps ends).1 ≡ is.kept ++ (settled_jobs (q ∷ qs) es).1 → (settled_jobs ps ends).2 ≡ (settled_jobs (q ∷ qs) es).2
            → let t = by_first q (qs ++ is.kept) ready_now es in Goal t.0 t.1 t.2
        looked [] r l s = record {
          rest = qs;
          kept = is.kept ++ q ∷ [];
          count_is = less;
          waits = append_assoc qs is.kept (q ∷ []);
          ready_is = r ∙ ap (λ (t : List Completion × List ParkedJob × List End). ready_now ++ t.0) (sym (settled_nil qs));
          left_is = l ∙ sym (append_assoc is.kept (q ∷ []) qs) ∙ ap (λ (t : List Completion × List ParkedJob × List End). (is.kept ++ q ∷ []) ++ t.1) (sym (settled_nil qs));
          ends_is = s ∙ ap (λ (t : List Completion × List ParkedJob × List End). t.2) (sym (settled_nil qs));
        }
        looked (x ∷ es) r l s = own (is_key q.key x.key) r l s
          where
            own : (b : Bool)
                → let c = completion_of q.key q.completion q.kind x.reply in
                let then = cond {A = List Completion × List ParkedJob × List End} b (c ∷ (settled_jobs qs es).0, (settled_jobs qs es).1, (settled_jobs qs es).2) ((settled_jobs qs (x ∷ es)).0, q ∷ (settled_jobs qs (x ∷ es)).1, (settled_jobs qs (x ∷ es)).2) in
                ready ++ (settled_jobs ps ends).0 ≡ ready_now ++ then.0 → (settled_jobs ps ends).1 ≡ is.kept ++ then.1 → (settled_jobs ps ends).2 ≡ then.2
                → let t = cond {A = List ParkedJob × List Completion × List End} b (qs ++ is.kept, ready_now ++ c ∷ [], es) ((qs ++ is.kept) ++ q ∷ [], ready_now, x ∷ es) in Goal t.0 t.1 t.2
            own true r l s = record { rest = qs; kept = is.kept; count_is = less; waits = refl; ready_is = r ∙ sym (append_assoc ready_now (completion_of q.key q.completion q.kind x.reply ∷ []) (settled_jobs qs es).0); left_is = l; ends_is = s }
            own false r l s = record {
              rest = qs;
              kept = is.kept ++ q ∷ [];
              count_is = less;
              waits = append_assoc qs is.kept (q ∷ []);
              ready_is = r;
              left_is = l ∙ sym (append_assoc is.kept (q ∷ []) (settled_jobs qs (x ∷ es)).1);
              ends_is = s;
            }

-- in the end all were
pub settling_last : (ps : List ParkedJob) (ready : List Completion) (ends : List End) (waiting : List ParkedJob) (ready_now : List Completion) (ends_now : List End)
    → Settling ps ready ends waiting ready_now ends_now 0 → (waiting ≡ (settled_jobs ps ends).1) × (ready_now ≡ ready ++ (settled_jobs ps ends).0) × (ends_now ≡ (settled_jobs ps ends).2)
settling_last ps ready ends waiting ready_now ends_now is = by is.rest is.count_is is.waits is.ready_is is.left_is is.ends_is
  where
    by : (rest : List ParkedJob) → length rest ≡ 0 → waiting ≡ rest ++ is.kept → ready ++ (settled_jobs ps ends).0 ≡ ready_now ++ (settled_jobs rest ends_now).0
        → (settled_jobs ps ends).1 ≡ is.kept ++ (settled_jobs rest ends_now).1 → (settled_jobs ps ends).2 ≡ (settled_jobs rest ends_now).2
        → (waiting ≡ (settled_jobs ps ends).1) × (ready_now ≡ ready ++ (settled_jobs ps ends).0) × (ends_now ≡ (settled_jobs ps ends).2)
    by [] count waits r l s = (waits ∙ sym (append_nil is.kept) ∙ sym l, sym (append_nil ready_now) ∙ sym r, sym s)
    by (q ∷ qs) count waits r l s = absurd (omega (arith, count))
