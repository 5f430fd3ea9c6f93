-- The layouts of the completions that are still to come of a pair, by the requests that were written and the completions that answered some.
use Rattle.std.proofs.Common.{◌≡◌, inl, inr, ℕ, ◌<◌, suc, Bool, true, false, cond, List, [], ◌∷◌, ◌++◌, length, reverse, Option, Some, refl, sym, ap, subst, ◌∙◌, append_assoc, arith, eqb-true, eq-eqb, ne_eqb}
use Rattle.std.specs.Prelude.{◌==◌, ◌&&◌, if◌then◌else◌, filter}
use Rattle.std.specs.Option.{unwrap_or}
use Rattle.std.proofs.lemmas.List.{append_cancel_right, reverse-append}
use Rattle.rd_decode.specs.Awaited.{Awaited, with_awaited}
use Rattle.rd_irp.specs.declared.completion.Head.{Head}
use Rattle.rd_irp.specs.declared.completion.Kind.{Kind}
use Rattle.rd_irp.specs.declared.request.Request.{Request}
use Rattle.rd_irp.specs.Fits.{kind_of}
use Rattle.rd_declared.specs.Replies.{no_request}
use Rattle.rd_deeds.specs.Talk.{EndsWith, Has, head_in, indices_of, is_request, message_asks_pair, message_has_pair, request_at, request_in}
use Rattle.rd_deeds.proofs.Lists.{has_split, same_end}

-- the layout of a request's completion, where there is one
abbrev pub kind_in : Option Request → Kind
kind_in request = kind_of (unwrap_or request no_request).op

-- the layouts of the completions of the requests with a pair, the newest first
abbrev pub kinds_of : ℕ → ℕ → List (List ℕ) → List Kind
kinds_of d i [] = []
kinds_of d i (m ∷ older) = if is_request m && message_asks_pair d i m then kind_in (request_in m) ∷ kinds_of d i older else kinds_of d i older

-- ---- by their indices

index_within : (d i k : ℕ) (ms : List (List ℕ)) → Has k (indices_of d i ms) → k < length (filter is_request ms)
index_within d i k [] has = absurd has
index_within d i k (m ∷ older) has = by (is_request m) (message_asks_pair d i m) has (index_within d i k older)
  where
    by : (a b : Bool) → Has k (cond (a && b) (length (filter is_request older) ∷ indices_of d i older) (indices_of d i older)) → (Has k (indices_of d i older) → k < length (filter is_request older))
        → k < length (cond a (m ∷ filter is_request older) (filter is_request older))
    by true true (inl same) old = omega (arith, same)
    by true true (inr has) old = omega (arith, old has)
    by true false has old = omega (arith, old has)
    by false b has old = old has

-- a request before a newer message
found_before : (k : ℕ) (m : List ℕ) (older : List (List ℕ)) → k < length (filter is_request older) → request_at (m ∷ older) k ≡ request_at older k
found_before k m older low = by (is_request m)
  where
    other : (length (filter is_request older) == k) ≡ false
    other = ne_eqb _ _ (λ e. omega (arith, e, low))

    by : (b : Bool) → cond (b && (length (filter is_request older) == k)) (request_in m) (request_at older k) ≡ request_at older k
    by true = rw other refl
    by false = refl

length-kinds : (d i : ℕ) (ms : List (List ℕ)) → length (kinds_of d i ms) ≡ length (indices_of d i ms)
length-kinds d i [] = refl
length-kinds d i (m ∷ older) = by (is_request m && message_asks_pair d i m) (length-kinds d i older)
  where
    by : (b : Bool) → length (kinds_of d i older) ≡ length (indices_of d i older)
        → length (cond b (kind_in (request_in m) ∷ kinds_of d i older) (kinds_of d i older)) ≡ length (cond b (length (filter is_request older) ∷ indices_of d i older) (indices_of d i older))
    by true old = ap suc old
    by false old = old

-- the layout of the request with an index stands among those of its pair where its index does
pub record IsThere (d i k : ℕ) (ms : List (List ℕ)) (later : List ℕ) : Type 0 where
  pub newer : List Kind
  pub older : List Kind
  pub parts : kinds_of d i ms ≡ newer ++ kind_in (request_at ms k) ∷ older
  pub long : length older ≡ length later

pub kind_there : (d i k : ℕ) (ms : List (List ℕ)) (first later : List ℕ) → indices_of d i ms ≡ first ++ k ∷ later → IsThere d i k ms later
kind_there d i k [] [] later e = absurd (cc e)
kind_there d i k [] (x ∷ first) later e = absurd (cc e)
kind_there d i k (m ∷ older) first later e = by (is_request m) refl (message_asks_pair d i m) refl first e (λ first before. kind_there d i k older first later before)
  where
    -- what is there before
    Before : Type 0
    Before = (first : List ℕ) → indices_of d i older ≡ first ++ k ∷ later → IsThere d i k older later

    low : (first : List ℕ) → indices_of d i older ≡ first ++ k ∷ later → k < length (filter is_request older)
    low first e = index_within d i k older (subst (Has k) (sym e) (has_split k first later))

    skips : (first : List ℕ) → indices_of d i older ≡ first ++ k ∷ later → kinds_of d i (m ∷ older) ≡ kinds_of d i older → Before → IsThere d i k (m ∷ older) later
    skips first e same there =
        let old = there first e in
        record {
          newer = old.newer;
          older = old.older;
          parts = same ∙ old.parts ∙ ap (λ r. old.newer ++ kind_in r ∷ old.older) (sym (found_before k m older (low first e)));
          long = old.long;
        }

    by : (a : Bool) → is_request m ≡ a → (b : Bool) → message_asks_pair d i m ≡ b → (first : List ℕ) → cond (a && b) (length (filter is_request older) ∷ indices_of d i older) (indices_of d i older) ≡ first ++ k ∷ later
        → Before → IsThere d i k (m ∷ older) later
    by true e1 true e2 [] e there =
        let here : (length (filter is_request older) == k) ≡ true = eq-eqb _ _ (cc e) in
        let rest : indices_of d i older ≡ later = cc e in
        record {
          newer = [];
          older = kinds_of d i older;
          parts = rw (e1, e2, here) refl;
          long = length-kinds d i older ∙ ap length rest;
        }
    by true e1 true e2 (x ∷ first) e there =
        let before : indices_of d i older ≡ first ++ k ∷ later = cc e in
        let old = there first before in
        record {
          newer = kind_in (request_in m) ∷ old.newer;
          older = old.older;
          parts = rw (e1, e2) refl ∙ ap (λ xs. kind_in (request_in m) ∷ xs) (old.parts ∙ ap (λ r. old.newer ++ kind_in r ∷ old.older) (sym (found_before k m older (low first before))));
          long = old.long;
        }
    by true e1 false e2 first e there = skips first e (rw (e1, e2) refl) there
    by false e1 b e2 first e there = skips first e (rw e1 refl) there

-- ---- what is still to come

-- Of the requests of a pair the newer ones have no completion yet, and so many older ones have one: these are still to come, the oldest first.
pub record Owes (d i : ℕ) (asked : List (List ℕ)) (answers : List ℕ) (awaited : List Kind) : Type 0 where
  pub rest : List Kind
  pub done : List Kind
  pub parts : kinds_of d i asked ≡ rest ++ done
  pub count : length done ≡ length answers
  pub still : awaited ≡ reverse rest

pub owes_nothing : (d i : ℕ) → Owes d i [] [] []
owes_nothing d i = record { rest = []; done = []; parts = refl; count = refl; still = refl }

-- a message that is no request
pub owes_still : (d i : ℕ) (m : List ℕ) (asked : List (List ℕ)) (answers : List ℕ) (awaited : List Kind) → is_request m ≡ false → Owes d i asked answers awaited → Owes d i (m ∷ asked) answers awaited
owes_still d i m asked answers awaited other o = record { rest = o.rest; done = o.done; parts = rw other o.parts; count = o.count; still = o.still }

-- a request
pub owes_more : (d i : ℕ) (m : List ℕ) (r : Request) (asked : List (List ℕ)) (answers : List ℕ) (awaited : Awaited) → is_request m ≡ true → request_in m ≡ Some r → Owes d i asked answers (awaited d i)
    → Owes d i (m ∷ asked) answers (with_awaited r.device r.completion (awaited r.device r.completion ++ kind_of r.op ∷ []) awaited d i)
owes_more d i m r asked answers awaited is spells o = by (r.device == d) refl (r.completion == i) refl
  where
    by : (a : Bool) → (r.device == d) ≡ a → (b : Bool) → (r.completion == i) ≡ b → Owes d i (m ∷ asked) answers (cond (a && b) (awaited r.device r.completion ++ kind_of r.op ∷ []) (awaited d i))
    by true e true e2 =
        let own : awaited r.device r.completion ≡ awaited d i = ap (λ x. awaited x r.completion) (eqb-true r.device d e) ∙ ap (awaited d) (eqb-true r.completion i e2) in
        record {
          rest = kind_of r.op ∷ o.rest;
          done = o.done;
          parts = rw (is, spells, e, e2) (ap (λ xs. kind_of r.op ∷ xs) o.parts);
          count = o.count;
          still = ap (λ xs. xs ++ kind_of r.op ∷ []) (own ∙ o.still) ∙ sym (reverse-append (kind_of r.op ∷ []) o.rest);
        }
    by true e false e2 = record { rest = o.rest; done = o.done; parts = rw (is, spells, e, e2) o.parts; count = o.count; still = o.still }
    by false e b e2 = record { rest = o.rest; done = o.done; parts = rw (is, spells, e) o.parts; count = o.count; still = o.still }

-- what is owed, where the request with an index is the next one to be answered
pub record OwesNext (d i k : ℕ) (asked : List (List ℕ)) (answers : List ℕ) (awaited : List Kind) : Type 0 where
  pub others : List Kind
  pub next : awaited ≡ kind_in (request_at asked k) ∷ others
  pub after : Owes d i asked (k ∷ answers) others

pub owes_next : (d i k : ℕ) (asked : List (List ℕ)) (answers : List ℕ) (awaited : List Kind) → Owes d i asked answers awaited → EndsWith (indices_of d i asked) (k ∷ answers) → OwesNext d i k asked answers awaited
owes_next d i k asked answers awaited o ends =
    let t = kind_there d i k asked ends.0 answers ends.1 in
    let kind : Kind = kind_in (request_at asked k) in
    let both : (t.newer ++ kind ∷ []) ++ t.older ≡ o.rest ++ o.done = append_assoc t.newer (kind ∷ []) t.older ∙ sym t.parts ∙ o.parts in
    let old : t.older ≡ o.done = same_end (t.newer ++ kind ∷ []) t.older o.rest o.done both (t.long ∙ sym o.count) in
    let new : t.newer ++ kind ∷ [] ≡ o.rest = append_cancel_right (t.newer ++ kind ∷ []) o.rest o.done (ap (λ xs. (t.newer ++ kind ∷ []) ++ xs) (sym old) ∙ both) in
    record {
      others = reverse t.newer;
      next = o.still ∙ ap reverse (sym new) ∙ reverse-append t.newer (kind ∷ []);
      after = record {
        rest = t.newer;
        done = kind ∷ t.older;
        parts = t.parts;
        count = ap suc t.long;
        still = refl;
      };
    }

-- a completion answers the next request of its own pair, and no other
pub owes_less : (d i k : ℕ) (m : List ℕ) (head : Head) (asked : List (List ℕ)) (answers : List ℕ) (awaited : Awaited) (others : List Kind) → head_in m ≡ Some head → Owes d i asked answers (awaited d i)
    → (message_has_pair d i m ≡ true → Owes d i asked (k ∷ answers) others) → Owes d i asked (cond (message_has_pair d i m) (k ∷ answers) answers) (with_awaited head.device head.completion others awaited d i)
owes_less d i k m head asked answers awaited others is o next = by (message_has_pair d i m) refl
  where
    same : message_has_pair d i m ≡ (head.device == d && head.completion == i)
    same = rw is refl

    by : (b : Bool) → message_has_pair d i m ≡ b → Owes d i asked (cond b (k ∷ answers) answers) (cond (head.device == d && head.completion == i) others (awaited d i))
    by true e = rw (sym same ∙ e) (next e)
    by false e = rw (sym same ∙ e) o
