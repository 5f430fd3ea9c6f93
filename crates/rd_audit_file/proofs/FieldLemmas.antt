-- Fields of a line: what is taken of a text is what it begins with.
use Rattle.std.proofs.Common.{◌≡◌, refl, ◌∙◌, ap, subst, ℕ, ◌+◌, ◌^◌, ◌<◌, ◌≤◌, arith, List, [], ◌∷◌, ◌++◌, length, take, drop, Bool, true, false, cond, Option, Some, None, append_assoc, lit≤}
use Rattle.std.specs.Prelude.{◌==◌, position, codes, decimal}
use Rattle.std.specs.Option.{option_and_then, option_map}
use Rattle.std.proofs.Math.Seq.{take-append_seam, drop-append-add}
use Rattle.std.proofs.lemmas.Bool.{eqb-true}
use Rattle.std.proofs.lemmas.Bool.Decides.{nat_tests}
use Rattle.std.proofs.lemmas.Option.{none-some, same_Some, option_and_then_some}
use Rattle.rd_base.specs.declared.journal.Key.{Key}
use Rattle.rd_audit_file.specs.Lines.{key_text, mark_text, KeyFits}
use Rattle.rd_audit_file.specs.Taken.{after_word, decimal_at, decimal_before, decimal_of, fitting, key_at, marks_at, run_mark_at, run_mark_of}
use Rattle.rd_audit_file.proofs.OptionLemmas.{fitting-fits, fitting_some, option_map_some}
use Rattle.rd_audit_file.proofs.DecimalLemmas.{decimal_of-decimal, decimal_of_some, position-decimal, position_parts}

-- ---- words

-- what comes after a word, where the text is the word and that
pub after_word_some : (word text rest : List ℕ) → after_word word text ≡ Some rest → text ≡ word ++ rest
after_word_some [] text rest e = same_Some text rest e
after_word_some (w ∷ ws) [] rest e = absurd (none-some rest e)
after_word_some (w ∷ ws) (c ∷ cs) rest e = of (c == w) refl e (λ is. after_word_some ws cs rest is)
  where
    of : (b : Bool) → (c == w) ≡ b → cond b (after_word ws cs) None ≡ Some rest → (after_word ws cs ≡ Some rest → cs ≡ ws ++ rest) → c ∷ cs ≡ (w ∷ ws) ++ rest
    of true is e others = let same : c ≡ w = eqb-true c w is in rw (same, others e) refl
    of false is e others = absurd (none-some rest e)

same_word : (c : ℕ) → (c == c) ≡ true
same_word c = grind (arith, nat_tests)

pub after_word-append : (word rest : List ℕ) → after_word word (word ++ rest) ≡ Some rest
after_word-append [] rest = refl
after_word-append (w ∷ ws) rest = rw (same_word w) (after_word-append ws rest)

-- ---- numbers

pub number_at_some : (bits last : ℕ) (text : List ℕ) (p : ℕ × List ℕ) → 2 ^ bits ≤ 2 ^ 64 → decimal_at bits last text ≡ Some p → (text ≡ decimal p.0 ++ last ∷ p.1) × (p.0 < 2 ^ bits)
number_at_some bits last text p room e = of (position (λ b. b == last) text) refl e
  where
    of : (o : Option ℕ) → position (λ b. b == last) text ≡ o → decimal_before bits o text ≡ Some p → (text ≡ decimal p.0 ++ last ∷ p.1) × (p.0 < 2 ^ bits)
    of None is e = absurd (none-some p e)
    of (Some i) is e = option_map_some (λ n. (n, drop (i + 1) text)) (fitting bits (decimal_of (take i text))) p e (λ n fits same.
        let number = fitting_some bits (decimal_of (take i text)) n fits in
        let small : n < 2 ^ 64 = omega (arith, number.1) in
        let first : n ≡ p.0 = ap (λ (q : ℕ × List ℕ). q.0) same in
        let second : drop (i + 1) text ≡ p.1 = ap (λ (q : ℕ × List ℕ). q.1) same in
        let word : take i text ≡ decimal p.0 = decimal_of_some (take i text) n number.0 small ∙ ap decimal first in (
          position_parts last text i is ∙ ap (λ (xs : List ℕ). xs ++ last ∷ drop (i + 1) text) word ∙ ap (λ (xs : List ℕ). decimal p.0 ++ last ∷ xs) second,
          rw (← first) number.1,
        ))

pub decimal_at-append : (bits last n : ℕ) (rest : List ℕ) → last < 48 → 2 ^ bits ≤ 2 ^ 64 → n < 2 ^ bits → decimal_at bits last (decimal n ++ last ∷ rest) ≡ Some (n, rest)
decimal_at-append bits last n rest low room fits =
    let small : n < 2 ^ 64 = omega arith in
    ap (λ (o : Option ℕ). decimal_before bits o (decimal n ++ last ∷ rest)) (position-decimal last n rest low small)
    ∙ ap (λ (word : List ℕ). option_map (λ (m : ℕ). (m, drop (length (decimal n) + 1) (decimal n ++ last ∷ rest))) (fitting bits (decimal_of word))) (take-append_seam (decimal n) (last ∷ rest))
    ∙ ap (λ (o : Option ℕ). option_map (λ (m : ℕ). (m, drop (length (decimal n) + 1) (decimal n ++ last ∷ rest))) (fitting bits o)) (decimal_of-decimal n small)
    ∙ ap (option_map (λ (m : ℕ). (m, drop (length (decimal n) + 1) (decimal n ++ last ∷ rest)))) (fitting-fits bits n fits)
    ∙ ap (λ (xs : List ℕ). Some (n, xs)) (drop-append-add (decimal n) (last ∷ rest) 1)

-- ---- keys

key_parts : (channel index last : ℕ) (text others rest : List ℕ) → text ≡ decimal channel ++ 32 ∷ others → others ≡ decimal index ++ last ∷ rest
    → text ≡ decimal channel ++ codes " " ++ decimal index ++ last ∷ rest
key_parts channel index last text others rest first second = first ∙ ap (λ (xs : List ℕ). decimal channel ++ 32 ∷ xs) second ∙ simp append_assoc

pub key_at_some : (last : ℕ) (text : List ℕ) (p : Key × List ℕ) → key_at last text ≡ Some p → (text ≡ key_text p.0 ++ last ∷ p.1) × KeyFits p.0
key_at_some last text p e = option_and_then_some (λ channel. option_map (λ index. (record { channel = channel.0; index = index.0 }, index.1)) (decimal_at 64 last channel.1)) (decimal_at 32 32 text) p e
    (λ channel first rest. option_map_some (λ index. (record { channel = channel.0; index = index.0 }, index.1)) (decimal_at 64 last channel.1) p rest
    (λ index second same.
    let one = number_at_some 32 32 text channel (lit≤ tt) first in
    let two = number_at_some 64 last channel.1 index (lit≤ tt) second in
    subst (λ (q : Key × List ℕ). (text ≡ key_text q.0 ++ last ∷ q.1) × KeyFits q.0) same
    (key_parts channel.0 index.0 last text channel.1 index.1 one.0 two.0, (one.1, two.1))))

pub key_at-append : (last : ℕ) (key : Key) (rest : List ℕ) → last < 48 → KeyFits key → key_at last (key_text key ++ last ∷ rest) ≡ Some (key, rest)
key_at-append last key rest low fits =
    let text : key_text key ++ last ∷ rest ≡ decimal key.channel ++ 32 ∷ (decimal key.index ++ last ∷ rest) = simp append_assoc in
    ap (key_at last) text
    ∙ ap (option_and_then (λ (channel : ℕ × List ℕ). option_map (λ (index : ℕ × List ℕ). (record { channel = channel.0; index = index.0 }, index.1)) (decimal_at 64 last channel.1)))
    (decimal_at-append 32 32 key.channel (decimal key.index ++ last ∷ rest) (omega arith) (lit≤ tt) fits.0)
    ∙ ap (option_map (λ (index : ℕ × List ℕ). (record { channel = key.channel; index = index.0 }, index.1))) (decimal_at-append 64 last key.index rest low (lit≤ tt) fits.1)

-- ---- marks

mark_of_some : (c : ℕ) (mark : Bool) → run_mark_of c ≡ Some mark → c ∷ [] ≡ mark_text mark
mark_of_some c mark e = of (c == 48) (c == 49) refl refl e
  where
    of : (a b : Bool) → (c == 48) ≡ a → (c == 49) ≡ b → cond a (Some false) (cond b (Some true) None) ≡ Some mark → c ∷ [] ≡ mark_text mark
    of true b zero one e = let is : false ≡ mark = same_Some false mark e in let same : c ≡ 48 = eqb-true c 48 zero in rw (← is, same) refl
    of false true zero one e = let is : true ≡ mark = same_Some true mark e in let same : c ≡ 49 = eqb-true c 49 one in rw (← is, same) refl
    of false false zero one e = absurd (none-some mark e)

pub mark_at_some : (last : ℕ) (text : List ℕ) (p : Bool × List ℕ) → run_mark_at last text ≡ Some p → text ≡ mark_text p.0 ++ last ∷ p.1
mark_at_some last [] p e = absurd (none-some p e)
mark_at_some last (c ∷ []) p e = absurd (none-some p e)
mark_at_some last (c ∷ d ∷ cs) p e = of (d == last) refl e
  where
    of : (b : Bool) → (d == last) ≡ b → cond b (option_map (λ mark. (mark, cs)) (run_mark_of c)) None ≡ Some p → c ∷ d ∷ cs ≡ mark_text p.0 ++ last ∷ p.1
    of true is e = option_map_some (λ mark. (mark, cs)) (run_mark_of c) p e (λ mark digit same.
        let end : d ≡ last = eqb-true d last is in
        subst (λ (q : Bool × List ℕ). c ∷ d ∷ cs ≡ mark_text q.0 ++ last ∷ q.1) same
        (ap (λ (xs : List ℕ). xs ++ d ∷ cs) (mark_of_some c mark digit) ∙ ap (λ (b : ℕ). mark_text mark ++ b ∷ cs) end))
    of false is e = absurd (none-some p e)

pub marks_at_some : (text : List ℕ) (p : (Bool × Bool) × List ℕ) → marks_at text ≡ Some p → text ≡ mark_text (p.0).0 ++ codes " " ++ mark_text (p.0).1 ++ 10 ∷ p.1
marks_at_some text p e = option_and_then_some (λ starved. option_map (λ parked. ((starved.0, parked.0), parked.1)) (run_mark_at 10 starved.1)) (run_mark_at 32 text) p e
    (λ starved first rest. option_map_some (λ parked. ((starved.0, parked.0), parked.1)) (run_mark_at 10 starved.1) p rest
    (λ parked second same.
    subst (λ (q : (Bool × Bool) × List ℕ). text ≡ mark_text (q.0).0 ++ codes " " ++ mark_text (q.0).1 ++ 10 ∷ q.1) same
    (mark_at_some 32 text starved first ∙ ap (λ (xs : List ℕ). mark_text starved.0 ++ 32 ∷ xs) (mark_at_some 10 starved.1 parked second) ∙ simp append_assoc)))

pub marks_at-append : (starved parked : Bool) (rest : List ℕ) → marks_at (mark_text starved ++ codes " " ++ mark_text parked ++ 10 ∷ rest) ≡ Some ((starved, parked), rest)
marks_at-append true true rest = refl
marks_at-append true false rest = refl
marks_at-append false true rest = refl
marks_at-append false false rest = refl
