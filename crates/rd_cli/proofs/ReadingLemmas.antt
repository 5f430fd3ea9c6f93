-- Scripts that were read from an input, and bad lines.
use Rattle.std.proofs.Common.{◌≡◌, ◌≤◌, ◌<◌, ◌^◌, arith, ℕ, List, ◌++◌, length, Option, Some, None, sym, ap, ◌∙◌, append-nil, inl, inr}
use Rattle.std.proofs.lemmas.Bool.{cases_lt}
use Rattle.std.proofs.lemmas.Option.{same_Some}
use Rattle.std.specs.Prelude.{Ok, Err}
use Rattle.std.specs.Io.KnownBytes.{Consumes, IsAtEnd}
use Rattle.rd_script.specs.declared.keyword.Mode.{Mode}
use Rattle.rd_script.specs.declared.script.Script.{Script}
use Rattle.rd_script.specs.Script.{BadLine, max_bytes, script_of}
use Rattle.rd_cli.proofs.LimitLemmas.{script_cut, script_short}
use Rattle.rd_cli.specs.Outside.{Read, ReadToEnd, Stream}
use Rattle.rd_cli.specs.Reading.{GivesBadLine, GivesScript, HasRead, ReadsScript, ReadsText}

-- A text that is a script was read to the input's end, since it is short enough; `shown` is what the reader of scripts was shown.
pub text_read : {S : Type 0} (m : Mode) (before after : Stream S) (text shown : List ℕ) (script : Script) → Read before after text → (length text ≤ max_bytes → IsAtEnd after.bytes) → shown ≡ text → script_of m shown ≡ Ok script
    → ReadsText m before after text script
text_read m before after text shown script read whole same is =
    let own : script_of m text ≡ Ok script = ap (script_of m) (sym same) ∙ is in record { read = record { read = read; ended = whole (script_short m text script own) }; script_is = own }

-- the same without its text
pub script_read : {S : Type 0} (m : Mode) (before after : Stream S) (text : List ℕ) (script : Script) → ReadsText m before after text script → ReadsScript m before after script
script_read m before after text script reads = record { text = text; read = reads.read; script_is = reads.script_is }

-- so where it is lent it is short
pub text_short : {S : Type 0} (m : Mode) (before after : Stream S) (text lent : List ℕ) (script : Script) → ReadsText m before after text script → lent ≡ text → length lent < 2 ^ 32
text_short m before after text lent script reads same =
    let short : length text ≤ 67108864 = script_short m text script reads.script_is in
    let so_long : length lent ≡ length text = ap (λ (l : List ℕ). length l) same in omega (arith, short, so_long)

-- No text is both.
never_both : (m : Mode) (text : List ℕ) (script : Script) (bad : BadLine) → script_of m text ≡ Ok script → script_of m text ≡ Err bad → ⊥
never_both m text script bad is refused = cc (is, refused)

-- A text that was read of a script has no line that is refused.
pub script_not_bad : {S : Type 0} (m : Mode) (before after : Stream S) (text : List ℕ) (bad : BadLine) → HasRead before after text → script_of m text ≡ Err bad → GivesScript m before.bytes → ⊥
script_not_bad m before after text bad read refused (whole, script, is, played) = go before.bytes after.bytes is read.read.taken read.whole
  where
    go : (left rest : Option (List ℕ)) → left ≡ Some whole → Consumes left rest text → (length text ≤ max_bytes → IsAtEnd rest) → ⊥
    go None rest is taken ended = absurd (cc)
    go (Some xs) None is taken ended = absurd taken
    go (Some xs) (Some ys) is taken ended =
        let same : xs ≡ whole = same_Some _ _ is in
        let parts : whole ≡ text ++ ys = sym same ∙ taken in
        elim (cases_lt max_bytes (length text)) [
          | inl long ↦ never_both m whole script bad played (ap (script_of m) parts ∙ script_cut m text ys long ∙ refused)
          | inr short ↦ never_both m text script bad (ap (script_of m) (sym (parts ∙ ap (λ (l : List ℕ). text ++ l) (ended short) ∙ append-nil text)) ∙ played) refused
        ]

-- A script that was read to the input's end is all of the input, of which then no line is refused.
pub whole_not_bad : {S : Type 0} (m : Mode) (before after : Stream S) (text : List ℕ) (script : Script) (bad : BadLine) → ReadToEnd before after text → script_of m text ≡ Ok script → GivesBadLine m before.bytes bad → ⊥
whole_not_bad m before after text script bad read played (whole, is, refused) = go before.bytes after.bytes is read.read.taken read.ended
  where
    go : (left rest : Option (List ℕ)) → left ≡ Some whole → Consumes left rest text → IsAtEnd rest → ⊥
    go None rest is taken ended = absurd (cc)
    go (Some xs) None is taken ended = absurd taken
    go (Some xs) (Some ys) is taken ended =
        let text_is : whole ≡ text = sym (same_Some _ _ is) ∙ taken ∙ ap (λ (l : List ℕ). text ++ l) ended ∙ append-nil text in
        never_both m text script bad played (ap (script_of m) (sym text_is) ∙ refused)
