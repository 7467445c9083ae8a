-- The contents of entries after more bytes are appended.
use Rattle.std.proofs.Common.{◌≡◌, ℕ, ◌+◌, ◌<◌, ◌≤◌, List, ◌++◌, length, take, drop, ap, sym, subst, ◌∙◌, arith, slice_index_or, append_assoc, length-append, length-drop}
use Rattle.std.proofs.lemmas.List.{take-append-le, drop-append-le, take_all}
use Rattle.std.proofs.Math.Seq.{drop-append_seam, take-append_seam}
use Rattle.std.proofs.lemmas.List.Elements.{All-get_or}
use Rattle.text_memo.specs.declared.Entry.{Entry}
use Rattle.text_memo.specs.declared.Pair.{Pair}
use Rattle.text_memo.specs.declared.TextMemo.{TextMemo}
use Rattle.text_memo.specs.Memo.{key_of, entry_text, Holds, HoldsBoth, Remembers}

pub pair_at : (text_for : List ℕ → List ℕ) (memo : TextMemo) (i : ℕ) (pair : Pair) → Remembers text_for memo → i < length memo.pairs.items → pair ≡ slice_index_or memo.pairs.items i pair
    → HoldsBoth text_for memo.bytes.items pair
pair_at text_for memo i pair all lt is = subst (HoldsBoth text_for memo.bytes.items) (sym is) (All-get_or (HoldsBoth text_for memo.bytes.items) memo.pairs.items i pair lt all)

-- a part of a list is the same in a longer one
pub part_appended : (bytes more : List ℕ) (from len : ℕ) → from + len ≤ length bytes → take len (drop from (bytes ++ more)) ≡ take len (drop from bytes)
part_appended bytes more from len fits =
    ap (take len) (drop-append-le from bytes more (omega arith)) ∙ take-append-le len (drop from bytes) more (omega (arith, length-drop from bytes))

pub entry_appended : (text_for : List ℕ → List ℕ) (bytes more : List ℕ) (entry : Entry) → Holds text_for bytes entry → Holds text_for (bytes ++ more) entry
entry_appended text_for bytes more entry holds some =
    let h = holds some in (
      omega (arith, h.0, length-append bytes more),
      part_appended bytes more (entry.start + entry.key_len) entry.text_len (omega (arith, h.0)) ∙ h.1 ∙ ap text_for (sym (part_appended bytes more entry.start entry.key_len (omega (arith, h.0)))),
    )

-- the entry of a key and its text, which were appended
pub new_entry : (text_for : List ℕ → List ℕ) (bytes key text all : List ℕ) (entry : Entry) → all ≡ (bytes ++ key) ++ text → entry.start ≡ length bytes → entry.key_len ≡ length key → entry.text_len ≡ length text
    → text ≡ text_for key → Holds text_for all entry
new_entry text_for bytes key text all entry whole from one two same some =
    let after : drop (entry.start + entry.key_len) all ≡ text =
    ap (λ l. drop (entry.start + entry.key_len) l) whole ∙ ap (λ n. drop n ((bytes ++ key) ++ text)) (omega (arith, from, one, length-append bytes key)) ∙ drop-append_seam (bytes ++ key) text in
    let both : drop entry.start all ≡ key ++ text =
    ap (λ l. drop entry.start l) (whole ∙ append_assoc bytes key text) ∙ ap (λ n. drop n (bytes ++ (key ++ text))) from ∙ drop-append_seam bytes (key ++ text) in
    let its : key_of all entry ≡ key = ap (take entry.key_len) both ∙ ap (λ n. take n (key ++ text)) one ∙ take-append_seam key text in
    let text_is : entry_text all entry ≡ text = ap (take entry.text_len) after ∙ ap (λ n. take n text) two ∙ take_all (length text) text (omega arith) in
    (omega (arith, ap length whole, length-append (bytes ++ key) text, length-append bytes key, from, one, two), text_is ∙ same ∙ ap text_for (sym its))
