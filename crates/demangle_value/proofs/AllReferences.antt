-- The pieces of a path up to a limit of the bytes that are read again.
use Rattle.std.specs.Prelude.{IfSome}
use Rattle.std.proofs.Common.{◌≡◌, ℕ, ◌+◌, ◌*◌, ◌-◌, ◌≤◌, ◌<◌, Bool, true, false, List, [], ◌∷◌, ◌++◌, Option, None, Some, Result, Ok, refl, sym, ap, ◌∙◌, subst, arith, inl, inr, length}
use Rattle.std.proofs.lemmas.Bool.{false≢true, le-leb}
use Rattle.std.proofs.lemmas.Bool.Decides.{leb_tells}
use Rattle.std.proofs.lemmas.List.{append-nil}
use Rattle.demangle_sink.specs.Cut.{size, prefix_within, cut, cut_up_to, kept, marker}
use Rattle.demangle_sink.specs.declared.TextSink.{Ghosts}
use Rattle.demangle_sink.specs.declared.SinkRefused.{SinkRefused}
use Rattle.demangle_sink.specs.declared.limit.SizeLimitedFmtAdapter.{SizeLimitedFmtAdapter}
use Rattle.demangle_sink.specs.Limit.{PrintsUpTo, unused}
use Rattle.demangle_sink.specs.declared.limit.Reread.{Reread}
use Rattle.demangle_sink.proofs.CutLemmas.{size-append, fitting-all, fitting-append, fitting-stop, fitting-none, fitting-more}
use Rattle.demangle_sink.proofs.PrintsLemmas.{cut-within, cut-past}
use Rattle.demangle_v0_grammar.specs.Reading as reading
use Rattle.demangle_v0_grammar.specs.References.{Move, says, follows, ends, bytes_after, path_texts_before, texts_before, is_whole, path_moves}
use Rattle.demangle_v0_grammar.specs.Items.{Text}
use Rattle.demangle_v0.specs.FirstPaths.{texts_for, is_whole_for}
use Rattle.demangle_v0_grammar.proofs.ReferenceLaw.{unlimited_texts, unlimited_whole}
use Rattle.demangle_value.specs.Shape.{LimitedForm, unlimited_form, texts_within, is_all, marked_unless, path_pieces}
use Rattle.demangle_value.specs.Style.{style_pieces, style_texts, is_style_all}
use Rattle.demangle_value.specs.declared.value.DemangleStyle.{DemangleStyle}
use Rattle.demangle_value.specs.declared.value.DemangleStyle.TheVariants.{Legacy, V0}

-- the marker is not within the limit
unmarked : (texts : List (List ℕ)) (limit : ℕ) → limit < size (texts ++ marker ∷ []) → prefix_within (texts ++ marker ∷ []) limit ≡ prefix_within texts limit
unmarked texts limit past = elim (leb_tells (size texts) limit) [
  | inl f ↦
      let fits : size texts ≤ limit = f.1 in
      let long : limit - size texts < length marker = omega (arith, past, fits, size-append texts (marker ∷ [])) in
      fitting-append texts (marker ∷ []) limit fits ∙ (ap (λ (xs : List (List ℕ)). texts ++ xs) (fitting-none marker (limit - size texts) long) ∙ (append-nil texts ∙ sym (fitting-all texts limit fits)))
  | inr f ↦ fitting-stop texts (marker ∷ []) limit f.1
]

-- the marker at the end of texts is that of their cut
pub cut_marked : (texts : List (List ℕ)) (all : Bool) (limit : ℕ) → cut_up_to texts all limit ≡ cut (marked_unless all texts) limit
cut_marked texts true limit = refl
cut_marked texts false limit = elim (leb_tells (size (texts ++ marker ∷ [])) limit) [
  | inl e ↦
      let fits : size (texts ++ marker ∷ []) ≤ limit = e.1 in
      ap (λ (xs : List (List ℕ)). xs ++ marker ∷ []) (fitting-all texts limit (omega (arith, fits, size-append texts (marker ∷ [])))) ∙ sym (cut-within (texts ++ marker ∷ []) limit fits)
  | inr e ↦ sym (cut-past (texts ++ marker ∷ []) limit e.1 ∙ ap (λ (xs : List (List ℕ)). xs ++ marker ∷ []) (unmarked texts limit e.1))
]

pub style_marked : (form : LimitedForm) (style : DemangleStyle) (limit : ℕ) → cut_up_to (style_texts form style) (is_style_all form style) limit ≡ cut (style_pieces form style) limit
style_marked form (Legacy symbol) limit = refl
style_marked form (V0 symbol) limit = cut_marked (texts_within symbol form) (is_all symbol form) limit

-- the marker only adds bytes
pub kept_marked : (texts : List (List ℕ)) (all : Bool) (limit : ℕ) → kept texts limit ≤ kept (marked_unless all texts) limit
kept_marked texts true limit = omega arith
kept_marked texts false limit = let more = fitting-more texts (marker ∷ []) limit in omega (arith, ap size more.1, size-append (prefix_within texts limit) more.0)

-- without such a limit, a path prints all its texts
pub unlimited_pieces : (symbol : List ℕ) (include_hash fold_arguments : Bool) → path_pieces symbol (unlimited_form include_hash fold_arguments) ≡ reading.path_texts symbol (reading.form include_hash fold_arguments)
unlimited_pieces symbol include_hash fold_arguments =
    let f = reading.form include_hash fold_arguments in
    ap (λ (b : Bool). marked_unless b (path_texts_before None symbol f)) (unlimited_whole symbol f) ∙ unlimited_texts symbol f

-- the limit is that of the adapter
pub up_to : {S : Type 0} (sink : Ghosts S) (old new : SizeLimitedFmtAdapter S) (symbol : List ℕ) (form : LimitedForm) (result : Result (Unit {0}) SinkRefused) → old.reread ≡ unused form.reread
    → PrintsUpTo sink old (texts_for old symbol form.plain) (is_whole_for old symbol form.plain) result new → PrintsUpTo sink old (texts_within symbol form) (is_all symbol form) result new
up_to sink old new symbol form result e p =
    subst (λ (k : Reread). PrintsUpTo sink old (texts_before k.most (length symbol) k.used (path_moves symbol form.plain)) (is_whole k.most (length symbol) k.used (path_moves symbol form.plain)) result new) e p

-- Under a limit that is not reached, and under a greater one, a path prints the same.

unlimited_texts_on : (n u v : ℕ) (ms : List Move) → texts_before None n u ms ≡ texts_before None n v ms
unlimited_texts_on n u v [] = refl
unlimited_texts_on n u v (says t ∷ ms) = ap (λ (xs : List Text). t ∷ xs) (unlimited_texts_on n u v ms)
unlimited_texts_on n u v (follows t ∷ ms) = unlimited_texts_on n u v ms
unlimited_texts_on n u v (ends e ∷ ms) = unlimited_texts_on n (u - bytes_after n e) (v - bytes_after n e) ms

unlimited_all : (n u : ℕ) (ms : List Move) → is_whole None n u ms ≡ true
unlimited_all n u [] = refl
unlimited_all n u (says t ∷ ms) = unlimited_all n u ms
unlimited_all n u (follows t ∷ ms) = unlimited_all n u ms
unlimited_all n u (ends e ∷ ms) = unlimited_all n (u - bytes_after n e) ms

same_texts : (k : ℕ) (most : Option ℕ) (n u : ℕ) (ms : List Move) → IfSome most (λ j. k ≤ j) → is_whole (Some k) n u ms ≡ true → texts_before (Some k) n u ms ≡ texts_before most n u ms
same_texts k most n u [] l h = refl
same_texts k most n u (says t ∷ ms) l h = ap (λ (xs : List Text). t ∷ xs) (same_texts k most n u ms l h)
same_texts k None n u (follows t ∷ ms) l h = elim (leb_tells (u + (n - t + 1)) k) [
  | inl f ↦ rw f.0 (same_texts k None n (u + (n - t + 1)) ms l (rw f.0 at h) ∙ unlimited_texts_on n (u + (n - t + 1)) u ms)
  | inr f ↦ absurd (false≢true (rw f.0 at h))
]
same_texts k (Some j) n u (follows t ∷ ms) l h = elim (leb_tells (u + (n - t + 1)) k) [
  | inl f ↦ rw (f.0, le-leb (u + (n - t + 1)) j (omega (arith, f.1, l))) (same_texts k (Some j) n (u + (n - t + 1)) ms l (rw f.0 at h))
  | inr f ↦ absurd (false≢true (rw f.0 at h))
]
same_texts k most n u (ends e ∷ ms) l h = same_texts k most n (u - bytes_after n e) ms l h

same_all : (k : ℕ) (most : Option ℕ) (n u : ℕ) (ms : List Move) → IfSome most (λ j. k ≤ j) → is_whole (Some k) n u ms ≡ true → is_whole most n u ms ≡ true
same_all k None n u ms l h = unlimited_all n u ms
same_all k (Some j) n u [] l h = refl
same_all k (Some j) n u (says t ∷ ms) l h = same_all k (Some j) n u ms l h
same_all k (Some j) n u (follows t ∷ ms) l h = elim (leb_tells (u + (n - t + 1)) k) [
  | inl f ↦ rw (le-leb (u + (n - t + 1)) j (omega (arith, f.1, l))) (same_all k (Some j) n (u + (n - t + 1)) ms l (rw f.0 at h))
  | inr f ↦ absurd (false≢true (rw f.0 at h))
]
same_all k (Some j) n u (ends e ∷ ms) l h = same_all k (Some j) n (u - bytes_after n e) ms l h

pub same_pieces : (k : ℕ) (symbol : List ℕ) (form : LimitedForm) → IfSome form.reread (λ j. k ≤ j) → is_all symbol (record form { reread = Some k }) ≡ true → texts_within symbol (record form { reread = Some k }) ≡ path_pieces symbol form
same_pieces k symbol form l h =
    let ms = path_moves symbol form.plain in
    same_texts k form.reread (length symbol) 0 ms l h ∙ sym (ap (λ (b : Bool). marked_unless b (texts_within symbol form)) (same_all k form.reread (length symbol) 0 ms l h))

pub up_to_all : {S : Type 0} (sink : Ghosts S) (old new : SizeLimitedFmtAdapter S) (xs : List (List ℕ)) (all : Bool) → PrintsUpTo sink old xs all (Ok tt) new → all ≡ true
up_to_all sink old new xs true p = refl
up_to_all sink old new xs false p = absurd (false≢true p.refused)

-- of a legacy symbol nothing is read again
pub few_legacy : (most : Option ℕ) (n old new : ℕ) → new ≤ old + 16 * (n + 1) → IfSome most (λ k. new ≤ old + 20 * (n + 1 + k))
few_legacy None n old new h = tt
few_legacy (Some k) n old new h = omega (arith, h)

pub few_looks : (most : Option ℕ) (k n old new : ℕ) → most ≡ Some k → IfSome most (λ j. new ≤ old + 20 * (n + 1 + j)) → new ≤ old + 20 * (n + 1 + k)
few_looks most k n old new e h = rw e at h
