-- The texts of a v0 symbol's tree, and those that it prints under limits.
use Rattle.std.proofs.Common.{◌≡◌, ◌⊎◌, inl, inr, ℕ, ◌+◌, ◌-◌, Bool, true, false, List, [], ◌∷◌, ◌++◌, length, Option, None, Some, refl, sym, ap, ◌∙◌, subst, append_assoc}
use Rattle.std.specs.Prelude.{nat_le, if◌then◌else◌}
use Rattle.std.proofs.lemmas.List.{append-nil}
use Rattle.demangle_sink.specs.Cut.{size, prefix_within, cut, cut_up_to, kept, marker}
use Rattle.demangle_v0_grammar.specs.Items.{Text}
use Rattle.demangle_v0_grammar.specs.Reading.{Form, form, path_texts}
use Rattle.demangle_v0_grammar.specs.References.{Move, says, follows, ends, bytes_after, texts_before, path_moves, path_texts_before, is_path_whole}
use Rattle.demangle_v0_grammar.specs.V0.{IsV0}
use Rattle.demangle_v0_grammar.proofs.ReferenceLaw.{unlimited_texts, unlimited_whole, whole_texts}
use Rattle.demangle_value.specs.Limits.{reread_within}
use Rattle.demangle_value.specs.Shape.{LimitedForm, texts_within, is_all, marked_unless, path_pieces}
use Rattle.demangle_value.specs.Stripped.{is_allowed}
use Rattle.demangle_value.specs.Symbols.{form_in, limit_in, handed, handed_in, kept_of, unfolded}
use Rattle.demangle_value.specs.declared.format.Format.{Format}
use Rattle.demangle_value.specs.declared.format.RereadLimit.TheVariants.{Unlimited}
use Rattle.demangle_value.proofs.AllReferences.{cut_marked, unlimited_pieces}
use Rattle.demangle_laws.proofs.SchemeLaws.{v0-handed, v0-kept}

-- Without a limit of the bytes that are read again.

pub tree-handed : (text inner suffix : List ℕ) (hash : Bool) (limit : ℕ) → IsV0 text inner suffix → is_allowed suffix ≡ true
    → handed text hash limit ≡ cut (path_texts inner (form hash false)) limit ++ suffix ∷ []
tree-handed text inner suffix hash limit is allowed =
    v0-handed text inner suffix (unfolded hash limit) is allowed
    ∙ ap (λ (xs : List Text). cut xs limit ++ suffix ∷ []) (unlimited_pieces inner hash false)

pub tree-kept : (text inner suffix : List ℕ) (hash : Bool) (limit : ℕ) → IsV0 text inner suffix → is_allowed suffix ≡ true
    → kept_of text hash limit ≡ kept (path_texts inner (form hash false)) limit
tree-kept text inner suffix hash limit is allowed =
    v0-kept text inner suffix (unfolded hash limit) is allowed ∙ ap (λ (xs : List Text). kept xs limit) (unlimited_pieces inner hash false)

-- With such a limit that no reference goes beyond.

pub all-texts : (inner : List ℕ) (form : Form) (most : Option ℕ) → is_path_whole most inner form ≡ true → path_texts_before most inner form ≡ path_texts inner form
all-texts inner form most e = whole_texts most (length inner) 0 (path_moves inner form) e ∙ unlimited_texts inner form

all-pieces : (inner : List ℕ) (form : LimitedForm) → is_all inner form ≡ true → path_pieces inner form ≡ path_texts inner form.plain
all-pieces inner form e = ap (λ (b : Bool). marked_unless b (texts_within inner form)) e ∙ all-texts inner form.plain form.reread e

pub whole-handed : (text inner suffix : List ℕ) (format : Format) → IsV0 text inner suffix → is_allowed suffix ≡ true
    → is_path_whole (form_in format text).reread inner format.form ≡ true → handed_in text format ≡ cut (path_texts inner format.form) (limit_in format text) ++ suffix ∷ []
whole-handed text inner suffix format is allowed e =
    v0-handed text inner suffix format is allowed
    ∙ ap (λ (xs : List Text). cut xs (limit_in format text) ++ suffix ∷ []) (all-pieces inner (form_in format text) e)

pub unlimited-handed : (text inner suffix : List ℕ) (format : Format) → format.reread ≡ Unlimited → IsV0 text inner suffix → is_allowed suffix ≡ true
    → handed_in text format ≡ cut (path_texts inner format.form) (limit_in format text) ++ suffix ∷ []
unlimited-handed text inner suffix format e is allowed =
    whole-handed text inner suffix format is allowed
    (ap (λ r. is_path_whole (reread_within r (length text)) inner format.form) e ∙ unlimited_whole inner format.form)

-- Up to any limit.

-- a prefix of a list, and the rest
abbrev pub StartsWith : List Text → List Text → Type 0
StartsWith all texts = (rest : List Text) × (all ≡ texts ++ rest)

moves-start : (most : Option ℕ) (n used free : ℕ) (ms : List Move) → StartsWith (texts_before None n free ms) (texts_before most n used ms)
moves-start most n used free [] = ([], refl)
moves-start most n used free (says t ∷ ms) =
    let h = moves-start most n used free ms in
    (h.0, ap (λ (xs : List Text). t ∷ xs) h.1)
moves-start None n used free (follows t ∷ ms) = moves-start None n used free ms
moves-start (Some k) n used free (follows t ∷ ms) = at (nat_le (used + (n - t + 1)) k) (moves-start (Some k) n (used + (n - t + 1)) free ms)
  where
    at : (b : Bool) → StartsWith (texts_before None n free ms) (texts_before (Some k) n (used + (n - t + 1)) ms)
        → StartsWith (texts_before None n free ms) (if b then texts_before (Some k) n (used + (n - t + 1)) ms else [])
    at true h = h
    at false h = (texts_before None n free ms, refl)
moves-start most n used free (ends e ∷ ms) = moves-start most n (used - bytes_after n e) (free - bytes_after n e) ms

pub texts-start : (inner : List ℕ) (form : Form) (most : Option ℕ) → StartsWith (path_texts inner form) (path_texts_before most inner form)
texts-start inner form most =
    let h = moves-start most (length inner) 0 0 (path_moves inner form) in
    (h.0, sym (unlimited_texts inner form) ∙ h.1)

within-start : (texts : List Text) (limit : ℕ) → StartsWith texts (prefix_within texts limit)
within-start [] limit = ([], refl)
within-start (t ∷ ts) limit = at (nat_le (length t) limit) (within-start ts (limit - length t))
  where
    at : (b : Bool) → StartsWith ts (prefix_within ts (limit - length t)) → StartsWith (t ∷ ts) (if b then t ∷ prefix_within ts (limit - length t) else [])
    at true h = (h.0, ap (λ (xs : List Text). t ∷ xs) h.1)
    at false h = (t ∷ ts, refl)

-- `printed` is all texts and the suffix, or a prefix of the texts, the marker and the suffix
abbrev pub IsCutTo : (all : List Text) (suffix : List ℕ) (printed : List Text) → Type 0
IsCutTo all suffix printed = (texts : List Text) × (rest : List Text) × (all ≡ texts ++ rest)
    × (((rest ≡ []) × (printed ≡ texts ++ suffix ∷ [])) ⊎ (printed ≡ texts ++ marker ∷ suffix ∷ []))

marked-cut : (all texts : List Text) (limit : ℕ) (suffix : List ℕ) → StartsWith all texts → IsCutTo all suffix ((prefix_within texts limit ++ marker ∷ []) ++ suffix ∷ [])
marked-cut all texts limit suffix h =
    let part = within-start texts limit in (
      prefix_within texts limit,
      part.0 ++ h.0,
      h.1 ∙ (ap (λ (xs : List Text). xs ++ h.0) part.1 ∙ append_assoc (prefix_within texts limit) part.0 h.0),
      inr (append_assoc (prefix_within texts limit) (marker ∷ []) (suffix ∷ [])),
    )

limited-cut : (all texts : List Text) (is_whole : Bool) (limit : ℕ) (suffix : List ℕ) → (is_whole ≡ true → texts ≡ all) → StartsWith all texts
    → IsCutTo all suffix (cut_up_to texts is_whole limit ++ suffix ∷ [])
limited-cut all texts false limit suffix same h = marked-cut all texts limit suffix h
limited-cut all texts true limit suffix same h = at (nat_le (size texts) limit)
  where
    at : (b : Bool) → IsCutTo all suffix ((if b then texts else prefix_within texts limit ++ marker ∷ []) ++ suffix ∷ [])
    at true = (texts, [], sym (same refl) ∙ sym (append-nil texts), inl (refl, refl))
    at false = marked-cut all texts limit suffix h

pub cut-handed : (text inner suffix : List ℕ) (format : Format) → IsV0 text inner suffix → is_allowed suffix ≡ true → IsCutTo (path_texts inner format.form) suffix (handed_in text format)
cut-handed text inner suffix format is allowed =
    let form = form_in format text in
    let limit : ℕ = limit_in format text in
    let printed : handed_in text format ≡ cut_up_to (texts_within inner form) (is_all inner form) limit ++ suffix ∷ [] =
    v0-handed text inner suffix format is allowed
    ∙ ap (λ (xs : List Text). xs ++ suffix ∷ []) (sym (cut_marked (texts_within inner form) (is_all inner form) limit)) in
    subst (λ (xs : List Text). IsCutTo (path_texts inner format.form) suffix xs) (sym printed)
    (limited-cut (path_texts inner format.form) (texts_within inner form) (is_all inner form) limit suffix (all-texts inner format.form form.reread) (texts-start inner format.form form.reread))
