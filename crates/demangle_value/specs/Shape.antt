-- What a v0 symbol prints without a limit of bytes, and the form of each symbol.
use Rattle.std.specs.Prelude.{ℕ, Bool, true, false, List, [], ◌∷◌, ◌++◌, Option, None}
use Rattle.demangle_sink.specs.Cut.{marker}
use Rattle.demangle_v0_grammar.specs.Reading as reading
use Rattle.demangle_v0_grammar.specs.References.{path_texts_before, is_path_whole}
use Rattle.demangle_value.specs.declared.format.TextFormat.{TextFormat}

-- a form, and the most bytes that are read again, if their number is limited
pub record LimitedForm : Type 0 where
  pub plain : reading.Form
  pub reread : Option ℕ

-- the form without a limit of the bytes that are read again
abbrev pub unlimited_form : (include_hash fold_arguments : Bool) → LimitedForm
unlimited_form include_hash fold_arguments = record { plain = reading.form include_hash fold_arguments; reread = None }

-- the form of a text whose format has limits
abbrev pub limited : TextFormat → LimitedForm
limited format = record { plain = format.form; reread = format.reread }

-- the texts of a symbol's path up to the limit of the bytes that are read again, and whether they are all
abbrev pub texts_within : List ℕ → LimitedForm → List (List ℕ)
texts_within symbol form = path_texts_before form.reread symbol form.plain

abbrev pub is_all : List ℕ → LimitedForm → Bool
is_all symbol form = is_path_whole form.reread symbol form.plain

abbrev pub marked_unless : Bool → List (List ℕ) → List (List ℕ)
marked_unless true texts = texts
marked_unless false texts = texts ++ marker ∷ []

-- the pieces of a v0 symbol: its texts up to the limit of the bytes that are read again, and then the marker if they are not all
abbrev pub path_pieces : List ℕ → LimitedForm → List (List ℕ)
path_pieces symbol form = marked_unless (is_all symbol form) (texts_within symbol form)
