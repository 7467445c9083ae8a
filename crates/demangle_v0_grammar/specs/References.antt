-- The texts of a symbol, up to a limit of the bytes that are read again for references.
use Rattle.std.specs.Prelude.{ℕ, ◌+◌, ◌-◌, Bool, true, false, if◌then◌else◌, nat_le, List, [], ◌∷◌, ◌++◌, length, Option, Some, None, codes}
use Rattle.demangle_v0_grammar.specs.Items.{Text, a_path}
use Rattle.demangle_v0_grammar.specs.Reading.{Place, Tree, nothing, piece, plain_piece, node, looked, unprinted, referred, invalid_syntax, too_deep, after_error, Form, read_at}

-- printing puts a text; or it follows a reference to a place; or it ends what a reference leads to, at a place or with an
-- error
pub data Move : Type 0 where
  says : Text → Move
  follows : ℕ → Move
  ends : Place → Move

-- what printing does, in order, in the plain form or in the other
abbrev pub moves : Bool → Tree → List Move
moves plain nothing = []
moves plain (piece t rest) = says t ∷ moves plain rest
moves plain (plain_piece t rest) = if plain then says t ∷ moves plain rest else moves plain rest
moves plain (node inside rest) = moves plain inside ++ moves plain rest
moves plain (looked k rest) = moves plain rest
moves plain (unprinted inside rest) = moves plain rest
moves plain (referred t j end inside) = follows t ∷ (moves plain inside ++ ends end ∷ [])
moves plain invalid_syntax = says (codes "{invalid syntax}") ∷ []
moves plain too_deep = says (codes "{recursion limit reached}") ∷ []
moves plain after_error = says (codes "?") ∷ []

-- the bytes of a symbol of n bytes from a place to its end, and one more; after an error, none
abbrev pub bytes_after : (n : ℕ) → Place → ℕ
bytes_after n None = 0
bytes_after n (Some i) = n - i + 1

-- The texts before more than `most` bytes are read again, or all of them if there is no limit. A reference uses the bytes
-- after its target. When the target has ended, those after its end are free again.
abbrev pub texts_before : (most : Option ℕ) → (n used : ℕ) → List Move → List Text
texts_before most n used [] = []
texts_before most n used (says t ∷ ms) = t ∷ texts_before most n used ms
texts_before None n used (follows t ∷ ms) = texts_before None n used ms
texts_before (Some k) n used (follows t ∷ ms) = if nat_le (used + (n - t + 1)) k then texts_before (Some k) n (used + (n - t + 1)) ms else []
texts_before most n used (ends e ∷ ms) = texts_before most n (used - bytes_after n e) ms

-- whether no more are read again
abbrev pub is_whole : (most : Option ℕ) → (n used : ℕ) → List Move → Bool
is_whole most n used [] = true
is_whole most n used (says t ∷ ms) = is_whole most n used ms
is_whole None n used (follows t ∷ ms) = is_whole None n used ms
is_whole (Some k) n used (follows t ∷ ms) = if nat_le (used + (n - t + 1)) k then is_whole (Some k) n (used + (n - t + 1)) ms else false
is_whole most n used (ends e ∷ ms) = is_whole most n (used - bytes_after n e) ms

-- what printing the first path of a symbol does
unfoldable pub path_moves : List ℕ → Form → List Move
path_moves symbol form = moves form.include_hash (read_at symbol form.fold_arguments true a_path 0 0 0 true).tree

-- the texts of a symbol in a form, up to a limit of the bytes that are read again, and whether they are all
abbrev pub path_texts_before : Option ℕ → List ℕ → Form → List Text
path_texts_before most symbol form = texts_before most (length symbol) 0 (path_moves symbol form)

abbrev pub is_path_whole : Option ℕ → List ℕ → Form → Bool
is_path_whole most symbol form = is_whole most (length symbol) 0 (path_moves symbol form)
