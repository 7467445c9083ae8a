-- The kind that a tag has in the code is that of the table, row by row.
use Rattle.std.specs.Prelude.{ℕ, map, codes}
use Prim.Native.String.{String}
use Rattle.std.proofs.Common.{◌≡◌, Bool, true, false, cond, List, [], ◌∷◌, Some, refl, ap, ◌∙◌}
use Rattle.demangle_symbol.specs.Primitives.{some_or, then_if_some}
use Rattle.demangle_v0_grammar.specs.Items.{Items}
use Rattle.demangle_v0_grammar.specs.Table.{is_among, row_of, row_text, basic_types}
use Rattle.demangle_v0_tokens.specs.Texts.{text, found, basic_type_texts}
use Rattle.demangle_v0_tokens.specs.declared.fixed_texts.FixedText.{FixedText}

-- the rows of kinds
abbrev pub rows_of : {A : Type 0} → (A → Items) → List (String × A) → List (String × Items)
rows_of {A = A} f rs = map (λ (r : String × A). (r.0, f r.1)) rs

either : {X Y : Type 0} (f : X → Y) (c : Bool) (x y : X) (z : Y) → z ≡ f y → cond c (f x) z ≡ f (cond c x y)
either f true x y z h = refl
either f false x y z h = h

pub row_found : {A : Type 0} (tag : ℕ) (other : Items) (f : A → Items) (rs : List (String × A)) → row_of tag other (rows_of f rs) ≡ some_or other (found tag rs) f
row_found tag other f [] = refl
row_found tag other f (r ∷ rs) = either (λ o. some_or other o f) (is_among tag (codes r.0)) (Some r.1) (found tag rs) _ (row_found tag other f rs)

-- the same for the texts of basic types
text_found : (tag : ℕ) (rs : List (String × String)) → row_text tag rs ≡ found tag (map (λ (r : String × String). (r.0, codes r.1)) rs)
text_found tag [] = refl
text_found tag (r ∷ rs) = ap (cond (is_among tag (codes r.0)) (Some (codes r.1))) (text_found tag rs)

mark_found : (tag : ℕ) (rs : List (String × FixedText)) → found tag (map (λ (r : String × FixedText). (r.0, text r.1)) rs) ≡ then_if_some (found tag rs) (λ m. Some (text m))
mark_found tag [] = refl
mark_found tag (r ∷ rs) = either (λ o. then_if_some o (λ m. Some (text m))) (is_among tag (codes r.0)) (Some r.1) (found tag rs) _ (mark_found tag rs)

pub basic_found : (tag : ℕ) → row_text tag basic_types ≡ then_if_some (found tag basic_type_texts) (λ m. Some (text m))
basic_found tag = text_found tag basic_types ∙ mark_found tag basic_type_texts
