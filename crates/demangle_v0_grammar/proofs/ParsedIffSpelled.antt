-- Parsing accepts exactly the bytes that the grammar spells.
use Rattle.std.specs.Prelude.{ℕ, ◌≤◌, ◌⊎◌, ◌↔◌}
use Rattle.std.proofs.Common.{◌≡◌, Bool, true, false, cond, List, length, Some, None, refl, sym, ◌∙◌, ap, subst, arith, inl, inr}
use Rattle.demangle_symbol.specs.Primitives.{then_if_some}
use Rattle.demangle_v0_grammar.specs.Items.{Kind, a_path}
use Rattle.demangle_v0_grammar.specs.Table.{items}
use Rattle.demangle_v0_grammar.specs.Reading.{Place, max_depth, read_at, unit_end, suffix_place, starts_second_path}
use Rattle.demangle_v0_grammar.specs.Spelling.{freely, Spells, IsPath, IsPaths}
use Rattle.demangle_v0_grammar.proofs.Rules.{freely_laxest, relaxed}
use Rattle.demangle_v0_grammar.proofs.ParsedIsSpelled.{rule, read_spelt}
use Rattle.demangle_v0_grammar.proofs.Unique.{unique}
use Rattle.demangle_v0_grammar.proofs.TableCost.{fits}
use Rattle.demangle_v0_grammar.proofs.SpelledIsParsed.{spells_read, grows}

spelled_path : (symbol : List ℕ) (i j : ℕ) → unit_end symbol a_path i 0 ≡ Some j → IsPath symbol i j
unfolding unit_end
spelled_path symbol i j e = read_spelt symbol false false a_path true i j 0 0 (omega arith) e

path_spelled : (symbol : List ℕ) (i j : ℕ) → i ≤ length symbol → IsPath symbol i j → unit_end symbol a_path i 0 ≡ Some j
unfolding unit_end
path_spelled symbol i j b e = spells_read symbol false false a_path true i j 0 0 (omega arith) b e

-- the place after the second path, if there is one
second : List ℕ → ℕ → Place
second symbol j = cond (starts_second_path symbol j) (unit_end symbol a_path j 0) (Some j)

from_second : (symbol : List ℕ) (j k : ℕ) → second symbol j ≡ Some k → ((starts_second_path symbol j ≡ false) × (k ≡ j)) ⊎ ((starts_second_path symbol j ≡ true) × IsPath symbol j k)
unfolding second
from_second symbol j k e = go (starts_second_path symbol j) refl e
  where
    go : (c : Bool) → starts_second_path symbol j ≡ c → cond c (unit_end symbol a_path j 0) (Some j) ≡ Some k → ((starts_second_path symbol j ≡ false) × (k ≡ j)) ⊎ ((starts_second_path symbol j ≡ true) × IsPath symbol j k)
    go true p e = inr (p, spelled_path symbol j k e)
    go false p e = inl (p, cc e)

to_second : (symbol : List ℕ) (j k : ℕ) → j ≤ length symbol → ((starts_second_path symbol j ≡ false) × (k ≡ j)) ⊎ ((starts_second_path symbol j ≡ true) × IsPath symbol j k) → second symbol j ≡ Some k
unfolding second
to_second symbol j k b (inl (p, e)) = rw p (ap Some (sym e))
to_second symbol j k b (inr (p, e)) = rw p (path_spelled symbol j k b e)

pub accepted : (symbol : List ℕ) (k : ℕ) → suffix_place symbol ≡ Some k → IsPaths symbol k
unfolding suffix_place second
accepted symbol k e = go (unit_end symbol a_path 0 0) refl e
  where
    go : (o : Place) → unit_end symbol a_path 0 0 ≡ o → then_if_some o (second symbol) ≡ Some k → IsPaths symbol k
    go None p e = cc e
    go (Some j) p e = (j, spelled_path symbol 0 j p, from_second symbol j k e)

pub all_accepted : (symbol : List ℕ) (k : ℕ) → IsPaths symbol k → suffix_place symbol ≡ Some k
unfolding suffix_place second
all_accepted symbol k (j, p, q) = subst (λ o. then_if_some o (second symbol) ≡ Some k) (sym (path_spelled symbol 0 j (omega arith) p)) (to_second symbol j k (grows true 0 8 0 true (fits a_path true) p (omega arith)).1 q)

-- the suffix starts at one place at most
pub one_suffix : (symbol : List ℕ) (j k : ℕ) → IsPaths symbol j → IsPaths symbol k → j ≡ k
one_suffix symbol j k p q = some_one (sym (all_accepted symbol j p) ∙ all_accepted symbol k q)
  where
    some_one : {x y : ℕ} → Some x ≡ Some y → x ≡ y
    some_one e = cc e

-- Parsing without output ends exactly where the grammar ends the production. Parsing with output does so if each
-- lifetime is in scope, except for lifetimes in folded arguments.
pub reading_is_spelling : (symbol : List ℕ) (folds : Bool) (kind : Kind) (value : Bool) (i j d m : ℕ) → d ≤ max_depth → i ≤ length symbol → ((read_at symbol folds false kind i d m value).place ≡ Some j) ↔ Spells symbol freely d m (items kind value) i j
reading_is_spelling symbol folds kind value i j d m h b = (read_spelt symbol folds false kind value i j d m h, spells_read symbol folds false kind value i j d m h b)

pub printing_is_spelling : (symbol : List ℕ) (folds : Bool) (kind : Kind) (value : Bool) (i j d m : ℕ) → d ≤ max_depth → i ≤ length symbol → ((read_at symbol folds true kind i d m value).place ≡ Some j) ↔ Spells symbol (rule true folds) d m (items kind value) i j
printing_is_spelling symbol folds kind value i j d m h b = (read_spelt symbol folds true kind value i j d m h, spells_read symbol folds true kind value i j d m h b)

pub accepted_is_spelled : (inner : List ℕ) (k : ℕ) → (suffix_place inner ≡ Some k) ↔ IsPaths inner k
accepted_is_spelled inner k = (accepted inner k, all_accepted inner k)

none_some : {x : ℕ} → None ≡ Some x → ⊥
none_some e = cc e

-- bytes that are spelled, and fail if they are printed, have a lifetime that names none
pub printing_ends : (symbol : List ℕ) (folds : Bool) (kind : Kind) (value : Bool) (i j d m : ℕ) → d ≤ max_depth → i ≤ length symbol → Spells symbol freely d m (items kind value) i j →
    ((read_at symbol folds true kind i d m value).place ≡ Some j) ⊎ (((read_at symbol folds true kind i d m value).place ≡ None) × (Spells symbol (rule true folds) d m (items kind value) i j → ⊥))
printing_ends symbol folds kind value i j d m h b a = go (read_at symbol folds true kind i d m value).place refl
  where
    go : (x : Place) → (read_at symbol folds true kind i d m value).place ≡ x → (x ≡ Some j) ⊎ ((x ≡ None) × (Spells symbol (rule true folds) d m (items kind value) i j → ⊥))
    go None e = inr (refl, λ n. none_some (sym e ∙ spells_read symbol folds true kind value i j d m h b n))
    go (Some k) e = inl (ap Some (unique (relaxed freely (freely_laxest (rule true folds)) (read_spelt symbol folds true kind value i k d m h e)) a))
