-- A path that is parsed and not printed: its looks are within the budget of what is printed.
use Rattle.std.specs.Prelude.{ℕ, ◌+◌}
use Rattle.std.proofs.Common.{◌≡◌, Bool, false, List, [], ◌∷◌, ◌++◌, Some, None, refl, ap, ◌∙◌}
use Rattle.demangle_v0_grammar.specs.LookTotals.{total}
use Rattle.demangle_v0_grammar.specs.Traces.{Event, prints_text, allows, refers, returns, events, moves_in, looks_then, Trace, of, and_then, with_looks, context_at}
use Rattle.demangle_v0_grammar.specs.Items.{a_path, Items, skip}
use Rattle.demangle_v0_grammar.specs.Reading.{Form, Place, Outcome, Context, parse, level_of, levels}
use Rattle.demangle_v0_grammar.specs.LookTotals.{allowed_in}
use Rattle.demangle_v0_grammar.specs.References.{says, follows, ends}
use Rattle.demangle_v0_grammar.proofs.PrintingSteps.{quiet_moves}
use Rattle.demangle_v0_grammar.proofs.UnprintedTraces.{silent_unit}

-- the looks that are allowed, in sequence
abbrev pub allowances : List Event → List ℕ
allowances [] = []
allowances (prints_text t ∷ xs) = allowances xs
allowances (allows k ∷ xs) = k ∷ allowances xs
allowances (refers t ∷ xs) = allowances xs
allowances (returns e ∷ xs) = allowances xs

pub total_allowances : (xs : List Event) → total (allowances xs) ≡ allowed_in xs
total_allowances [] = refl
total_allowances (prints_text t ∷ xs) = total_allowances xs
total_allowances (allows k ∷ xs) = ap (λ n. k + n) (total_allowances xs)
total_allowances (refers t ∷ xs) = total_allowances xs
total_allowances (returns e ∷ xs) = total_allowances xs

some_none : {A : Type 0} (x : A) (xs : List A) → x ∷ xs ≡ [] → ⊥
some_none x xs e = cc

only_allowed : (xs ys : List Event) → moves_in xs ≡ [] → xs ++ ys ≡ looks_then (allowances xs) ys
only_allowed [] ys e = refl
only_allowed (prints_text t ∷ xs) ys e = absurd (some_none (says t) (moves_in xs) e)
only_allowed (allows k ∷ xs) ys e = ap (λ zs. allows k ∷ zs) (only_allowed xs ys e)
only_allowed (refers t ∷ xs) ys e = absurd (some_none (follows t) (moves_in xs) e)
only_allowed (returns p ∷ xs) ys e = absurd (some_none (ends p) (moves_in xs) e)

-- a parse that is not printed allows looks, and nothing more
pub silent_allowed : (form : Form) (o : Outcome) (k : Place → Bool → Trace) → and_then (of form false o) k ≡ with_looks (allowances (of form false o).events) (k o.place o.is_bracket_open)
silent_allowed form o k = let g = k o.place o.is_bracket_open in ap (λ xs. record { events = xs; place = g.place; is_bracket_open = g.is_bracket_open }) (only_allowed (events form.include_hash false o.tree) g.events (quiet_moves form.include_hash o.tree))

-- a path that is not printed, with `left` depths left
abbrev pub path_trace : Form → List ℕ → ℕ → Bool → ℕ → ℕ → Trace
path_trace form b left value m i = of form false (level_of b form.fold_arguments (levels b form.fold_arguments left) false a_path value m i)

-- A skipped path allows the looks of its parse, and the rest starts where the parse ends. This holds for any number of
-- lifetimes in scope and for any value position.
pub skip_reads : (form : Form) (out : Bool) (b : List ℕ) (left n : ℕ) (value : Bool) (m : ℕ) (p : Items) (i : ℕ)
    → of form out (parse (skip p) (context_at b form out left n) (Some i)) ≡ with_looks (allowances (path_trace form b left value m i).events) (of form out (parse p (context_at b form out left n) (path_trace form b left value m i).place))
unfolding parse
skip_reads form out b left n value m p i =
    ap (λ (h : Trace). and_then h (λ j _. of form out (parse p (context_at b form out left n) j))) (silent_unit form b form.fold_arguments left a_path false value n m i)
    ∙ silent_allowed form (level_of b form.fold_arguments (levels b form.fold_arguments left) false a_path value m i) (λ j _. of form out (parse p (context_at b form out left n) j))

pub skip_failed : (form : Form) (out : Bool) (p : Items) (s : Context) → of form out (parse (skip p) s None) ≡ of form out (parse p s None)
unfolding parse
skip_failed form out p s = refl
