-- A v0 symbol without line feeds prints none.
use Rattle.std.proofs.Common.{false, ◌≡◌, ℕ, zero, suc, ◌-◌, Bool, true, List, Some}
use Rattle.std.specs.List.{concat}
use Rattle.rustc_demangle.specs.Lines.{line_feeds}
use Rattle.demangle_v0_grammar.specs.Items.{Kind, a_path}
use Rattle.demangle_v0_grammar.specs.Table.{items}
use Rattle.demangle_v0_grammar.specs.Reading.{Form, Level, Context, parse, nowhere, level_of, levels, max_depth, read_at, path_texts}
use Rattle.demangle_laws.proofs.ItemLineFeeds.{IsClear, clear_pieces, LevelClear, LevelsClear, clear}
use Rattle.demangle_laws.proofs.TableLineFeeds.{items_clear}

level_clear : (symbol : List ℕ) (folds : Bool) (ls : List Level) → line_feeds symbol ≡ 0 → LevelsClear ls → LevelClear (level_of symbol folds ls)
unfolding level_of
level_clear symbol folds ls none d printed kind value m i =
    let at : Level → Bool → ℕ → Context = λ here pr k. record { symbol = symbol; folds = folds; printed = pr; here = here; deeper = ls; lifetimes = k } in
    let inner : Level = λ pr k v o j. parse (items k v) (at nowhere pr o) (Some j) in
    clear (items kind value) (at inner printed m) (items_clear kind value)
    (record {
      symbol = none;
      here = λ pr k v o j. clear (items k v) (at nowhere pr o) (items_clear k v) (record { symbol = none; here = λ _ _ _ _ _. tt; deeper = d }) (Some j);
      deeper = d;
    }) (Some i)

levels_clear : (symbol : List ℕ) (folds : Bool) (n : ℕ) → line_feeds symbol ≡ 0 → LevelsClear (levels symbol folds n)
unfolding levels
levels_clear symbol folds zero none = tt
levels_clear symbol folds (suc n) none = let d : LevelsClear (levels symbol folds n) = levels_clear symbol folds n none in (level_clear symbol folds (levels symbol folds n) none d, d)

-- any production, at any depth
read_clear : (symbol : List ℕ) (folds printed : Bool) (kind : Kind) (i depth lifetimes : ℕ) (value : Bool) → line_feeds symbol ≡ 0 → IsClear (read_at symbol folds printed kind i depth lifetimes value).tree
unfolding read_at
read_clear symbol folds printed kind i depth lifetimes value none =
    level_clear symbol folds (levels symbol folds (max_depth - depth)) none (levels_clear symbol folds (max_depth - depth) none) printed kind value lifetimes i

pub line_feeds-rendered : (inner : List ℕ) (form : Form) → line_feeds inner ≡ 0 → line_feeds (concat (path_texts inner form)) ≡ 0
unfolding path_texts
line_feeds-rendered inner form none = clear_pieces form.include_hash (read_at inner form.fold_arguments true a_path 0 0 0 true).tree (read_clear inner form.fold_arguments true a_path 0 0 0 true none)
