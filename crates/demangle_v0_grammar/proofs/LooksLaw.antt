-- The law on looks.
use Rattle.std.specs.Prelude.{ℕ, suc, ◌≤◌, ◌*◌}
use Rattle.std.proofs.Common.{◌≡◌, Bool, true, false, cond, List, [], ◌∷◌, length, take, Some, None, ◌+◌, ◌++◌, ◌-◌, refl, sym, subst, arith}
use Rattle.demangle_v0_grammar.specs.Items.{Items, Kind, a_path}
use Rattle.demangle_v0_grammar.specs.LookBudget.{LookCost, bytes_of, looks_of, IsWithinBudget}
use Rattle.demangle_sink.specs.Cut.{size}
use Rattle.demangle_sink.proofs.CutLemmas.{size-append}
use Rattle.demangle_v0_grammar.specs.Reading.{Form, Outcome}
use Rattle.demangle_v0_grammar.specs.Reading.{Tree, nothing, piece, plain_piece, node, looked, unprinted, referred, Place, Context, max_depth, parse, costs_of, looks, pieces, looks_only, unit_outcome, starts_second_path, unit_end, read_at, path_texts}
use Rattle.demangle_v0_grammar.specs.Traces.{context_at}
use Rattle.demangle_v0_grammar.specs.ValidationLooks.{looks_in, suffix_looks, second_looks, accepting_looks}
use Rattle.demangle_v0_grammar.proofs.BudgetRules.{IsWithinBudget-bound, IsWithinBudget-whole}
use Rattle.demangle_v0_grammar.proofs.ItemBudgets.{Ends, Fits, Idle, start, idle}
use Rattle.demangle_v0_grammar.proofs.ItemLooks.{ends_pay, hidden_paid, hidden_unit_paid, money, read_paid, spelling_paid, small}

abbrev pub path_costs : List ℕ → Form → List LookCost
path_costs symbol form = costs_of form.include_hash (read_at symbol form.fold_arguments true a_path 0 0 0 true).tree

-- in a symbol of that many bytes: the looks that each printed byte pays for, and those allowed before the first
abbrev pub looks_a_byte : ℕ → ℕ
looks_a_byte n = 34 * max_depth * (n + 1)

abbrev pub looks_before : ℕ → ℕ
looks_before n = 34 * (max_depth + 1) * (n + 1)

pub printing_pays : (symbol : List ℕ) (form : Form) → IsWithinBudget (looks_a_byte (length symbol)) (looks_before (length symbol)) (path_costs symbol form) 0
printing_pays symbol form =
    let o : Outcome = read_at symbol form.fold_arguments true a_path 0 0 0 true in
    ends_pay (length symbol) (looks_a_byte (length symbol)) 0 (0 + money (length symbol) (max_depth - 0)) 8 (looks_before (length symbol)) 0 (costs_of form.include_hash o.tree) o.place (omega arith)
    (read_paid form.include_hash (looks_a_byte (length symbol)) symbol form.fold_arguments a_path 0 0 0 true (omega arith) (omega arith))

pub printing_looks : (symbol : List ℕ) (form : Form) (k : ℕ) →
    looks_of (take (suc k) (path_costs symbol form)) ≤ 100000 * (bytes_of (take k (path_costs symbol form)) + 1) * (length symbol + 1)
printing_looks symbol form k = omega (arith, IsWithinBudget-bound (looks_a_byte (length symbol)) (looks_before (length symbol)) 0 (path_costs symbol form) k (printing_pays symbol form))

-- the looks of a parse without references, by the place where it ends
abbrev pub Costs : ℕ → ℕ → ℕ → Place → Type 0
Costs n i c None = c ≤ 17 * (n + 1 - i)
Costs n i c (Some j) = (i ≤ j) × (j ≤ n) × (c + 8 ≤ 17 * (j - i))

costs : (symbol : List ℕ) (i : ℕ) → i ≤ length symbol → Costs (length symbol) i (looks_in (read_at symbol false false a_path i 0 0 true)) (read_at symbol false false a_path i 0 0 true).place
costs symbol i l = go (read_at symbol false false a_path i 0 0 true).tree (read_at symbol false false a_path i 0 0 true).place (spelling_paid true symbol false a_path i 0 0 true l)
  where
    go : (t : Tree) (x : Place) → Ends (length symbol) 0 i (0 + 0) 8 (costs_of true t) x → Costs (length symbol) i (looks_of (costs_of true t)) x
    go t None h = let w : looks_of (costs_of true t) + 0 ≤ 17 * (length symbol + 1 - i) + (0 + 0) + 0 * bytes_of (costs_of true t) = IsWithinBudget-whole 0 (17 * (length symbol + 1 - i) + (0 + 0)) 0 (costs_of true t) h in omega (arith, w)
    go t (Some j) h = let w : looks_of (costs_of true t) + 8 ≤ 17 * (j - i) + (0 + 0) + 0 * bytes_of (costs_of true t) = IsWithinBudget-whole 0 (17 * (j - i) + (0 + 0)) 8 (costs_of true t) h.2 in (h.0, h.1, omega (arith, w))

-- the looks of a part that is not printed, by the place where it ends; at most `more` beyond what its bytes pay for
abbrev pub HiddenCosts : ℕ → ℕ → ℕ → ℕ → Place → Type 0
HiddenCosts n i more c None = c ≤ 32 * (n + 1 - i) + more
HiddenCosts n i more c (Some j) = (i ≤ j) × (j ≤ n) × (c ≤ 32 * (j - i) + more)

hidden : (plain : Bool) (n i from more to : ℕ) → from ≤ more → (t : Tree) (x : Place) → Ends n 0 i from to (costs_of plain t) x → HiddenCosts n i more (looks_of (costs_of plain t)) x
hidden plain n i from more to l t None h = let w : looks_of (costs_of plain t) + 0 ≤ 17 * (n + 1 - i) + from + 0 * bytes_of (costs_of plain t) = IsWithinBudget-whole 0 (17 * (n + 1 - i) + from) 0 (costs_of plain t) h in omega (arith, w, l)
hidden plain n i from more to l t (Some j) h = let w : looks_of (costs_of plain t) + to ≤ 17 * (j - i) + from + 0 * bytes_of (costs_of plain t) = IsWithinBudget-whole 0 (17 * (j - i) + from) to (costs_of plain t) h.2 in (h.0, h.1, omega (arith, w, l))

pub hidden_path_costs : (symbol : List ℕ) (form : Form) (left m i : ℕ) → i ≤ length symbol → let o = unit_outcome (context_at symbol form false left m) a_path false (Some i) in HiddenCosts (length symbol) i 7 (looks_of (costs_of form.include_hash o.tree)) o.place
hidden_path_costs symbol form left m i l =
    let o : Outcome = unit_outcome (context_at symbol form false left m) a_path false (Some i) in
    hidden form.include_hash (length symbol) i (start a_path + 0) 7 8 (omega (arith, small a_path)) o.tree o.place (hidden_unit_paid form.include_hash a_path false symbol form left m i l)

pub hidden_costs : (p : Items) (c : Bool) → Fits c 2 8 7 true p → (symbol : List ℕ) (form : Form) (left m i : ℕ) → i ≤ length symbol → let o = parse p (context_at symbol form false left m) (Some i) in HiddenCosts (length symbol) i 7 (looks_of (costs_of form.include_hash o.tree)) o.place
hidden_costs p c a symbol form left m i l =
    let o : Outcome = parse p (context_at symbol form false left m) (Some i) in
    hidden form.include_hash (length symbol) i (7 + 0) 7 8 (omega arith) o.tree o.place (hidden_paid form.include_hash p c 2 8 7 a symbol form left m i l)

-- with the suffix
with_suffix : (symbol : List ℕ) (j c : ℕ) (x : Place) → j ≤ length symbol → Costs (length symbol) j c x → c + suffix_looks symbol x ≤ 17 * (length symbol + 1 - j)
with_suffix symbol j c None l h = omega (arith, h)
with_suffix symbol j c (Some k) l h = omega (arith, l, h.0, h.1, h.2)

second_costs : (symbol : List ℕ) (j : ℕ) → j ≤ length symbol → second_looks symbol (Some j) ≤ 1 + 17 * (length symbol + 1 - j)
second_costs symbol j l = go (starts_second_path symbol j)
  where
    go : (c : Bool) → 1 + (cond c (looks_in (read_at symbol false false a_path j 0 0 true) + suffix_looks symbol (read_at symbol false false a_path j 0 0 true).place) (suffix_looks symbol (Some j))) ≤ 1 + 17 * (length symbol + 1 - j)
    go true = let w : looks_in (read_at symbol false false a_path j 0 0 true) + suffix_looks symbol (read_at symbol false false a_path j 0 0 true).place ≤ 17 * (length symbol + 1 - j) =
        with_suffix symbol j (looks_in (read_at symbol false false a_path j 0 0 true)) (read_at symbol false false a_path j 0 0 true).place l (costs symbol j l) in omega (arith, w)
    go false = omega (arith, l)

-- a second path
pub second_path_costs : (symbol : List ℕ) (j : ℕ) → Some j ≡ unit_end symbol a_path 0 0 → looks_in (read_at symbol false false a_path j 0 0 true) ≤ 32 * (length symbol + 1)
unfolding unit_end
second_path_costs symbol j e =
    let first : Costs (length symbol) 0 (looks_in (read_at symbol false false a_path 0 0 0 true)) (Some j) =
    subst (Costs (length symbol) 0 (looks_in (read_at symbol false false a_path 0 0 0 true))) (sym e) (costs symbol 0 (omega arith)) in
    all (read_at symbol false false a_path j 0 0 true).place first.1 (costs symbol j first.1)
  where
    all : {c : ℕ} (x : Place) → j ≤ length symbol → Costs (length symbol) j c x → c ≤ 32 * (length symbol + 1)
    all None l h = omega (arith, h)
    all (Some k) l h = omega (arith, h.0, h.1, h.2)

both_cost : (symbol : List ℕ) (c : ℕ) (x : Place) → Costs (length symbol) 0 c x → c + second_looks symbol x ≤ 17 * (length symbol + 1)
both_cost symbol c None h = omega (arith, h)
both_cost symbol c (Some j) h = let w : second_looks symbol (Some j) ≤ 1 + 17 * (length symbol + 1 - j) = second_costs symbol j h.1 in omega (arith, h.0, h.1, h.2, w)

pub accepting_costs : (symbol : List ℕ) → accepting_looks symbol ≤ 32 * (length symbol + 1)
unfolding accepting_looks
accepting_costs symbol = within (both_cost symbol (looks_in (read_at symbol false false a_path 0 0 0 true)) (read_at symbol false false a_path 0 0 0 true).place (costs symbol 0 (omega arith)))
  where
    within : {c : ℕ} → c ≤ 17 * (length symbol + 1) → c ≤ 32 * (length symbol + 1)
    within h = omega (arith, h)

-- any production, at any depth
pub unit_looks : (symbol : List ℕ) (folds plain : Bool) (kind : Kind) (i d m : ℕ) (value : Bool) (k : ℕ) → i ≤ length symbol → d ≤ max_depth →
    looks_of (take (suc k) (costs_of plain (read_at symbol folds true kind i d m value).tree)) ≤ 34 * (length symbol + 1) * (max_depth + 1 - d) * (bytes_of (take k (costs_of plain (read_at symbol folds true kind i d m value).tree)) + 1)
unit_looks symbol folds plain kind i d m value k l b =
    let deeper : max_depth + 1 - d ≡ (max_depth - d) + 1 = omega (arith, b) in
    rw deeper (sum (length symbol) (max_depth - d) _ _ (IsWithinBudget-bound (34 * (length symbol + 1) * (max_depth - d)) (17 * (length symbol + 1) + (start kind + money (length symbol) (max_depth - d))) 0 (costs_of plain o.tree) k
    (ends_pay (length symbol) (34 * (length symbol + 1) * (max_depth - d)) i (start kind + money (length symbol) (max_depth - d)) 8 _ 0 (costs_of plain o.tree) o.place (omega arith)
    (read_paid plain (34 * (length symbol + 1) * (max_depth - d)) symbol folds kind i d m value (rate (length symbol) (max_depth - d)) l))))
  where
    o : Outcome
    o = read_at symbol folds true kind i d m value

    rate : (n e : ℕ) → money n e ≤ 34 * (n + 1) * e
    rate n e = omega arith

    sum : (n e w looks : ℕ) → looks ≤ 17 * (n + 1) + (start kind + money n e) + 34 * (n + 1) * e * w → looks ≤ 34 * (n + 1) * (e + 1) * (w + 1)
    sum n e w looks y = omega (arith, small kind, y)

-- after an error
pub failed_looks : (p : Items) (s : Context) (plain : Bool) → looks_of (costs_of plain (parse p s None).tree) ≡ 0
failed_looks p s plain =
    let q : Idle plain 0 (parse p s None) = idle plain 0 p s in
    let w : looks_of (costs_of plain (parse p s None).tree) + 0 ≤ 0 + 0 * bytes_of (costs_of plain (parse p s None).tree) = IsWithinBudget-whole 0 0 0 (costs_of plain (parse p s None).tree) q.1 in
    omega (arith, w)

pub bytes_append : (xs ys : List LookCost) → bytes_of (xs ++ ys) ≡ bytes_of xs + bytes_of ys
bytes_append [] ys = omega arith
bytes_append (x ∷ xs) ys = omega (arith, bytes_append xs ys)

bytes_unheard : (xs : List LookCost) → bytes_of (looks_only xs) ≡ 0
bytes_unheard [] = refl
bytes_unheard (x ∷ xs) = omega (arith, bytes_unheard xs)

-- the entries print the bytes of the pieces
pub tree_bytes : (plain : Bool) (t : Tree) → bytes_of (costs_of plain t) ≡ size (pieces plain t)
tree_bytes plain nothing = refl
tree_bytes plain (piece t rest) = omega (arith, tree_bytes plain rest)
tree_bytes true (plain_piece t rest) = omega (arith, tree_bytes true rest)
tree_bytes false (plain_piece t rest) = tree_bytes false rest
tree_bytes plain (node x y) = omega (arith, tree_bytes plain x, tree_bytes plain y, bytes_append (costs_of plain x) (costs_of plain y), size-append (pieces plain x) (pieces plain y))
tree_bytes plain (looked k rest) = omega (arith, tree_bytes plain rest)
tree_bytes plain (unprinted x rest) = omega (arith, tree_bytes plain rest, bytes_unheard (costs_of plain x), bytes_append (looks_only (costs_of plain x)) (costs_of plain rest))
tree_bytes plain (referred t j end inside) = tree_bytes plain inside
tree_bytes plain _ = omega arith

pub rendered_bytes : (symbol : List ℕ) (form : Form) → bytes_of (costs_of form.include_hash (read_at symbol form.fold_arguments true a_path 0 0 0 true).tree) ≡ size (path_texts symbol form)
unfolding path_texts
rendered_bytes symbol form = tree_bytes form.include_hash (read_at symbol form.fold_arguments true a_path 0 0 0 true).tree
