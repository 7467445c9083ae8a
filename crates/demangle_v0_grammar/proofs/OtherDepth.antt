-- A production that was read without an error reads the same at another depth, if more depths are left there or enough.
use Rattle.std.specs.Prelude.{ℕ, zero, suc, ◌≤◌}
use Rattle.std.proofs.Common.{◌≡◌, Bool, List, length, Some, refl, ap, subst, sym, ◌+◌, ◌-◌, ◌*◌}
use Rattle.demangle_v0_grammar.specs.Items.{Kind}
use Rattle.demangle_v0_grammar.specs.Table.{items}
use Rattle.demangle_v0_grammar.specs.Reading.{Form, Context, Level, Outcome, parse, unit_outcome, level_of, levels, nowhere}
use Rattle.demangle_v0_grammar.specs.Traces.{context_at}
use Rattle.demangle_v0_grammar.proofs.Forward.{LevelOn, AllOn, nowhere_on, inner_on, levels_on}
use Rattle.demangle_v0_grammar.proofs.EnoughDepth.{AtMost, IsEnough, Agrees, LevelAgrees, AllAgree, depths_of, enough}
use Rattle.demangle_v0_grammar.proofs.DepthRows.{shallow}

nowhere_agrees : (b : List ℕ) (had m : ℕ) → LevelAgrees b had m nowhere nowhere
nowhere_agrees b had m printed kind value n i k l e x r u = cc

inner : List ℕ → Bool → List Level → Level
inner b folds ls printed kind value n j = parse (items kind value) (record { symbol = b; folds = folds; printed = printed; here = nowhere; deeper = ls; lifetimes = n }) (Some j)

inner_agrees : (b : List ℕ) (folds : Bool) (ls ws : List Level) → AllOn b ls → AllAgree b ls ws → LevelAgrees b (length ls) (length ws) (inner b folds ls) (inner b folds ws)
unfolding inner
inner_agrees b folds ls ws d a printed kind value n i k l =
    enough (items kind value) (depths_of kind) (record { symbol = b; folds = folds; printed = printed; here = nowhere; deeper = ls; lifetimes = n }) nowhere ws (shallow kind value) (nowhere_on b) d (nowhere_agrees b (length ls) (length ws)) a k i l

level_agrees : (b : List ℕ) (folds : Bool) (ls ws : List Level) → AllOn b ls → AllAgree b ls ws → LevelAgrees b (length ls) (length ws) (level_of b folds ls) (level_of b folds ws)
unfolding level_of inner
level_agrees b folds ls ws d a printed kind value n i k l =
    enough (items kind value) (depths_of kind) (record { symbol = b; folds = folds; printed = printed; here = inner b folds ls; deeper = ls; lifetimes = n }) (inner b folds ws) ws (shallow kind value) (inner_on b folds ls d) d (inner_agrees b folds ls ws d a) a k i l

levels_agree : (b : List ℕ) (folds : Bool) (n m : ℕ) → AllAgree b (levels b folds n) (levels b folds m)
unfolding levels
levels_agree b folds zero m = tt
levels_agree b folds (suc n) zero = tt
levels_agree b folds (suc n) (suc m) = (level_agrees b folds (levels b folds n) (levels b folds m) (levels_on b folds n) (levels_agree b folds n m), levels_agree b folds n m)

count : (b : List ℕ) (folds : Bool) (n : ℕ) → length (levels b folds n) ≡ n
unfolding levels
count b folds zero = refl
count b folds (suc n) = ap suc (count b folds n)

-- with n depths left, and with m
pub read_elsewhere : (b : List ℕ) (form : Form) (out : Bool) (n m lifetimes i e k : ℕ) (kind : Kind) (value : Bool) → i ≤ length b →
    (unit_outcome (context_at b form out n lifetimes) kind value (Some i)).place ≡ Some e → AtMost k (unit_outcome (context_at b form out n lifetimes) kind value (Some i)).tree →
    IsEnough n m (2 * (e - i) + depths_of kind + k) → unit_outcome (context_at b form out m lifetimes) kind value (Some i) ≡ unit_outcome (context_at b form out n lifetimes) kind value (Some i)
read_elsewhere b form out n m lifetimes i e k kind value l x r u =
    let folds = form.fold_arguments in
    let counted : IsEnough (length (levels b folds n)) (length (levels b folds m)) (2 * (e - i) + depths_of kind + k) = rw (count b folds n, count b folds m) u in
    level_agrees b folds (levels b folds n) (levels b folds m) (levels_on b folds n) (levels_agree b folds n m) out kind value lifetimes i k l e x r counted
