-- The text of a production that was printed is its text at other depths too, and has as much read again.
use Rattle.std.specs.Prelude.{ℕ, ◌≤◌, ◌*◌}
use Rattle.std.proofs.Common.{◌≡◌, Bool, true, List, [], ◌++◌, length, Some, refl, subst, sym, ◌+◌, ◌-◌, arith}
use Rattle.std.proofs.lemmas.List.{append-nil}
use Rattle.demangle_v0_grammar.specs.Items.{Kind, a_type, a_path, a_constant, a_pattern, a_trait_path}
use Rattle.demangle_v0_grammar.specs.Reading.{Form, Outcome, unit_outcome, levels}
use Rattle.demangle_v0_grammar.specs.Traces.{Event, context_at, events}
use Rattle.demangle_v0_grammar.specs.Climbs.{Climbs, Ran, followed_in}
use Rattle.demangle_v0_grammar.proofs.Ahead.{Ahead, unit_ahead}
use Rattle.demangle_v0_grammar.proofs.Calm.{Calm, level_calm, levels_calm}
use Rattle.demangle_v0_grammar.proofs.ClimbingTrees.{net, count, moved_fits, tree_most, ran_tree, climbs_tree, followed_tree}
use Rattle.demangle_v0_grammar.proofs.EnoughDepth.{IsEnough, depths_of, fewer}
use Rattle.demangle_v0_grammar.proofs.OtherDepth.{read_elsewhere}

pub record PrintedAgain (b : List ℕ) (form : Form) (left lifetimes i high old new d : ℕ) (kind : Kind) (value : Bool) : Type 0 where
  pub same : unit_outcome (context_at b form true d lifetimes) kind value (Some i) ≡ unit_outcome (context_at b form true left lifetimes) kind value (Some i)
  pub climbs : Climbs (length b) (high - old) (events form.include_hash true (unit_outcome (context_at b form true left lifetimes) kind value (Some i)).tree) 0 (new - old)
  pub grows : old ≤ new

few : (kind : Kind) → depths_of kind ≤ 2
few a_type = omega arith
few a_path = omega arith
few a_constant = omega arith
few a_pattern = omega arith
few a_trait_path = omega arith

-- `old` bytes were used before, `new` after it, and `high` at once at most
pub printed_again : (b : List ℕ) (form : Form) (left lifetimes i e high old new d : ℕ) (kind : Kind) (value : Bool) → i ≤ length b → (unit_outcome (context_at b form true left lifetimes) kind value (Some i)).place ≡ Some e → old ≤ high →
    Ran (length b) high (events form.include_hash true (unit_outcome (context_at b form true left lifetimes) kind value (Some i)).tree) old new →
    IsEnough left d (2 * (e - i) + 2 + (3 * followed_in (events form.include_hash true (unit_outcome (context_at b form true left lifetimes) kind value (Some i)).tree) + 2 * (new - old))) →
    PrintedAgain b form left lifetimes i high old new d kind value
printed_again b form left lifetimes i e high old new d kind value l x top r u =
    let folds = form.fold_arguments in
    let o : Outcome = unit_outcome (context_at b form true left lifetimes) kind value (Some i) in
    let xs : List Event = events form.include_hash true o.tree in
    let ahead : Ahead b o.tree = unit_ahead b folds true left kind value lifetimes i l in
    let calm : Calm true o.tree = level_calm b folds (levels b folds left) (levels_calm b folds left) true kind value lifetimes i in
    let ran = ran_tree b high form.include_hash o.tree [] old new ahead (subst (λ z. Ran (length b) high z old new) (sym (append-nil xs)) r) in
    let counted : followed_in (xs ++ []) ≡ count o.tree + 0 = followed_tree form.include_hash o.tree [] in
    let all : followed_in xs ≡ count o.tree + 0 = subst (λ z. followed_in z ≡ count o.tree + 0) (append-nil xs) counted in
    let last : old + net o.tree ≡ new = ran.2 in
    record {
      same = read_elsewhere b form true left d lifetimes i e (3 * count o.tree + 2 * net o.tree) kind value l x (tree_most (3 * count o.tree + 2 * net o.tree) o.tree calm ran.1 (omega arith)) (fewer (λ u. omega (arith, u, few kind, all, last)) u);
      climbs = subst (λ z. Climbs (length b) (high - old) z 0 (new - old)) (append-nil xs) (climbs_tree b (high - old) form.include_hash o.tree [] 0 (new - old) ahead ran.1 (moved_fits (length b) high (high - old) old 0 o.tree (omega (arith, top)) ran.0) (omega (arith, last)));
      grows = omega (arith, last);
    }
