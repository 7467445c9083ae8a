-- Generic arguments, folded and unfolded.
use Rattle.std.specs.Prelude.{ℕ, ◌&&◌, codes}
use Rattle.std.proofs.Common.{◌≡◌, Bool, true, false, List, [], ◌∷◌, sym, ap}
use Rattle.std.proofs.lemmas.List.{append-nil}
use Rattle.demangle_v0_grammar.specs.Traces.{Trace, of, events, with_looks, with_texts, context_at}
use Rattle.demangle_v0_grammar.specs.Items.{Items, done, leave_open}
use Rattle.demangle_v0_grammar.specs.Table.{print_str, list, argument, arguments}
use Rattle.demangle_v0_grammar.specs.Reading.{Form, Place, Context, parse, level_of, levels}
use Rattle.demangle_v0_grammar.proofs.SequencedItems.{extended_reads}
use Rattle.demangle_v0_grammar.proofs.SkippedPaths.{allowances, silent_allowed}

-- unfolded arguments are a list
pub unfolded : (form : Form) (q : Items) (s : Context) (i : Place) → s.printed && s.folds ≡ false → of form s.printed (parse (arguments q) s i) ≡ of form s.printed (parse (list ", " argument q) s i)
unfolding parse
unfolded form q s i e = rw e (sym (extended_reads form s.printed q s (list ", " argument done) (tt, (tt, tt)) i))

module _ (form : Form) (b : List ℕ) (left n : ℕ) where
  -- the trace of arguments that are read and not printed
  abbrev pub arguments_trace : Place → Trace
  arguments_trace i = of form false (parse (list ", " argument done) (context_at b form false left n) i)

  abbrev at : Bool → Bool → Context
  at folds out = record { symbol = b; folds = folds; printed = out; here = level_of b folds (levels b folds left); deeper = levels b folds left; lifetimes = n }

  abbrev silent_trace : Bool → Place → Trace
  silent_trace folds i = of form false (parse (list ", " argument done) (at folds false) i)

  folded_so : (folds : Bool) (q : Items) (i : Place) → folds ≡ true
      → of form true (parse (arguments q) (at folds true) i)
      ≡ with_looks (allowances (silent_trace folds i).events) (with_texts true (codes "_" ∷ []) (of form true (parse q (at folds true) (silent_trace folds i).place)))
  unfolding parse
  folded_so false q i e = cc e
  folded_so true q i e =
      silent_allowed form (parse (list ", " argument done) (at true false) i) (λ j _. with_texts true (codes "_" ∷ []) (of form true (parse q (at true true) j)))

  -- folded arguments allow the looks of parsing them, and print `_`
  pub folded_reads : (q : Items) (i : Place) → form.fold_arguments ≡ true
      → of form true (parse (arguments q) (context_at b form true left n) i)
      ≡ with_looks (allowances (arguments_trace i).events) (with_texts true (codes "_" ∷ []) (of form true (parse q (context_at b form true left n) (arguments_trace i).place)))
  folded_reads q i e = folded_so form.fold_arguments q i e

  -- a parse that prints nothing reads the arguments up to their end
  pub silently_closed : (i : Place) → of form false (parse (arguments (print_str ">" done)) (context_at b form false left n) i) ≡ record (arguments_trace i) { is_bracket_open = false }
  unfolding parse
  silently_closed i = let o = parse (list ", " argument done) (context_at b form false left n) i in ap (λ xs. record { events = xs; place = o.place; is_bracket_open = false }) (append-nil (events form.include_hash false o.tree))

  pub silently_open : (i : Place) → of form false (parse (arguments (leave_open done)) (context_at b form false left n) i) ≡ record (arguments_trace i) { is_bracket_open = true }
  unfolding parse
  silently_open i = let o = parse (list ", " argument done) (context_at b form false left n) i in ap (λ xs. record { events = xs; place = o.place; is_bracket_open = true }) (append-nil (events form.include_hash false o.tree))
