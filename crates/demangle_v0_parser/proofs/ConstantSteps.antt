-- The continuations of constants.
use Rattle.std.proofs.lemmas.List.{append-nil}
use Rattle.std.proofs.Common.{◌≡◌, ℕ, Bool, false, List, ap}
use Rattle.demangle_v0_grammar.specs.Items.{Items, done, unit}
use Rattle.demangle_v0_grammar.specs.Traces.{Trace, of, events, context_at}
use Rattle.demangle_v0_grammar.specs.Reading.{Form, Place, parse}
use Rattle.demangle_v0_parser.specs.Steps.{Env}
use Rattle.demangle_v0_parser.specs.Traces.{trace_at, with_closed_bracket}
use Rattle.demangle_v0_parser.specs.declared.Continuation.{Continuation}
use Rattle.demangle_v0_parser.specs.declared.State.{State}
use Rattle.demangle_v0_tokens.specs.declared.output.Output.{Ghosts}
use Rattle.demangle_v0_parser.proofs.StepRules.{trace}

-- the trace of these items from the place of the state
abbrev pub items_of : {V : Type 0} → Env V → Items → State → Trace
items_of e p s = trace e.output e.symbol e.form p s.depth_left s.lifetimes s.place

-- these items are the remaining ones of the continuation
abbrev pub Inside : {V : Type 0} → Env V → Continuation → Items → Type 0
Inside e p q = (v : Bool) (c left n : ℕ) (i : Place) (o : Bool) → trace_at e.symbol e.form e.output.is_printed p v c left n i o ≡ trace e.output e.symbol e.form q left n i

module _ {V : Type 0} (output : Ghosts V) (b : List ℕ) (form : Form) where
  -- a production that is the last item
  pub last_unit : (p : Items) (left n : ℕ) (i : Place) → with_closed_bracket (of form output.is_printed (parse (unit p done) (context_at b form output.is_printed left n) i)) ≡ with_closed_bracket (of form output.is_printed (parse p (context_at b form output.is_printed left n) i))
  unfolding parse
  last_unit p left n i = let o = parse p (context_at b form output.is_printed left n) i in ap (λ xs. record { events = xs; place = o.place; is_bracket_open = false }) (append-nil (events form.include_hash output.is_printed o.tree))
