-- Internal: no public contract cites this.
-- The trace of a tree: the texts that it prints and the looks that it allows, in order.
use Rattle.std.specs.Prelude.{Bool, List, [], codes, false, true, ℕ, ◌&&◌, ◌++◌, ◌∷◌}
use Rattle.demangle_v0_grammar.specs.Items.{Text}
use Rattle.demangle_v0_grammar.specs.LookBudget.{LookCost}
use Rattle.demangle_v0_grammar.specs.References.{Move, says, follows, ends}
use Rattle.demangle_v0_grammar.specs.Reading.{Form, Context, Outcome, Place, Tree, after_error, invalid_syntax, level_of, levels, looked, looks, node, nothing, piece, plain_piece, referred, text_cost, too_deep, unprinted}

-- a text that is printed, a number of looks that are allowed, a reference that is followed to a place, or the end of what
-- it leads to
pub data Event : Type 0 where
  prints_text : Text → Event
  allows : ℕ → Event
  refers : ℕ → Event
  returns : Place → Event

-- a text, if it is printed, and the events after it
abbrev pub text_if : Bool → Text → List Event → List Event
text_if true t xs = prints_text t ∷ xs
text_if false t xs = xs

abbrev pub texts_then : Bool → List Text → List Event → List Event
texts_then out [] xs = xs
texts_then out (t ∷ ts) xs = text_if out t (texts_then out ts xs)

-- a reference, if texts are printed, and the events after it
abbrev pub reference_if : Bool → ℕ → List Event → List Event
reference_if true t xs = refers t ∷ xs
reference_if false t xs = xs

-- the end of what a reference leads to, and the events after it
abbrev pub end_if : Bool → Place → List Event → List Event
end_if true e xs = returns e ∷ xs
end_if false e xs = xs

-- the events of what a reference leads to
abbrev pub target_events : Bool → ℕ → Place → List Event → List Event
target_events true t e xs = refers t ∷ (xs ++ returns e ∷ [])
target_events false t e xs = xs

abbrev pub looks_then : List ℕ → List Event → List Event
looks_then [] xs = xs
looks_then (k ∷ ks) xs = allows k ∷ looks_then ks xs

-- the events in the plain form or in the other; printed or only read
abbrev pub events : Bool → Bool → Tree → List Event
events plain out nothing = []
events plain out (piece t rest) = text_if out t (events plain out rest)
events plain out (plain_piece t rest) = text_if (plain && out) t (events plain out rest)
events plain out (node inside rest) = events plain out inside ++ events plain out rest
events plain out (looked k rest) = allows k ∷ events plain out rest
events plain out (unprinted inside rest) = events plain false inside ++ events plain out rest
events plain out (referred t j end inside) = target_events out t end (events plain out inside)
events plain out invalid_syntax = text_if out (codes "{invalid syntax}") []
events plain out too_deep = text_if out (codes "{recursion limit reached}") []
events plain out after_error = text_if out (codes "?") []

-- only the texts
abbrev pub texts_in : List Event → List Text
texts_in [] = []
texts_in (prints_text t ∷ xs) = t ∷ texts_in xs
texts_in (allows k ∷ xs) = texts_in xs
texts_in (refers t ∷ xs) = texts_in xs
texts_in (returns e ∷ xs) = texts_in xs

-- the texts and the references
abbrev pub moves_in : List Event → List Move
moves_in [] = []
moves_in (prints_text t ∷ xs) = says t ∷ moves_in xs
moves_in (allows k ∷ xs) = moves_in xs
moves_in (refers t ∷ xs) = follows t ∷ moves_in xs
moves_in (returns e ∷ xs) = ends e ∷ moves_in xs

-- an event as a cost, for which the look budget pays
abbrev pub cost_of : Event → LookCost
cost_of (prints_text t) = text_cost t
cost_of (allows k) = looks k
cost_of (refers t) = looks 0
cost_of (returns e) = looks 0

-- the trace of a parse: its events, the place after it and, for a dyn trait path, whether its `<` is open
pub record Trace : Type 0 where
  pub events : List Event
  pub place : Place
  pub is_bracket_open : Bool

abbrev pub of : Form → Bool → Outcome → Trace
of form out o = record { events = events form.include_hash out o.tree; place = o.place; is_bracket_open = o.is_bracket_open }

abbrev pub empty_trace : Place → Bool → Trace
empty_trace i o = record { events = []; place = i; is_bracket_open = o }

-- the trace h, and then the trace k after it
abbrev pub and_then : Trace → (Place → Bool → Trace) → Trace
and_then h k = let g = k h.place h.is_bracket_open in record g { events = h.events ++ g.events }

-- the trace h, before which these looks are allowed
abbrev pub with_looks : List ℕ → Trace → Trace
with_looks ks h = record h { events = looks_then ks h.events }

-- the trace h, before which these texts are printed, if texts are printed at all
abbrev pub with_texts : Bool → List Text → Trace → Trace
with_texts out ts h = record h { events = texts_then out ts h.events }

-- the trace h, before which a reference is followed, or what it leads to ends, if texts are printed at all
abbrev pub with_reference : Bool → ℕ → Trace → Trace
with_reference out t h = record h { events = reference_if out t h.events }

abbrev pub with_end : Bool → Place → Trace → Trace
with_end out e h = record h { events = end_if out e h.events }

-- the context of a production with `left` depths below its own, in a form, printed or not
abbrev pub context_at : List ℕ → Form → Bool → ℕ → ℕ → Context
context_at b form out left lifetimes = let folds = form.fold_arguments in record { symbol = b; folds = folds; printed = out; here = level_of b folds (levels b folds left); deeper = levels b folds left; lifetimes = lifetimes }
