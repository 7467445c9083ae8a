-- Steps of continuations, in sequence.
use Rattle.std.proofs.lemmas.List.{append-nil}
use Rattle.std.proofs.Common.{◌≡◌, ℕ, ◌+◌, ◌≤◌, Bool, false, List, [], ◌∷◌, ◌++◌, Result, Err, refl, arith, sym, ap, ◌∙◌}
use Rattle.demangle_v0_grammar.specs.Items.{Items, Kind, child, done}
use Rattle.demangle_v0_grammar.specs.LookTotals.{total}
use Rattle.demangle_v0_grammar.specs.Traces.{Event, allows, looks_then, Trace, of, events, empty_trace, with_looks, with_reference, with_end, with_texts, context_at}
use Rattle.demangle_v0_tokens.specs.Tokens.{TokenSpec, token_spec}
use Rattle.demangle_v0_tokens.specs.Texts.{token_items}
use Rattle.demangle_v0_grammar.specs.Reading.{Form, Place, parse, unit_outcome}
use Rattle.demangle_v0_parser.specs.Traces.{Action, allows_looks, goes_back, comes_back, puts, with_actions, action_looks, with_closed_bracket}
use Rattle.demangle_v0_parser.specs.Measure.{weight_left, weight_at}
use Rattle.demangle_v0_parser.specs.Steps.{KeepsFrames}
use Rattle.demangle_sink.specs.declared.SinkRefused.{SinkRefused}
use Rattle.demangle_v0_tokens.specs.declared.token.TokenKind.{TokenKind}
use Rattle.demangle_v0_tokens.specs.declared.read.TokenOutcome.{TokenOutcome}
use Rattle.demangle_v0_tokens.specs.declared.read.TokenOutcome.TheVariants as reads
use Rattle.demangle_v0_parser.specs.declared.Continuation.{Continuation}
use Rattle.demangle_v0_parser.specs.declared.Continuation.TheVariants as continuation
use Rattle.demangle_v0_parser.specs.declared.frames.Frame.{Frame}
use Rattle.demangle_v0_tokens.specs.declared.output.Output.{Ghosts}
use Rattle.demangle_v0_tokens.proofs.TokenSpecs.{token_then, grouped, word_read}

pub bits_append : (out : Bool) (xs ys : List Action) (h : Trace) → with_actions out (xs ++ ys) h ≡ with_actions out xs (with_actions out ys h)
bits_append out [] ys h = refl
bits_append out (allows_looks k ∷ xs) ys h = ap (with_looks k) (bits_append out xs ys h)
bits_append out (puts ts ∷ xs) ys h = ap (with_texts out ts) (bits_append out xs ys h)
bits_append out (goes_back t ∷ xs) ys h = ap (with_reference out t) (bits_append out xs ys h)
bits_append out (comes_back e ∷ xs) ys h = ap (with_end out e) (bits_append out xs ys h)

pub looks_append : (xs ys : List Action) → action_looks (xs ++ ys) ≡ action_looks xs + action_looks ys
looks_append [] ys = omega arith
looks_append (allows_looks k ∷ xs) ys = omega (arith, looks_append xs ys)
looks_append (puts ts ∷ xs) ys = looks_append xs ys
looks_append (goes_back t ∷ xs) ys = looks_append xs ys
looks_append (comes_back e ∷ xs) ys = looks_append xs ys

pub looks_both : (ks ls : List ℕ) (h : Trace) → with_looks (ks ++ ls) h ≡ with_looks ks (with_looks ls h)
looks_both ks ls h = ap (λ (xs : List Event). record { events = xs; place = h.place; is_bracket_open = h.is_bracket_open }) (go ks)
  where
    go : (ks : List ℕ) → looks_then (ks ++ ls) h.events ≡ looks_then ks (looks_then ls h.events)
    go [] = refl
    go (k ∷ ks) = ap (λ (xs : List Event). allows k ∷ xs) (go ks)

pub total_both : (ks ls : List ℕ) → total (ks ++ ls) ≡ total ks + total ls
total_both [] ls = omega arith
total_both (k ∷ ks) ls = omega (arith, total_both ks ls)

-- no frame was pushed
pub kept_none : (stack : List Frame) → KeepsFrames stack stack
kept_none stack = ([], sym (append-nil stack))

-- if the production is complete, its weight does not count
pub way_light : (p : Continuation) → weight_left p ≤ weight_at p
way_light continuation.End = omega arith
way_light p = omega arith

abbrev pub refused : SinkRefused → Result (Unit {0}) SinkRefused
refused e = Err e

module _ {V : Type 0} (output : Ghosts V) (b : List ℕ) (form : Form) where
  -- the trace of the rest of a production
  abbrev pub trace : Items → ℕ → ℕ → Place → Trace
  trace p left n i = with_closed_bracket (of form output.is_printed (parse p (context_at b form output.is_printed left n) i))

  -- a nested production that is the last item
  pub child_last : (k : Kind) (v : Bool) (left n : ℕ) (i : Place) → trace (child k v done) left n i ≡ with_closed_bracket (of form output.is_printed (unit_outcome (context_at b form output.is_printed left n) k v i))
  unfolding parse
  child_last k v left n i = let o = unit_outcome (context_at b form output.is_printed left n) k v i in ap (λ xs. record { events = xs; place = o.place; is_bracket_open = false }) (append-nil (events form.include_hash output.is_printed o.tree))

  -- The parts that a token spec reads, and the items after them.

  -- the production ends there
  abbrev ended : Place → Trace
  ended j = empty_trace j false

  -- a token spec, and the trace after it
  abbrev pub group_then : TokenSpec → (Place → Trace) → Trace
  group_then g k = grouped b form output.is_printed g k

  -- a token spec with which the production ends
  abbrev pub group_trace : TokenSpec → Trace
  group_trace g = group_then g ended

  -- the bracket is closed after a primitive if it is closed after the rest
  token_shut : (ks : List ℕ) (r : TokenOutcome) (k : Place → Trace) → with_closed_bracket (with_looks ks (token_then b form output.is_printed r k)) ≡ with_looks ks (token_then b form output.is_printed r (λ j. with_closed_bracket (k j)))
  token_shut ks (reads.Parsed x j) k = refl
  token_shut ks (reads.NotParsed m) k = refl

  -- the same for a token spec
  pub group_shut : (h : Trace) (g : TokenSpec) (k : Place → Trace) → h ≡ group_then g k → with_closed_bracket h ≡ group_then g (λ j. with_closed_bracket (k j))
  group_shut h g k e = ap with_closed_bracket e ∙ token_shut g.costs g.reads k

  -- a primitive is read by its token spec
  pub token_so : (x : TokenKind) (c : ℕ) (p : Items) (left n : ℕ) (i : Place) → trace (token_items x c p) left n i ≡ group_then (token_spec b x c output.is_printed n i) (trace p left n)
  token_so x c p left n i = group_shut _ (token_spec b x c output.is_printed n i) (λ j. of form output.is_printed (parse p (context_at b form output.is_printed left n) j)) (word_read b form left output.is_printed n x c p i)

  -- the trace of a token spec that was read
  pub group_so : (h : Trace) (g : TokenSpec) (k : Place → Trace) (r : TokenOutcome) → h ≡ group_then g k → r ≡ g.reads → h ≡ with_looks g.costs (token_then b form output.is_printed r k)
  group_so h g k r so e = so ∙ ap (λ (z : TokenOutcome). with_looks g.costs (token_then b form output.is_printed z k)) (sym e)
