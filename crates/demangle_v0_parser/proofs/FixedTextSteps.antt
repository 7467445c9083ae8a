-- Continuations that only queue a fixed text.
use Rattle.std.proofs.Common.{◌≡◌, ℕ, Bool, true, false, Option, Some, None, List, [], ◌∷◌, Ok, refl, arith, ap, ◌∙◌}
use Rattle.demangle_v0_grammar.specs.Traces.{with_texts}
use Rattle.demangle_v0_tokens.specs.Texts.{text}
use Rattle.demangle_v0_grammar.specs.Items.{a_type, a_constant, a_pattern}
use Rattle.demangle_v0_parser.specs.Productions.{text_step_at}
use Rattle.demangle_v0_grammar.specs.Reading.{parse}
use Rattle.demangle_v0_grammar.specs.Table.{string}
use Rattle.demangle_v0_parser.specs.Traces.{trace_at}
use Rattle.demangle_v0_parser.specs.Measure.{Fits}
use Rattle.demangle_v0_parser.specs.Steps.{Machine, Env, PerformsAt}
use Rattle.demangle_v0_tokens.specs.declared.fixed_texts.FixedText.TheVariants as fixed
use Rattle.demangle_v0_parser.specs.declared.fixed_texts.TextStep.{TextStep}
use Rattle.demangle_v0_parser.specs.declared.Continuation.{Continuation}
use Rattle.demangle_v0_parser.specs.declared.Continuation.TheVariants as continuation
use Rattle.demangle_v0_parser.specs.declared.State.{State}
use Rattle.demangle_v0_parser.proofs.ConstantSteps.{last_unit}
use Rattle.demangle_v0_parser.proofs.StepCases.{marks, texts_child}

abbrev pub left_by : TextStep → State → State
left_by l s = record s { pending_text = Some l.pending_text; in_value = l.in_value; is_bracket_open = false }

module _ {V : Type 0} (e : Env V) (t : Machine V) where
  abbrev LeavesAt : Continuation → Option TextStep → Type 0
  LeavesAt p None = Unit {0}
  LeavesAt p (Some l) = Fits p t.state.depth_left t.state.lifetimes → PerformsAt e p t (Ok l.next) (record t { state = left_by l t.state })

  each : (p : Continuation) → LeavesAt p (text_step_at p)
  unfolding parse trace_at
  each continuation.CloseParen = λ _. marks continuation.End refl (omega arith) (omega arith) tt
  each continuation.CloseAngle = λ _. marks continuation.End refl (omega arith) (omega arith) tt
  each continuation.Mut = λ f. texts_child continuation.«Type» a_type false refl refl (omega arith) (omega arith) f
  each continuation.StrConstant = λ f. marks continuation.StrLiteral (ap (with_texts e.output.is_printed (text fixed.Star ∷ [])) (last_unit e.output e.symbol e.form string _ _ _)) (omega arith) (omega arith) f
  each continuation.ReferenceConstant = λ f. texts_child continuation.Constant a_constant true refl refl (omega arith) (omega arith) f
  each continuation.OpenArguments = λ f. marks continuation.FirstArgument refl (omega arith) (omega arith) f
  each continuation.FoldedArguments = λ f. marks continuation.CloseAngle refl (omega arith) (omega arith) f
  each continuation.Const = λ f. texts_child continuation.«Type» a_type false refl refl (omega arith) (omega arith) f
  each continuation.PatternIs = λ f. texts_child continuation.Pattern a_pattern false refl refl (omega arith) (omega arith) f
  each continuation.OpenParameters = λ f. marks continuation.FirstParameter refl (omega arith) (omega arith) f
  each continuation.OpenTraitArguments = λ f. marks continuation.FirstTraitArgument refl (omega arith) (omega arith) f
  each continuation.CloseBracket = λ _. marks continuation.End refl (omega arith) (omega arith) tt
  each continuation.RangeEnd = λ f. texts_child continuation.Constant a_constant false refl refl (omega arith) (omega arith) f
  each continuation.MutReferenceConstant = λ f. marks continuation.MutableConstant refl (omega arith) (omega arith) f
  each continuation.MutableConstant = λ f. texts_child continuation.Constant a_constant true refl refl (omega arith) (omega arith) f
  each continuation.ArrayConstant = λ f. marks continuation.FirstArrayConstant refl (omega arith) (omega arith) f
  each continuation.TupleConstant = λ f. marks continuation.FirstTupleConstant refl (omega arith) (omega arith) f
  each continuation.FieldColon = λ f. texts_child continuation.Constant a_constant true refl refl (omega arith) (omega arith) f
  each continuation.CloseBrace = λ _. marks continuation.End refl (omega arith) (omega arith) tt
  each _ = tt

  pub left_so : (p : Continuation) (l : TextStep) → Some l ≡ text_step_at p → Fits p t.state.depth_left t.state.lifetimes → PerformsAt e p t (Ok l.next) (record t { state = left_by l t.state })
  left_so p l q = let k : LeavesAt p (Some l) = Rattle.std.proofs.Common.subst (LeavesAt p) (Rattle.std.proofs.Common.sym q) (each p) in k
